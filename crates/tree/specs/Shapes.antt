-- A tree read from left to right: each join in brackets, its way between its two parts.
use Rattle.std.specs.Prelude.{List, [], ◌∷◌, ◌++◌}
use Rattle.tree.specs.Models.{Model, leaf, join}
use Rattle.tree.specs.declared.shapes.Step.{Step}
use Rattle.tree.specs.declared.shapes.Step.TheVariants.{Begin, One, By, End}

abbrev pub steps : Model → List Step
steps (leaf e) = One e ∷ []
steps (join j a b) = Begin ∷ (steps a ++ (By j.way ∷ (steps b ++ (End ∷ []))))
