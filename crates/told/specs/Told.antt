-- How a refusal is written: the word "refused", its layer, its number and its place, each after a space.
use Rattle.std.specs.Prelude.{ℕ, List, codes, ◌++◌}
use Rattle.std.specs.Fmt.{decimal}
use Rattle.told.specs.declared.Told.{Told}

abbrev pub written : Told → List ℕ
written t = codes "refused " ++ decimal t.layer ++ codes " " ++ decimal t.number ++ codes " " ++ decimal t.place
