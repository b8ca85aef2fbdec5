-- What an ear hears is absorbed where it stands: no wave is heard for ever for nothing.
use Rattle.std.specs.Prelude.{ℕ, ◌+◌, ◌*◌, ◌<◌, ◌≤◌, cond, ℤ, pos, ◌≢◌}
use Rattle.wave.specs.Numbers.{sq}
use Rattle.port.specs.declared.takings.Taken.{Taken}
use Rattle.tree.specs.Models.{Model, leaf, join, Took}
use Rattle.tree.specs.declared.elements.Body.{Body}
use Rattle.tree.specs.declared.elements.Body.TheVariants.{Store, Resist}
use Rattle.tree.specs.declared.listed.whole.ListingTree.{ListingTree}

-- the weight of the resistor with the ear, or 0
abbrev pub body_ear : Body → ℕ
body_ear (Store c) = 0
body_ear (Resist r) = cond r.ear r.weight.value 0

abbrev pub ear_weight : Model → ℕ
ear_weight (leaf e) = body_ear e.body
ear_weight (join j a b) = ear_weight a + ear_weight b

pub record Pays (m : Model) (t : Taken) : Type 0 where
  pub energy : ear_weight m * sq t.heard ≤ t.absorbed
  pub some : (t.heard ≢ pos 0) → 0 < t.absorbed

-- whatever listing tree takes whatever wave
abbrev pub HeardAbsorbs : Type 0
HeardAbsorbs = (s : ListingTree) (f : ℤ) (t : Taken) (z : ListingTree) → Took s.tree f t z.tree → Pays s.tree t
