-- What joining two trees answers, and the tree to begin with.
use Rattle.std.specs.Prelude.{◌≡◌, ℕ, ◌<◌, ◌≤◌}
use Rattle.adaptor.specs.Joins.{Joined, Parted}
use Rattle.adaptor.specs.declared.ways.Way.{Way}
use Rattle.adaptor.specs.declared.joints.joint.Joint.{Joint}
use Rattle.tree.specs.Elements.{BuiltIn}
use Rattle.tree.specs.Models.{Model, leaf, join, reads}
use Rattle.tree.specs.declared.grown.Refusal.{Refusal}
use Rattle.tree.specs.declared.grown.Refusal.TheVariants.{NoRoom, NoJoint}

-- m is a and b behind the joint of the two
pub record Grown (w : Way) (a b m : Model) : Type 0 where
  pub joint : Joint
  pub joined : Joined w (reads a) (reads b) joint
  pub is : m ≡ join joint a b

-- n is how many boxes are left
abbrev pub Ungrown : Way → Model → Model → ℕ → Refusal → Type 0
Ungrown w a b n NoRoom = n < 2
Ungrown w a b n (NoJoint r) = (2 ≤ n) × Parted w (reads a) (reads b) r

abbrev pub BuiltTree : Model → Type 0
BuiltTree (leaf e) = BuiltIn e
BuiltTree (join j a b) = ⊥
