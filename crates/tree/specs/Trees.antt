-- What a node of the tree that the code holds is seen as, and what is true of each node: its joint was made for its two parts, and keeps at
-- hand the waves that rise from them.
use Rattle.std.specs.Prelude.{◌≡◌, true}
use Rattle.tree.specs.Models.{Model, leaf, join, reads, fitted}
use Rattle.tree.specs.declared.trees.Knot.{Knot}
use Rattle.tree.specs.declared.trees.Node.{Node}
use Rattle.tree.specs.declared.trees.Node.TheVariants.{Leaf, Join}

abbrev pub model : Node → Model
model (Leaf e) = leaf e
model (Join k a b) = join k.joint a.value b.value

pub record HoldsAt (k : Knot) (a b : Model) : Type 0 where
  pub fits : fitted (join k.joint a b) ≡ true
  pub left : k.left.value ≡ (reads a).rising
  pub right : k.right.value ≡ (reads b).rising

abbrev pub Holds : Node → Type 0
Holds (Leaf e) = Unit {0}
Holds (Join k a b) = HoldsAt k a.value b.value
