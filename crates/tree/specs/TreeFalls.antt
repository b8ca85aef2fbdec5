-- Each part of a tree has fewer joints than the tree.
use Rattle.std.specs.Prelude.{◌≤◌, max}
use Rattle.std.proofs.Common.{arith}
use Rattle.tree.specs.Models.{joined}
use Rattle.tree.specs.Trees.{model}
use Rattle.tree.specs.declared.trees.Node.{Node}
use Rattle.tree.specs.declared.trees.Node.TheVariants.{Leaf, Join}
use Rattle.tree.specs.declared.trees.Tree.TheDeep.{deep-Node}

pub deeper : (n : Node) → max (deep-Node n) 0 ≤ joined (model n)
deeper (Leaf e) = omega arith
deeper (Join k a b) = omega arith
