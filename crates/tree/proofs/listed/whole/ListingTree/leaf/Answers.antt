use Rattle.std.proofs.Common.{refl}
use Rattle.tree.proofs.Heard.{heard_absorbs}
use Rattle.tree.proofs.listed.whole.ListingTree.leaf.Goals as goal

pub returns : goal.returns
returns c = record { tree = refl; heard = heard_absorbs }
