use Rattle.std.proofs.Common.{ap₂, arith}
use Rattle.tree.specs.Models.{join}
use Rattle.tree.proofs.listed.whole.ListingTree.join.Goals as goal

pub returns : goal.returns
returns c = (
  record {
    joint = c.in-Ok.joint;
    joined = c.in-Ok.ensures.0;
    is = ap₂ (λ a b. join c.in-Ok.joint a b) c.put-a.ensures.value c.put-b.ensures.value;
  },
  omega (arith, c.put-a.ensures.left, c.put-b.ensures.left),
)
