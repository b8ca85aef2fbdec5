use Rattle.tree.proofs.Heard.{heard_absorbs}
use Rattle.panel.proofs.Dying.{tail_dies}
use Rattle.panel.proofs.listen.Goals as goal

pub returns : goal.returns
returns g c =
    let N = c.new.ensures in
    record {
      made = N.made;
      promises = N.promises;
      tails = λ offers bound. tail_dies g.C.Closing heard_absorbs _ (N.promises.silences offers bound);
      cuts = N.cuts;
    }
