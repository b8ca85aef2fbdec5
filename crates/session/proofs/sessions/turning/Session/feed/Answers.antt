use Rattle.std.proofs.Common.{Ok, w32, SFits}
use Rattle.std.proofs.lemmas.Int.{to_z-of_z}
use Rattle.rig.specs.Runs.Event.{feed}
use Rattle.session.proofs.Turnings.{then_turned, fills}
use Rattle.session.proofs.sessions.turning.Session.feed.Goals as goal

pub returns : goal.returns
returns g c =
    let e : SFits w32 c.args.e = c.ranges.e in
    let a = c.args.self.now in
    let turned = c.turn_full-page in
    let fed = simp to_z-of_z at c.in_ok-round.ensures in (
      then_turned _ _ a.rig (feed c.args.e (Ok c.in_ok-round.round)) c.feed.new.self turned.result turned.new.rig fed fed.2.round.raised turned.ensures,
      fills g.P.Port g.C.Closing a.rig c.feed.new.self _ turned.new.rig fed.2.round.tally.entries a.room turned.ensures,
    )
