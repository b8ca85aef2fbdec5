use Rattle.std.proofs.Common.{ℕ, Ok, Result, subst}
use Rattle.rig.specs.Steps.{Cleared}
use Rattle.rig.specs.Runs.Event.{clear}
use Rattle.rig.specs.declared.refusals.Refusal.{Refusal}
use Rattle.session.proofs.Turnings.{then_turned, fills}
use Rattle.session.proofs.sessions.turning.Session.clear.Goals as goal

pub returns : goal.returns
returns g c =
    let a = c.args.self.now in
    let turned = c.turn_full-page in
    let cleared = subst (λ (r : Result ℕ Refusal). Cleared g.P.Port a.rig r c.clear.new.self) c.unwrap-dropped.ensures c.clear.ensures in (
      then_turned _ _ a.rig (clear (Ok c.unwrap-dropped.result)) c.clear.new.self turned.result turned.new.rig cleared cleared.1.raised turned.ensures,
      fills g.P.Port g.C.Closing a.rig c.clear.new.self _ turned.new.rig cleared.1.tally.entries a.room turned.ensures,
    )
