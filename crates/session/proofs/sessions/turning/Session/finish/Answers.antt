use Rattle.std.proofs.Common.{Ok, Result, subst, arith}
use Rattle.rig.specs.Steps.{Turned}
use Rattle.rig.specs.Runs.Event.{turn}
use Rattle.rig.specs.Runs.Run.{done, next}
use Rattle.rig.specs.declared.pages.Page.{Page}
use Rattle.rig.specs.declared.refusals.Refusal.{Refusal}
use Rattle.session.proofs.sessions.turning.Session.finish.Goals as goal

pub returns : goal.returns
returns g c =
    let turned = subst (λ (r : Result Page Refusal). Turned g.P.Port c.args.self.now.rig r c.turn.new.self) c.unwrap.ensures c.turn.ensures in
    (omega arith, next (turn (Ok c.unwrap.result)) turned done)
