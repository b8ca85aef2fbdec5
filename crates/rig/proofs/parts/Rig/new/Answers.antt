use Rattle.std.proofs.Common.{ℕ, subst}
use Rattle.rig.specs.Pages.{Fresh}
use Rattle.rig.proofs.Runs.{never_makes_energy}
use Rattle.rig.proofs.Silence.{stays_within_offers, runs_down}
use Rattle.rig.proofs.Tellings.{pages_tell}
use Rattle.rig.proofs.parts.Rig.new.Goals as goal

pub returns-clause-promises : goal.returns-clause-promises
returns-clause-promises g c =
    let ports = g.P.Port in
    let closings = g.C.Closing in
    let laws = g.met.P.Port.lawful in
    let fresh = subst (λ (S : ℕ). Fresh S c.fresh-tally.result) c.stored.ensures c.fresh-tally.ensures in
    record {
      energy = never_makes_energy ports laws closings _;
      offers = λ offers bound. stays_within_offers ports laws closings offers bound _;
      silences = λ offers bound. runs_down ports laws closings offers bound _;
      pages = pages_tell ports laws closings _ fresh;
    }
