use Rattle.std.proofs.Common.{◌≡◌, ◌<◌}
use Rattle.report.specs.Reports.{quiet}
use Rattle.report.proofs.Speaking.{Hushed}
use Rattle.report.proofs.reports.rest.Given as goal

abbrev pub invariant-loop : goal.invariant-loop
invariant-loop g l =
    Hushed g.P.Port g.C.Closing l.initial.session.rig l.initial.account l.silence l.account l.session.rig
    × (l.silence.rounds ≡ l.counter) × (l.silence.idle < quiet)
