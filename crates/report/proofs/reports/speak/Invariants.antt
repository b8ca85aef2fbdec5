use Rattle.report.proofs.Speaking.{Said}
use Rattle.report.proofs.reports.speak.Given as goal

abbrev pub invariant-loop-pair : goal.invariant-loop-pair
invariant-loop-pair g l = Said g.P.Port g.C.Closing l.initial.session.rig l.samples l.initial.account l.pair-index l.account l.session.rig
