use Rattle.rig.proofs.Blocked.{Progress}
use Rattle.rig.proofs.parts.Rig.block.Given as goal

abbrev pub invariant-loop-i : goal.invariant-loop-i
invariant-loop-i g l = Progress g.P.Port g.C.Closing l.initial.self l.input l.initial.output l.i l.self l.output
