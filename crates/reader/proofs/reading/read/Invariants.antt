use Rattle.std.proofs.Common.{◌-◌, length}
use Rattle.reader.specs.Inner.{Sofar}
use Rattle.reader.proofs.reading.read.Given as goal

abbrev pub invariant-loop-start : goal.invariant-loop-start
invariant-loop-start l = Sofar l.text l.start l.reading

abbrev pub decreases-loop-start : goal.decreases-loop-start
decreases-loop-start l = length l.text - l.start
