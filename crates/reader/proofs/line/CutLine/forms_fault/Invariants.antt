use Rattle.refusals.specs.Order.{Least}
use Rattle.reader.specs.Faults.{FormsFault}
use Rattle.reader.proofs.line.CutLine.forms_fault.Given as goal

abbrev pub invariant-loop-k : goal.invariant-loop-k
invariant-loop-k l = Least (FormsFault l.self.text.now l.self.kind l.self.fields.now l.k) l.least
