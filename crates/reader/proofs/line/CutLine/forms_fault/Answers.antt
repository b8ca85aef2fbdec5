use Rattle.std.proofs.Common.{subst, arith}
use Rattle.refusals.specs.Order.{Least}
use Rattle.reader.specs.Faults.{FormFaultAt, FormsFault}
use Rattle.refusals.proofs.Leasts.{least_more}
use Rattle.reader.proofs.line.CutLine.forms_fault.Goals as goal

pub loop-k-preserved : goal.loop-k-preserved
loop-k-preserved c =
    let l = c.args.self.now in
    rw c.sooner-least.ensures (least_more (FormFaultAt l.text.now l.kind l.fields.now) c.loop-k.k c.loop-k.least _ c.loop-k.invariant c.form_fault.ensures)

pub returns : goal.returns
returns c =
    let l = c.args.self.now in
    subst (λ n. Least (FormsFault l.text.now l.kind l.fields.now n) c.loop-k.least) (omega arith) c.loop-k.invariant
