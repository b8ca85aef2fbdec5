use Rattle.std.proofs.Common.{◌≡◌, ◌≤◌, true, ◌⊎◌, length}
use Rattle.cut.specs.Cuts.{bytes, stop}
use Rattle.reader.specs.Limits.{most_elements}
use Rattle.reader.specs.Lines.{nth}
use Rattle.reader.specs.Records.{Among}
use Rattle.reader.specs.Faults.{FormsFault, LongFault, MissingFault, NameFault}
use Rattle.refusals.proofs.Leasts.{least_either}
use Rattle.reader.proofs.line.CutLine.plain_fault.Goals as goal

pub returns : goal.returns
returns c =
    let l = c.args.self.now in
    let es = c.args.elements.now in
    let A = LongFault l.span.place (stop l.span) in
    let B = FormsFault l.text.now l.kind l.fields.now (length l.fields.now) in
    let C = MissingFault (stop l.span) l.kind (length l.fields.now) in
    let D = NameFault l.kind l.fields.now (Among (λ e. e.name) l.text.now es (bytes l.text.now (nth l.fields.now 0))) (most_elements ≤ length es) (c.args.ported ≡ true) in
    rw (c.sooner-3.ensures, c.sooner-2.ensures, c.sooner.ensures)
    (least_either A (λ p r. B p r ⊎ (C p r ⊎ D p r)) _ _ c.long_fault.ensures
    (least_either B (λ p r. C p r ⊎ D p r) _ _ c.forms_fault-forms.ensures
    (least_either C D _ _ c.missing_fault-missing.ensures c.name_fault-name.ensures)))
