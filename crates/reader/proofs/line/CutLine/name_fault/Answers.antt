use Rattle.std.proofs.Common.{arith, rules}
use Rattle.values.specs.declared.Kind.TheVariants.{Resistor}
use Rattle.values.proofs.OneValue.{some_value}
use Rattle.reader.specs.Lines.{nowhere}
use Rattle.reader.specs.declared.Element.{Element}
use Rattle.reader.proofs.Parts.{none_among, name_full, name_none}
use Rattle.reader.proofs.line.CutLine.name_fault.Goals as goal

nobody : Element
nobody = record { name = nowhere; kind = Resistor; ends = record { from = record { index = 0 }; to = record { index = 0 } }; value = some_value }

pub returns-then-elements-ge-MOST_ELEMENTS : goal.returns-then-elements-ge-MOST_ELEMENTS
returns-then-elements-ge-MOST_ELEMENTS c =
    let l = c.args.self.now in
    rw c.at-then-elements-ge-MOST_ELEMENTS.ensures
    (name_full l.kind l.fields.now _ _ _ _ c.in-Part.is (search rules) (none_among (λ e. e.name) l.text.now c.args.elements.now _ _ c.of.ensures nobody c.in_default-find.ensures) (omega arith))

pub returns-else-elements-ge-MOST_ELEMENTS : goal.returns-else-elements-ge-MOST_ELEMENTS
returns-else-elements-ge-MOST_ELEMENTS c =
    let l = c.args.self.now in
    name_none l.kind l.fields.now _ _ _ _ c.in-Part.is (none_among (λ e. e.name) l.text.now c.args.elements.now _ _ c.of.ensures nobody c.in_default-find.ensures) (λ l. omega arith)
