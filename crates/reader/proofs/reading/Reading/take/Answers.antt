use Rattle.std.proofs.Common.{◌≡◌, ◌≤◌, true, length, Some, None, Ok, sym, refl, ap, ◌∙◌, subst, ⊎_elim, arith}
use Rattle.refusals.specs.Order.{Least}
use Rattle.reader.specs.declared.reading.Reading.{Reading}
use Rattle.reader.specs.Lines.{width, Carries}
use Rattle.reader.specs.Inner.{FaultOf, Taken}
use Rattle.reader.proofs.Saying.{ok_says, first_fault, told, wide, value_sure, ends_sure, value_there, ends_there, room_left, room_sure, part_taken, port_taken, nodes_kept}
use Rattle.reader.proofs.reading.Reading.take.Goals as goal
use Rattle.reader.proofs.reading.Reading.take.Goals.{After-sooner-2, In_default}

-- the first fault, as the first five fields tell it
faulty : (c : After-sooner-2) → Least (FaultOf c.args.line.now c.args.line.now.fields.now c.args.self.now) c.sooner-2.result
faulty c =
    rw (c.sooner-2.ensures, c.sooner.ensures, c.err.ensures.value, c.err-2.ensures.value)
    (first_fault c.args.line.now c.args.self.now _ _ _ _ _ (rw (c.as_slice.ensures.items, c.is_some.ensures) at c.plain_fault-plain.ensures) c.value-value.ensures c.ends-ends.ensures)

quiet : (c : In_default) → Least (FaultOf c.args.line.now c.args.line.now.fields.now c.args.self.now) None
quiet c = subst (Least (FaultOf c.args.line.now c.args.line.now.fields.now c.args.self.now)) c.in_default.is (faulty (goal.at.In_default c).After-sooner-2)

pub returns-in-Some : goal.returns-in-Some
returns-in-Some c fs cut =
    told c.args.line.now c.args.self.now fs cut (Some c.in-Some.fault)
    (subst (Least (FaultOf c.args.line.now c.args.line.now.fields.now c.args.self.now)) c.in-Some.is (faulty (goal.at.returns-in-Some c).After-sooner-2))

pub unwrap-value-requires : goal.unwrap-value-requires
unwrap-value-requires c = value_sure c.args.line.now c.args.self.now (quiet (goal.at.unwrap-value-requires c).In_default) _ _ c.value-value.ensures

pub unwrap-ends-requires : goal.unwrap-ends-requires
unwrap-ends-requires c = ends_sure c.args.line.now c.args.self.now (quiet (goal.at.unwrap-ends-requires c).In_default) _ _ c.ends-ends.ensures

pub bounds-fields-0 : goal.bounds-fields-0
bounds-fields-0 c = let w = subst (λ k. width k ≤ length c.args.line.now.fields.now) c.in-Part.is (wide c.args.line.now c.args.self.now (quiet (goal.at.bounds-fields-0 c).In_default)) in omega arith

pub bounds-fields-0-in-Port : goal.bounds-fields-0-in-Port
bounds-fields-0-in-Port c = let w = subst (λ k. width k ≤ length c.args.line.now.fields.now) c.in-Port.is (wide c.args.line.now c.args.self.now (quiet (goal.at.bounds-fields-0-in-Port c).In_default)) in omega arith

pub unwrap-requires : goal.unwrap-requires
unwrap-requires c = ends_there c.args.line.now c.args.self.now (quiet (goal.at.unwrap-requires c).In_default) _ _ (subst Carries (sym c.in-Part.is) tt) (ok_says _ _ _ _ _ c.ends-ends.ensures c.unwrap-ends.ensures)

pub unwrap-requires-in-Part : goal.unwrap-requires-in-Part
unwrap-requires-in-Part c = value_there c.args.line.now c.args.self.now (quiet (goal.at.unwrap-requires-in-Part c).In_default) _ _ c.in-Part.is (ok_says _ _ _ _ _ c.value-value.ensures c.unwrap-value.ensures)

pub unwrap-requires-in-Port : goal.unwrap-requires-in-Port
unwrap-requires-in-Port c = ends_there c.args.line.now c.args.self.now (quiet (goal.at.unwrap-requires-in-Port c).In_default) _ _ (subst Carries (sym c.in-Port.is) tt) (ok_says _ _ _ _ _ c.ends-ends.ensures c.unwrap-ends.ensures)

pub unwrap-requires-in-Part-2 : goal.unwrap-requires-in-Part-2
unwrap-requires-in-Part-2 c = room_sure _ (room_left c.args.line.now c.args.self.now (quiet (goal.at.unwrap-requires-in-Part-2 c).In_default) _ c.in-Part.is) c.push.ensures.room

pub returns-in-Part : goal.returns-in-Part
returns-in-Part c fs cut =
    let none = quiet (goal.at.returns-in-Part c).In_default in
    let ends = ok_says _ _ _ _ _ c.ends-ends.ensures (c.unwrap-ends.ensures ∙ ap Ok c.unwrap.ensures) in
    let value = ok_says _ _ _ _ _ c.value-value.ensures (c.unwrap-value.ensures ∙ ap Ok c.unwrap-in-Part.ensures) in
    (told c.args.line.now c.args.self.now fs cut None none, part_taken c.args.line.now c.args.self.now none fs cut _ _ _ _ c.in-Part.is ends value c.push.ensures.items refl refl)

pub returns-in-Port : goal.returns-in-Port
returns-in-Port c fs cut =
    let none = quiet (goal.at.returns-in-Port c).In_default in
    let ends = ok_says _ _ _ _ _ c.ends-ends.ensures (c.unwrap-ends.ensures ∙ ap Ok c.unwrap-in-Port.ensures) in
    (told c.args.line.now c.args.self.now fs cut None none, port_taken c.args.line.now c.args.self.now none fs cut _ _ c.in-Port.is ends refl refl refl)

pub returns-in-Close : goal.returns-in-Close
returns-in-Close c fs cut =
    let none = quiet (goal.at.returns-in-Close c).In_default in
    let kept = nodes_kept c.args.line.now c.args.self.now none _ _ c.ends-ends.ensures (λ w. subst Carries c.in-Close.is w) in
    let y : Reading = record { nodes = c.ends-ends.new.nodes; elements = c.args.self.now.elements; port = c.args.self.now.port; closed = true } in (
      told c.args.line.now c.args.self.now fs cut None none,
      subst (λ d. Taken c.args.line.now.text.now fs d c.args.self.now y) (sym c.in-Close.is) (λ i. record { nodes = kept i; elements = c.args.self.now.elements; port = c.args.self.now.port; closed = true }),
    )

pub returns-in-Passed : goal.returns-in-Passed
returns-in-Passed c fs cut =
    let none = quiet (goal.at.returns-in-Passed c).In_default in
    let kept = nodes_kept c.args.line.now c.args.self.now none _ _ c.ends-ends.ensures (λ w. ⊎_elim (λ e. subst Carries e w) (λ e. subst Carries e w) c.in-Passed.is) in
    let y : Reading = record { nodes = c.ends-ends.new.nodes; elements = c.args.self.now.elements; port = c.args.self.now.port; closed = c.args.self.now.closed } in
    let same : y ≡ c.args.self.now = λ i. record { nodes = kept i; elements = c.args.self.now.elements; port = c.args.self.now.port; closed = c.args.self.now.closed } in (
      told c.args.line.now c.args.self.now fs cut None none,
      ⊎_elim
          (λ e. subst (λ d. Taken c.args.line.now.text.now fs d c.args.self.now y) (sym e) same)
          (λ e. subst (λ d. Taken c.args.line.now.text.now fs d c.args.self.now y) (sym e) same)
          c.in-Passed.is,
    )
