-- When all lines are read.
use Rattle.std.proofs.Common.{◌≡◌, ℕ, ◌+◌, ◌-◌, ◌<◌, ◌≤◌, min, true, false, ◌⊎◌, List, length, Some, None, refl, ap, ◌∙◌, subst, inl, inr, ⊎_elim, arith}
use Rattle.std.proofs.lemmas.Bool.{cases_order}
use Rattle.cut.specs.Cuts.{LineTo, FirstFields}
use Rattle.cut.specs.declared.Span.{Span}
use Rattle.values.specs.declared.Kind.TheVariants.{Resistor}
use Rattle.values.proofs.OneValue.{some_value}
use Rattle.reader.specs.declared.LineKind.{LineKind}
use Rattle.refusals.specs.declared.Rule.{Rule}
use Rattle.refusals.specs.declared.Rule.TheVariants.{Size, Wanting}
use Rattle.refusals.specs.declared.Fault.{Fault}
use Rattle.reader.specs.declared.Element.{Element}
use Rattle.reader.specs.declared.PortRecord.{PortRecord}
use Rattle.reader.specs.declared.reading.Reading.{Reading}
use Rattle.reader.specs.Limits.{largest_text}
use Rattle.reader.specs.Lines.{nth, kind_of_line, Line, LineIn, Closed, PartLine}
use Rattle.reader.specs.Records.{Ports}
use Rattle.reader.specs.Faults.{LineFaultBy, PortBefore, FaultBefore, SizeFault, FaultAt}
use Rattle.reader.specs.Answers.{Whole}
use Rattle.reader.specs.Inner.{standing, ReaderFault, Taken, port_list, Sofar}
use Rattle.refusals.specs.Refusals.{number}
use Rattle.refusals.specs.Order.{Least}
use Rattle.refusals.proofs.Lesser.{rule_least}
use Rattle.reader.proofs.Few.{nth_between, kind_few}
use Rattle.reader.proofs.Steps.{onward, step, refused}

-- a text of no size or of too great a one is refused at once
pub size_refused : (t : List ℕ) → (length t ≡ 0) ⊎ (largest_text < length t) → Least (FaultAt t) (Some (record { place = 0; rule = Size }))
size_refused t x = (inl (refl, x, refl), λ p r y. (omega arith, λ e. rule_least r))

-- a fault of a line lies before its end, or goes before what is wanting there
line_fault_early : (t : List ℕ) (l : Line) (q : ℕ) (kd : LineKind) (U F P C D : Type 0) (p : ℕ) (r : Rule) → LineIn t q l → LineFaultBy t l.start l.end l.fields kd U F P C D p r → (p < length t) ⊎ ((p ≤ length t) × (number r ≤ 9))
line_fault_early t l q kd U F P C D p r h =
    let high = h.ends.high in
    let at : (k : ℕ) → k < length l.fields → p ≡ (nth l.fields k).place → p < length t =
    λ k m e. let n = nth_between t l.start l.end l.fields k h.cut m in omega (arith, e, n.1, n.2, high) in
    ⊎_elim
    (⊎_elim (λ x. inl (omega (arith, x.0, x.1.0, high)))
    (⊎_elim (λ x. inl (at x.0 x.1 x.2.0))
    (⊎_elim (λ x. inr (omega (arith, x.0, high), omega (arith, ap number x.1.1))) (λ x. inl (at 0 x.1.0 x.0)))))
    (⊎_elim (λ x. inl (at 3 x.1.3 x.0)) (λ x. inl (⊎_elim (λ y. at 1 y.1 y.0) (λ y. at 2 y.1 y.0) x.1)))

-- the first fault of the lines is the first of the text
pub line_refused : (t : List ℕ) (f : Fault) → 0 < length t → length t ≤ largest_text → Least (FaultBefore t (length t)) (Some f) → Least (FaultAt t) (Some f)
line_refused t f some few x =
    let l = x.0 in
    let early = line_fault_early t l.0 (length t) l.1 _ _ _ _ _ f.place f.rule l.2 l.4 in (
      inr (inl x.0),
      λ p r.
          ⊎_elim (λ y. absurd (⊎_elim (λ z. omega arith) (λ z. omega arith) y.1))
          (⊎_elim (x.1 p r)
          (λ y. ⊎_elim (λ z. (omega (arith, y.0), λ e. absurd (omega (arith, y.0)))) (λ z. (omega (arith, y.0, z.0), λ e. omega (arith, z.1, ap number y.1.1))) early)),
    )

-- a line from q to b by its place and its length, with its first five fields
module _ {t : List ℕ} {q : ℕ} {so : Reading} (h : Sofar t q so) (on : q < length t) (small : length t ≤ largest_text) (b : ℕ) (few : List Span) (kd : LineKind)
    (ends : LineTo t q b) (cut : FirstFields t q (q + (b - q)) few) (is : kd ≡ standing q so.closed (kind_of_line t few)) where
  stop_is : b ≡ q + (b - q)
  stop_is = let low = ends.low in omega arith

  ends' : LineTo t q (q + (b - q))
  ends' = subst (LineTo t q) stop_is ends

  kind_is : kd ≡ standing q so.closed (kind_of_line t cut.0)
  kind_is = is ∙ ap (standing q so.closed) (kind_few t q (q + (b - q)) few cut.0 cut.1 cut.2)

  pub line_taken : (y : Reading) (q' : ℕ) → q' ≡ min (b + 1) (length t) → Least (ReaderFault t q (q + (b - q)) cut.0 kd so) None × Taken t cut.0 kd so y → (q < q') × Sofar t q' y
  line_taken y q' next x =
      let w = subst (λ k. Least (ReaderFault t q (q + (b - q)) cut.0 k so) None × Taken t cut.0 k so y) kind_is x in
      let low = ends.low in
      let high = ends.high in
      let next' : q' ≡ min (q + (b - q) + 1) (length t) = omega arith in
      ((onward h on (q + (b - q)) cut.0 ends' cut.1 w.0 q' next').0, step h on (q + (b - q)) cut.0 ends' cut.1 w.0 q' next' y w.1)

  pub line_fails : (f : Fault) → Least (ReaderFault t q (q + (b - q)) cut.0 kd so) (Some f) → Least (FaultAt t) (Some f)
  line_fails f x =
      line_refused t f (omega arith) small (refused h on (q + (b - q)) cut.0 ends' cut.1 f (subst (λ k. Least (ReaderFault t q (q + (b - q)) cut.0 k so) (Some f)) kind_is x))

-- all lines are read
module _ {t : List ℕ} {so : Reading} (whole : Sofar t (length t) so) (some : 0 < length t) (few : length t ≤ largest_text) where
  no_size : (p : ℕ) (r : Rule) → SizeFault t p r → ⊥
  no_size p r y = ⊎_elim (λ z. omega arith) (λ z. omega arith) y.1

  pub wanting : ((l : Line) → LineIn t (length t) l → PartLine t l → ⊥) ⊎ ((PortBefore t (length t) → ⊥) ⊎ (Closed t (length t) → ⊥)) → Least (FaultAt t) (Some (record { place = length t; rule = Wanting }))
  wanting x = (
    inr (inr (refl, (x, refl))),
    λ p r. ⊎_elim (λ y. absurd (no_size p r y)) (⊎_elim (λ y. absurd (whole.clean p r y)) (λ y. (omega (arith, y.0), λ e. omega (arith, ap number y.1.1)))),
  )

  pub no_port_wanting : so.port ≡ None → Least (FaultAt t) (Some (record { place = length t; rule = Wanting }))
  no_port_wanting e =
      wanting (inr (inl (λ x. let y = whole.ports.complete x.0 (x.1, x.2) in let z = ap (λ o. length (port_list o)) e in omega (arith, y.1.1, z))))

  pub not_closed_wanting : so.closed ≡ false → Least (FaultAt t) (Some (record { place = length t; rule = Wanting }))
  not_closed_wanting e = wanting (inr (inr (whole.still e)))

  pub no_element_wanting : length so.elements ≡ 0 → Least (FaultAt t) (Some (record { place = length t; rule = Wanting }))
  no_element_wanting e = wanting (inl (λ l x part. let y = whole.elements.complete l (x, part) in omega (arith, y.1.1)))

  pub read_whole : (p : PortRecord) → so.port ≡ Some p → so.closed ≡ true → (length so.elements ≡ 0 → ⊥) → Whole t so.nodes so.elements p
  read_whole p is shut more =
      let e₀ : Element = record { name = record { place = 0; len = 0 }; kind = Resistor; ends = record { from = record { index = 0 }; to = record { index = 0 } }; value = some_value } in
      let one : 0 < length so.elements = ⊎_elim (λ e. absurd (more e)) (⊎_elim (λ l. absurd (omega arith)) (λ l. l)) (cases_order (length so.elements) 0) in
      record {
        clean = λ p' r. ⊎_elim (no_size p' r) (⊎_elim (whole.clean p' r) (λ y.
            ⊎_elim
            (λ u. let x = whole.elements.sound 0 e₀ (omega arith) one in u x.0 x.1 x.2)
            (⊎_elim
            (λ u. let x = whole.ports.sound 0 p (omega arith) (omega (arith, ap (λ o. length (port_list o)) is)) in u (x.0, x.1, x.2))
            (λ u. u (whole.shut shut)))
            y.1.0));
        nodes = whole.nodes;
        elements = whole.elements;
        port = subst (λ o. Ports t (length t) so.nodes (port_list o)) is whole.ports;
      }
