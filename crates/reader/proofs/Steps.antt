-- What one line adds to what was read.
use Rattle.std.proofs.Common.{◌≡◌, ℕ, ◌+◌, ◌-◌, ◌<◌, ◌≤◌, Bool, true, false, cond, eqb, ◌⊎◌, List, [], ◌∷◌, ◌++◌, map, length, get_or, is_some, Some, None, Option, sym, refl, ap, ◌∙◌, subst, inl, inr, ⊎_elim, arith, min}
use Rattle.std.specs.Char.{to_ascii_lowercase}
use Rattle.std.specs.List.{AllWithin}
use Rattle.std.proofs.lemmas.Bool.{cases_order, cases_lt, cases_Bool, cond-true, cond-false}
use Rattle.std.proofs.lemmas.Bool.Decides.{nat_tests}
use Rattle.std.proofs.lemmas.List.Elements.{AllWithin-push}
use Rattle.std.proofs.ByRecursion.{has_append_left, has_push}
use Rattle.std.proofs.lemmas.List.{get_or_append_left, get_or_push, length_push}
use Rattle.cut.specs.Cuts.{bytes, LineTo, StartsLine, FieldsIn, stop}
use Rattle.cut.specs.declared.Span.{Span}
use Rattle.cut.proofs.Same.{fields_ascend, line_apart}
use Rattle.values.specs.Values.{Valued}
use Rattle.values.specs.declared.Kind.TheVariants.{Resistor}
use Rattle.refusals.specs.declared.Rule.{Rule}
use Rattle.refusals.specs.declared.Rule.TheVariants.{Shape, Twice}
use Rattle.refusals.specs.declared.Fault.{Fault}
use Rattle.values.proofs.OneValue.{some_value}
use Rattle.reader.specs.declared.Element.{Element}
use Rattle.reader.specs.declared.Node.{Node}
use Rattle.reader.specs.declared.PortRecord.{PortRecord}
use Rattle.reader.specs.declared.reading.Reading.{Reading}
use Rattle.reader.specs.declared.LineKind.{LineKind}
use Rattle.reader.specs.declared.LineKind.TheVariants.{Passed, Part, Port, Close, Strange}
use Rattle.reader.specs.Limits.{most_elements}
use Rattle.reader.specs.Lines.{nowhere, nth, kind_of_line, past, width, Carries, Line, LineIn, Closed, Stands, PartLine, PortLine}
use Rattle.reader.specs.Records.{ReadFrom, Records, Among, NodeUse, Nodes, NumberIs, ElementIs, PortIs, Names, Ports}
use Rattle.reader.specs.Faults.{NameRule, LineFaultBy, UsedBefore, FilledBefore, PortBefore, Crowded, LineFault, FaultBefore}
use Rattle.reader.specs.Inner.{standing, Entered, Overfull, CrowdedFirst, CrowdedSecond, BothEnds, ReaderFault, Taken, port_list, Sofar}
use Rattle.refusals.specs.Order.{Least}
use Rattle.reader.proofs.Few.{nth_between}
use Rattle.reader.proofs.Once.{records_once, same_line, use_between, use_early, nodes_once}
use Rattle.reader.proofs.Uses.{entered_some, nodes_still, nodes_step}
use Rattle.reader.proofs.Entering.{number_later}

nobody : Element
nobody = record { name = nowhere; kind = Resistor; ends = record { from = record { index = 0 }; to = record { index = 0 } }; value = some_value }

-- a line before q is a line before any later place
pub later : (t : List ℕ) (q q' : ℕ) (l : Line) → q ≤ q' → LineIn t q l → LineIn t q' l
later t q q' l m h = record { before = omega (arith, h.before); starts = h.starts; ends = h.ends; cut = h.cut }

pub closed_later : (t : List ℕ) (q q' : ℕ) → q ≤ q' → Closed t q → Closed t q'
closed_later t q q' l x = (x.0, later t q q' x.0 l x.1, x.2, x.3)

-- a line stands as one kind
pub stands_same : (t : List ℕ) (l : Line) (kd kd' : LineKind) → Stands t l kd → Stands t l kd' → kd ≡ kd'
stands_same t l kd kd' a b =
    ⊎_elim
    (λ x. ⊎_elim (λ y. x.1 ∙ sym y.1) (λ y. absurd (omega (arith, x.0, y.0))) b)
    (λ x.
    ⊎_elim (λ y. absurd (omega (arith, x.0, y.0)))
    (λ y.
    ⊎_elim
    (λ u. ⊎_elim (λ v. u.1 ∙ sym v.1) (λ v. absurd (u.0 v.0)) y.1)
    (λ u. ⊎_elim (λ v. absurd (v.0 u.0)) (λ v. u.1 ∙ sym v.1) y.1)
    x.1)
    b)
    a

some_fields : (t : List ℕ) (fs : List Span) (kd : LineKind) → (kd ≡ kind_of_line t fs) ⊎ (kd ≡ past (kind_of_line t fs)) → (kd ≡ Passed → ⊥) → 0 < length fs
some_fields t [] kd x never = absurd (⊎_elim never never x)
some_fields t (f ∷ fs) kd x never = omega arith

-- a line that is not passed over has a field
pub stands_some : (t : List ℕ) (l : Line) (kd : LineKind) → Stands t l kd → (kd ≡ Passed → ⊥) → 0 < length l.fields
stands_some t l kd x never =
    ⊎_elim (λ y. absurd (never y.1)) (λ y. some_fields t l.fields kd (⊎_elim (λ u. inl u.1) (λ u. inr u.1) y.1) never) x

pub part_some : (t : List ℕ) (l : Line) → PartLine t l → 0 < length l.fields
part_some t l x = stands_some t l (Part x.0) x.1 (λ e. cc)

pub port_some : (t : List ℕ) (l : Line) → PortLine t l → 0 < length l.fields
port_some t l x = stands_some t l Port x (λ e. cc)

past_close : (kd : LineKind) → past kd ≡ Close → ⊥
past_close Passed e = cc
past_close (Part s) e = cc
past_close Port e = cc
past_close Close e = cc
past_close Strange e = cc

stands_close : (t : List ℕ) (l : Line) → Stands t l Close → (0 < l.start) × (kind_of_line t l.fields ≡ Close)
stands_close t l =
    ⊎_elim (λ x. let e = x.1 in cc)
    (λ x. (x.0, ⊎_elim (λ y. sym y.1) (λ y. absurd (past_close (kind_of_line t l.fields) (sym y.1))) x.1))

has_port : (o : Option PortRecord) → is_some o ≡ true → 0 < length (port_list o)
has_port None e = cc
has_port (Some p) e = omega arith

port_there : (o : Option PortRecord) → 0 < length (port_list o) → is_some o ≡ true
port_there None l = absurd (omega arith)
port_there (Some p) l = refl

none_yet : (o : Option PortRecord) → (is_some o ≡ true → ⊥) → port_list o ≡ []
none_yet None e = refl
none_yet (Some r) e = absurd (e refl)

-- a fault of a line lies in it
pub line_fault_within : (t : List ℕ) (l : Line) (q : ℕ) (kd : LineKind) (U F P C D : Type 0) (p : ℕ) (r : Rule) → LineIn t q l → LineFaultBy t l.start l.end l.fields kd U F P C D p r → (l.start ≤ p) × (p ≤ l.end)
line_fault_within t l q kd U F P C D p r h =
    let at : (k : ℕ) → k < length l.fields → p ≡ (nth l.fields k).place → (l.start ≤ p) × (p ≤ l.end) =
    λ k m e. let n = nth_between t l.start l.end l.fields k h.cut m in (omega (arith, e, n.0), omega (arith, e, n.1, n.2)) in
    ⊎_elim
    (⊎_elim (λ x. (omega (arith, x.0), omega (arith, x.0, x.1.0)))
    (⊎_elim (λ x. at x.0 x.1 x.2.0)
    (⊎_elim (λ x. (omega (arith, x.0, h.ends.low), omega (arith, x.0))) (λ x. at 0 x.1.0 x.0))))
    (⊎_elim (λ x. at 3 x.1.3 x.0) (λ x. ⊎_elim (λ y. at 1 y.1 y.0) (λ y. at 2 y.1 y.0) x.1))

-- the context of a line's faults may be said in another way
pub line_fault_by : (t : List ℕ) (a b : ℕ) (fs : List Span) (kd : LineKind) (U F P C D U' F' P' C' D' : Type 0) → (U → U') → (F → F') → (P → P') → (Carries kd → 1 < length fs → C → C') → (Carries kd → 2 < length fs → D → D') → (p : ℕ) (r : Rule) → LineFaultBy t a b fs kd U F P C D p r → LineFaultBy t a b fs kd U' F' P' C' D' p r
line_fault_by t a b fs kd U F P C D U' F' P' C' D' u f o c d p r =
    ⊎_elim
    (λ x. inl (⊎_elim (λ y. inl y) (λ y. inr (⊎_elim (λ z. inl z) (λ z. inr (⊎_elim (λ w. inl w) (λ w. inr (w.0, (w.1.0, named kd w.1.1))) z)) y)) x))
    (λ x. inr (⊎_elim (λ y. inl y) (λ y. inr (y.0, ⊎_elim (λ z. inl (z.0, z.1, c y.0 z.1 z.2, z.3)) (λ z. inr (z.0, z.1, ⊎_elim (λ w. inl (d y.0 z.1 w.0, w.1)) (λ w. inr w) z.2)) y.1)) x))
  where
    named : (k : LineKind) → NameRule k U F P r → NameRule k U' F' P' r
    named Passed x = x
    named (Part s) x = ⊎_elim (λ y. inl (u y.0, y.1)) (λ y. inr (f y.0, y.1)) x
    named Port x = (o x.0, x.1)
    named Close x = x
    named Strange x = x

module _ {t : List ℕ} {q : ℕ} {so : Reading} (h : Sofar t q so) (on : q < length t) (b : ℕ) (fs : List Span) (ends : LineTo t q b) (cut : FieldsIn t q b fs) where
  abbrev pub here : Line
  here = record { start = q; end = b; fields = fs }

  abbrev pub kd : LineKind
  kd = standing q so.closed (kind_of_line t fs)

  pub this : (q' : ℕ) → q < q' → LineIn t q' here
  this q' l = record { before = l; starts = h.begins on; ends = ends; cut = cut }

  -- any line is before this one, is this one, or is past it
  pub where_is : (q' : ℕ) (l : Line) → LineIn t q' l → LineIn t q l ⊎ ((l ≡ here) ⊎ (b < l.start))
  where_is q' l x =
      ⊎_elim
      (λ e. inr (inl (same_line t q' (length t) l here x (this (length t) on) e)))
      (⊎_elim
      (λ m. inl (record { before = m; starts = x.starts; ends = x.ends; cut = x.cut }))
      (λ m. inr (inr (line_apart t q b l.start ends x.starts m))))
      (cases_order l.start q)

  pub stands : Stands t here kd
  stands =
      ⊎_elim
      (λ e. inl (grind (arith, nat_tests), cond-true (eqb q 0) Passed (cond so.closed (past (kind_of_line t fs)) (kind_of_line t fs)) e))
      (λ e.
      let some : 0 < q = grind (arith, nat_tests) in
      let open' = cond-false (eqb q 0) Passed (cond so.closed (past (kind_of_line t fs)) (kind_of_line t fs)) e in
      inr (some, ⊎_elim (λ c. inr (h.shut c, open' ∙ cond-true so.closed (past (kind_of_line t fs)) (kind_of_line t fs) c)) (λ c. inl (h.still c, open' ∙ cond-false so.closed (past (kind_of_line t fs)) (kind_of_line t fs) c)) (cases_Bool so.closed)))
      (cases_Bool (eqb q 0))

  -- the names of the elements that were read are those that were used
  used_to : (bs : List ℕ) → Among (λ e. e.name) t so.elements bs → UsedBefore t q bs
  used_to bs x =
      let l = h.elements.sound x.0 nobody (omega arith) x.1 in
      (l.0, l.1, l.2, ap (λ s. map to_ascii_lowercase (bytes t s)) (sym l.3.name) ∙ x.2 nobody)

  used_back : (bs : List ℕ) → UsedBefore t q bs → Among (λ e. e.name) t so.elements bs
  used_back bs x =
      let l = h.elements.complete x.0 (x.1, x.2) in
      (l.1.0, l.1.1, λ d. ap (λ e. map to_ascii_lowercase (bytes t e.name)) (l.1.2 d) ∙ ap (λ s. map to_ascii_lowercase (bytes t s)) l.2.name ∙ x.3)

  filled_to : most_elements ≤ length so.elements → FilledBefore t q
  filled_to l = (h.names.0, h.names.1, omega (arith, h.names.2))

  filled_back : FilledBefore t q → most_elements ≤ length so.elements
  filled_back x =
      let e = records_once (PartLine t) (λ l s. s ≡ nth l.fields 0) (λ s. s.place) t q (λ l x y a c. a ∙ sym c) x.0 h.names.0 x.1 h.names.1 in
      omega (arith, x.2, ap length e, h.names.2)

  ported_to : is_some so.port ≡ true → PortBefore t q
  ported_to e =
      let l = has_port so.port e in
      let p₀ : PortRecord = record { name = nowhere; ends = record { from = record { index = 0 }; to = record { index = 0 } } } in
      let x = h.ports.sound 0 p₀ (omega arith) l in (x.0, x.1, x.2)

  ported_back : PortBefore t q → is_some so.port ≡ true
  ported_back x = let y = h.ports.complete x.0 (x.1, x.2) in port_there so.port (omega (arith, y.1.1))

  -- a use before p, where p is not past the end of this line, is one before the line or one in it
  in_line : Span → Type 0
  in_line s = Carries kd × ((k : ℕ) × ((k ≡ 1) ⊎ (k ≡ 2)) × (k < length fs) × (s ≡ nth fs k))

  use_split : (p : ℕ) → p ≤ b + 1 → (s : Span) → NodeUse t p s → NodeUse t q s ⊎ in_line s
  unfolding in_line
  use_split p m s u =
      let w = use_between t p s u in
      ⊎_elim
      (λ x. inl (use_early t p q s u (omega (arith, w.1, w.2, line_apart t u.line.start u.line.end q u.within.ends (h.begins on) x.before))))
      (⊎_elim
      (λ e.
      let st = subst (λ l. Stands t l u.kd) e u.stands in
      let same = stands_same t here u.kd kd st stands in
      inr (subst Carries same u.carries, (u.k, u.which, subst (λ l. u.k < length l.fields) e u.there, u.is ∙ ap (λ l. nth l.fields u.k) e)))
      (λ x. absurd (omega (arith, w.0, u.early))))
      (where_is (length t) u.line u.within)

  use_here : (k p : ℕ) → Carries kd → (k ≡ 1) ⊎ (k ≡ 2) → k < length fs → (nth fs k).place < p → NodeUse t p (nth fs k)
  use_here k p c w l e = record { line = here; kd = kd; k = k; within = this (length t) on; stands = stands; carries = c; which = w; there = l; is = refl; early = e }

  between : (k : ℕ) → k < length fs → (q ≤ (nth fs k).place) × ((nth fs k).place < stop (nth fs k)) × (stop (nth fs k) ≤ b)
  between k l = nth_between t q b fs k cut l

  second_later : 2 < length fs → stop (nth fs 1) ≤ (nth fs 2).place
  second_later l = fields_ascend t q b fs nowhere 1 2 cut (omega arith) l

  -- the nodes before the first end
  nodes_first : 1 < length fs → Nodes t (nth fs 1).place so.nodes
  unfolding in_line
  nodes_first l =
      let w = between 1 l in
      nodes_still t q (nth fs 1).place so.nodes (omega (arith, w.0))
      (λ s u.
      ⊎_elim (λ x. x)
      (λ x.
      let st = ap (λ (f : Span). f.place) x.1.3 in
      ⊎_elim
      (λ e. absurd (let z = ap (λ k. (nth fs k).place) e in omega (arith, st, z, u.early)))
      (λ e.
      let z = ap (λ k. (nth fs k).place) e in
      let m : 2 < length fs = omega (arith, e, x.1.2) in
      absurd (let o = second_later m in omega (arith, o, st, z, u.early, w.1)))
      x.1.1)
      (use_split (nth fs 1).place (omega (arith, w.1, w.2)) s u))
      h.nodes

  -- the nodes before the second end
  nodes_second : Carries kd → 2 < length fs → (mid : List Node) → Entered t so.nodes (nth fs 1) mid → Nodes t (nth fs 2).place mid
  unfolding in_line
  nodes_second c l mid entered =
      let one : 1 < length fs = omega arith in
      let w = between 1 one in
      let v = between 2 l in
      let o = second_later l in
      nodes_step t (nth fs 1).place (nth fs 2).place so.nodes mid (nth fs 1) (omega arith) (omega (arith, w.1, o)) (use_here 1 (nth fs 2).place c (inl refl) one (omega (arith, w.1, o)))
      (λ s u.
      ⊎_elim (λ x. inl (use_early t q (nth fs 1).place s x (omega (arith, x.early, w.0))))
      (λ x.
      let st = ap (λ (f : Span). f.place) x.1.3 in
      ⊎_elim (λ e. inr (x.1.3 ∙ ap (nth fs) e)) (λ e. absurd (let z = ap (λ k. (nth fs k).place) e in omega (arith, st, z, u.early))) x.1.1)
      (use_split (nth fs 2).place (omega (arith, v.1, v.2)) s u))
      entered (nodes_first one)

  crowd_first_to : Carries kd → 1 < length fs → CrowdedFirst t so.nodes fs → Crowded t (nth fs 1)
  crowd_first_to c l x = (so.nodes, nodes_first l, x.0, x.1)

  crowd_first_back : Carries kd → 1 < length fs → Crowded t (nth fs 1) → CrowdedFirst t so.nodes fs
  crowd_first_back c l x =
      let e = nodes_once t (nth fs 1).place x.0 so.nodes x.1 (nodes_first l) in
      subst (λ n. Overfull t n (nth fs 1)) e (x.2, x.3)

  crowd_second_to : Carries kd → 2 < length fs → CrowdedSecond t so.nodes fs → Crowded t (nth fs 2)
  crowd_second_to c l x = (x.0, nodes_second c l x.0 x.1, x.2.0, x.2.1)

  crowd_second_back : Carries kd → 2 < length fs → Crowded t (nth fs 2) → CrowdedSecond t so.nodes fs
  crowd_second_back c l x =
      let m = entered_some t so.nodes (nth fs 1) in
      let e = nodes_once t (nth fs 2).place x.0 m.0 x.1 (nodes_second c l m.0 m.1) in
      (m.0, m.1, subst (λ n. Overfull t n (nth fs 2)) e (x.2, x.3))

  -- the faults of this line, as the reader knows them, are its faults
  fault_to : (p : ℕ) (r : Rule) → ReaderFault t q b fs kd so p r → LineFault t here kd p r
  fault_to p r = line_fault_by t q b fs kd _ _ _ _ _ _ _ _ _ _ (used_to (bytes t (nth fs 0))) filled_to ported_to crowd_first_to crowd_second_to p r

  fault_back : (p : ℕ) (r : Rule) → LineFault t here kd p r → ReaderFault t q b fs kd so p r
  fault_back p r = line_fault_by t q b fs kd _ _ _ _ _ _ _ _ _ _ (used_back (bytes t (nth fs 0))) filled_back ported_back crowd_first_back crowd_second_back p r

  -- the same for any way in which the line may stand
  fault_any : (l : Line) (kd' : LineKind) (p : ℕ) (r : Rule) → l ≡ here → Stands t l kd' → LineFault t l kd' p r → ReaderFault t q b fs kd so p r
  fault_any l kd' p r e st x =
      let same = stands_same t here kd' kd (subst (λ m. Stands t m kd') e st) stands in
      fault_back p r (subst (λ k. LineFault t here k p r) same (subst (λ m. LineFault t m kd' p r) e x))

  -- the fault of this line is the first of all lines
  pub refused : (f : Fault) → Least (ReaderFault t q b fs kd so) (Some f) → Least (FaultBefore t (length t)) (Some f)
  refused f x = (
    (here, kd, this (length t) on, stands, fault_to _ _ x.0),
    λ p r y.
        ⊎_elim (λ l. absurd (h.clean p r (y.0, y.1, l, y.3, y.4)))
        (⊎_elim
        (λ e. x.1 p r (fault_any y.0 y.1 p r e y.3 y.4))
        (λ l.
        let mine = line_fault_within t here (length t) kd _ _ _ _ _ _ _ (this (length t) on) x.0 in
        let its = line_fault_within t y.0 (length t) y.1 _ _ _ _ _ p r y.2 y.4 in
        (omega (arith, mine.1, its.0), λ e. absurd (omega (arith, mine.1, its.0)))))
        (where_is (length t) y.0 y.2),
  )

  module _ (none : Least (ReaderFault t q b fs kd so) None) (q' : ℕ) (next : q' ≡ min (b + 1) (length t)) where
    pub onward : (q < q') × (q' ≤ length t) × (q' ≤ b + 1)
    onward = (omega (arith, next, ends.low), omega (arith, next), omega (arith, next))

    passed : (a : ℕ) → a < q' → b < a → ⊥
    passed a l m = omega (arith, onward.2)

    begins_next : q' < length t → StartsLine t q'
    begins_next l =
        let inside : b < length t = omega (arith, next) in
        let e : q' ≡ b + 1 = omega (arith, next) in
        let back : b ≡ q' - 1 = omega (arith, e) in
        (l, inr (omega (arith, e), ap (λ n. get_or t n 0) (sym back) ∙ ends.closed inside))

    clean_next : (p : ℕ) (r : Rule) → FaultBefore t q' p r → ⊥
    clean_next p r y =
        ⊎_elim (λ l. h.clean p r (y.0, y.1, l, y.3, y.4))
        (⊎_elim (λ e. none p r (fault_any y.0 y.1 p r e y.3 y.4)) (λ l. absurd (passed y.0.start y.2.before l)))
        (where_is q' y.0 y.2)

    still_next : so.closed ≡ false → (kd ≡ Close → ⊥) → Closed t q' → ⊥
    still_next c never x =
        ⊎_elim (λ l. h.still c (x.0, l, x.2, x.3))
        (⊎_elim
        (λ e.
        let k : kind_of_line t fs ≡ Close = ap (λ l. kind_of_line t l.fields) (sym e) ∙ x.3 in
        let some : 0 < q = omega (arith, x.2, ap (λ (l : Line). l.start) e) in
        let z : eqb q 0 ≡ false = grind (arith, nat_tests) in
        never (cond-false (eqb q 0) Passed (cond so.closed (past (kind_of_line t fs)) (kind_of_line t fs)) z ∙ cond-false so.closed (past (kind_of_line t fs)) (kind_of_line t fs) c ∙ k))
        (λ l. passed x.0.start x.1.before l))
        (where_is q' x.0 x.1)

    shut_next : so.closed ≡ true → Closed t q'
    shut_next c = closed_later t q q' (omega (arith, onward.0)) (h.shut c)

    shut_now : kd ≡ Close → Closed t q'
    shut_now e = let x = stands_close t here (subst (Stands t here) e stands) in (here, this q' onward.0, x.0, x.1)

    module _ {X : Type 0} (K : Line → Type 0) (Is Is' : Line → X → Type 0) (lift : (l : Line) (x : X) → Is l x → Is' l x) (place : X → ℕ) (xs : List X) (r : Records K Is place t q xs) where
      old_sound : AllWithin (ReadFrom K Is' t q') xs 0 (length xs)
      old_sound k d low l = let x = r.sound k d low l in (x.0, later t q q' x.0 (omega (arith, onward.0)) x.1, x.2, lift x.0 _ x.3)

      pub records_same : (K here → ⊥) → Records K Is' place t q' xs
      records_same never =
          record {
            sound = old_sound;
            complete = λ l x.
                ⊎_elim (λ m. let y = r.complete l (m, x.1) in (y.0, y.1, lift l y.0 y.2))
                (⊎_elim (λ e. absurd (never (subst K e x.1))) (λ m. absurd (passed l.start x.0.before m)))
                (where_is q' l x.0);
            ascends = r.ascends;
          }

      -- `place` is where the first field starts, and a line of kind K has one
      pub records_more : ((l : Line) → K l → 0 < length l.fields) → ((l : Line) (x : X) → Is' l x → place x ≡ (nth l.fields 0).place) → (e : X) → K here → Is' here e → Records K Is' place t q' (xs ++ e ∷ [])
      records_more some at e is made =
          record {
            sound = AllWithin-push (ReadFrom K Is' t q') xs e old_sound (here, this q' onward.0, is, made);
            complete = λ l x.
                ⊎_elim (λ m. let y = r.complete l (m, x.1) in (y.0, has_append_left xs (e ∷ []) y.0 y.1, lift l y.0 y.2))
                (⊎_elim (λ same. (e, has_push xs e, subst (λ l. Is' l e) (sym same) made)) (λ m. absurd (passed l.start x.0.before m)))
                (where_is q' l x.0);
            ascends = λ i j d l m.
                let n = length_push xs e in
                ⊎_elim
                (λ inside.
                let p = ap place (get_or_append_left xs (e ∷ []) d i (omega arith)) in
                let u = ap place (get_or_append_left xs (e ∷ []) d j inside) in
                let s = r.ascends i j d l inside in
                omega (arith, p, u, s))
                (λ outside.
                let same : length xs ≡ j = omega (arith, n) in
                let p = ap place (get_or_append_left xs (e ∷ []) d i (omega arith)) in
                let u = ap place (get_or_push xs e d j same) in
                let x = r.sound i d (omega arith) (omega arith) in
                let w = nth_between t x.0.start x.0.end x.0.fields 0 x.1.cut (some x.0 x.2) in
                let far = line_apart t x.0.start x.0.end q x.1.ends (h.begins on) x.1.before in
                let v = between 0 (some here is) in
                omega (arith, p, u, at x.0 _ (lift x.0 _ x.3), at here e made, w.1, w.2, far, v.0))
                (cases_lt j (length xs));
          }

    -- the nodes after a line without ends
    nodes_same : (Carries kd → ⊥) → Nodes t q' so.nodes
    unfolding in_line
    nodes_same never = nodes_still t q q' so.nodes (omega (arith, onward.0)) (λ s u. ⊎_elim (λ x. x) (λ x. absurd (never x.0)) (use_split q' onward.2 s u)) h.nodes

    -- the nodes after a line with two ends
    nodes_both : Carries kd → 2 < length fs → (mid ns' : List Node) → Entered t so.nodes (nth fs 1) mid → Entered t mid (nth fs 2) ns' → Nodes t q' ns'
    unfolding in_line
    nodes_both c l mid ns' one two =
        let w = between 1 (omega arith) in
        let v = between 2 l in
        let o = second_later l in
        let far : (nth fs 2).place < q' = omega (arith, next, v.1, v.2, ends.high) in
        nodes_step t (nth fs 2).place q' mid ns' (nth fs 2) (omega arith) far (use_here 2 q' c (inr refl) l far)
        (λ s u.
        ⊎_elim (λ x. inl (use_early t q (nth fs 2).place s x (omega (arith, x.early, w.0, w.1, o))))
        (λ x.
        ⊎_elim
        (λ e.
        let i = x.1.3 ∙ ap (nth fs) e in
        inl (use_early t q' (nth fs 2).place s u (omega (arith, ap (λ (f : Span). f.place) i, w.1, o))))
        (λ e. inr (x.1.3 ∙ ap (nth fs) e)) x.1.1)
        (use_split q' onward.2 s u))
        two (nodes_second c l mid one)

    number_both : (mid ns' : List Node) → Entered t so.nodes (nth fs 1) mid → Entered t mid (nth fs 2) ns' → (s : Span) (i : ℕ) → NumberIs t so.nodes s i → NumberIs t ns' s i
    number_both mid ns' one two s i x = number_later t mid (nth fs 2) ns' s i two (number_later t so.nodes (nth fs 1) mid s i one x)

    element_lift : (mid ns' : List Node) → Entered t so.nodes (nth fs 1) mid → Entered t mid (nth fs 2) ns' → (l : Line) (e : Element) → ElementIs t so.nodes l e → ElementIs t ns' l e
    element_lift mid ns' one two l e x =
        record {
          kind = x.kind;
          name = x.name;
          from = number_both mid ns' one two (nth l.fields 1) _ x.from;
          to = number_both mid ns' one two (nth l.fields 2) _ x.to;
          value = x.value;
        }

    port_lift : (mid ns' : List Node) → Entered t so.nodes (nth fs 1) mid → Entered t mid (nth fs 2) ns' → (l : Line) (p : PortRecord) → PortIs t so.nodes l p → PortIs t ns' l p
    port_lift mid ns' one two l p x =
        record {
          name = x.name;
          from = number_both mid ns' one two (nth l.fields 1) _ x.from;
          to = number_both mid ns' one two (nth l.fields 2) _ x.to;
        }

    no_part : (PartLine t here → ⊥) → (ss : List Span) × Names t q' ss × (length ss ≡ length so.elements)
    no_part never = (h.names.0, records_same (PartLine t) (λ l s. s ≡ nth l.fields 0) (λ l s. s ≡ nth l.fields 0) (λ l x y. y) (λ s. s.place) h.names.0 h.names.1 never, h.names.2)

    same_kind : (k : LineKind) → Stands t here k → k ≡ kd
    same_kind k st = stands_same t here k kd st stands

    -- a line that is passed over, or closes the listing
    skipped : (shut' : Bool) → (Carries kd → ⊥) → (shut' ≡ true → Closed t q') → (shut' ≡ false → Closed t q' → ⊥) → Sofar t q' (record { nodes = so.nodes; elements = so.elements; port = so.port; closed = shut' })
    skipped shut' never shut still =
        let part : PartLine t here → ⊥ = λ x. never (subst Carries (same_kind (Part x.0) x.1) tt) in
        let port : PortLine t here → ⊥ = λ x. never (subst Carries (same_kind Port x) tt) in
        record {
          top = onward.1;
          begins = begins_next;
          shut = shut;
          still = still;
          clean = clean_next;
          nodes = nodes_same never;
          elements = records_same (PartLine t) (ElementIs t so.nodes) (ElementIs t so.nodes) (λ l x y. y) (λ e. e.name.place) so.elements h.elements part;
          ports = records_same (PortLine t) (PortIs t so.nodes) (PortIs t so.nodes) (λ l x y. y) (λ p. p.name.place) (port_list so.port) h.ports port;
          names = no_part part;
        }

    passes : (kd ≡ Close → ⊥) → (Carries kd → ⊥) → Sofar t q' so
    passes open' never = skipped so.closed never shut_next (λ c. still_next c open')

    closes : kd ≡ Close → Sofar t q' (record { nodes = so.nodes; elements = so.elements; port = so.port; closed = true })
    closes is = skipped true (λ c. subst Carries is c) (λ _. shut_now is) (λ e. cc)

    adds : (e : Element) (ns' : List Node) → kd ≡ Part e.kind → 2 < length fs → e.name ≡ nth fs 0 → BothEnds t fs so.nodes ns' e.ends → Valued e.kind (bytes t (nth fs 3)) e.value.value → Sofar t q' (record { nodes = ns'; elements = so.elements ++ e ∷ []; port = so.port; closed = so.closed })
    adds e ns' is long named both value =
        let part : PartLine t here = (e.kind, subst (Stands t here) is stands) in
        let port : PortLine t here → ⊥ = λ x. cc (same_kind Port x) in
        let made : ElementIs t ns' here e = record { kind = part.1; name = named; from = both.3; to = both.4; value = value } in
        record {
          top = onward.1;
          begins = begins_next;
          shut = shut_next;
          still = λ c. still_next c (λ d. cc);
          clean = clean_next;
          nodes = nodes_both (subst Carries (sym is) tt) long both.0 ns' both.1 both.2;
          elements = records_more (PartLine t) (ElementIs t so.nodes) (ElementIs t ns') (element_lift both.0 ns' both.1 both.2) (λ e. e.name.place) so.elements h.elements (part_some t) (λ l x y. ap (λ s. s.place) y.name) e part made;
          ports = records_same (PortLine t) (PortIs t so.nodes) (PortIs t ns') (port_lift both.0 ns' both.1 both.2) (λ p. p.name.place) (port_list so.port) h.ports port;
          names = (
            h.names.0 ++ nth fs 0 ∷ [],
            records_more (PartLine t) (λ l s. s ≡ nth l.fields 0) (λ l s. s ≡ nth l.fields 0) (λ l x y. y) (λ s. s.place) h.names.0 h.names.1 (part_some t) (λ l x y. ap (λ (s : Span). s.place) y) (nth fs 0) part refl,
            omega (arith, length_push h.names.0 (nth fs 0), length_push so.elements e, h.names.2),
          );
        }

    opens : (p : PortRecord) (ns' : List Node) → kd ≡ Port → 2 < length fs → p.name ≡ nth fs 0 → BothEnds t fs so.nodes ns' p.ends → (is_some so.port ≡ true → ⊥) → Sofar t q' (record { nodes = ns'; elements = so.elements; port = Some p; closed = so.closed })
    opens p ns' is long named both only =
        let port : PortLine t here = subst (Stands t here) is stands in
        let part : PartLine t here → ⊥ = λ x. cc (same_kind (Part x.0) x.1) in
        let made : PortIs t ns' here p = record { name = named; from = both.3; to = both.4 } in
        record {
          top = onward.1;
          begins = begins_next;
          shut = shut_next;
          still = λ c. still_next c (λ d. cc);
          clean = clean_next;
          nodes = nodes_both (subst Carries (sym is) tt) long both.0 ns' both.1 both.2;
          elements = records_same (PartLine t) (ElementIs t so.nodes) (ElementIs t ns') (element_lift both.0 ns' both.1 both.2) (λ e. e.name.place) so.elements h.elements part;
          ports = subst (λ ps. Ports t q' ns' (ps ++ p ∷ [])) (none_yet so.port only) (records_more (PortLine t) (PortIs t so.nodes) (PortIs t ns') (port_lift both.0 ns' both.1 both.2) (λ p. p.name.place) (port_list so.port) h.ports (port_some t) (λ l x y. ap (λ s. s.place) y.name) p port made);
          names = no_part part;
        }

    wide : width kd ≤ length fs
    wide = ⊎_elim (λ l. absurd (none b Shape (inl (inr (inr (inl (refl, (l, refl)))))))) (λ l. l) (cases_lt (length fs) (width kd))

    -- there is no port yet
    no_port : kd ≡ Port → is_some so.port ≡ true → ⊥
    no_port is e =
        let some : 3 ≤ length fs = subst (λ d. width d ≤ length fs) is wide in
        none (nth fs 0).place Twice (inl (inr (inr (inr (refl, (omega arith, subst (λ d. NameRule d (Among (λ e. e.name) t so.elements (bytes t (nth fs 0))) (most_elements ≤ length so.elements) (is_some so.port ≡ true) Twice) (sym is) (e, refl)))))))

    -- what the line adds is what the text holds up to the next line
    pub step : (y : Reading) → Taken t fs kd so y → Sofar t q' y
    step y = by kd refl
      where
        by : (k : LineKind) → k ≡ kd → Taken t fs k so y → Sofar t q' y
        by Passed e w = subst (Sofar t q') (sym w) (passes (λ d. cc) (λ c. subst Carries (sym e) c))
        by (Part s) e w =
            let is : kd ≡ Part w.0.kind = sym e ∙ ap Part (sym w.2) in
            let some : 4 ≤ length fs = subst (λ d. width d ≤ length fs) (sym e) wide in
            subst (Sofar t q') (sym w.5) (adds w.0 y.nodes is (omega arith) w.1 w.3 (subst (λ c. Valued c (bytes t (nth fs 3)) w.0.value.value) (sym w.2) w.4))
        by Port e w =
            let some : 3 ≤ length fs = subst (λ d. width d ≤ length fs) (sym e) wide in
            subst (Sofar t q') (sym w.3) (opens w.0 y.nodes (sym e) (omega arith) w.1 w.2 (no_port (sym e)))
        by Close e w = subst (Sofar t q') (sym w) (closes (sym e))
        by Strange e w = subst (Sofar t q') (sym w) (passes (λ d. cc) (λ c. subst Carries (sym e) c))
