-- What one line says, from the answers on its parts.
use Rattle.std.proofs.Common.{◌≡◌, ℕ, ◌<◌, ◌≤◌, true, ◌⊎◌, List, [], ◌∷◌, ◌++◌, length, take, is_some, is_ok, Some, None, Ok, Err, Option, Result, sym, refl, ◌∙◌, subst, inl, inr, ⊎_elim, arith, take_all, MatchResult}
use Rattle.std.specs.Result.{result_err}
use Rattle.std.proofs.lemmas.Bool.{cases_lt}
use Rattle.std.proofs.lemmas.List.{length_push}
use Rattle.cut.specs.Cuts.{bytes, stop}
use Rattle.cut.specs.declared.Span.{Span}
use Rattle.values.specs.Values.{Valued}
use Rattle.values.specs.declared.counted.Value.{Value}
use Rattle.values.specs.declared.Kind.{Kind}
use Rattle.refusals.specs.declared.Rule.{Rule}
use Rattle.refusals.specs.declared.Rule.TheVariants.{Shape, Full}
use Rattle.refusals.specs.declared.Fault.{Fault}
use Rattle.reader.specs.declared.line.CutLine.{CutLine}
use Rattle.reader.specs.declared.reading.Reading.{Reading}
use Rattle.reader.specs.declared.LineKind.{LineKind}
use Rattle.reader.specs.declared.LineKind.TheVariants.{Passed, Part, Port, Close, Strange}
use Rattle.reader.specs.declared.Element.{Element}
use Rattle.reader.specs.declared.Ends.{Ends}
use Rattle.reader.specs.declared.Node.{Node}
use Rattle.reader.specs.Limits.{most_elements}
use Rattle.reader.specs.Lines.{nth, width, Carries}
use Rattle.reader.specs.Records.{Among, NumberIs}
use Rattle.reader.specs.Faults.{NameRule}
use Rattle.reader.specs.Inner.{Entered, CutInto, FaultOf, PlainFaultOf, ValueFaultOf, EndsFaultOf, BothEnds, EndsAre, ValueIs, Taken}
use Rattle.refusals.specs.Order.{Least, first_of}
use Rattle.reader.proofs.Parts.{same_part}
use Rattle.refusals.proofs.Leasts.{least_either}
use Rattle.reader.proofs.Few.{nth_few, few_least}

-- the fault of an answer, if it is one
pub err_least : {X : Type 0} (P : ℕ → Rule → Type 0) (A : X → Type 0) (r : Result X Fault) → MatchResult r (λ v. Least P None × A v) (λ f. Least P (Some f)) → Least P (result_err r)
err_least P A (Ok v) h = h.0
err_least P A (Err f) h = h

-- where there is no fault, the answer is none
pub ok_sure : {X : Type 0} (P Q : ℕ → Rule → Type 0) (A : X → Type 0) (r : Result X Fault) → MatchResult r (λ v. Least P None × A v) (λ f. Least P (Some f)) → ((p : ℕ) (x : Rule) → P p x → Q p x) → Least Q None → is_ok r ≡ true
ok_sure P Q A (Ok v) h to none = refl
ok_sure P Q A (Err f) h to none = absurd (none f.place f.rule (to _ _ h.0))

pub ok_says : {X : Type 0} (B A : X → Type 0) (C : Fault → Type 0) (r : Result X Fault) (v : X) → MatchResult r (λ v. B v × A v) C → r ≡ Ok v → A v
ok_says B A C r v h e = (subst (λ x. MatchResult x (λ v. B v × A v) C) e h).1

-- where there is room, the answer says so
pub room_sure : {A E : Type 0} {m n : ℕ} (r : Result A E) → m < n → MatchResult r (λ _. m < n) (λ _. n ≤ m) → is_ok r ≡ true
room_sure (Ok v) l h = refl
room_sure (Err x) l h = absurd (omega arith)

-- a line with ends has more than two fields, if none is missing
two : (kd : LineKind) {n : ℕ} → Carries kd → width kd ≤ n → 2 < n
two Passed c l = absurd c
two (Part s) c l = omega arith
two Port c l = omega arith
two Close c l = absurd c
two Strange c l = absurd c

-- a line, and what the lines before it hold
module _ (l : CutLine) (so : Reading) where
  abbrev t : List ℕ
  t = l.text.now

  abbrev few : List Span
  few = l.fields.now

  -- the first fault is the first of those of the parts
  pub first_fault : (A : Option Value → Type 0) (B : Option Ends → Type 0) (p : Option Fault) (rv : Result (Option Value) Fault) (rx : Result (Option Ends) Fault)
      → Least (PlainFaultOf l so.elements (is_some so.port)) p → MatchResult rv (λ v. Least (ValueFaultOf l) None × A v) (λ f. Least (ValueFaultOf l) (Some f)) → MatchResult rx (λ v. Least (EndsFaultOf l so.nodes) None × B v) (λ f. Least (EndsFaultOf l so.nodes) (Some f))
      → Least (FaultOf l l.fields.now so) (first_of p (first_of (result_err rv) (result_err rx)))
  first_fault A B p rv rx hp hv hx = least_either (PlainFaultOf l so.elements (is_some so.port)) (λ q r. ValueFaultOf l q r ⊎ EndsFaultOf l so.nodes q r) p _ hp (least_either (ValueFaultOf l) (EndsFaultOf l so.nodes) _ _ (err_least (ValueFaultOf l) A rv hv) (err_least (EndsFaultOf l so.nodes) B rx hx))

  -- the first five fields tell the first fault
  pub told : (fs : List Span) → CutInto l fs → (o : Option Fault) → Least (FaultOf l few so) o → Least (FaultOf l fs so) o
  told fs cut = few_least t l.span.place (stop l.span) few fs cut.0 cut.1 l.kind so

  module _ (none : Least (FaultOf l l.fields.now so) None) where
    pub wide : width l.kind ≤ length few
    wide = ⊎_elim (λ m. absurd (none (stop l.span) Shape (inl (inr (inr (inl (refl, (m, refl)))))))) (λ m. m) (cases_lt (length few) (width l.kind))

    pub value_sure : (A : Option Value → Type 0) (r : Result (Option Value) Fault) → MatchResult r (λ v. Least (ValueFaultOf l) None × A v) (λ f. Least (ValueFaultOf l) (Some f)) → is_ok r ≡ true
    value_sure A r h = ok_sure (ValueFaultOf l) (FaultOf l l.fields.now so) A r h (λ p x y. inr (inl y)) none

    pub ends_sure : (A : Option Ends → Type 0) (r : Result (Option Ends) Fault) → MatchResult r (λ v. Least (EndsFaultOf l so.nodes) None × A v) (λ f. Least (EndsFaultOf l so.nodes) (Some f)) → is_ok r ≡ true
    ends_sure A r h = ok_sure (EndsFaultOf l so.nodes) (FaultOf l l.fields.now so) A r h (λ p x y. inr (inr y)) none

    -- a line with two ends, or with a value, has them
    pub ends_there : (ns' : List Node) (o : Option Ends) → Carries l.kind → EndsAre l so.nodes ns' o → is_some o ≡ true
    ends_there ns' None c h = absurd (h.1 c (two l.kind c wide))
    ends_there ns' (Some x) c h = refl

    pub value_there : (s : Kind) (o : Option Value) → l.kind ≡ Part s → ValueIs l o → is_some o ≡ true
    value_there s None k h = absurd (h s k (let m : 4 ≤ length few = subst (λ d. width d ≤ length few) k wide in omega arith))
    value_there s (Some v) k h = refl

    -- there is room for one more element
    pub room_left : (s : Kind) → l.kind ≡ Part s → length so.elements < most_elements
    room_left s is =
        ⊎_elim (λ m. m)
        (λ m.
        let some : 4 ≤ length few = subst (λ d. width d ≤ length few) is wide in
        absurd (none (nth few 0).place Full (inl (inr (inr (inr (refl, (omega arith, subst (λ d. NameRule d (Among (λ e. e.name) t so.elements (bytes t (nth few 0))) (most_elements ≤ length so.elements) (is_some so.port ≡ true) Full) (sym is) (inr (m, refl))))))))))
        (cases_lt (length so.elements) most_elements)

    -- a line without ends enters no node
    pub nodes_kept : (ns' : List Node) (r : Result (Option Ends) Fault) → MatchResult r (λ v. Least (EndsFaultOf l so.nodes) None × EndsAre l so.nodes ns' v) (λ f. Least (EndsFaultOf l so.nodes) (Some f)) → (Carries l.kind → ⊥) → ns' ≡ so.nodes
    nodes_kept ns' (Ok None) h never = h.1.0 never
    nodes_kept ns' (Ok (Some x)) h never = absurd (never h.1.0)
    nodes_kept ns' (Err f) h never = absurd (none f.place f.rule (inr (inr h.0)))

    -- what the line adds, where fs are all its fields
    module _ (fs : List Span) (cut : CutInto l fs) where
      same : (k : ℕ) → k < 5 → nth few k ≡ nth fs k
      same = nth_few t l.span.place (stop l.span) few fs cut.0 cut.1

      both_ends : (ns' : List Node) (x : Ends) → EndsAre l so.nodes ns' (Some x) → BothEnds t fs so.nodes ns' x
      both_ends ns' x h =
          let F : Span → Span → Type 0 = λ f g. (mid : List Node) × Entered t so.nodes f mid × Entered t mid g ns' × NumberIs t ns' f x.from.index × NumberIs t ns' g x.to.index in
          subst (λ f. F f (nth fs 2)) (same 1 (omega arith)) (subst (λ g. F (nth few 1) g) (same 2 (omega arith)) h.1)

      pub part_taken : (s : Kind) (y : Reading) (x : Ends) (v : Value) → l.kind ≡ Part s → EndsAre l so.nodes y.nodes (Some x) → ValueIs l (Some v)
          → y.elements ≡ take most_elements (so.elements ++ record { name = nth few 0; kind = s; ends = x; value = v } ∷ []) → y.port ≡ so.port → y.closed ≡ so.closed → Taken t fs l.kind so y
      part_taken s y x v k he hv added port closed =
          let e : Element = record { name = nth few 0; kind = s; ends = x; value = v } in
          let more = added ∙ take_all most_elements (so.elements ++ e ∷ []) (omega (arith, length_push so.elements e, room_left s k)) in
          subst (λ d. Taken t fs d so y) (sym k) (
            e,
            same 0 (omega arith),
            refl,
            both_ends y.nodes x he,
            subst (λ f. Valued s (bytes t f) v.value) (same 3 (omega arith)) (subst (λ c. Valued c (bytes t (nth few 3)) v.value) (same_part l.kind hv.0 s hv.1 k) hv.2),
            λ i. record { nodes = y.nodes; elements = more i; port = port i; closed = closed i },
          )

      pub port_taken : (y : Reading) (x : Ends) → l.kind ≡ Port → EndsAre l so.nodes y.nodes (Some x)
          → y.elements ≡ so.elements → y.port ≡ Some (record { name = nth few 0; ends = x }) → y.closed ≡ so.closed → Taken t fs l.kind so y
      port_taken y x k he elements port closed =
          subst (λ d. Taken t fs d so y) (sym k) (
            record { name = nth few 0; ends = x },
            same 0 (omega arith),
            both_ends y.nodes x he,
            λ i. record { nodes = y.nodes; elements = elements i; port = port i; closed = closed i },
          )
