-- The parts of a line's faults: its value, its name, its ends.
use Rattle.std.proofs.Common.{◌≡◌, ℕ, ◌<◌, List, [], ◌∷◌, ◌++◌, map, length, get_or, take, Some, None, sym, refl, ap, ◌∙◌, subst, inl, inr, ⊎_elim, arith, take_all}
use Rattle.std.specs.Char.{to_ascii_lowercase}
use Rattle.std.specs.List.{HoldsAt, AllWithin}
use Rattle.std.proofs.lemmas.List.{get_or_append_left, get_or_default, get_or_push, length_push}
use Rattle.cut.specs.Cuts.{bytes}
use Rattle.cut.specs.declared.Span.{Span}
use Rattle.names.specs.Alike.{Alike}
use Rattle.values.specs.Values.{Valued, ValueFault}
use Rattle.values.specs.declared.counted.Value.{Value}
use Rattle.values.specs.declared.Kind.{Kind}
use Rattle.values.specs.declared.Wrong.{Wrong}
use Rattle.values.proofs.Numerals.{value_fine, fault_only}
use Rattle.refusals.specs.declared.Rule.{Rule}
use Rattle.refusals.specs.declared.Rule.TheVariants.{Full}
use Rattle.reader.specs.declared.line.CutLine.{CutLine}
use Rattle.reader.specs.declared.LineKind.{LineKind}
use Rattle.reader.specs.declared.LineKind.TheVariants.{Part}
use Rattle.reader.specs.declared.Node.{Node}
use Rattle.reader.specs.Limits.{most_nodes}
use Rattle.reader.specs.Lines.{nth}
use Rattle.reader.specs.Records.{Among, NumberIs}
use Rattle.refusals.specs.Refusals.{rule_for}
use Rattle.reader.specs.Faults.{NameFault}
use Rattle.reader.specs.Inner.{Overfull, Entered, ValueFaultOf, ValueIs}
use Rattle.refusals.specs.Refusals.{number}
use Rattle.refusals.specs.Order.{Least}

pub same_part : (kd : LineKind) (s s' : Kind) → kd ≡ Part s → kd ≡ Part s' → s ≡ s'
same_part kd s s' a b = cc

module _ (l : CutLine) (s : Kind) (bs : List ℕ) (is : l.kind ≡ Part s) (e : bs ≡ bytes l.text.now (nth l.fields.now 3)) where
  pub value_right : (v : Value) → Valued s bs v.value → Least (ValueFaultOf l) None × ValueIs l (Some v)
  value_right v h =
      let h' = subst (λ b. Valued s b v.value) e h in (
        λ p r x. value_fine s (bytes l.text.now (nth l.fields.now 3)) v.value h' v.within x.1.1 (subst (λ c. ValueFault c (bytes l.text.now (nth l.fields.now 3)) x.1.1) (same_part l.kind x.1.0 s x.1.2 is) x.1.4),
        (s, is, h'),
      )

  pub value_wrong : (w : Wrong) (r : Rule) → 3 < length l.fields.now → r ≡ rule_for w → ValueFault s bs w → Least (ValueFaultOf l) (Some (record { place = (nth l.fields.now 3).place; rule = r }))
  value_wrong w r long re h =
      let h' = subst (λ b. ValueFault s b w) e h in (
        (refl, (s, w, is, long, h', re)),
        λ p r' x.
            let y = subst (λ c. ValueFault c (bytes l.text.now (nth l.fields.now 3)) x.1.1) (same_part l.kind x.1.0 s x.1.2 is) x.1.4 in
            let same = fault_only s (bytes l.text.now (nth l.fields.now 3)) w x.1.1 h' y in
            (omega (arith, x.0), λ _. omega (arith, ap number (x.1.5 ∙ ap rule_for same ∙ sym re))),
      )

module _ {X : Type 0} (name : X → Span) (t : List ℕ) (xs : List X) (bs bs' : List ℕ) (e : bs ≡ bs') where
  pub none_among : X → AllWithin (λ x. Alike (bytes t (name x)) bs → ⊥) xs 0 (length xs) → Among name t xs bs' → ⊥
  none_among d h x = h x.0 d (omega arith) x.1 (x.2 d ∙ ap (map to_ascii_lowercase) (sym e))

module _ (kd : LineKind) (fs : List Span) (s : Kind) (U F P : Type 0) (is : kd ≡ Part s) where
  pub name_full : 0 < length fs → (U → ⊥) → F → Least (NameFault kd fs U F P) (Some (record { place = (nth fs 0).place; rule = Full }))
  name_full l n f =
      subst (λ k. Least (NameFault k fs U F P) (Some (record { place = (nth fs 0).place; rule = Full }))) (sym is) (
        (refl, (l, inr (f, refl))),
        λ p r x. (omega (arith, x.0), λ _. ⊎_elim (λ y. absurd (n y.0)) (λ y. omega (arith, ap number y.1)) x.1.1),
      )

  pub name_none : (U → ⊥) → (F → ⊥) → Least (NameFault kd fs U F P) None
  name_none n m = subst (λ k. Least (NameFault k fs U F P) None) (sym is) (λ p r x. ⊎_elim (λ y. n y.0) (λ y. m y.0) x.1.1)

-- a name is found among the nodes, or is entered at their end
module _ (t : List ℕ) (ns : List Node) (s : Span) (xs : List Node) (bs : List ℕ) (same : xs ≡ ns) (e : bs ≡ bytes t s) where
  abbrev pub EnteredAs : List Node → ℕ → Type 0
  EnteredAs ns' i = Entered t ns s ns' × NumberIs t ns' s i × (Overfull t ns s → ⊥)

  abbrev pub First : List Node → List ℕ → ℕ → Type 0
  First ys cs i = (i < length ys) × HoldsAt (λ n. Alike (bytes t n.name) cs) ys i × AllWithin (λ n. Alike (bytes t n.name) cs → ⊥) ys 0 i

  pub enter_old : (i : ℕ) → First xs bs i → EnteredAs ns i
  enter_old i h =
      let h' = subst (λ cs. First ns cs i) e (subst (λ ys. First ys bs i) same h) in
      (inl ((i, h'.0, h'.1), refl), h', λ o. o.1 (i, h'.0, h'.1))

  pub no_node : AllWithin (λ n. Alike (bytes t n.name) bs → ⊥) xs 0 (length xs) → Among (λ n. n.name) t ns (bytes t s) → ⊥
  no_node h = none_among (λ n. n.name) t ns bs (bytes t s) e (record { name = s }) (subst (λ ys. AllWithin (λ n. Alike (bytes t n.name) bs → ⊥) ys 0 (length ys)) same h)

  pub enter_new : (ns' : List Node) (i : ℕ) → AllWithin (λ n. Alike (bytes t n.name) bs → ⊥) xs 0 (length xs) → length ns < most_nodes → ns' ≡ take most_nodes (ns ++ record { name = s } ∷ []) → i ≡ length ns → EnteredAs ns' i
  enter_new ns' i h l kept q =
      let p : ns' ≡ ns ++ record { name = s } ∷ [] = kept ∙ take_all most_nodes _ (omega (arith, length_push ns (record { name = s }))) in
      let n = no_node h in
      let x : Node = record { name = s } in
      let long = length_push ns x in
      let first : First (ns ++ x ∷ []) (bytes t s) i = (
        omega (arith, long, q),
        λ d. ap (λ m. map to_ascii_lowercase (bytes t m.name)) (get_or_push ns x d i (sym q)),
        λ k d low m a. n (k, omega (arith, q), λ d'. ap (λ m'. map to_ascii_lowercase (bytes t m'.name)) (get_same k d' d (omega (arith, q))) ∙ a),
      ) in
      (inr (n, p), subst (λ ys. First ys (bytes t s) i) (sym p) first, λ o. omega (arith, o.0))
    where
      get_same : (k : ℕ) (d' d : Node) → k < length ns → get_or ns k d' ≡ get_or (ns ++ record { name = s } ∷ []) k d
      get_same k d' d l = get_or_default ns k d' d l ∙ sym (get_or_append_left ns (record { name = s } ∷ []) d k l)
