-- The nodes that a line enters, and the faults of its ends.
use Rattle.std.proofs.Common.{◌≡◌, ℕ, ◌<◌, List, [], ◌∷◌, map, length, Some, None, sym, refl, ap, ◌∙◌, subst, inl, inr, ⊎_elim, arith}
use Rattle.std.specs.Char.{to_ascii_lowercase}
use Rattle.std.proofs.lemmas.List.{get_or_append_left, length_push}
use Rattle.cut.specs.Cuts.{bytes}
use Rattle.cut.specs.declared.Span.{Span}
use Rattle.names.specs.Alike.{Alike}
use Rattle.refusals.specs.declared.Rule.TheVariants.{Full}
use Rattle.reader.specs.declared.line.CutLine.{CutLine}
use Rattle.reader.specs.declared.Node.{Node}
use Rattle.reader.specs.declared.Ends.{Ends}
use Rattle.reader.specs.Lines.{nth, Carries}
use Rattle.reader.specs.Records.{NumberIs}
use Rattle.reader.specs.Inner.{Entered, Overfull, EndsFaultOf, EndsAre}
use Rattle.refusals.specs.Refusals.{number}
use Rattle.refusals.specs.Order.{Least}

module _ (t : List ℕ) (ns : List Node) (s : Span) where
  -- what is entered is determined
  pub entered_same : (a b : List Node) → Entered t ns s a → Entered t ns s b → a ≡ b
  entered_same a b x y =
      ⊎_elim
      (λ p. ⊎_elim (λ q. p.1 ∙ sym q.1) (λ q. absurd (q.0 p.0)) y)
      (λ p. ⊎_elim (λ q. absurd (p.0 q.0)) (λ q. p.1 ∙ sym q.1) y)
      x

  -- a node keeps its number
  pub number_later : (a : List Node) (s' : Span) (i : ℕ) → Entered t ns s a → NumberIs t ns s' i → NumberIs t a s' i
  number_later a s' i x h =
      let x₀ : Node = record { name = s } in
      ⊎_elim (λ p. subst (λ l. NumberIs t l s' i) (sym p.1) h)
      (λ p.
      subst (λ l. NumberIs t l s' i) (sym p.1) (
        omega (arith, length_push ns x₀, h.0),
        λ d. ap (λ n. map to_ascii_lowercase (bytes t n.name)) (get_or_append_left ns (x₀ ∷ []) d i h.0) ∙ h.1 d,
        λ k d low l y. h.2 k d low l (ap (λ n. map to_ascii_lowercase (bytes t n.name)) (sym (get_or_append_left ns (x₀ ∷ []) d k (omega (arith, h.0)))) ∙ y),
      ))
      x

-- the first end of a line is entered
module _ (l : CutLine) (ns mid : List Node) (there : 2 < length l.fields.now) (carries : Carries l.kind) (one : Entered l.text.now ns (nth l.fields.now 1) mid) (room₁ : Overfull l.text.now ns (nth l.fields.now 1) → ⊥) where
  pub ends_full : Overfull l.text.now mid (nth l.fields.now 2) → Least (EndsFaultOf l ns) (Some (record { place = (nth l.fields.now 2).place; rule = Full }))
  ends_full over = (
    (carries, inr (refl, there, inl ((mid, one, over), refl))),
    λ p r x.
        ⊎_elim (λ y. absurd (room₁ y.2))
        (λ y. (omega (arith, y.0), λ _. ⊎_elim (λ z. omega (arith, ap number z.1)) (λ z. omega (arith, ap number z.1)) y.2)) x.1,
  )

  -- and the second
  module _ (room₂ : Overfull l.text.now mid (nth l.fields.now 2) → ⊥) where
    pub ends_fine : (Alike (bytes l.text.now (nth l.fields.now 1)) (bytes l.text.now (nth l.fields.now 2)) → ⊥) → Least (EndsFaultOf l ns) None
    ends_fine other p r x =
        ⊎_elim (λ y. room₁ y.2)
        (λ y. ⊎_elim (λ z. room₂ (subst (λ m. Overfull l.text.now m (nth l.fields.now 2)) (entered_same l.text.now ns (nth l.fields.now 1) z.0.0 mid z.0.1 one) z.0.2)) (λ z. other z.0) y.2) x.1

    pub ends_are : (after : List Node) (e : Ends) → Entered l.text.now mid (nth l.fields.now 2) after → NumberIs l.text.now mid (nth l.fields.now 1) e.from.index → NumberIs l.text.now after (nth l.fields.now 2) e.to.index → EndsAre l ns after (Some e)
    ends_are after e two from to = (carries, (mid, one, two, number_later l.text.now mid (nth l.fields.now 2) after (nth l.fields.now 1) e.from.index two from, to))
