-- The first five fields of a line tell its first fault.
use Rattle.std.proofs.Common.{◌≡◌, ℕ, ◌<◌, ◌≤◌, ◌⊎◌, List, [], ◌∷◌, length, get_or, take, true, is_some, Option, sym, refl, ap, ◌∙◌, subst, inl, inr, ⊎_elim, arith, length-take-le, take_all, get_or-take}
use Rattle.std.proofs.lemmas.Bool.{cases_lt}
use Rattle.std.proofs.ByRecursion.{All-get_or}
use Rattle.cut.specs.Cuts.{bytes, FieldsIn, stop}
use Rattle.cut.specs.declared.Span.{Span}
use Rattle.cut.proofs.Same.{fields_between, fields_ascend}
use Rattle.names.specs.Alike.{Alike}
use Rattle.values.specs.Values.{ValueFault}
use Rattle.values.specs.declared.Kind.{Kind}
use Rattle.values.specs.declared.Wrong.{Wrong}
use Rattle.refusals.specs.declared.Rule.{Rule}
use Rattle.refusals.specs.declared.Rule.TheVariants.{Shape, Full, Joined}
use Rattle.refusals.specs.declared.Fault.{Fault}
use Rattle.reader.specs.declared.LineKind.{LineKind}
use Rattle.reader.specs.declared.LineKind.TheVariants.{Passed, Part, Port, Close, Strange}
use Rattle.reader.specs.declared.Node.{Node}
use Rattle.reader.specs.declared.reading.Reading.{Reading}
use Rattle.reader.specs.Limits.{most_elements}
use Rattle.reader.specs.Lines.{nowhere, nth, kind_of_line, width, Carries}
use Rattle.reader.specs.Records.{Among}
use Rattle.refusals.specs.Refusals.{rule_for}
use Rattle.reader.specs.Faults.{FormFault, NameRule}
use Rattle.reader.specs.Inner.{Entered, Overfull, ReaderFault}
use Rattle.refusals.specs.Order.{NotBefore, Least}
use Rattle.refusals.proofs.Leasts.{least_cover, not_before_self}

pub nth_between : (t : List ℕ) (a b : ℕ) (fs : List Span) (k : ℕ) → FieldsIn t a b fs → k < length fs → (a ≤ (nth fs k).place) × ((nth fs k).place < stop (nth fs k)) × (stop (nth fs k) ≤ b)
nth_between t a b fs k h l = All-get_or _ fs k nowhere l (fields_between t a b fs h)

width_small : (kd : LineKind) → width kd ≤ 4
width_small Passed = omega arith
width_small (Part s) = omega arith
width_small Port = omega arith
width_small Close = omega arith
width_small Strange = omega arith

-- a fault of a field past the fifth is one of the fifth too
beyond : (t : List ℕ) (kd : LineKind) (k : ℕ) (f g : Span) (r : Rule) → 5 ≤ k → FormFault t kd k f r → FormFault t kd 4 g Shape
beyond t Passed k f g r l x = x
beyond t (Part s) k f g r l x = inr (omega arith, refl)
beyond t Port k f g r l x = inr (omega arith, refl)
beyond t Close k f g r l x = (omega arith, refl)
beyond t Strange k f g r l x = refl

kind_first : (t : List ℕ) (fs : List Span) → kind_of_line t (take 5 fs) ≡ kind_of_line t fs
kind_first t [] = refl
kind_first t (f ∷ fs) = refl

module _ (t : List ℕ) (a b : ℕ) (few fs : List Span) (cut : FieldsIn t a b fs) (e : few ≡ take 5 fs) where
  pub kind_few : kind_of_line t few ≡ kind_of_line t fs
  kind_few = ap (kind_of_line t) e ∙ kind_first t fs

  pub nth_few : (k : ℕ) → k < 5 → nth few k ≡ nth fs k
  nth_few k l = ap (λ xs. get_or xs k nowhere) e ∙ get_or-take 5 fs k nowhere l

  count_few : ((length few ≡ 5) × (5 ≤ length fs)) ⊎ ((length few ≡ length fs) × (length fs < 5))
  count_few = ⊎_elim (λ l. inr (ap length (e ∙ take_all 5 fs (omega arith)), l)) (λ l. inl (ap length e ∙ length-take-le 5 fs l, l)) (cases_lt (length fs) 5)

  pub long_few : (n : ℕ) → n < length few → n < length fs
  long_few n l = ⊎_elim (λ x. omega (arith, x.0, x.1)) (λ x. omega (arith, x.0)) count_few

  pub few_long : (n : ℕ) → n < 5 → n < length fs → n < length few
  few_long n m l = ⊎_elim (λ x. omega (arith, x.0, x.1)) (λ x. omega (arith, x.0)) count_few

  short_few : (n : ℕ) → n ≤ 4 → length few < n → length fs < n
  short_few n m l = ⊎_elim (λ x. absurd (omega (arith, x.0))) (λ x. omega (arith, x.0)) count_few

  few_short : (n : ℕ) → length fs < n → length few < n
  few_short n l = ⊎_elim (λ x. omega (arith, x.0, x.1)) (λ x. omega (arith, x.0)) count_few

  module _ (kd : LineKind) (so : Reading) where
    abbrev G : List Span → ℕ → Rule → Type 0
    G xs = ReaderFault t a b xs kd so

    same₀ : nth few 0 ≡ nth fs 0
    same₀ = nth_few 0 (omega arith)

    same₁ : nth few 1 ≡ nth fs 1
    same₁ = nth_few 1 (omega arith)

    same₂ : nth few 2 ≡ nth fs 2
    same₂ = nth_few 2 (omega arith)

    same₃ : nth few 3 ≡ nth fs 3
    same₃ = nth_few 3 (omega arith)

    abbrev NameAt : Span → ℕ → ℕ → Rule → Type 0
    NameAt f n p r = (p ≡ f.place) × ((0 < n) × NameRule kd (Among (λ e. e.name) t so.elements (bytes t f)) (most_elements ≤ length so.elements) (is_some so.port ≡ true) r)

    abbrev ValueAt : Span → ℕ → ℕ → Rule → Type 0
    ValueAt f n p r = (p ≡ f.place) × ((s : Kind) × (w : Wrong) × (kd ≡ Part s) × (3 < n) × ValueFault s (bytes t f) w × (r ≡ rule_for w))

    abbrev EndsAt : Span → Span → ℕ → ℕ → Rule → Type 0
    EndsAt f g n p r =
        Carries kd × (((p ≡ f.place) × (1 < n) × Overfull t so.nodes f × (r ≡ Full))
        ⊎ ((p ≡ g.place) × (2 < n) × ((((mid : List Node) × Entered t so.nodes f mid × Overfull t mid g) × (r ≡ Full)) ⊎ (Alike (bytes t f) (bytes t g) × (r ≡ Joined)))))

    name_length : (f : Span) (m n p : ℕ) (r : Rule) → (0 < m → 0 < n) → NameAt f m p r → NameAt f n p r
    name_length f m n p r l x = (x.0, (l x.1.0, x.1.1))

    value_length : (f : Span) (m n p : ℕ) (r : Rule) → (3 < m → 3 < n) → ValueAt f m p r → ValueAt f n p r
    value_length f m n p r l x = (x.0, (x.1.0, x.1.1, x.1.2, l x.1.3, x.1.4, x.1.5))

    ends_length : (f g : Span) (m n p : ℕ) (r : Rule) → (1 < m → 1 < n) → (2 < m → 2 < n) → EndsAt f g m p r → EndsAt f g n p r
    ends_length f g m n p r l k x = (x.0, ⊎_elim (λ y. inl (y.0, l y.1, y.2, y.3)) (λ y. inr (y.0, k y.1, y.2)) x.1)

    few_to : (p : ℕ) (r : Rule) → G few p r → G fs p r
    few_to p r =
        ⊎_elim
        (⊎_elim (λ x. inl (inl x))
        (⊎_elim
        (λ x.
        let k5 : x.0 < 5 = ⊎_elim (λ y. omega (arith, y.0, x.1)) (λ y. omega (arith, y.0, y.1, x.1)) count_few in
        let y = subst (λ f. (p ≡ f.place) × FormFault t kd x.0 f r) (nth_few x.0 k5) x.2 in
        inl (inr (inl (x.0, long_few x.0 x.1, y))))
        (⊎_elim
        (λ x. inl (inr (inr (inl (x.0, (short_few (width kd) (width_small kd) x.1.0, x.1.1))))))
        (λ x. inl (inr (inr (inr (name_length (nth fs 0) (length few) (length fs) p r (long_few 0) (subst (λ f. NameAt f (length few) p r) same₀ x)))))))))
        (⊎_elim
        (λ x. inr (inl (value_length (nth fs 3) (length few) (length fs) p r (long_few 3) (subst (λ f. ValueAt f (length few) p r) same₃ x))))
        (λ x.
        inr (inr (ends_length (nth fs 1) (nth fs 2) (length few) (length fs) p r (long_few 1) (long_few 2)
        (subst (λ f. EndsAt f (nth fs 2) (length few) p r) same₁ (subst (λ g. EndsAt (nth few 1) g (length few) p r) same₂ x))))))

    -- a fault that the first five fields have too
    kept : (p : ℕ) (r : Rule) → G few p r → (f : Fault) × G few f.place f.rule × NotBefore f p r
    kept p r x = (record { place = p; rule = r }, x, not_before_self p r)

    few_back : (p : ℕ) (r : Rule) → G fs p r → (f : Fault) × G few f.place f.rule × NotBefore f p r
    few_back p r =
        ⊎_elim
        (⊎_elim (λ x. kept p r (inl (inl x)))
        (⊎_elim
        (λ x.
        ⊎_elim
        (λ k5.
        let y = subst (λ f. (p ≡ f.place) × FormFault t kd x.0 f r) (sym (nth_few x.0 k5)) x.2 in
        kept p r (inl (inr (inl (x.0, few_long x.0 k5 x.1, y)))))
        (λ k5.
        let l : 4 < length few = few_long 4 (omega arith) (omega (arith, x.1)) in
        let u = fields_ascend t a b fs nowhere 4 x.0 cut (omega arith) x.1 in
        let v = nth_between t a b fs 4 cut (omega (arith, x.1)) in
        let w = ap (λ (f : Span). f.place) (nth_few 4 (omega arith)) in (
          record { place = (nth few 4).place; rule = Shape },
          inl (inr (inl (4, l, (refl, beyond t kd x.0 (nth fs x.0) (nth few 4) r k5 x.2.1)))),
          (omega (arith, u, v.1, w, x.2.0), λ same. absurd (omega (arith, u, v.1, w, x.2.0))),
        ))
        (cases_lt x.0 5))
        (⊎_elim
        (λ x. kept p r (inl (inr (inr (inl (x.0, (few_short (width kd) x.1.0, x.1.1)))))))
        (λ x. kept p r (inl (inr (inr (inr (subst (λ f. NameAt f (length few) p r) (sym same₀) (name_length (nth fs 0) (length fs) (length few) p r (few_long 0 (omega arith)) x))))))))))
        (⊎_elim
        (λ x. kept p r (inr (inl (subst (λ f. ValueAt f (length few) p r) (sym same₃) (value_length (nth fs 3) (length fs) (length few) p r (few_long 3 (omega arith)) x)))))
        (λ x.
        kept p r (inr (inr (subst (λ f. EndsAt f (nth few 2) (length few) p r) (sym same₁) (subst (λ g. EndsAt (nth fs 1) g (length few) p r) (sym same₂)
        (ends_length (nth fs 1) (nth fs 2) (length fs) (length few) p r (few_long 1 (omega arith)) (few_long 2 (omega arith)) x)))))))

    pub few_least : (o : Option Fault) → Least (G few) o → Least (G fs) o
    few_least o h = least_cover (G few) (G fs) few_to few_back o h
