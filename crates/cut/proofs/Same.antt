-- A text has one way of being cut: the lines and the fields are determined.
use Rattle.std.proofs.Common.{◌≡◌, ℕ, zero, suc, ◌-◌, ◌<◌, ◌≤◌, List, [], ◌∷◌, length, get_or, sym, refl, subst, ⊎_elim, arith}
use Rattle.std.proofs.lemmas.Bool.{both_ways, cases_order, cases_lt}
use Rattle.std.specs.List.{AllByRecursion as All}
use Rattle.std.proofs.ByRecursion.{All-weaker, All-get_or}
use Rattle.cut.specs.declared.Span.{Span}
use Rattle.cut.specs.Cuts.{stop, LineTo, StartsLine, AllBlank, FieldAt, FieldsIn}

pub span_same : (f g : Span) → f.place ≡ g.place → f.len ≡ g.len → f ≡ g
span_same f g p q = λ i. record { place = p i; len = q i }

pub line_same : (t : List ℕ) (a b c : ℕ) → LineTo t a b → LineTo t a c → b ≡ c
line_same t a b c x y =
    ⊎_elim (λ e. e) (⊎_elim
    (λ l. absurd (y.clear b x.low l (x.closed (omega (arith, y.high)))))
    (λ l. absurd (x.clear c y.low l (y.closed (omega (arith, x.high))))))
    (cases_order b c)

start_not_before : (t : List ℕ) (p b : ℕ) (f g : Span) → FieldAt t p b f → FieldAt t p b g → f.place < g.place → ⊥
start_not_before t p b f g x y l = both_ways _ (x.solid f.place (omega arith) x.some) (y.gap f.place x.after l)

end_not_before : (t : List ℕ) (p b : ℕ) (f g : Span) → FieldAt t p b f → FieldAt t p b g → f.place ≡ g.place → stop f < stop g → ⊥
end_not_before t p b f g x y e l = both_ways _ (y.solid (stop f) (omega (arith, x.some)) l) (x.stops (omega (arith, y.high)))

pub field_same : (t : List ℕ) (p b : ℕ) (f g : Span) → FieldAt t p b f → FieldAt t p b g → f ≡ g
field_same t p b f g x y =
    let s : f.place ≡ g.place = ⊎_elim (λ e. e) (⊎_elim (λ l. absurd (start_not_before t p b f g x y l)) (λ l. absurd (start_not_before t p b g f y x l))) (cases_order f.place g.place) in
    let e : stop f ≡ stop g = ⊎_elim (λ e. e) (⊎_elim (λ l. absurd (end_not_before t p b f g x y s l)) (λ l. absurd (end_not_before t p b g f y x (sym s) l))) (cases_order (stop f) (stop g)) in
    span_same f g s (omega (arith, s, e))

pub no_field : (t : List ℕ) (p b : ℕ) (f : Span) → AllBlank t p b → FieldAt t p b f → ⊥
no_field t p b f x y = both_ways _ (y.solid f.place (omega arith) y.some) (x f.place y.after (omega (arith, y.some, y.high)))

pub fields_same : (t : List ℕ) (p b : ℕ) (fs gs : List Span) → FieldsIn t p b fs → FieldsIn t p b gs → fs ≡ gs
fields_same t p b [] [] x y = refl
fields_same t p b [] (g ∷ gs) x y = absurd (no_field t p b g x y.0)
fields_same t p b (f ∷ fs) [] x y = absurd (no_field t p b f y x.0)
fields_same t p b (f ∷ fs) (g ∷ gs) x y =
    let e = field_same t p b f g x.0 y.0 in
    let more = fields_same t (stop f) b fs gs x.1 (subst (λ h. FieldsIn t (stop h) b gs) (sym e) y.1) in
    λ i. e i ∷ more i

-- a field lies between p and b
pub fields_between : (t : List ℕ) (p b : ℕ) (fs : List Span) → FieldsIn t p b fs → All (λ f. (p ≤ f.place) × (f.place < stop f) × (stop f ≤ b)) fs
fields_between t p b [] x = tt
fields_between t p b (f ∷ fs) x =
    ((x.0.after, x.0.some, x.0.high), All-weaker _ _ (λ g h. (omega (arith, x.0.after, x.0.some), h.1, h.2)) fs (fields_between t (stop f) b fs x.1))

-- another line starts only past the end of this one
pub line_apart : (t : List ℕ) (a b c : ℕ) → LineTo t a b → StartsLine t c → a < c → b < c
line_apart t a b c x y l =
    ⊎_elim (λ e. absurd (omega arith)) (λ z. ⊎_elim (λ m. m) (λ m. absurd (x.clear (c - 1) (omega arith) (omega arith) z.1)) (cases_lt b c)) y.1

-- fields stand in the order of their places
pub fields_ascend : (t : List ℕ) (p b : ℕ) (fs : List Span) (d : Span) (i j : ℕ) → FieldsIn t p b fs → i < j → j < length fs → stop (get_or fs i d) ≤ (get_or fs j d).place
fields_ascend t p b [] d i j x l m = absurd (omega arith)
fields_ascend t p b (f ∷ fs) d zero zero x l m = absurd (omega arith)
fields_ascend t p b (f ∷ fs) d zero (suc j) x l m = (All-get_or _ fs j d (omega arith) (fields_between t (stop f) b fs x.1)).0
fields_ascend t p b (f ∷ fs) d (suc i) zero x l m = absurd (omega arith)
fields_ascend t p b (f ∷ fs) d (suc i) (suc j) x l m = fields_ascend t (stop f) b fs d i j x.1 (omega arith) (omega arith)
