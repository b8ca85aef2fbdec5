-- A search in the table of scale factors.
use Rattle.std.proofs.Common.{◌≡◌, ℕ, ◌≤◌, Bool, true, false, ◌&&◌, eqb, ltb, leb, List, [], ◌∷◌, map, Some, None, Option, sym, refl, ap, ◌∙◌, ⊎_elim, arith}
use Rattle.std.specs.Char.{to_ascii_lowercase, is_ascii_digit}
use Rattle.std.specs.Str.{bytes_eq}
use Rattle.std.specs.List.{prefix_len}
use Rattle.std.proofs.lemmas.Bool.{and_parts, and_right, cond-true, cond-false, cases_Bool}
use Rattle.std.proofs.lemmas.Bool.Decides.{nat_tests}
use Rattle.values.specs.declared.Kind.{Kind}
use Rattle.values.specs.Values.{Row, factors, is_same_kind, fits_row, looked}

-- A row that no word with a digit in front can fit, and whose factor is small: a test that is computed over the whole table.
abbrev pub plain : List ℕ → Bool
plain [] = true
plain (c ∷ cs) = ltb 57 (to_ascii_lowercase c)

abbrev pub sound : List Row → Bool
sound [] = true
sound (r ∷ rows) = (plain r.1 && leb r.2 1000000000000) && sound rows

pub table_sound : sound factors ≡ true
table_sound = refl

letters_no : (ds cs : List ℕ) (c : ℕ) → plain ds ≡ true → is_ascii_digit c ≡ true → bytes_eq (map to_ascii_lowercase (c ∷ cs)) (map to_ascii_lowercase ds) ≡ false
letters_no [] cs c p d = refl
letters_no (x ∷ ds) cs c p d =
    let e : eqb (to_ascii_lowercase c) (to_ascii_lowercase x) ≡ false = grind (arith, nat_tests) in
    ap (λ b. b && bytes_eq (map to_ascii_lowercase cs) (map to_ascii_lowercase ds)) e

pub digit_no : (rows : List Row) (s : Kind) (c : ℕ) (cs : List ℕ) → sound rows ≡ true → is_ascii_digit c ≡ true → looked rows s (c ∷ cs) ≡ None
digit_no [] s c cs h d = refl
digit_no (r ∷ rows) s c cs h d =
    let p = and_parts (plain r.1 && leb r.2 1000000000000) _ h in
    let f : fits_row r s (c ∷ cs) ≡ false = and_right (is_same_kind r.0 s) _ (letters_no r.1 cs c (and_parts (plain r.1) _ p.0).0 d) in
    cond-false (fits_row r s (c ∷ cs)) _ _ f ∙ digit_no rows s c cs p.1 d

-- no factor of the table is larger
pub looked_small : (rows : List Row) (s : Kind) (bs : List ℕ) (n : ℕ) → sound rows ≡ true → looked rows s bs ≡ Some n → n ≤ 1000000000000
looked_small [] s bs n h e = let z : ◌≡◌ {A = ℕ} 0 1 = cc in absurd (omega arith)
looked_small (r ∷ rows) s bs n h e =
    let p = and_parts (plain r.1 && leb r.2 1000000000000) _ h in
    ⊎_elim
    (λ f.
    let small = (and_parts (plain r.1) _ p.0).1 in
    let same : ◌≡◌ {A = Option ℕ} (Some r.2) (Some n) = sym (cond-true (fits_row r s bs) _ _ f) ∙ e in
    let is : r.2 ≡ n = cc in
    grind (arith, nat_tests))
    (λ f. looked_small rows s bs n p.1 (sym (cond-false (fits_row r s bs) _ _ f) ∙ e))
    (cases_Bool (fits_row r s bs))

-- what has a scale factor has no digit in front
pub factor_stops : (s : Kind) (bs : List ℕ) (n : ℕ) → looked factors s bs ≡ Some n → prefix_len is_ascii_digit bs ≡ 0
factor_stops s [] n e = refl
factor_stops s (c ∷ cs) n e =
    ⊎_elim
    (λ d. let no = digit_no factors s c cs table_sound d in let z : ◌≡◌ {A = ℕ} 0 1 = cc in absurd (omega arith))
    (λ d. cond-false (is_ascii_digit c) _ _ d)
    (cases_Bool (is_ascii_digit c))
