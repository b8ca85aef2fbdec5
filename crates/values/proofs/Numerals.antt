-- A word has one value at most.
use Rattle.std.proofs.Common.{◌≡◌, ℕ, zero, suc, ◌+◌, ◌-◌, ◌*◌, ◌^◌, ◌<◌, ◌≤◌, true, ◌⊎◌, List, [], ◌∷◌, ◌++◌, length, get_or, take, drop, Some, None, Option, sym, refl, ap, ◌∙◌, subst, ⊎_elim, pow-suc, add-one, arith, take-append-drop, length-take-le, get_or-take}
use native.Mathlib.Nat.{pow-le-pow_right}
use lib.Seq.{take-append_seam, drop-append_seam}
use Rattle.std.specs.Char.{is_ascii_digit}
use Rattle.std.specs.List.{prefix_len}
use Rattle.std.proofs.lemmas.Bool.{cond-true, cond-false, cases_Bool}
use Rattle.std.proofs.lemmas.List.Sums.{fold_more}
use Rattle.std.proofs.lemmas.Bool.Decides.{nat_tests}
use Rattle.values.specs.declared.Kind.{Kind}
use Rattle.values.specs.declared.Wrong.{Wrong}
use Rattle.values.specs.declared.Wrong.TheVariants.{Form, Range}
use Rattle.values.specs.Limits.{InRange}
use Rattle.values.specs.Values.{decimal, factors, looked, Valued, ValueFault}
use Rattle.values.proofs.Tables.{factor_stops}

pub digit_range : (c : ℕ) → is_ascii_digit c ≡ true → (48 ≤ c) × (c ≤ 57)
digit_range c h = (grind (arith, nat_tests), grind (arith, nat_tests))

pub ten_more : (n i d : ℕ) → n < 10 ^ i → d < 10 → n * 10 + d < 10 ^ (i + 1)
ten_more n i d h l = rw (add-one, pow-suc) (omega arith)

pub six_digits : (n i : ℕ) → i ≤ 6 → n < 10 ^ i → n < 1000000
six_digits n i l h = let z : 0 < 10 = omega arith in let m : 10 ^ i ≤ 10 ^ 6 = pow-le-pow_right z l in omega arith

-- the number of the first i digits is below the i-th power of ten
pub decimal_below : (ds : List ℕ) (i : ℕ) → i ≤ length ds → ((k : ℕ) → k < length ds → is_ascii_digit (get_or ds k 0) ≡ true) → decimal (take i ds) < 10 ^ i
decimal_below ds zero l h = omega arith
decimal_below ds (suc i) l h =
    let r = digit_range (get_or ds i 0) (h i (omega arith)) in
    let e : decimal (take (i + 1) ds) ≡ decimal (take i ds) * 10 + (get_or ds i 0 - 48) = fold_more (λ n b. n * 10 + (b - 48)) 0 ds i 0 (omega arith) in
    let m = ten_more (decimal (take i ds)) i (get_or ds i 0 - 48) (decimal_below ds i (omega arith) h) (omega (arith, r.0, r.1)) in
    subst (λ n. decimal (take n ds) < 10 ^ n) (add-one i) (subst (λ n. n < 10 ^ (i + 1)) (sym e) m)

pub leading_append : (ds ss : List ℕ) → ((k : ℕ) → k < length ds → is_ascii_digit (get_or ds k 0) ≡ true) → prefix_len is_ascii_digit ss ≡ 0 → prefix_len is_ascii_digit (ds ++ ss) ≡ length ds
leading_append [] ss h e = e
leading_append (d ∷ ds) ss h e =
    cond-true (is_ascii_digit d) _ _ (h 0 (omega arith)) ∙ (let r = leading_append ds ss (λ k l. h (suc k) (omega arith)) e in omega arith)

pub leading_each : (xs : List ℕ) (k : ℕ) → k < prefix_len is_ascii_digit xs → is_ascii_digit (get_or xs k 0) ≡ true
leading_each [] k l = absurd (omega arith)
leading_each (x ∷ xs) zero l = ⊎_elim (λ y. y) (λ y. let z = cond-false (is_ascii_digit x) (1 + prefix_len is_ascii_digit xs) 0 y in absurd (omega arith)) (cases_Bool (is_ascii_digit x))
leading_each (x ∷ xs) (suc k) l =
    ⊎_elim
    (λ y. let z = cond-true (is_ascii_digit x) (1 + prefix_len is_ascii_digit xs) 0 y in leading_each xs k (omega arith))
    (λ y. let z = cond-false (is_ascii_digit x) (1 + prefix_len is_ascii_digit xs) 0 y in absurd (omega arith))
    (cases_Bool (is_ascii_digit x))

abbrev pub many : List ℕ → ℕ
many bs = prefix_len is_ascii_digit bs

module _ (s : Kind) (bs : List ℕ) where
  -- the digits of a value are those at the front of the word
  pub front_is : (n : ℕ) → (h : Valued s bs n) → length h.front ≡ many bs
  front_is n h = sym (ap many h.split ∙ leading_append h.front h.back h.each (factor_stops s h.back h.factor h.scale))

  pub front_take : (n : ℕ) → (h : Valued s bs n) → h.front ≡ take (many bs) bs
  front_take n h =
      sym (ap (λ l. take (many bs) l) h.split ∙ ap (λ k. take k (h.front ++ h.back)) (sym (front_is n h)) ∙ take-append_seam h.front h.back)

  pub back_drop : (n : ℕ) → (h : Valued s bs n) → h.back ≡ drop (many bs) bs
  back_drop n h =
      sym (ap (λ l. drop (many bs) l) h.split ∙ ap (λ k. drop k (h.front ++ h.back)) (sym (front_is n h)) ∙ drop-append_seam h.front h.back)

  -- a word has one value
  pub valued_same : (m n : ℕ) → Valued s bs m → Valued s bs n → m ≡ n
  valued_same m n x y =
      let d : decimal x.front ≡ decimal y.front = ap decimal (front_take m x ∙ sym (front_take n y)) in
      let e : ◌≡◌ {A = Option ℕ} (Some x.factor) (Some y.factor) = sym x.scale ∙ ap (looked factors s) (back_drop m x ∙ sym (back_drop n y)) ∙ y.scale in
      let f : x.factor ≡ y.factor = cc in
      x.count ∙ (λ i. d i * f i) ∙ sym y.count

  -- a word has one value or one fault
  pub fault_only : (a b : Wrong) → ValueFault s bs a → ValueFault s bs b → b ≡ a
  fault_only Form Form x y = refl
  fault_only Form Range x y = absurd (x y.0 y.1)
  fault_only Range Form x y = absurd (y x.0 x.1)
  fault_only Range Range x y = refl

  pub value_fine : (n : ℕ) → Valued s bs n → InRange n → (w : Wrong) → ValueFault s bs w → ⊥
  value_fine n h l Form x = x n h
  value_fine n h l Range x = x.2 (subst InRange (valued_same n x.0 h x.1) l)

  -- what the digits and the scale factor of a word make
  pub made_by : (front back : List ℕ) (n d f : ℕ) → n ≡ many bs → 0 < n → n ≤ 6 → n ≤ length bs → front ≡ take n bs → back ≡ drop n bs → d ≡ decimal front → Some f ≡ looked factors s back → Valued s bs (d * f)
  made_by front back n d f e some few within' x y count scale =
      let k = length-take-le n bs within' in
      let l : length front ≡ n = ap length x ∙ k in
      record {
        front = front;
        back = back;
        factor = f;
        split = sym ((λ i. x i ++ y i) ∙ take-append-drop n bs);
        some = omega (arith, l);
        few = omega (arith, l);
        each = λ j m. ap (λ xs. is_ascii_digit (get_or xs j 0)) x ∙ ap is_ascii_digit (get_or-take n bs j 0 (omega (arith, l))) ∙ leading_each bs j (omega (arith, l, e));
        scale = sym scale;
        count = ap (λ v. v * f) count;
      }

  pub none_by_count : (n : ℕ) → n ≡ many bs → (n ≡ 0) ⊎ (6 < n) → (v : ℕ) → Valued s bs v → ⊥
  none_by_count n e which v h = let l = front_is v h in ⊎_elim (λ z. omega (arith, l, e, h.some)) (λ z. omega (arith, l, e, h.few)) which

  pub none_by_factor : (back : List ℕ) (n : ℕ) → n ≡ many bs → back ≡ drop n bs → None ≡ looked factors s back → (v : ℕ) → Valued s bs v → ⊥
  none_by_factor back n e b stops v h =
      let p : looked factors s back ≡ Some h.factor = ap (looked factors s) (b ∙ ap (λ m. drop m bs) e ∙ sym (back_drop v h)) ∙ h.scale in
      let z : ◌≡◌ {A = ℕ} 0 1 = cc in omega arith
