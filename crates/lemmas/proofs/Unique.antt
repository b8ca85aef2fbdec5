-- Two numbers without a common divisor are told by their ratio: if p / q = r / s, both in lowest terms, then p = r and q = s.
use mathlib.Core.Path.{◌≡◌, refl, sym, ap, ◌∙◌, subst}
use Prim.Native.Nat.{ℕ, zero, suc, ◌*◌, ◌+◌, ◌-◌, ◌%◌, ◌<◌, ◌≤◌, ◌∣◌}
use native.Mathlib.Nat.{dvd-add, dvd_refl, dvd_of_mod-eq-zero, mod-eq-zero_of_dvd, add-mul, mul-add, mul-pos, mul-le-mul_left, one-mul, le_refl}
use native.Mathlib.Omega.{arith}

-- no number but 1 divides both
abbrev Coprime : ℕ → ℕ → Type 0
Coprime a b = (k : ℕ) → a % k ≡ 0 → b % k ≡ 0 → k ≡ 1

data Order (p q : ℕ) : Type 0 where
  below : p < q → Order p q
  level : p ≡ q → Order p q
  beyond : q < p → Order p q

order : (p q : ℕ) → Order p q
order zero zero = level refl
order zero (suc q) = below (omega arith)
order (suc p) zero = beyond (omega arith)
order (suc p) (suc q) = elim (order p q) [ below h ↦ below (omega arith) | level h ↦ level (ap suc h) | beyond h ↦ beyond (omega arith) ]

-- what is coprime to itself is 1
self : (p : ℕ) → Coprime p p → p ≡ 1
self p c = c p (mod-eq-zero_of_dvd p (dvd_refl p)) (mod-eq-zero_of_dvd p (dvd_refl p))

-- the greater less the smaller stays coprime
less : (p q d : ℕ) → q ≡ p + d → Coprime p q → Coprime p d
less p q d e c k a b =
    let s : k ∣ p + d = dvd-add k (dvd_of_mod-eq-zero k a) (dvd_of_mod-eq-zero k b) in
    c k a (mod-eq-zero_of_dvd k (subst (λ (n : ℕ). k ∣ n) (sym e) s))

swap : (p q : ℕ) → Coprime p q → Coprime q p
swap p q c k a b = c k b a

-- p / q = r / s, with p < q: then r < s, and p / (q - p) = r / (s - r)
cut_down : (p q r s d : ℕ) → q ≡ p + d → 0 < d → 0 < r → p * s ≡ q * r → (r < s) × (p * (s - r) ≡ d * r)
cut_down p q r s d e d+ r+ h =
    let f : q * r ≡ p * r + d * r = ap (λ n. n * r) e ∙ add-mul p d r in
    let t : 0 < d * r = mul-pos d+ r+ in
    let n : s ≤ r → ⊥ = λ l. let m : p * s ≤ p * r = mul-le-mul_left p l in omega arith in
    let g : r < s = omega (arith, n) in
    let u : p * s ≡ p * r + p * (s - r) = ap (λ n. p * n) (let x : s ≡ r + (s - r) = omega arith in x) ∙ mul-add p r (s - r) in
    (g, omega arith)

abbrev Terms : ℕ → Type 0
Terms n = (p q r s : ℕ) → p + q ≤ n → 0 < p → 0 < q → 0 < r → 0 < s → Coprime p q → Coprime r s → p * s ≡ q * r → (p ≡ r) × (q ≡ s)

step : (n p q r s : ℕ) → Terms n → Order p q → p + q ≤ suc n → 0 < p → 0 < q → 0 < r → 0 < s → Coprime p q → Coprime r s → p * s ≡ q * r → (p ≡ r) × (q ≡ s)
step n p q r s I (level x) l p+ q+ r+ s+ c e h =
    let one : p ≡ 1 = self p (subst (λ (k : ℕ). Coprime p k) (sym x) c) in
    let o : q ≡ 1 = sym x ∙ one in
    let y : s ≡ r = sym (one-mul s) ∙ ap (λ k. k * s) (sym one) ∙ h ∙ ap (λ k. k * r) o ∙ one-mul r in
    let two : r ≡ 1 = self r (subst (λ (k : ℕ). Coprime r k) y e) in
    (one ∙ sym two, o ∙ sym two ∙ sym y)
step n p q r s I (below x) l p+ q+ r+ s+ c e h =
    let d = q - p in
    let z : q ≡ p + d = omega arith in
    let t = cut_down p q r s d z (omega arith) r+ h in
    let i = I p d r (s - r) (omega arith) p+ (omega arith) r+ (omega (arith, t.0)) (less p q d z c) (less r s (s - r) (omega (arith, t.0)) e) t.1 in
    (i.0, omega (arith, i.0, i.1, t.0))
step n p q r s I (beyond x) l p+ q+ r+ s+ c e h =
    let d = p - q in
    let z : p ≡ q + d = omega arith in
    let t = cut_down q p s r d z (omega arith) s+ (sym h) in
    let i = I d q (r - s) s (omega arith) (omega arith) q+ (omega (arith, t.0)) s+
    (swap q d (less q p d z (swap p q c))) (swap s (r - s) (less s r (r - s) (omega (arith, t.0)) (swap r s e))) (sym t.1) in
    (omega (arith, i.0, i.1, t.0), i.1)

terms : (n : ℕ) → Terms n
terms zero p q r s l p+ q+ r+ s+ c e h = absurd (omega arith)
terms (suc n) p q r s l p+ q+ r+ s+ c e h = step n p q r s (terms n) (order p q) l p+ q+ r+ s+ c e h

pub lowest_only : (p q r s : ℕ) → 0 < p → 0 < q → 0 < r → 0 < s → Coprime p q → Coprime r s → p * s ≡ q * r → (p ≡ r) × (q ≡ s)
lowest_only p q r s p+ q+ r+ s+ c e h = terms (p + q) p q r s (le_refl (p + q)) p+ q+ r+ s+ c e h
