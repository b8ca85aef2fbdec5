-- Euclid's way to the greatest common divisor, and lowest terms.
use Rattle.std.proofs.Common.{◌≡◌, ℕ, zero, suc, ◌*◌, ◌/◌, ◌%◌, ◌<◌, sym, refl, ap, ◌∙◌, subst, mod-eq_of_lt, mul_comm, mul-zero, mul-one, mul_left_comm, arith}
use Prim.Native.Nat.{◌∣◌}
use native.Mathlib.Nat.{dvd_of_mod-eq-zero, mul-dvd-mul_left, mul-div_cancel', dvd_of_mul-dvd-mul_left, eq-one_of_dvd-one, eq_of_mul-eq-mul_left, mod-zero}
use Rattle.std.specs.Int.{IsGcd}
use Rattle.std.proofs.lemmas.Nat.Gcd.{same_from_IsGcd}
use Rattle.wave.specs.Terms.{Coprime, Gcd, Reduced, Only}

pub coprime_one : (n : ℕ) → Coprime n 1
coprime_one n zero a b = absurd (omega (arith, mod-zero 1))
coprime_one n (suc zero) a b = refl
coprime_one n (suc (suc j)) a b = absurd (let e : 1 % (suc (suc j)) ≡ 1 = mod-eq_of_lt (omega arith) in omega arith)

pub gcd_of : (a b g : ℕ) → 0 < g → IsGcd a b g → Gcd a b g
gcd_of a b g h d = record { above = h; left = d.0; right = d.1; most = d.2 }

part_above : (g p a : ℕ) → g * p ≡ a → 0 < a → 0 < p
part_above g zero a e h = absurd (let z = mul-zero g in omega arith)
part_above g (suc p) a e h = omega arith

-- ---- what divides a and b leaves
module _ (a b g : ℕ) (G : Gcd a b g) where
  pub reduced : Reduced a b (a / g) (b / g)
  reduced = record { by = g; gcd = G; left = mul-div_cancel' g G.left; right = mul-div_cancel' g G.right }

  pub above : 0 < a → 0 < b → (0 < a / g) × (0 < b / g)
  unfolding reduced
  above h k = (part_above g _ a reduced.left h, part_above g _ b reduced.right k)

  pub coprime : Coprime (a / g) (b / g)
  unfolding reduced
  coprime k u w =
      let x : g * k ∣ a = subst (λ (n : ℕ). g * k ∣ n) reduced.left (mul-dvd-mul_left k g (dvd_of_mod-eq-zero k u)) in
      let y : g * k ∣ b = subst (λ (n : ℕ). g * k ∣ n) reduced.right (mul-dvd-mul_left k g (dvd_of_mod-eq-zero k w)) in
      let z : g * k ∣ g * 1 = subst (λ (n : ℕ). g * k ∣ n) (sym (mul-one g)) (G.most (g * k) x y) in
      eq-one_of_dvd-one (dvd_of_mul-dvd-mul_left k G.above z)

pub crossed : {a b p q : ℕ} → Reduced a b p q → p * b ≡ q * a
crossed {a} {b} {p} {q} r =
    let c : p * (r.by * q) ≡ q * (r.by * p) = simp (mul_comm, mul_left_comm) in
    ap (λ n. p * n) (sym r.right) ∙ c ∙ ap (λ n. q * n) r.left

-- ---- lowest terms are unique
pub reduced_only : (a b p q : ℕ) → Reduced a b p q → Only a b p q
reduced_only a b p q r x y s =
    let e = same_from_IsGcd a b s.by r.by (s.gcd.left, s.gcd.right, s.gcd.most) (r.gcd.left, r.gcd.right, r.gcd.most) in (
      eq_of_mul-eq-mul_left r.by r.gcd.above x p (ap (λ n. n * x) (sym e) ∙ s.left ∙ sym r.left),
      eq_of_mul-eq-mul_left r.by r.gcd.above y q (ap (λ n. n * y) (sym e) ∙ s.right ∙ sym r.right),
    )
