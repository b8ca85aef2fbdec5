-- The laws of a commutative ring for the integers, as far as lib.IntN lacks them; sizes and squares.
use mathlib.Core.Path.{◌≡◌, refl, sym, ap, ◌∙◌}
use Prim.Native.Nat.{ℕ, zero, suc, ◌*◌, ◌≤◌, ◌^◌}
use native.Mathlib.Nat.{mul-add, add-mul, mul_assoc, mul-le-mul}
use mir.Val.{SFits}
use mir.Syntax.{w64}
use native.Mathlib.Omega.{arith}
use borrow.Author.Differences.{up, down, same_in, product_is, sum_is_lem, ints}
use lib.IntN.{ℤ, pos, negsuc, neg_ℤ, nat_abs, ◌+ℤ◌, ◌*ℤ◌, +ℤ_assoc, +ℤ_comm, *ℤ_comm}

pub *ℤ-assoc : (a b c : ℤ) → a *ℤ b *ℤ c ≡ a *ℤ (b *ℤ c)
*ℤ-assoc a b c =
    let l = product_is (a *ℤ b) c in
    let m = product_is a b in
    let n = product_is b c in
    let r = product_is a (b *ℤ c) in
    same_in _ _ (simp (l.0, l.1, r.0, r.1, m.0, m.1, n.0, n.1, mul-add, add-mul, mul_assoc) (omega arith))

pub *ℤ-+ℤ : (a b c : ℤ) → a *ℤ (b +ℤ c) ≡ a *ℤ b +ℤ a *ℤ c
*ℤ-+ℤ a b c =
    let s = sum_is_lem b c in
    let u = simp mul-add at (ap (λ t. up a * t) s) in
    let d = simp mul-add at (ap (λ t. down a * t) s) in
    same_in _ _ (omega (arith, product_is a (b +ℤ c), product_is a b, product_is a c, sum_is_lem (a *ℤ b) (a *ℤ c)))

pub +ℤ-*ℤ : (a b c : ℤ) → (a +ℤ b) *ℤ c ≡ a *ℤ c +ℤ b *ℤ c
+ℤ-*ℤ a b c = *ℤ_comm (a +ℤ b) c ∙ *ℤ-+ℤ c a b ∙ ap (λ t. t +ℤ c *ℤ b) (*ℤ_comm c a) ∙ ap (λ t. a *ℤ c +ℤ t) (*ℤ_comm c b)

pub *ℤ-left : (a b c : ℤ) → a *ℤ (b *ℤ c) ≡ b *ℤ (a *ℤ c)
*ℤ-left a b c = sym (*ℤ-assoc a b c) ∙ ap (λ t. t *ℤ c) (*ℤ_comm a b) ∙ *ℤ-assoc b a c

pub +ℤ-left : (a b c : ℤ) → a +ℤ (b +ℤ c) ≡ b +ℤ (a +ℤ c)
+ℤ-left a b c = sym (+ℤ_assoc a b c) ∙ ap (λ t. t +ℤ c) (+ℤ_comm a b) ∙ +ℤ_assoc b a c

pub one-*ℤ : (a : ℤ) → pos 1 *ℤ a ≡ a
one-*ℤ a = omega (arith, ints)

pub pos_inj : (m n : ℕ) → pos m ≡ pos n → m ≡ n
pos_inj m n e = ap nat_abs e

pub pos_sq : (z : ℤ) → pos (nat_abs z * nat_abs z) ≡ z *ℤ z
pos_sq (pos n) = refl
pos_sq (negsuc n) = refl

pub nat_abs_neg : (m : ℕ) → nat_abs (neg_ℤ (pos m)) ≡ m
nat_abs_neg zero = refl
nat_abs_neg (suc m) = refl

pub nat_abs_mul : (a b : ℤ) → nat_abs (a *ℤ b) ≡ nat_abs a * nat_abs b
nat_abs_mul (pos a) (pos b) = refl
nat_abs_mul (pos a) (negsuc b) = nat_abs_neg (a * suc b)
nat_abs_mul (negsuc a) (pos b) = nat_abs_neg (suc a * b)
nat_abs_mul (negsuc a) (negsuc b) = refl

pub sfits_of : (z : ℤ) → nat_abs z ≤ 2 ^ 62 → SFits w64 z
sfits_of (pos n) h = record { sfits = omega arith }
sfits_of (negsuc n) h = record { sfits = omega arith }

pub nat_abs_neg_ℤ : (z : ℤ) → nat_abs (neg_ℤ z) ≡ nat_abs z
nat_abs_neg_ℤ (pos n) = nat_abs_neg n
nat_abs_neg_ℤ (negsuc n) = refl

pub product_most : (z : ℤ) (m : ℕ) (r : ℤ) (n : ℕ) → nat_abs z ≤ m → nat_abs r ≤ n → nat_abs (z *ℤ r) ≤ m * n
product_most z m r n h k = simp nat_abs_mul (mul-le-mul h k)
