-- A shortened wave is never larger than the exact one, and as large exactly if nothing was cut.
use Rattle.std.proofs.Common.{◌≡◌, ℕ, suc, ◌+◌, ◌*◌, ◌/◌, ◌<◌, ◌≤◌, min, ℤ, pos, negsuc, nat_abs, refl, ap, le_trans, le_refl, mul_assoc, mul_comm, mul-le-mul, mul-lt-mul_of_pos_right, div-mul-le_self, mul_left_comm, arith}
use Rattle.lemmas.proofs.Integers.{nat_abs_neg}
use Rattle.wave.specs.Numbers.{largest_wave, largest_weight, most_energy, sq, held, short_n, short, cut, lost}

-- ---- held waves
pub held_most : (f : ℤ) → nat_abs (held f) ≤ largest_wave
held_most (pos n) = omega arith
held_most (negsuc n) = omega arith

pub held_same : (f : ℤ) → nat_abs f ≤ largest_wave → held f ≡ f
held_same (pos n) h = ap pos (omega arith)
held_same (negsuc n) h = ap negsuc (omega arith)

-- a weight times a wave's square
pub energy_most : (w a : ℕ) → w ≤ largest_weight → a ≤ largest_wave → w * (a * a) ≤ most_energy
energy_most w a p q = mul-le-mul p (mul-le-mul q q)

-- ---- sizes
pub short_n_least : (a d : ℕ) → short_n a d * d ≤ a
short_n_least a d =
    let b : min (a / d) largest_wave ≤ a / d = omega arith in
    le_trans (mul-le-mul b (le_refl d)) (div-mul-le_self a d)

pub nat_abs_short : (z : ℤ) (d : ℕ) → nat_abs (short z d) ≡ short_n (nat_abs z) d
nat_abs_short (pos n) d = refl
nat_abs_short (negsuc n) d = nat_abs_neg (short_n (suc n) d)

pub short_most : (z : ℤ) (d : ℕ) → nat_abs (short z d) ≤ largest_wave
short_most z d = omega (arith, nat_abs_short z d)

-- d * d times the shortened wave's square
square_is : (z : ℤ) (d : ℕ) → d * d * sq (short z d) ≡ short_n (nat_abs z) d * d * (short_n (nat_abs z) d * d)
square_is z d = simp nat_abs_short (simp (mul_assoc, mul_comm, mul_left_comm))

square_inj : (a b : ℕ) → a ≤ b → a * a ≡ b * b → a ≡ b
square_inj a b h e = omega (arith, above) where
  above : ¬ (a < b)
  above l =
      let m : a * a ≤ a * b = mul-le-mul (le_refl a) h in
      let s : a * b < b * b = mul-lt-mul_of_pos_right l (omega arith) in
      omega arith

-- ---- energy: the square does not grow
pub lost_is : (z : ℤ) (d : ℕ) → sq z ≡ d * d * sq (short z d) + lost z d
lost_is z d =
    let k = short_n_least (nat_abs z) d in
    let l : short_n (nat_abs z) d * d * (short_n (nat_abs z) d * d) ≤ sq z = mul-le-mul k k in
    omega (arith, square_is z d)

-- ---- counts: nothing is lost exactly if nothing was cut
pub cut_most : (z : ℤ) (d : ℕ) → cut z d ≤ 1
cut_most z d = grind arith

exact_of : (a d : ℕ) (z : ℤ) → nat_abs z ≡ a → cut z d ≡ 0 → short_n a d * d ≡ a
exact_of a d z e h = grind arith

pub uncut_lost : (z : ℤ) (d : ℕ) → cut z d ≡ 0 → lost z d ≡ 0
uncut_lost z d h =
    let x = exact_of (nat_abs z) d z refl h in
    let y : short_n (nat_abs z) d * d * (short_n (nat_abs z) d * d) ≡ sq z = ap (λ t. t * t) x in
    omega (arith, square_is z d)

pub lost_uncut : (z : ℤ) (d : ℕ) → lost z d ≡ 0 → cut z d ≡ 0
lost_uncut z d h =
    let x : short_n (nat_abs z) d * d ≡ nat_abs z = square_inj _ _ (short_n_least (nat_abs z) d) (omega (arith, square_is z d, lost_is z d)) in
    grind arith
