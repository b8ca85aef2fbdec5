-- Waves and weights, and how an exact value is shortened to a wave: towards zero, so that no energy is made (Fettweis and Meerkötter 1975).
use Rattle.std.specs.Prelude.{ℕ, suc, ◌-◌, ◌*◌, ◌/◌, min, cond, ℤ, pos, negsuc, neg_ℤ, ◌==◌, unsigned_abs}

-- the largest size of a wave
abbrev pub largest_wave : ℕ
largest_wave = 262143

-- the largest weight of an element or a source
abbrev pub largest_weight : ℕ
largest_weight = 511

-- the most energy that one element holds or absorbs, and that one source offers
abbrev pub most_energy : ℕ
most_energy = largest_weight * (largest_wave * largest_wave)

abbrev pub sq : ℤ → ℕ
sq z = unsigned_abs z * unsigned_abs z

-- the wave nearest to a number
abbrev pub held : ℤ → ℤ
held (pos n) = pos (min n largest_wave)
held (negsuc n) = negsuc (min n (largest_wave - 1))

-- the size of the wave that a / d is shortened to
abbrev pub short_n : ℕ → ℕ → ℕ
short_n a d = min (a / d) largest_wave

-- the exact value z / d shortened: without its fraction, and held within the largest wave
abbrev pub short : ℤ → ℕ → ℤ
short (pos n) d = pos (short_n n d)
short (negsuc n) d = neg_ℤ (pos (short_n (suc n) d))

-- 1 if that is another value than z / d, else 0
abbrev pub cut : ℤ → ℕ → ℕ
cut z d = cond (short_n (unsigned_abs z) d * d == unsigned_abs z) 0 1

-- what the square loses by that, d * d times
abbrev pub lost : ℤ → ℕ → ℕ
lost z d = sq z - d * d * sq (short z d)
