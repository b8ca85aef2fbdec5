-- Samples: signed numbers of 16 bits, the low byte first. A sample is fed as a wave of four times its size, and a heard wave is written as a sample
-- of a quarter of its size.
use Rattle.std.specs.Prelude.{cond, List, [], ◌∷◌, ℕ, suc, ◌+◌, ◌-◌, ◌*◌, ◌/◌, ◌%◌, min, ltb, ℤ, pos, negsuc, neg_ℤ, ◌*ℤ◌}

abbrev pub sample_scale : ℕ
sample_scale = 4

-- 16 bits as a signed number
abbrev pub signed16 : ℕ → ℤ
signed16 v = cond (ltb v 32768) (pos v) (negsuc (65535 - v))

-- and back
abbrev pub bits16 : ℤ → ℕ
bits16 (pos n) = n
bits16 (negsuc n) = 65535 - n

-- what is fed
abbrev pub sample_wave : ℕ → ℕ → ℤ
sample_wave low high = pos sample_scale *ℤ signed16 (low + high * 256)

-- a heard wave as a sample: without its fraction, and held within −32,768 to 32,767
abbrev pub sample_of : ℤ → ℤ
sample_of (pos n) = pos (min (n / sample_scale) 32767)
sample_of (negsuc n) = neg_ℤ (pos (min (suc n / sample_scale) 32768))

-- what is written
abbrev pub sample_bytes : ℤ → List ℕ
sample_bytes h = (bits16 (sample_of h) % 256) ∷ (bits16 (sample_of h) / 256) ∷ []
