-- What a closing and a bounded closing are.
use Rattle.std.specs.Prelude.{◌≡◌, ℕ, ◌+◌, ◌*◌, ◌≤◌, ℤ, pos, unsigned_abs}
use Rattle.wave.specs.Numbers.{sq, held, largest_wave, most_energy}
use Rattle.wave.specs.declared.ratios.lowest.Ratio.{Ratio}

-- a wave or a sample beyond the largest counts as the nearer end, and the answer is a wave
pub record Answers {C : Type 0} (answers : C → ℤ → ℤ → Ratio → ℤ) : Type 0 where
  pub holds : (c : C) (r e : ℤ) (q : Ratio) → answers c r e q ≡ answers c (held r) (held e) q
  pub wave : (c : C) (r e : ℤ) (q : Ratio) → unsigned_abs (answers c r e q) ≤ largest_wave

-- what falls exceeds what rose by at most the offer
pub record Bounded {C : Type 0} (answers : C → ℤ → ℤ → Ratio → ℤ) (offers : C → ℤ → ℕ) : Type 0 where
  pub silent : (c : C) → offers c (pos 0) ≡ 0
  pub most : (c : C) (e : ℤ) → offers c e ≤ most_energy
  pub within : (c : C) (r e : ℤ) (q : Ratio) → q.num * sq (answers c r e q) ≤ q.num * sq (held r) + q.den * offers c e
