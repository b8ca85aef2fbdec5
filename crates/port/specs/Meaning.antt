-- What can be read off a port, and the laws that every port keeps. A wave rises out of a port and a wave falls into it; the ratio, its
-- port conductance, weighs their squares into energies; an ear is a resistor whose falling wave is heard.
use Rattle.std.specs.Prelude.{◌≡◌, ℕ, ◌+◌, ◌-◌, ◌*◌, ◌<◌, ◌≤◌, ℤ, pos, unsigned_abs}
use Rattle.wave.specs.Numbers.{sq, held, largest_wave, most_energy}
use Rattle.wave.specs.Terms.{Coprime, largest_number}
use Rattle.port.specs.declared.takings.Taken.{Taken}

abbrev pub largest_size : ℕ
largest_size = 32

-- the ratio num / den, the size, the ears, the rising wave and the stored energy
pub record Readings : Type 0 where
  pub num : ℕ
  pub den : ℕ
  pub size : ℕ
  pub ears : ℕ
  pub rising : ℤ
  pub stored : ℕ

-- what holds of any port at any time
pub record Sound (a : Readings) : Type 0 where
  pub nums : (0 < a.num) × (a.num ≤ largest_number)
  pub dens : (0 < a.den) × (a.den ≤ largest_number)
  pub lowest : Coprime a.num a.den
  pub sizes : (1 ≤ a.size) × (a.size ≤ largest_size)
  pub eared : a.ears ≤ 1
  pub full : a.stored ≤ a.size * most_energy
  pub paid : a.num * sq a.rising ≤ a.den * a.stored

-- what no call changes
pub record Kept (a b : Readings) : Type 0 where
  pub num : b.num ≡ a.num
  pub den : b.den ≡ a.den
  pub size : b.size ≡ a.size
  pub ears : b.ears ≡ a.ears

-- the falling wave f comes to a port that reads a, which answers t and then reads b: no energy comes from nowhere, and none goes lost
-- exactly if no wave was shortened
pub record Fall (a : Readings) (f : ℤ) (t : Taken) (b : Readings) : Type 0 where
  pub least : a.den * (b.stored + t.absorbed) + a.num * sq a.rising ≤ a.den * a.stored + a.num * sq (held f)
  pub exact : t.shortened ≡ 0 → a.den * (b.stored + t.absorbed) + a.num * sq a.rising ≡ a.den * a.stored + a.num * sq (held f)
  pub only : a.den * (b.stored + t.absorbed) + a.num * sq a.rising ≡ a.den * a.stored + a.num * sq (held f) → t.shortened ≡ 0
  pub absorbs : t.absorbed ≤ a.size * most_energy
  pub counts : t.shortened ≤ 3 * a.size - 3
  pub hears : unsigned_abs t.heard ≤ largest_wave
  pub deaf : a.ears ≡ 0 → t.heard ≡ pos 0
  pub keeps : Kept a b

-- it drops the energy e and then reads b
pub record Cleared (a : Readings) (e : ℕ) (b : Readings) : Type 0 where
  pub dropped : e ≡ a.stored
  pub empty : b.stored ≡ 0
  pub keeps : Kept a b

pub record Laws {S : Type 0} (reads : S → Readings) (takes : S → ℤ → Taken → S → Type 0) (clears : S → ℕ → S → Type 0) : Type 0 where
  pub sound : (s : S) → Sound (reads s)
  pub fall : (s : S) (f : ℤ) (t : Taken) (s' : S) → takes s f t s' → Fall (reads s) f t (reads s')
  pub cleared : (s : S) (e : ℕ) (s' : S) → clears s e s' → Cleared (reads s) e (reads s')
