-- The limits of what is asked of a weight.
use Rattle.std.specs.Prelude.{ℕ, ◌<◌, ◌≤◌}

-- hertz
abbrev pub largest_rate : ℕ
largest_rate = 192000

-- nanosiemens
abbrev pub largest_unit : ℕ
largest_unit = 100000

abbrev pub Scaled : ℕ → ℕ → Type 0
Scaled rate unit = (0 < rate) × (rate ≤ largest_rate) × (0 < unit) × (unit ≤ largest_unit)
