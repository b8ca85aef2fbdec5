-- How many digits a value has, and how large it is once it is scaled.
use Rattle.std.specs.Prelude.{ℕ, ◌≤◌}

abbrev pub most_digits : ℕ
most_digits = 6

abbrev pub largest_value : ℕ
largest_value = 100000000

abbrev pub InRange : ℕ → Type 0
InRange n = (1 ≤ n) × (n ≤ largest_value)
