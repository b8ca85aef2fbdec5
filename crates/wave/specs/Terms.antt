-- Greatest common divisors, and ratios in lowest terms.
use Rattle.std.specs.Prelude.{◌≡◌, ℕ, ◌*◌, ◌%◌, ◌<◌}
use Rattle.std.specs.Int.{◌∣◌}

-- the largest number of a ratio
abbrev pub largest_number : ℕ
largest_number = 2147483647

-- no number but 1 divides both
abbrev pub Coprime : ℕ → ℕ → Type 0
Coprime a b = (k : ℕ) → a % k ≡ 0 → b % k ≡ 0 → k ≡ 1

pub record Gcd (a b r : ℕ) : Type 0 where
  pub above : 0 < r
  pub left : r ∣ a
  pub right : r ∣ b
  pub most : (k : ℕ) → k ∣ a → k ∣ b → k ∣ r

-- p and q are a and b divided by their greatest common divisor
pub record Reduced (a b p q : ℕ) : Type 0 where
  pub by : ℕ
  pub gcd : Gcd a b by
  pub left : by * p ≡ a
  pub right : by * q ≡ b

-- no other two numbers are a and b in lowest terms
abbrev pub Only : ℕ → ℕ → ℕ → ℕ → Type 0
Only a b p q = (x y : ℕ) → Reduced a b x y → (x ≡ p) × (y ≡ q)
