-- What the searches for two branches have passed over.
use Rattle.std.specs.Prelude.{◌≡◌, ℕ, ◌<◌, ◌≤◌, Bool, true, false, List, length}
use Rattle.net.specs.Wires.{same_ends, touches, at}
use Rattle.net.specs.declared.wires.Wire.{Wire}

-- no branch past i and before j has the ends of i
abbrev pub Unlike : List Wire → ℕ → ℕ → Type 0
Unlike ws i j = (k : ℕ) → i < k → k < j → same_ends (at ws i) (at ws k) ≡ false

-- j is the first past i that has the ends of i
pub record Partner (ws : List Wire) (i j : ℕ) : Type 0 where
  pub order : i < j
  pub within : j < length ws
  pub same : same_ends (at ws i) (at ws j) ≡ true
  pub first : Unlike ws i j

-- no branch from i on and before j ends at n
abbrev pub Untouched : List Wire → ℕ → ℕ → ℕ → Type 0
Untouched ws n i j = (k : ℕ) → i ≤ k → k < j → touches n (at ws k) ≡ false

-- j is the first from i on that ends at n
pub record NextAt (ws : List Wire) (n i j : ℕ) : Type 0 where
  pub order : i ≤ j
  pub within : j < length ws
  pub there : touches n (at ws j) ≡ true
  pub first : Untouched ws n i j

-- no branch from i on and before j passes a test, of which `answers` says what it may answer
abbrev pub FailsAll : (Wire → Bool → Type 0) → List Wire → ℕ → ℕ → Type 0
FailsAll answers ws i j = (k : ℕ) → i ≤ k → k < j → answers (at ws k) false

-- j is the first from i on that passes it
pub record FirstPast (answers : Wire → Bool → Type 0) (ws : List Wire) (i j : ℕ) : Type 0 where
  pub order : i ≤ j
  pub within : j < length ws
  pub there : answers (at ws j) true
  pub first : FailsAll answers ws i j
