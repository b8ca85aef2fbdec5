-- Which two branches are joined next, and the ends of what they become.
use Rattle.std.specs.Prelude.{◌≡◌, ℕ, ◌<◌, ◌≤◌, true, false, ◌⊎◌, List, length, nat_eq}
use Rattle.net.specs.Wires.{same_ends, touches, far, at}
use Rattle.net.specs.declared.wires.Wire.{Wire}
use Rattle.net.specs.declared.wires.Pair.{Pair}
use Rattle.net.specs.declared.wires.Choice.{Choice}
use Rattle.net.specs.declared.wires.Choice.TheVariants.{Twins, Chain}

-- two branches have the same two ends
pub record AreTwins (ws : List Wire) (p : Pair) : Type 0 where
  pub order : p.low < p.high
  pub within : p.high < length ws
  pub same : same_ends (at ws p.low) (at ws p.high) ≡ true

abbrev pub NoTwins : List Wire → Type 0
NoTwins ws = (q : Pair) → AreTwins ws q → ⊥

-- of all twins, those of the smallest low are taken, and of these the one of the smallest high
pub record TakenTwins (ws : List Wire) (p : Pair) : Type 0 where
  pub twins : AreTwins ws p
  pub lowest : (q : Pair) → AreTwins ws q → p.low ≤ q.low
  pub nearest : (q : Pair) → AreTwins ws q → q.low ≡ p.low → p.high ≤ q.high

-- two branches, and no others, end at n
pub record Meet (ws : List Wire) (n : ℕ) (p : Pair) : Type 0 where
  pub order : p.low < p.high
  pub within : p.high < length ws
  pub left : touches n (at ws p.low) ≡ true
  pub right : touches n (at ws p.high) ≡ true
  pub alone : (k : ℕ) → k < length ws → touches n (at ws k) ≡ true → (k ≡ p.low) ⊎ (k ≡ p.high)

-- they meet at a node that is no end of the port, and their far ends differ
pub record AreChain (ws : List Wire) (port : Wire) (n : ℕ) (p : Pair) : Type 0 where
  pub meet : Meet ws n p
  pub inner : touches n port ≡ false
  pub apart : nat_eq (far n (at ws p.low)) (far n (at ws p.high)) ≡ false

abbrev pub NoChain : List Wire → Wire → Type 0
NoChain ws port = (m : ℕ) (q : Pair) → AreChain ws port m q → ⊥

-- the chain at the node of the smallest number, which comes first in the text
pub record FirstChain (ws : List Wire) (port : Wire) (n : ℕ) (p : Pair) : Type 0 where
  pub chain : AreChain ws port n p
  pub first : (m : ℕ) (q : Pair) → AreChain ws port m q → n ≤ m

-- a chain is taken only where no twins are
abbrev pub TakenChain : List Wire → Wire → ℕ → Pair → Type 0
TakenChain ws port n p = NoTwins ws × FirstChain ws port n p

abbrev pub Takes : List Wire → Wire → Choice → Type 0
Takes ws port (Twins p) = TakenTwins ws p
Takes ws port (Chain p n) = TakenChain ws port n p

-- no two branches can be joined
abbrev pub Stuck : List Wire → Wire → Type 0
Stuck ws port = (c : Choice) → Takes ws port c → ⊥

-- at most one choice is taken
abbrev pub OneChoice : List Wire → Wire → Type 0
OneChoice ws port = (c c' : Choice) → Takes ws port c → Takes ws port c' → c ≡ c'

-- the pair that a choice joins
abbrev pub chosen_pair : Choice → Pair
chosen_pair (Twins p) = p
chosen_pair (Chain p n) = p

-- the ends of what it becomes
abbrev pub ends_of : List Wire → Choice → Wire
ends_of ws (Twins p) = at ws p.low
ends_of ws (Chain p n) = record { from = far n (at ws p.low); to = far n (at ws p.high) }
