-- The two steps of the door listing, whatever stands in its branches.
use mathlib.Core.Path.{◌≡◌, refl}
use mathlib.Core.Bool.{true, false}
use mathlib.Core.List.{List, [], ◌∷◌}
use mathlib.Core.Logic.{◌⊎◌, inl, inr}
use Prim.Native.Nat.{ℕ, zero, suc, ◌<◌, ◌≤◌}
use native.Mathlib.Omega.{arith}
use Rattle.net.specs.Wires.{same_ends, touches, at}
use Rattle.net.specs.Choices.{NoTwins, TakenTwins, NoChain, TakenChain}
use Rattle.net.specs.Reductions.{Edge, Step, none, then, EndsDown}
use Rattle.net.specs.declared.wires.Wire.{Wire}
use Rattle.net.specs.declared.wires.Pair.{Pair}
use Rattle.net.specs.declared.wires.Choice.{Choice}
use Rattle.net.specs.declared.wires.Choice.TheVariants.{Twins, Chain}
use Rattle.net.proofs.Found.{never, stuck}
use Rattle.door.specs.Door.{port, branches}

abbrev wire : ℕ → ℕ → Wire
wire a b = record { from = a; to = b }

abbrev pair : ℕ → ℕ → Pair
pair a b = record { low = a; high = b }

-- the ends at first, after one step, and after both
abbrev three : List Wire
three = wire 0 2 ∷ wire 2 1 ∷ wire 2 1 ∷ []

abbrev two : List Wire
two = wire 0 2 ∷ wire 2 1 ∷ []

abbrev one : List Wire
one = wire 0 1 ∷ []

-- ---- C1 and R1 are the only twins
not_first : (i k : ℕ) → i < k → k < 3 → same_ends (at three i) (at three k) ≡ true → 1 ≤ i
not_first (suc i) k o w s = omega arith
not_first zero zero o w s = omega arith
not_first zero (suc zero) o w s = absurd (never s refl)
not_first zero (suc (suc zero)) o w s = absurd (never s refl)
not_first zero (suc (suc (suc k))) o w s = omega arith

twins : TakenTwins three (pair 1 2)
twins = record {
  twins = record { order = omega arith; within = omega arith; same = refl };
  lowest = λ q t. not_first q.low q.high t.order t.within t.same;
  nearest = λ q t e. omega (arith, t.order, e);
}

-- ---- then there are none, and the two branches at node 2 are the only chain
two_unlike : (i k : ℕ) → i < k → k < 2 → same_ends (at two i) (at two k) ≡ true → ⊥
two_unlike (suc i) k o w s = omega arith
two_unlike zero zero o w s = omega arith
two_unlike zero (suc zero) o w s = never s refl
two_unlike zero (suc (suc k)) o w s = omega arith

either : (k : ℕ) → k < 2 → (k ≡ 0) ⊎ (k ≡ 1)
either zero h = inl refl
either (suc zero) h = inr refl
either (suc (suc k)) h = absurd (omega arith)

inner : (n : ℕ) → touches n port ≡ false → 2 ≤ n
inner zero h = absurd (never refl h)
inner (suc zero) h = absurd (never refl h)
inner (suc (suc n)) h = omega arith

chain : TakenChain two port 2 (pair 0 1)
chain = (
  λ q t. two_unlike q.low q.high t.order t.within t.same,
  record {
    chain = record {
      meet = record { order = omega arith; within = omega arith; left = refl; right = refl; alone = λ k h t. either k h };
      inner = refl;
      apart = refl;
    };
    first = λ m q c. inner m c.inner;
  },
)

-- ---- then one branch is left
no_twins : NoTwins one
no_twins q t = omega (arith, t.order, t.within)

no_chain : NoChain one port
no_chain m q c = omega (arith, c.meet.order, c.meet.within)

module _ {A : Type 0} (Joins : Choice → A → A → A → Type 0) (Refused : Choice → A → A → Type 0) (l c r p m : A) (x y z : ℕ) where
  abbrev edge : A → ℕ → ℕ → ℕ → Edge A
  edge a i k q = record { what = a; wire = wire i k; place = q }

  abbrev shunted : List (Edge A)
  shunted = edge l 0 2 x ∷ edge p 2 1 y ∷ []

  abbrev whole : List (Edge A)
  whole = edge m 0 1 x ∷ []

  first : Joins (Twins (pair 1 2)) c r p → Step Joins Refused port (branches l c r x y z) shunted
  first j = record {
    choice = Twins (pair 1 2);
    a = edge c 2 1 y;
    b = edge r 2 1 z;
    chosen = record { takes = twins; low = λ d. refl; high = λ d. refl };
    made = p;
    joins = j;
    after = refl;
  }

  second : Joins (Chain (pair 0 1) 2) l p m → Step Joins Refused port shunted whole
  second j = record {
    choice = Chain (pair 0 1) 2;
    a = edge l 0 2 x;
    b = edge p 2 1 y;
    chosen = record { takes = chain; low = λ d. refl; high = λ d. refl };
    made = m;
    joins = j;
    after = refl;
  }

  pub comes_down : Joins (Twins (pair 1 2)) c r p → Joins (Chain (pair 0 1) 2) l p m → EndsDown Joins Refused port (branches l c r x y z) m
  comes_down i j = record {
    last = whole;
    came = then (then none (first i)) (second j);
    stuck = stuck one port no_twins no_chain;
    whole = record { last = edge m 0 1 x; alone = refl; ends = refl; is = refl };
  }
