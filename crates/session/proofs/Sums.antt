-- Sums over one list of calls and then another, and over one round of a session.
use Rattle.std.proofs.Common.{◌≡◌, ℕ, ◌+◌, min, List, [], ◌∷◌, ◌++◌, ℤ, pos, ◌+ℤ◌, ◌-ℤ◌, Some, None, Ok, Option, refl, ap, arith}
use lib.IntN.{+ℤ_idr}
use Rattle.std.proofs.lemmas.Int.{ints}
use Rattle.wave.specs.Numbers.{sq}
use Rattle.rig.specs.Runs.{Event, All, Feeds, sum, entries, absorbed, dropped, shortened, swing, busy}
use Rattle.rig.specs.Runs.Event.{feed, clear}
use Rattle.rig.specs.declared.pages.Page.{Page}
use Rattle.rig.specs.declared.pages.Round.{Round}
use Rattle.session.specs.Sessions.{turns, fed, Plain}

pub sum-++ : (g : Event → ℕ) (xs ys : List Event) → sum g (xs ++ ys) ≡ sum g xs + sum g ys
sum-++ g [] ys = omega arith
sum-++ g (x ∷ xs) ys = omega (arith, sum-++ g xs ys)

pub swing-++ : (xs ys : List Event) → swing (xs ++ ys) ≡ swing xs +ℤ swing ys
swing-++ [] ys = omega (arith, ints)
swing-++ (x ∷ xs) ys = omega (arith, ints, swing-++ xs ys)

pub fed-++ : (xs ys : List Event) → fed (xs ++ ys) ≡ fed xs ++ fed ys
fed-++ [] ys = refl
fed-++ (feed e (Ok x) ∷ xs) ys = ap (λ (l : List ℤ). e ∷ l) (fed-++ xs ys)
fed-++ (other ∷ xs) ys = fed-++ xs ys

pub all-++ : (Q : Event → Type 0) (xs ys : List Event) → All Q xs → All Q ys → All Q (xs ++ ys)
all-++ Q [] ys h k = k
all-++ Q (x ∷ xs) ys h k = (h.0, all-++ Q xs ys h.1 k)

-- what a list of calls comes to
pub record Comes (ys : List Event) (n A D c : ℕ) (w : ℤ) : Type 0 where
  pub entered : entries ys ≡ n
  pub absorbs : absorbed ys ≡ A
  pub drops : dropped ys ≡ D
  pub shortens : shortened ys ≡ c
  pub swings : swing ys ≡ w

-- a round, and the turn of the page that it filled
pub round_comes : (e : ℤ) (x : Round) (p : Option Page) → Comes (feed e (Ok x) ∷ turns p) 1 x.absorbed 0 x.shortened (pos (sq x.falling.value) -ℤ pos (sq x.rising.value))
round_comes e x None = record { entered = refl; absorbs = omega arith; drops = refl; shortens = omega arith; swings = +ℤ_idr _ }
round_comes e x (Some p) = record { entered = refl; absorbs = omega arith; drops = refl; shortens = omega arith; swings = +ℤ_idr _ }

-- a clear, and the turn of the page that it filled
pub clear_comes : (D : ℕ) (p : Option Page) → Comes (clear (Ok D) ∷ turns p) 1 0 D 0 (pos 0)
clear_comes D None = record { entered = refl; absorbs = refl; drops = omega arith; shortens = refl; swings = refl }
clear_comes D (Some p) = record { entered = refl; absorbs = refl; drops = omega arith; shortens = refl; swings = refl }

pub round_busy : (e : ℤ) (x : Round) (p : Option Page) → busy (feed e (Ok x) ∷ turns p) ≡ min 1 (x.shortened + x.absorbed)
round_busy e x None = omega arith
round_busy e x (Some p) = omega arith

pub round_fed : (e : ℤ) (x : Round) (p : Option Page) → fed (feed e (Ok x) ∷ turns p) ≡ e ∷ []
round_fed e x None = refl
round_fed e x (Some p) = refl

pub round_feeds : (Q : ℤ → Type 0) (e : ℤ) (x : Round) (p : Option Page) → Q e → All (Feeds Q) (feed e (Ok x) ∷ turns p)
round_feeds Q e x None h = (h, tt)
round_feeds Q e x (Some p) h = (h, (tt, tt))

pub round_plain : (e : ℤ) (x : Round) (p : Option Page) → All Plain (feed e (Ok x) ∷ turns p)
round_plain e x None = (tt, tt)
round_plain e x (Some p) = (tt, (tt, tt))
