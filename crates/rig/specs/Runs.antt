-- Any list of calls of a rig, and the sums over what they answered.
use Rattle.std.specs.Prelude.{ℕ, ◌+◌, min, List, [], ◌∷◌, ℤ, pos, ◌+ℤ◌, ◌-ℤ◌, Ok, Result}
use Rattle.wave.specs.Numbers.{sq}
use Rattle.port.specs.declared.meaning.Port.{Ghosts as PortOf}
use Rattle.closing.specs.declared.meaning.Closing.{Ghosts as ClosingOf}
use Rattle.rig.specs.Steps.{Fed, Raised, Answered, Withdrawn, Cleared, Turned}
use Rattle.rig.specs.declared.pages.Page.{Page}
use Rattle.rig.specs.declared.pages.Round.{Round}
use Rattle.rig.specs.declared.handed.HandedBack.{HandedBack}
use Rattle.rig.specs.declared.parts.OpenWave.{OpenWave}
use Rattle.rig.specs.declared.parts.Rig.{Rig}
use Rattle.rig.specs.declared.refusals.Refusal.{Refusal}

-- a call, with what it was passed and what it answered
pub data Event : Type 0 where
  feed : ℤ → Result Round Refusal → Event
  raise : Result OpenWave Refusal → Event
  answer : OpenWave → ℤ → Result Round HandedBack → Event
  withdraw : OpenWave → Result (Unit {0}) HandedBack → Event
  clear : Result ℕ Refusal → Event
  turn : Result Page Refusal → Event

-- g of the round, where the event is an accepted round; else 0
abbrev pub of_round : (Round → ℕ) → Event → ℕ
of_round g (feed e (Ok x)) = g x
of_round g (answer w f (Ok x)) = g x
of_round g other = 0

-- g of the dropped energy, where the event is an accepted clear; else 0
abbrev pub of_clear : (ℕ → ℕ) → Event → ℕ
of_clear g (clear (Ok D)) = g D
of_clear g other = 0

-- g of the sample, where the event is an accepted feed; else 0
abbrev pub of_feed : (ℤ → ℕ) → Event → ℕ
of_feed g (feed e (Ok x)) = g e
of_feed g other = 0

-- if the event is an accepted round, then a feed of a sample of which Q holds
abbrev pub Feeds : (ℤ → Type 0) → Event → Type 0
Feeds Q (feed e (Ok x)) = Q e
Feeds Q (answer w f (Ok x)) = ⊥
Feeds Q other = Unit {0}

-- the event is an accepted turn
abbrev pub Turns : Event → Type 0
Turns (turn (Ok p)) = Unit {0}
Turns other = ⊥

abbrev pub sum : (Event → ℕ) → List Event → ℕ
sum g [] = 0
sum g (x ∷ xs) = g x + sum g xs

abbrev pub All : (Event → Type 0) → List Event → Type 0
All Q [] = Unit {0}
All Q (x ∷ xs) = Q x × All Q xs

-- how many feeds, answers and clears were accepted
abbrev pub entries : List Event → ℕ
entries = sum (λ x. of_round (λ y. 1) x + of_clear (λ D. 1) x)

abbrev pub absorbed : List Event → ℕ
absorbed = sum (of_round (λ x. x.absorbed))

abbrev pub shortened : List Event → ℕ
shortened = sum (of_round (λ x. x.shortened))

abbrev pub dropped : List Event → ℕ
dropped = sum (of_clear (λ D. D))

-- the sum of f² − r² over the accepted rounds
abbrev pub swing : List Event → ℤ
swing [] = pos 0
swing (x ∷ xs) = (pos (of_round (λ y. sq y.falling.value) x) -ℤ pos (of_round (λ y. sq y.rising.value) x)) +ℤ swing xs

-- how many accepted rounds shortened or absorbed something
abbrev pub busy : List Event → ℕ
busy = sum (of_round (λ x. min 1 (x.shortened + x.absorbed)))

module _ {P C : Type 0} (ports : PortOf P) (closings : ClosingOf C) where
  -- one call: exactly what its contract says
  abbrev pub Step : Rig P C → Event → Rig P C → Type 0
  Step a (feed e o) b = Fed ports closings a e o b
  Step a (raise o) b = Raised ports a o b
  Step a (answer w f o) b = Answered ports a w f o b
  Step a (withdraw w o) b = Withdrawn ports a w o b
  Step a (clear o) b = Cleared ports a o b
  Step a (turn o) b = Turned ports a o b

  -- any list of calls, accepted or refused, whatever they were passed
  pub data Run : Rig P C → List Event → Rig P C → Type 0 where
    done : {a : Rig P C} → Run a [] a
    next : {a b z : Rig P C} {xs : List Event} (x : Event) → Step a x b → Run b xs z → Run a (x ∷ xs) z
