-- Which of several faults is reported: the one at the earliest place, and there the one with the smallest number.
use Rattle.std.specs.Prelude.{◌≡◌, ℕ, ◌≤◌, Bool, cond, ◌&&◌, ◌||◌, Some, None, Option, ◌==◌, nat_lt}
use Rattle.refusals.specs.declared.Rule.{Rule}
use Rattle.refusals.specs.declared.Fault.{Fault}
use Rattle.refusals.specs.Refusals.{number}

-- no fault by rule r at place p is to be reported before f
abbrev pub NotBefore : Fault → ℕ → Rule → Type 0
NotBefore f p r = (f.place ≤ p) × (p ≡ f.place → number f.rule ≤ number r)

-- the first of the faults that P speaks of, if there is any
abbrev pub Least : (ℕ → Rule → Type 0) → Option Fault → Type 0
Least P None = (p : ℕ) (r : Rule) → P p r → ⊥
Least P (Some f) = P f.place f.rule × ((p : ℕ) (r : Rule) → P p r → NotBefore f p r)

-- the one of two faults that is reported
abbrev pub goes_before : Fault → Fault → Bool
goes_before g f = nat_lt g.place f.place || (g.place == f.place && nat_lt (number g.rule) (number f.rule))

abbrev pub first_of : Option Fault → Option Fault → Option Fault
first_of None b = b
first_of (Some f) None = Some f
first_of (Some f) (Some g) = cond (goes_before g f) (Some g) (Some f)
