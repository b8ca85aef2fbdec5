-- How many rounds passed since the last busy one, and whether more were fed, over one list of calls and then another, and over one round of a session.
use Rattle.std.proofs.Common.{◌≡◌, ℕ, ◌+◌, ◌<◌, cond, eqb, List, [], ◌∷◌, ◌++◌, ℤ, Some, None, Ok, Option, refl}
use Rattle.rig.specs.Runs.{Event}
use Rattle.rig.specs.Runs.Event.{feed}
use Rattle.rig.specs.declared.pages.Page.{Page}
use Rattle.rig.specs.declared.pages.Round.{Round}
use Rattle.session.specs.Sessions.{turns}
use Rattle.report.specs.Reports.{quiet, idle_next, idle_after, AwaitsQuiet}

pub idle-++ : (xs ys : List Event) (n : ℕ) → idle_after n (xs ++ ys) ≡ idle_after (idle_after n xs) ys
idle-++ [] ys n = refl
idle-++ (x ∷ xs) ys n = idle-++ xs ys (idle_next n x)

pub round_idle : (n : ℕ) (e : ℤ) (x : Round) (p : Option Page) → idle_after n (feed e (Ok x) ∷ turns p) ≡ cond (eqb (x.shortened + x.absorbed) 0) (n + 1) 0
round_idle n e x None = refl
round_idle n e x (Some p) = refl

pub awaits-++ : (xs ys : List Event) (n : ℕ) → AwaitsQuiet n xs → AwaitsQuiet (idle_after n xs) ys → AwaitsQuiet n (xs ++ ys)
awaits-++ [] ys n h k = k
awaits-++ (x ∷ xs) ys n h k = (h.0, awaits-++ xs ys (idle_next n x) h.1 k)

pub round_awaits : (n : ℕ) (e : ℤ) (x : Round) (p : Option Page) → n < quiet → AwaitsQuiet n (feed e (Ok x) ∷ turns p)
round_awaits n e x None h = (h, tt)
round_awaits n e x (Some p) h = (h, (tt, tt))
