-- The calls of a session, each a list of calls of its rig: a page is turned as soon as it is full.
use Rattle.std.specs.Prelude.{◌≡◌, ℕ, ◌+◌, ◌<◌, ◌≤◌, List, [], ◌∷◌, ℤ, Some, None, Ok, Err, Option, Result, unsigned_abs}
use Rattle.wave.specs.Numbers.{largest_wave}
use Rattle.port.specs.declared.meaning.Port.{Ghosts as PortOf}
use Rattle.closing.specs.declared.meaning.Closing.{Ghosts as ClosingOf}
use Rattle.rig.specs.Limits.{page_length}
use Rattle.rig.specs.Steps.{Renewed}
use Rattle.rig.specs.Runs.{Event, Run}
use Rattle.rig.specs.Runs.Event.{feed, clear, turn}
use Rattle.rig.specs.declared.pages.Page.{Page}
use Rattle.rig.specs.declared.parts.Rig.{Rig}
use Rattle.rig.specs.declared.refusals.Refusal.{Refusal}
use Rattle.rig.specs.declared.refusals.Refusal.TheVariants.{Beyond}
use Rattle.session.specs.declared.sessions.turning.Entry.{Entry}

-- the turn that answered a page, if one did
abbrev pub turns : Option Page → List Event
turns None = []
turns (Some p) = turn (Ok p) ∷ []

-- the samples that some calls fed
abbrev pub fed : List Event → List ℤ
fed [] = []
fed (feed e (Ok x) ∷ xs) = e ∷ fed xs
fed (other ∷ xs) = fed xs

-- an accepted feed or an accepted turn, and no other call
abbrev pub Plain : Event → Type 0
Plain (feed e (Ok x)) = Unit {0}
Plain (turn (Ok p)) = Unit {0}
Plain other = ⊥

-- there is a page exactly if a had one entry left
abbrev pub Fills : {P C : Type 0} → Rig P C → Option Page → Type 0
Fills a None = a.tally.entries + 1 < page_length
Fills a (Some p) = a.tally.entries + 1 ≡ page_length

module _ {P C : Type 0} (ports : PortOf P) where
  abbrev pub Turned : Rig P C → Option Page → Rig P C → Type 0
  Turned a None b = (a.tally.entries < page_length) × (b ≡ a)
  Turned a (Some p) b = (page_length ≤ a.tally.entries) × Renewed ports a p b

module _ {P C : Type 0} (ports : PortOf P) (closings : ClosingOf C) where
  -- a feed of e, and the turn of the page that it filled
  abbrev pub Sounded : Rig P C → ℤ → Result Entry Refusal → Rig P C → Type 0
  Sounded a e (Ok x) b = Run ports closings a (feed e (Ok x.round) ∷ turns x.page) b × Fills a x.page
  Sounded a e (Err why) b = (b ≡ a) × (why ≡ Beyond) × (largest_wave < unsigned_abs e)

  -- a clear that dropped D, and the turn of the page that it filled
  abbrev pub Dropped : Rig P C → ℕ → Option Page → Rig P C → Type 0
  Dropped a D p b = Run ports closings a (clear (Ok D) ∷ turns p) b × Fills a p

  -- the last turn, where there are entries
  abbrev pub Finished : Rig P C → Option Page → Rig P C → Type 0
  Finished a None b = (a.tally.entries ≡ 0) × (b ≡ a)
  Finished a (Some p) b = (0 < a.tally.entries) × Run ports closings a (turn (Ok p) ∷ []) b
