-- What each call of a rig does: one relation for each call, between the rig before it, what it was passed, what it answered, and the rig after it.
-- A refused call leaves the rig as it was, and says by which refusal; refusals are looked for in the order of their numbers.
use Rattle.std.specs.Prelude.{◌≡◌, ℕ, ◌<◌, ◌≤◌, true, false, ℤ, pos, Ok, Err, Result, unsigned_abs}
use Rattle.wave.specs.Numbers.{largest_wave}
use Rattle.wave.specs.declared.ratios.lowest.Ratio.{Ratio}
use Rattle.port.specs.declared.meaning.Port.{Ghosts as PortOf}
use Rattle.closing.specs.declared.meaning.Closing.{Ghosts as ClosingOf}
use Rattle.rig.specs.Limits.{page_length}
use Rattle.rig.specs.Pages.{Fresh, Entered, page_of}
use Rattle.rig.specs.declared.pages.Page.{Page}
use Rattle.rig.specs.declared.pages.Round.{Round}
use Rattle.rig.specs.declared.handed.HandedBack.{HandedBack}
use Rattle.rig.specs.declared.parts.OpenWave.{OpenWave}
use Rattle.rig.specs.declared.parts.Rig.{Rig}
use Rattle.rig.specs.declared.refusals.Refusal.{Refusal}
use Rattle.rig.specs.declared.refusals.Refusal.TheVariants.{Beyond, WaveOpen, Misfit, PageFull}

module _ {P C : Type 0} where
  -- a and b differ at most in whether a wave is open
  pub record Kept (a b : Rig P C) : Type 0 where
    pub port : b.port ≡ a.port
    pub closing : b.closing ≡ a.closing
    pub number : b.number ≡ a.number
    pub tally : b.tally ≡ a.tally

  -- no wave is open, and the page has an entry left
  abbrev pub Ready : Rig P C → Type 0
  Ready a = (a.raised ≡ false) × (a.tally.entries < page_length)

  -- why a call is refused that asks for that
  abbrev pub Unready : Rig P C → Refusal → Type 0
  Unready a WaveOpen = a.raised ≡ true
  Unready a PageFull = (a.raised ≡ false) × (page_length ≤ a.tally.entries)
  Unready a other = ⊥

  -- why a feed of e is refused
  abbrev pub Unfed : Rig P C → ℤ → Refusal → Type 0
  Unfed a e Beyond = largest_wave < unsigned_abs e
  Unfed a e WaveOpen = (unsigned_abs e ≤ largest_wave) × Unready a WaveOpen
  Unfed a e PageFull = (unsigned_abs e ≤ largest_wave) × Unready a PageFull
  Unfed a e other = ⊥

  -- why a turn is refused
  abbrev pub Unturned : Rig P C → Refusal → Type 0
  Unturned a WaveOpen = a.raised ≡ true
  Unturned a other = ⊥

module _ {P C : Type 0} (ports : PortOf P) where
  -- the open wave w fits a rig that has a wave open, and whose number and rising wave are its own
  abbrev pub Fits : Rig P C → OpenWave → Type 0
  Fits a w = (a.raised ≡ true) × (w.number ≡ a.number) × (w.rising.value ≡ (ports.reads a.port).rising)

  -- why an answer f to w is refused
  abbrev pub Unanswered : Rig P C → OpenWave → ℤ → Refusal → Type 0
  Unanswered a w f Beyond = largest_wave < unsigned_abs f
  Unanswered a w f Misfit = (unsigned_abs f ≤ largest_wave) × (Fits a w → ⊥)
  Unanswered a w f other = ⊥

  -- why a withdrawal of w is refused
  abbrev pub Unwithdrawn : Rig P C → OpenWave → Refusal → Type 0
  Unwithdrawn a w Misfit = Fits a w → ⊥
  Unwithdrawn a w other = ⊥

  abbrev pub Raised : Rig P C → Result OpenWave Refusal → Rig P C → Type 0
  Raised a (Ok w) b = Ready a × Fits b w × Kept a b
  Raised a (Err why) b = (b ≡ a) × Unready a why

  abbrev pub Withdrawn : Rig P C → OpenWave → Result (Unit {0}) HandedBack → Rig P C → Type 0
  Withdrawn a w (Ok u) b = Fits a w × (b.raised ≡ false) × Kept a b
  Withdrawn a w (Err y) b = (b ≡ a) × (y.wave ≡ w) × Unwithdrawn a w y.refusal

  -- the page p is answered and the next one begun
  pub record Renewed (a : Rig P C) (p : Page) (b : Rig P C) : Type 0 where
    pub answer : p ≡ page_of a.tally (ports.reads a.port).stored
    pub tally : Fresh (ports.reads a.port).stored b.tally
    pub port : b.port ≡ a.port
    pub closing : b.closing ≡ a.closing
    pub number : b.number ≡ a.number
    pub raised : b.raised ≡ false

  abbrev pub Turned : Rig P C → Result Page Refusal → Rig P C → Type 0
  Turned a (Ok p) b = (a.raised ≡ false) × Renewed a p b
  Turned a (Err why) b = (b ≡ a) × Unturned a why

  -- a round: f falls into the port of the rig a, which answers x and is then b
  pub record Rounded (a : Rig P C) (f : ℤ) (x : Round) (b : Rig P C) : Type 0 where
    pub rising : x.rising.value ≡ (ports.reads a.port).rising
    pub falling : x.falling.value ≡ f
    pub took : ports.takes a.port f (record { absorbed = x.absorbed; shortened = x.shortened; heard = x.heard }) b.port
    pub tally : Entered a.tally x.rising.value x.falling.value x.absorbed x.shortened 0 b.tally
    pub raised : b.raised ≡ false
    pub closing : b.closing ≡ a.closing
    pub number : b.number ≡ a.number

  abbrev pub Answered : Rig P C → OpenWave → ℤ → Result Round HandedBack → Rig P C → Type 0
  Answered a w f (Ok x) b = (unsigned_abs f ≤ largest_wave) × Fits a w × Rounded a f x b
  Answered a w f (Err y) b = (b ≡ a) × (y.wave ≡ w) × Unanswered a w f y.refusal

  -- the port is cleared of the energy D
  pub record Emptied (a : Rig P C) (D : ℕ) (b : Rig P C) : Type 0 where
    pub emptied : ports.clears a.port D b.port
    pub tally : Entered a.tally (pos 0) (pos 0) 0 0 D b.tally
    pub raised : b.raised ≡ false
    pub closing : b.closing ≡ a.closing
    pub number : b.number ≡ a.number

  abbrev pub Cleared : Rig P C → Result ℕ Refusal → Rig P C → Type 0
  Cleared a (Ok D) b = Ready a × Emptied a D b
  Cleared a (Err why) b = (b ≡ a) × Unready a why

module _ {P C : Type 0} (ports : PortOf P) (closings : ClosingOf C) where
  -- a round whose falling wave is the closing's answer, at the sample e, to the port's rising wave and ratio
  pub record Closed (a : Rig P C) (e : ℤ) (x : Round) (b : Rig P C) : Type 0 where
    pub ratio : Ratio
    pub num : ratio.num ≡ (ports.reads a.port).num
    pub den : ratio.den ≡ (ports.reads a.port).den
    pub round : Rounded ports a (closings.answers a.closing (ports.reads a.port).rising e ratio) x b

  abbrev pub Fed : Rig P C → ℤ → Result Round Refusal → Rig P C → Type 0
  Fed a e (Ok x) b = (unsigned_abs e ≤ largest_wave) × Ready a × Closed a e x b
  Fed a e (Err why) b = (b ≡ a) × Unfed a e why
