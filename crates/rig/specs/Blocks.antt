-- A block: a run of accepted feeds, one for each sample of the input, whose heard waves are written over the front of the output.
use Rattle.std.specs.Prelude.{◌≡◌, ℕ, ◌+◌, ◌/◌, ◌%◌, ◌<◌, ◌≤◌, true, false, ◌⊎◌, List, [], ◌∷◌, ◌++◌, length, drop, ℤ, Ok, Err, Result}
use Rattle.pcm.specs.Samples.{sample_wave, sample_bytes}
use Rattle.port.specs.declared.meaning.Port.{Ghosts as PortOf}
use Rattle.closing.specs.declared.meaning.Closing.{Ghosts as ClosingOf}
use Rattle.rig.specs.Limits.{page_length}
use Rattle.rig.specs.Runs.{Event, Run}
use Rattle.rig.specs.Runs.Event.{feed}
use Rattle.rig.specs.declared.pages.Round.{Round}
use Rattle.rig.specs.declared.parts.Rig.{Rig}
use Rattle.rig.specs.declared.refusals.Refusal.{Refusal}
use Rattle.rig.specs.declared.refusals.Refusal.TheVariants.{WaveOpen, PageFull, BlockLength}

-- what the samples of some bytes are fed as
abbrev pub waves_of : List ℕ → List ℤ
waves_of [] = []
waves_of (low ∷ []) = []
waves_of (low ∷ (high ∷ rest)) = sample_wave low high ∷ waves_of rest

-- what the heard waves of some rounds are written as
abbrev pub heard_bytes : List Round → List ℕ
heard_bytes [] = []
heard_bytes (x ∷ xs) = sample_bytes x.heard ++ heard_bytes xs

-- the calls that feed es and are answered by xs
abbrev pub feeds : List ℤ → List Round → List Event
feeds [] xs = []
feeds (e ∷ es) [] = []
feeds (e ∷ es) (x ∷ xs) = feed e (Ok x) ∷ feeds es xs

module _ {P C : Type 0} where
  -- why a block from `input` into `output` is refused
  abbrev pub Unblocked : Rig P C → List ℕ → List ℕ → Refusal → Type 0
  Unblocked a input output WaveOpen = a.raised ≡ true
  Unblocked a input output PageFull = (a.raised ≡ false) × (page_length < a.tally.entries + length input / 2)
  Unblocked a input output BlockLength =
      (a.raised ≡ false) × (a.tally.entries + length input / 2 ≤ page_length) × ((length input % 2 ≡ 1) ⊎ (length output < length input))
  Unblocked a input output other = ⊥

  -- why it is not
  abbrev pub Blockable : Rig P C → List ℕ → List ℕ → Type 0
  Blockable a input output =
      (a.raised ≡ false) × (a.tally.entries + length input / 2 ≤ page_length) × (length input % 2 ≡ 0) × (length input ≤ length output)

module _ {P C : Type 0} (ports : PortOf P) (closings : ClosingOf C) where
  -- the rig a is fed the samples of `input` and is then b; what is heard stands in `after`, where `before` stood
  pub record Filtered (a : Rig P C) (input before : List ℕ) (b : Rig P C) (after : List ℕ) : Type 0 where
    pub rounds : List Round
    pub one_each : length rounds ≡ length (waves_of input)
    pub run : Run ports closings a (feeds (waves_of input) rounds) b
    pub written : after ≡ heard_bytes rounds ++ drop (length input) before

  abbrev pub Blocked : Rig P C → List ℕ → List ℕ → Result (Unit {0}) Refusal → Rig P C → List ℕ → Type 0
  Blocked a input before (Ok u) b after = Blockable a input before × Filtered a input before b after
  Blocked a input before (Err why) b after = (b ≡ a) × (after ≡ before) × Unblocked a input before why

  -- one sample of a block: the rig a is fed e and is then b, and `out` is what it heard
  pub record Passed (a : Rig P C) (e : ℤ) (out : List ℕ) (b : Rig P C) : Type 0 where
    pub round : Round
    pub run : Run ports closings a (feed e (Ok round) ∷ []) b
    pub heard : out ≡ sample_bytes round.heard
    pub idle : b.raised ≡ false
    pub entered : b.tally.entries ≡ a.tally.entries + 1
