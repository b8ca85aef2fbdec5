-- What a report says of a recording.
use Rattle.std.specs.Prelude.{◌≡◌, ℕ, ◌+◌, ◌*◌, ◌<◌, ◌≤◌, min, cond, ◌⊎◌, List, [], ◌∷◌, ◌++◌, length, pos, ◌+ℤ◌, ◌*ℤ◌, ◌≤ℤ◌, Ok, Err, Option, ◌==◌}
use Rattle.port.specs.declared.meaning.Port.{Ghosts as PortOf}
use Rattle.closing.specs.declared.meaning.Closing.{Ghosts as ClosingOf}
use Rattle.rig.specs.Blocks.{waves_of}
use Rattle.rig.specs.Energy.{Promises}
use Rattle.rig.specs.Pages.{Fresh}
use Rattle.rig.specs.Runs.{Event, Run, All, Feeds, entries, absorbed, dropped, shortened, swing, busy}
use Rattle.rig.specs.Runs.Event.{feed, raise, answer, withdraw, clear, turn}
use Rattle.rig.specs.declared.pages.Page.{Page}
use Rattle.rig.specs.declared.pages.Round.{Round}
use Rattle.rig.specs.declared.parts.Rig.{Rig}
use Rattle.session.specs.Sessions.{turns, fed, Plain}
use Rattle.report.specs.declared.accounts.Weighing.{Weighing}
use Rattle.report.specs.declared.accounts.account.Account.{Account}
use Rattle.report.specs.declared.reports.Report.{Report}
use Rattle.report.specs.declared.reports.Silence.{Silence}

abbrev pub longest_recording : ℕ
longest_recording = 2147483648

abbrev pub longest_silence : ℕ
longest_silence = 1000000

abbrev pub quiet : ℕ
quiet = 256

-- how many rounds passed since the last that shortened or absorbed something, where n had passed before a call
abbrev pub idle_next : ℕ → Event → ℕ
idle_next n (feed e (Ok x)) = cond (x.shortened + x.absorbed == 0) (n + 1) 0
idle_next n (feed e (Err y)) = n
idle_next n (raise o) = n
idle_next n (answer w f (Ok x)) = cond (x.shortened + x.absorbed == 0) (n + 1) 0
idle_next n (answer w f (Err y)) = n
idle_next n (withdraw w o) = n
idle_next n (clear o) = n
idle_next n (turn o) = n

-- and before some calls
abbrev pub idle_after : ℕ → List Event → ℕ
idle_after n [] = n
idle_after n (x ∷ xs) = idle_after (idle_next n x) xs

-- after n idle rounds a round is fed only if the filter is not quiet yet
abbrev pub Awaits : ℕ → Event → Type 0
Awaits n (feed e (Ok x)) = n < quiet
Awaits n (feed e (Err y)) = Unit {0}
Awaits n (raise o) = Unit {0}
Awaits n (answer w f o) = Unit {0}
Awaits n (withdraw w o) = Unit {0}
Awaits n (clear o) = Unit {0}
Awaits n (turn o) = Unit {0}

abbrev pub AwaitsQuiet : ℕ → List Event → Type 0
AwaitsQuiet n [] = Unit {0}
AwaitsQuiet n (x ∷ xs) = Awaits n x × AwaitsQuiet (idle_next n x) xs

-- b is a and the calls ys
pub record Adds (a : Account) (ys : List Event) (b : Account) : Type 0 where
  pub entries : b.entries ≡ a.entries + entries ys
  pub absorbed : b.absorbed ≡ a.absorbed + absorbed ys
  pub dropped : b.dropped ≡ a.dropped + dropped ys
  pub shortened : b.shortened ≡ a.shortened + shortened ys
  pub swing : b.swing ≡ a.swing +ℤ swing ys

-- the calls xs of a rig whose port has the ratio n/d, from S stored to T stored, in the balance
pub record Weighs (n d S : ℕ) (xs : List Event) (T : ℕ) (w : Weighing) : Type 0 where
  pub entered : w.entries ≡ entries xs
  pub stored : w.stored ≡ T
  pub absorbs : w.absorbed ≡ absorbed xs
  pub drops : w.dropped ≡ dropped xs
  pub shortens : w.shortened ≡ shortened xs
  pub swings : w.swing ≡ swing xs
  pub left : w.left ≡ d * (T + (absorbed xs + dropped xs))
  pub right : w.right ≡ pos (d * S) +ℤ pos n *ℤ swing xs

-- the left side is at most the right side, and equal to it exactly if no wave was shortened
pub record Fair (w : Weighing) : Type 0 where
  pub most : pos w.left ≤ℤ w.right
  pub exact : w.shortened ≡ 0 → pos w.left ≡ w.right
  pub only : pos w.left ≡ w.right → w.shortened ≡ 0

-- s' is s and one round of silence more
pub record Longer (s : Silence) (x : Round) (s' : Silence) : Type 0 where
  pub rounds : s'.rounds ≡ s.rounds + 1
  pub busy : s'.busy ≡ s.busy + min 1 (x.shortened + x.absorbed)
  pub idle : s'.idle ≡ cond (x.shortened + x.absorbed == 0) (s.idle + 1) 0

module _ {P C : Type 0} (ports : PortOf P) (closings : ClosingOf C) where
  -- the samples are fed one by one, and nothing else is done
  pub record Speech (a : Rig P C) (samples : List ℕ) (xs : List Event) (b : Rig P C) : Type 0 where
    pub run : Run ports closings a xs b
    pub feeds : All (Feeds (λ e. Unit {0})) xs
    pub plain : All Plain xs
    pub all : fed xs ≡ waves_of samples

  -- feeds of 0 and nothing else, and none once the filter is quiet or the longest silence is over
  pub record Hush (b : Rig P C) (ys : List Event) (s : Silence) (c : Rig P C) : Type 0 where
    pub run : Run ports closings b ys c
    pub silent : All (Feeds (λ e. e ≡ pos 0)) ys
    pub plain : All Plain ys
    pub rounds : s.rounds ≡ entries ys
    pub busy : s.busy ≡ busy ys
    pub idle : s.idle ≡ idle_after 0 ys
    pub until : AwaitsQuiet 0 ys
    pub few : s.rounds ≤ longest_silence

  pub record Spoken (a : Rig P C) (samples : List ℕ) (x : Account) (b : Rig P C) : Type 0 where
    pub calls : List Event
    pub speech : Speech a samples calls b
    pub entries : x.entries ≡ entries calls
    pub few : x.entries ≤ length samples
    pub absorbed : x.absorbed ≡ absorbed calls
    pub dropped : x.dropped ≡ dropped calls
    pub shortened : x.shortened ≡ shortened calls
    pub swing : x.swing ≡ swing calls

  pub record Rested (b : Rig P C) (x : Account) (s : Silence) (y : Account) (c : Rig P C) : Type 0 where
    pub calls : List Event
    pub hush : Hush b calls s c
    pub adds : Adds x calls y
    pub over : (s.rounds ≡ longest_silence) ⊎ (quiet ≤ s.idle)

  -- a rig is made of the port and the closing, with all that a new rig promises, fed the samples, then silence, and cleared
  pub record Reported (p : P) (k : C) (samples : List ℕ) (r : Report) : Type 0 where
    pub made : Rig P C
    pub port : made.port ≡ p
    pub closing : made.closing ≡ k
    pub fresh : Fresh (ports.reads p).stored made.tally
    pub promises : Promises ports closings made
    pub speech : List Event
    pub spoken : Rig P C
    pub speaks : Speech made samples speech spoken
    pub hush : List Event
    pub rested : Rig P C
    pub rests : Hush spoken hush r.silence rested
    pub over : (r.silence.rounds ≡ longest_silence) ⊎ (quiet ≤ r.silence.idle)
    pub drop : ℕ
    pub page : Option Page
    pub ended : Rig P C
    pub ends : Run ports closings rested (clear (Ok drop) ∷ turns page) ended
    pub num : r.ratio.num ≡ (ports.reads p).num
    pub den : r.ratio.den ≡ (ports.reads p).den
    pub start : r.start ≡ (ports.reads p).stored
    pub first : Weighs r.ratio.num r.ratio.den r.start speech (ports.reads spoken.port).stored r.spoken
    pub last : Weighs r.ratio.num r.ratio.den r.start ((speech ++ hush) ++ (clear (Ok drop) ∷ turns page)) (ports.reads ended.port).stored r.ended
