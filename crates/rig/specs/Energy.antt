-- What a rig promises of every list of calls. A moment is right after the making or after any call: the rig z that a run leads to.
use Rattle.std.specs.Prelude.{◌≡◌, ℕ, ◌+◌, ◌*◌, ◌≤◌, false, List, [], ◌∷◌, ℤ, pos, ◌+ℤ◌, ◌*ℤ◌, ◌≤ℤ◌}
use Rattle.port.specs.declared.meaning.Port.{Ghosts as PortOf}
use Rattle.closing.specs.Meaning.{Bounded}
use Rattle.closing.specs.declared.meaning.Closing.{Ghosts as ClosingOf}
use Rattle.rig.specs.Pages.{Fresh, page_of}
use Rattle.rig.specs.Runs.{Event, Run, All, Feeds, Turns, of_feed, sum, entries, absorbed, dropped, shortened, swing, busy}
use Rattle.rig.specs.declared.pages.Page.{Page}
use Rattle.rig.specs.declared.parts.Rig.{Rig}

-- of a port of ratio n/d: d times what is left and what is gone is at most d times what was there at the start and n times the swing w; the two are
-- equal exactly when the count c of shortened waves is 0
pub record Balance (n d start left gone c : ℕ) (w : ℤ) : Type 0 where
  pub most : pos (d * (left + gone)) ≤ℤ (pos (d * start) +ℤ pos n *ℤ w)
  pub exact : c ≡ 0 → pos (d * (left + gone)) ≡ pos (d * start) +ℤ pos n *ℤ w
  pub only : pos (d * (left + gone)) ≡ pos (d * start) +ℤ pos n *ℤ w → c ≡ 0

-- the page p is that of the calls ys, from S stored at its start to T stored at its end
pub record Tells (p : Page) (S : ℕ) (ys : List Event) (T : ℕ) : Type 0 where
  pub entries : p.entries ≡ entries ys
  pub start : p.start ≡ S
  pub end : p.end ≡ T
  pub absorbed : p.absorbed ≡ absorbed ys
  pub dropped : p.dropped ≡ dropped ys
  pub shortened : p.shortened ≡ shortened ys
  pub swing : p.swing ≡ swing ys

-- the page p of a port of ratio n/d balances by itself
abbrev pub PageBalance : ℕ → ℕ → Page → Type 0
PageBalance n d p = Balance n d p.start p.end (p.absorbed + p.dropped) p.shortened p.swing

-- after these calls a page begins: there was none, or the last was an accepted turn
abbrev pub Begins : List Event → Type 0
Begins [] = Unit {0}
Begins (x ∷ []) = Turns x
Begins (x ∷ (y ∷ ys)) = Begins (y ∷ ys)

module _ {P C : Type 0} (ports : PortOf P) where
  -- a is a rig of the port p, the closing k and the number n, with no wave open and an empty page
  pub record Made (p : P) (k : C) (n : ℕ) (a : Rig P C) : Type 0 where
    pub port : a.port ≡ p
    pub closing : a.closing ≡ k
    pub number : a.number ≡ n
    pub raised : a.raised ≡ false
    pub tally : Fresh (ports.reads p).stored a.tally

module _ {P C : Type 0} (ports : PortOf P) (closings : ClosingOf C) where
  -- rounding never makes energy: at each moment the energy stored, absorbed and dropped balances with what the waves brought
  abbrev pub NeverMakesEnergy : Rig P C → Type 0
  NeverMakesEnergy a = (xs : List Event) (z : Rig P C) → Run ports closings a xs z
      → Balance (ports.reads a.port).num (ports.reads a.port).den (ports.reads a.port).stored (ports.reads z.port).stored (absorbed xs + dropped xs) (shortened xs) (swing xs)

  -- where every accepted round was a feed, the energy stored, absorbed and dropped is at most that at the start and the closing's offers for the
  -- samples fed
  abbrev pub StaysWithinOffers : (C → ℤ → ℕ) → Rig P C → Type 0
  StaysWithinOffers offers a = (xs : List Event) (z : Rig P C) → Run ports closings a xs z → All (Feeds (λ e. Unit {0})) xs
      → (ports.reads z.port).stored + (absorbed xs + dropped xs) ≤ (ports.reads a.port).stored + sum (of_feed (offers a.closing)) xs

  -- in silence the filter runs down: after any calls xs, in any stretch ys of calls in which every accepted round is a feed of 0, the rounds that
  -- shorten or absorb anything number at most the energy stored when the stretch began
  abbrev pub RunsDown : Rig P C → Type 0
  RunsDown a = (xs ys : List Event) (b z : Rig P C) → Run ports closings a xs b → Run ports closings b ys z
      → All (Feeds (λ e. e ≡ pos 0)) ys → busy ys ≤ (ports.reads b.port).stored

  -- the page tells the truth: its count and sums are those of the calls ys since the last accepted turn, or since the making; and so rounding made no
  -- energy on it either
  abbrev pub PagesTellTheTruth : Rig P C → Type 0
  PagesTellTheTruth a = (xs ys : List Event) (b z : Rig P C) → Run ports closings a xs b → Run ports closings b ys z
      → Begins xs → All (λ x. Turns x → ⊥) ys
      → Tells (page_of z.tally (ports.reads z.port).stored) (ports.reads b.port).stored ys (ports.reads z.port).stored
      × PageBalance (ports.reads z.port).num (ports.reads z.port).den (page_of z.tally (ports.reads z.port).stored)

  -- what a new rig promises of every list of calls from here on
  pub record Promises (a : Rig P C) : Type 0 where
    -- rounding never makes energy
    pub energy : NeverMakesEnergy a
    -- over a bounded closing the energy stays within what was offered
    pub offers : (offers : C → ℤ → ℕ) → Bounded closings.answers offers → StaysWithinOffers offers a
    -- over a bounded closing the filter runs down in silence
    pub silences : (offers : C → ℤ → ℕ) → Bounded closings.answers offers → RunsDown a
    -- the page tells the truth
    pub pages : PagesTellTheTruth a
