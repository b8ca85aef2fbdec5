-- A page: how it begins, what an entry adds to it, and how it ends.
use Rattle.std.specs.Prelude.{◌≡◌, ℕ, ◌+◌, ℤ, pos, ◌+ℤ◌, ◌-ℤ◌}
use Rattle.wave.specs.Numbers.{sq}
use Rattle.rig.specs.declared.pages.Page.{Page}
use Rattle.rig.specs.declared.parts.Tally.{Tally}

-- q has no entry, and begins where S is stored
pub record Fresh (S : ℕ) (q : Tally) : Type 0 where
  pub entries : q.entries ≡ 0
  pub start : q.start ≡ S
  pub absorbed : q.absorbed ≡ 0
  pub dropped : q.dropped ≡ 0
  pub shortened : q.shortened ≡ 0
  pub swing : q.swing ≡ pos 0

-- q is p with one more entry: r rose and f fell, A was absorbed, c waves were shortened and D was dropped
pub record Entered (p : Tally) (r f : ℤ) (A c D : ℕ) (q : Tally) : Type 0 where
  pub entries : q.entries ≡ p.entries + 1
  pub start : q.start ≡ p.start
  pub absorbed : q.absorbed ≡ p.absorbed + A
  pub dropped : q.dropped ≡ p.dropped + D
  pub shortened : q.shortened ≡ p.shortened + c
  pub swing : q.swing ≡ p.swing +ℤ (pos (sq f) -ℤ pos (sq r))

-- the page, where S is stored at its end
abbrev pub page_of : Tally → ℕ → Page
page_of p S = record {
  entries = p.entries;
  start = p.start;
  end = S;
  absorbed = p.absorbed;
  dropped = p.dropped;
  shortened = p.shortened;
  swing = p.swing;
}
