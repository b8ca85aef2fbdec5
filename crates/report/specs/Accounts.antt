-- Sums over a list of calls, and the two sides of the energy statement.
use Rattle.std.specs.Prelude.{◌≡◌, ℕ, ◌+◌, ◌*◌, pos, ◌+ℤ◌, ◌-ℤ◌, ◌*ℤ◌}
use Rattle.wave.specs.Numbers.{sq}
use Rattle.rig.specs.declared.pages.Round.{Round}
use Rattle.report.specs.declared.accounts.Weighing.{Weighing}
use Rattle.report.specs.declared.accounts.account.Account.{Account}

pub record Empty (a : Account) : Type 0 where
  pub entries : a.entries ≡ 0
  pub absorbed : a.absorbed ≡ 0
  pub dropped : a.dropped ≡ 0
  pub shortened : a.shortened ≡ 0
  pub swing : a.swing ≡ pos 0

-- b is a and the round x
pub record CountsRound (a : Account) (x : Round) (b : Account) : Type 0 where
  pub entries : b.entries ≡ a.entries + 1
  pub absorbed : b.absorbed ≡ a.absorbed + x.absorbed
  pub dropped : b.dropped ≡ a.dropped
  pub shortened : b.shortened ≡ a.shortened + x.shortened
  pub swing : b.swing ≡ a.swing +ℤ (pos (sq x.falling.value) -ℤ pos (sq x.rising.value))

-- b is a and a clear that dropped D
pub record CountsClear (a : Account) (D : ℕ) (b : Account) : Type 0 where
  pub entries : b.entries ≡ a.entries + 1
  pub absorbed : b.absorbed ≡ a.absorbed
  pub dropped : b.dropped ≡ a.dropped + D
  pub shortened : b.shortened ≡ a.shortened
  pub swing : b.swing ≡ a.swing

-- of a port of ratio n/d that stored S at the start and stores T now
pub record Weighed (a : Account) (n d S T : ℕ) (w : Weighing) : Type 0 where
  pub entries : w.entries ≡ a.entries
  pub stored : w.stored ≡ T
  pub absorbed : w.absorbed ≡ a.absorbed
  pub dropped : w.dropped ≡ a.dropped
  pub shortened : w.shortened ≡ a.shortened
  pub swing : w.swing ≡ a.swing
  pub left : w.left ≡ d * (T + (a.absorbed + a.dropped))
  pub right : w.right ≡ pos (d * S) +ℤ pos n *ℤ a.swing
