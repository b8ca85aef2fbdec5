-- The tail dies: over a listing tree, what is heard in silence is bounded by the energy that was stored.
use Rattle.std.specs.Prelude.{◌≡◌, ℕ, zero, suc, ◌≤◌, List, ℤ, pos, negsuc}
use Rattle.port.specs.declared.meaning.Port.{Ghosts as PortOf}
use Rattle.closing.specs.declared.meaning.Closing.{Ghosts as ClosingOf}
use Rattle.rig.specs.Runs.{Event, Run, All, Feeds, of_round, sum}
use Rattle.rig.specs.declared.parts.Rig.{Rig}
use Rattle.tree.specs.Models.{reads, Took, Emptied}
use Rattle.tree.specs.declared.listed.whole.ListingTree.{ListingTree}

-- a listing tree as a port
abbrev pub tree_port : PortOf ListingTree
tree_port = record {
  reads = λ s. reads s.tree;
  takes = λ s f t z. Took s.tree f t z.tree;
  clears = λ s e z. Emptied s.tree e z.tree;
}

-- 1 if anything is heard, else 0
abbrev pub sounds : ℤ → ℕ
sounds (pos zero) = 0
sounds (pos (suc n)) = 1
sounds (negsuc n) = 1

-- in how many accepted rounds anything was heard
abbrev pub sounding : List Event → ℕ
sounding = sum (of_round (λ x. sounds x.heard))

-- after any calls xs, in any stretch ys of calls in which every accepted round is a feed of 0, the rounds in which anything is heard number at most
-- the energy stored when the stretch began
abbrev pub TailDies : {C : Type 0} → ClosingOf C → Rig ListingTree C → Type 0
TailDies {C} closings a = (xs ys : List Event) (b z : Rig ListingTree C) → Run tree_port closings a xs b → Run tree_port closings b ys z
    → All (Feeds (λ e. e ≡ pos 0)) ys → sounding ys ≤ (tree_port.reads b.port).stored
