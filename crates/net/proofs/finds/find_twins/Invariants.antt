use Rattle.std.proofs.Common.{ℕ, ◌<◌, length}
use Rattle.net.specs.Wires.{wires_of}
use Rattle.net.specs.Searches.{Unlike}
use Rattle.net.proofs.finds.find_twins.Given as goal

abbrev pub invariant-loop-low : goal.invariant-loop-low
invariant-loop-low g l = (k : ℕ) → k < l.low → Unlike (wires_of g.B.Wired l.branches) k (length l.branches)
