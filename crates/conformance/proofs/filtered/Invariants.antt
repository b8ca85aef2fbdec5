use Rattle.std.proofs.Common.{◌≡◌, length}
use Rattle.conformance.proofs.filtered.Given as goal

abbrev pub invariant-loop-piece : goal.invariant-loop-piece
invariant-loop-piece l = length l.heard ≡ 4098
