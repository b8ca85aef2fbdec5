use Rattle.std.proofs.Common.{◌≡◌, length}
use Rattle.filter.proofs.pour.Given as goal

abbrev pub invariant-loop : goal.invariant-loop
invariant-loop l = (length l.piece ≡ 4096) × (length l.out ≡ 4098)
