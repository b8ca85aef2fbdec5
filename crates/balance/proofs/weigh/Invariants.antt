use Rattle.std.proofs.Common.{◌≡◌, length}
use Rattle.balance.proofs.weigh.Given as goal

abbrev pub invariant-loop : goal.invariant-loop
invariant-loop l = length l.piece ≡ 4096
