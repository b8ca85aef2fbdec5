use Rattle.std.proofs.Common.{length}
use Rattle.balance.proofs.weigh_piece.Given as goal

abbrev pub decreases-loop-page : goal.decreases-loop-page
decreases-loop-page l = length l.left
