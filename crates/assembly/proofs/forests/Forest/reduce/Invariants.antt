use Rattle.std.proofs.Common.{vec_items, vec_len}
use Rattle.net.specs.Reductions.{Steps}
use Rattle.assembly.specs.Branches.{edges, Joins, Refused}
use Rattle.assembly.proofs.forests.Forest.reduce.Given as goal

abbrev pub invariant-loop-choice : goal.invariant-loop-choice
invariant-loop-choice l = Steps Joins Refused l.port (edges (vec_items l.initial.self.branches)) (edges (vec_items l.self.branches))

abbrev pub decreases-loop-choice : goal.decreases-loop-choice
decreases-loop-choice l = vec_len l.self.branches
