use Rattle.std.proofs.Common.{ℕ, List, [], take}
use Rattle.stream.specs.Pieces.{Pieced}
use Rattle.stream.proofs.streams.state.Stream.measure.Given as goal

abbrev pub invariant-loop-i : goal.invariant-loop-i
invariant-loop-i g l =
    (out : List ℕ)
    × Pieced g.P.Port g.C.Closing l.initial.self.session.rig l.initial.self.low (take l.i l.piece) out [] l.self.session.rig l.self.low
