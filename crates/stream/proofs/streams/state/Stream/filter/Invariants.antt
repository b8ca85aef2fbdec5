use Rattle.std.proofs.Common.{◌≡◌, ℕ, ◌+◌, ◌≤◌, List, ◌++◌, length, take, drop}
use Rattle.rig.specs.declared.pages.Page.{Page}
use Rattle.std.specs.Option.{option_to_list}
use Rattle.stream.specs.Pieces.{Pieced}
use Rattle.stream.proofs.streams.state.Stream.filter.Given as goal

abbrev pub invariant-loop-byte : goal.invariant-loop-byte
invariant-loop-byte g l =
    (out : List ℕ) × (pages : List Page)
    × Pieced g.P.Port g.C.Closing l.initial.self.session.rig l.initial.self.low (take l.byte-index l.piece) out pages l.self.session.rig l.self.low
    × (l.at ≡ length out) × (l.out ≡ out ++ drop l.at l.initial.out) × (l.at + length (option_to_list l.self.low) ≤ l.byte-index + 1)
