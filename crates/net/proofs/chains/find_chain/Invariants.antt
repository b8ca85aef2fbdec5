use Rattle.std.proofs.Common.{ℕ, ◌<◌}
use Rattle.net.specs.Wires.{wires_of}
use Rattle.net.specs.Choices.{AreChain}
use Rattle.net.specs.declared.wires.Pair.{Pair}
use Rattle.net.proofs.chains.find_chain.Given as goal

abbrev pub invariant-loop-node : goal.invariant-loop-node
invariant-loop-node g l = (m : ℕ) → m < l.node → (q : Pair) → AreChain (wires_of g.B.Wired l.branches) l.port m q → ⊥
