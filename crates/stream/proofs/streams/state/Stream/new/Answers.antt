use Rattle.stream.proofs.Cuts.{whatever_the_cuts}
use Rattle.stream.proofs.streams.state.Stream.new.Goals as goal

pub returns-clause-cuts : goal.returns-clause-cuts
returns-clause-cuts g c = whatever_the_cuts g.P.Port g.C.Closing
