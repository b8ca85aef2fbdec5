use Rattle.net.specs.Wires.{wires_of}
use Rattle.net.proofs.Found.{one_choice}
use Rattle.net.proofs.finds.choose.Goals as goal

pub returns-clause-only : goal.returns-clause-only
returns-clause-only g c = one_choice (wires_of g.B.Wired c.args.branches.now) c.args.port
