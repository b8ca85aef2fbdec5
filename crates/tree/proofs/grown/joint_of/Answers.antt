use Rattle.std.proofs.Common.{arith}
use Rattle.std.proofs.lemmas.Result.{err_from_is_err_and}
use Rattle.tree.proofs.Growing.{joined_of}
use Rattle.tree.proofs.grown.joint_of.Goals as goal

pub returns-in_err-new : goal.returns-in_err-new
returns-in_err-new c = let p = err_from_is_err_and c.from_residual.result c.from_residual.ensures.1 in rw (p.1, p.2) (omega arith, record { x = c.of.result; y = c.of-2.result; left = c.of.ensures; right = c.of-2.ensures; refused = c.in_err-new.ensures })

pub returns : goal.returns
returns c = (joined_of _ _ _ _ _ _ c.of.ensures c.of-2.ensures c.in_ok-new.ensures, omega arith)
