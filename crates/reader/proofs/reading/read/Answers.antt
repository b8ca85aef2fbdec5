use Rattle.std.proofs.Common.{◌≡◌, length, Err, subst, arith, rules}
use Rattle.std.proofs.lemmas.Result.{err_from_is_err_and}
use Rattle.reader.specs.Answers.{Refuses}
use Rattle.reader.specs.Inner.{Sofar}
use Rattle.reader.proofs.Ending.{size_refused}
use Rattle.reader.proofs.OneAnswer.{only_answer}
use Rattle.reader.proofs.reading.read.Goals as goal

pub returns-then-is_empty : goal.returns-then-is_empty
returns-then-is_empty c =
    let x : Refuses c.args.text.now c.at.result = rw c.at.ensures (size_refused c.args.text.now (search rules)) in
    record { answer = x; only = only_answer _ (Err c.at.result) x }

pub returns-in_err-start-clause-only : goal.returns-in_err-start-clause-only
returns-in_err-start-clause-only c =
    let p = err_from_is_err_and c.from_residual.result c.from_residual.ensures.1 in
    only_answer _ _ (rw (p.1, p.2) (c.in_err-start.ensures))

pub finish-requires-clause-all : goal.finish-requires-clause-all
finish-requires-clause-all c =
    let inv = c.loop-start.invariant in
    let all : c.loop-start.start ≡ length c.args.text.now = omega arith in
    subst (λ q. Sofar c.args.text.now q c.loop-start.reading) all inv

pub returns-clause-only : goal.returns-clause-only
returns-clause-only c = only_answer _ _ c.finish.ensures
