use Rattle.std.proofs.Common.{vec_items, arith}
use Rattle.std.proofs.lemmas.Result.{err_from_is_err_and}
use Rattle.net.specs.Reductions.{none, then}
use Rattle.assembly.specs.Branches.{edges}
use Rattle.assembly.proofs.Stepped.{taken_edges, stuck_edges, pair_within, stepped, halts}
use Rattle.assembly.proofs.forests.Forest.reduce.Goals as goal

pub loop-choice-init : goal.loop-choice-init
loop-choice-init c = none

pub join_at-requires : goal.join_at-requires
join_at-requires c =
    let bs = vec_items c.loop-choice.self.branches in
    let t = taken_edges bs c.as_slice.result.now c.args.port c.in-Some.choice c.as_slice.ensures.value c.in-Some.ensures.taken in
    let o = pair_within bs c.args.port c.in-Some.choice t in
    record { order = o.0; within = omega (arith, o.1, c.loop-choice.self.branches.ok.0) }

pub loop-choice-preserved : goal.loop-choice-preserved
loop-choice-preserved c =
    let bs = vec_items c.loop-choice.self.branches in
    let t = taken_edges bs c.as_slice.result.now c.args.port c.in-Some.choice c.as_slice.ensures.value c.in-Some.ensures.taken in
    then c.loop-choice.invariant (stepped c.args.port c.in-Some.choice (edges bs) _ t c.in_ok-join_at.ensures.joined)

pub returns-in_err-join_at : goal.returns-in_err-join_at
returns-in_err-join_at c =
    let bs = vec_items c.loop-choice.self.branches in
    let t = taken_edges bs c.as_slice.result.now c.args.port c.in-Some.choice c.as_slice.ensures.value c.in-Some.ensures.taken in
    let p = err_from_is_err_and c.from_residual.result c.from_residual.ensures.1 in
    let e = c.in_err-join_at.ensures.joined in
    rw (p.1, p.2) (e.0, e.1, halts c.args.port c.in-Some.choice (edges (vec_items c.args.self.now.branches)) (edges bs) e.0 c.loop-choice.invariant t e.2)

pub returns : goal.returns
returns c = (c.loop-choice.invariant, stuck_edges (vec_items c.loop-choice.self.branches) c.as_slice.result.now c.args.port c.as_slice.ensures.value c.in_default.ensures.taken)
