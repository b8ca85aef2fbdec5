use Rattle.std.proofs.Common.{vec_items}
use Rattle.std.proofs.lemmas.Result.{err_from_is_err_and}
use Rattle.assembly.specs.Branches.{edges}
use Rattle.assembly.specs.Inner.{Ungrown}
use Rattle.assembly.specs.declared.faults.AssemblyFault.TheVariants.{Irreducible}
use Rattle.assembly.proofs.Passed.{either}
use Rattle.assembly.proofs.forests.tree_of.Goals as goal

pub returns-in_err-forest : goal.returns-in_err-forest
returns-in_err-forest c = let p = err_from_is_err_and c.from_residual.result c.from_residual.ensures.1 in let e = c.in_err-forest.ensures in rw (p.1, p.2, e.1) e.2

pub returns-in_err-reduce : goal.returns-in_err-reduce
returns-in_err-reduce c =
    let p = err_from_is_err_and c.from_residual-in_err-reduce.result c.from_residual-in_err-reduce.ensures.1 in
    let e = c.in_err-reduce.ensures in
    rw (p.1, p.2, e.1) (edges (vec_items c.in_ok-forest.forest.branches), c.in_ok-forest.ensures, e.2)

pub returns : goal.returns
returns c =
    let bs = edges (vec_items c.in_ok-forest.forest.branches) in
    let fs = edges (vec_items c.reduce.new.self.branches) in
    let r = c.in_ok-reduce.ensures in
    rw c.ok_or.ensures.value (either _ _ _ (λ f. Ungrown c.args.scale.rate c.args.scale.unit c.args.ear c.args.elements.now c.args.port f) c.last.result Irreducible
    (λ t w. record { branches = bs; begins = c.in_ok-forest.ensures; down = record { last = fs; came = r.0; stuck = r.1; whole = w } })
    (λ n. (bs, c.in_ok-forest.ensures, record { last = fs; came = r.0; stuck = r.1; broken = n }))
    c.last.ensures)
