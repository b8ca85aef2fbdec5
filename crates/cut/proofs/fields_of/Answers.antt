use Rattle.std.proofs.Common.{arith, [], ◌∷◌, ◌++◌, sym, subst, append-nil}
use lib.Seq.{append_snoc}
use Rattle.cut.specs.Cuts.{FieldsIn}
use Rattle.std.proofs.lemmas.Grind.{common_steps}
use Rattle.cut.proofs.fields_of.Goals as goal

pub loop-field-preserved : goal.loop-field-preserved
loop-field-preserved c =
    let f = c.in-Some.field in
    let ps = c.loop-field.invariant.1.0 in (
      c.in-Some.ensures.high,
      (
        ps ++ f ∷ [],
        let e = c.push.ensures.items in let k = c.loop-field.invariant.1.1 in grind (arith, common_steps, e, k),
        λ rest more. subst (FieldsIn c.args.text.now c.args.line.place _) (sym (append_snoc ps f rest)) (c.loop-field.invariant.1.2 (f ∷ rest) (c.in-Some.ensures, more)),
      ),
    )

pub returns-clause-within : goal.returns-clause-within
returns-clause-within c = λ _. (c.loop-field.invariant.1.0, (rw append-nil at (c.loop-field.invariant.1.2 [] c.in_default.ensures)), c.loop-field.invariant.1.1)
