use Rattle.std.proofs.Common.{◌≡◌, length, refl, ap, rules}
use Rattle.std.proofs.lemmas.Result.{err_from_is_err_and}
use Rattle.values.proofs.Passed.{kept_ok, kept_err}
use Rattle.refusals.specs.declared.Rule.TheVariants.{Full}
use Rattle.reader.proofs.Parts.{enter_old, enter_new, no_node}
use Rattle.reader.proofs.records.enter.Goals as goal

pub returns-in-Some : goal.returns-in-Some
returns-in-Some c = enter_old c.args.text.now _ c.args.name _ _ c.as_slice.ensures.items c.of.ensures _ c.in-Some.ensures

pub returns-in_err-map_err : goal.returns-in_err-map_err
returns-in_err-map_err c =
    let p = err_from_is_err_and c.from_residual.result c.from_residual.ensures.1 in
    let k = kept_err _ _ _ c.push.result c.map_err.result _ c.in_err-map_err.was c.map_err.ensures.cases c.push.ensures.room in
    let t : c.in_err-map_err.field-0.0 ≡ record { place = c.args.name.place; rule = Full } = let h = k.2 in search rules in
    rw (p.1, p.2, t) ((k.1, no_node c.args.text.now _ c.args.name _ _ c.as_slice.ensures.items c.of.ensures c.in_default.ensures), refl)

pub returns : goal.returns
returns c =
    let k = kept_ok _ _ _ c.push.result c.map_err.result _ c.in_ok-map_err.was c.map_err.ensures.cases c.push.ensures.room in
    enter_new c.args.text.now _ c.args.name _ _ c.as_slice.ensures.items c.of.ensures _ _ c.in_default.ensures k c.push.ensures.items (ap length c.as_slice-index.ensures.items)
