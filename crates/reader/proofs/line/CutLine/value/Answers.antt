use Rattle.std.proofs.Common.{◌≡◌, refl, rules}
use Rattle.std.proofs.lemmas.Result.{err_from_is_err_and}
use Rattle.values.proofs.Passed.{kept_ok, kept_err}
use Rattle.refusals.specs.Refusals.{rule_for}
use Rattle.reader.specs.Lines.{nth}
use Rattle.reader.proofs.Parts.{value_right, value_wrong}
use Rattle.reader.proofs.line.CutLine.value.Goals as goal

pub returns-in_err-value : goal.returns-in_err-value
returns-in_err-value c =
    let p = err_from_is_err_and c.from_residual.result c.from_residual.ensures.1 in
    let k = kept_err _ _ _ c.value_of.result c.map_err.result _ c.in_err-value.was c.map_err.ensures.cases c.value_of.ensures in
    let t : c.in_err-value.field-0.0 ≡ record { place = (nth c.args.self.now.fields.now 3).place; rule = rule_for k.0 } = let h = k.2 in search rules in
    rw (p.1, p.2, t) (value_wrong c.args.self.now _ _ c.in-Part.is c.of-word.ensures k.0 _ (search rules) refl k.1)

pub returns : goal.returns
returns c =
    value_right c.args.self.now _ _ c.in-Part.is c.of-word.ensures c.in_ok-value.value
    (kept_ok _ _ _ c.value_of.result c.map_err.result _ c.in_ok-value.was c.map_err.ensures.cases c.value_of.ensures)
