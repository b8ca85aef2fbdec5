use Rattle.std.proofs.Common.{◌<◌, length, arith, rules}
use Rattle.std.proofs.lemmas.Bool.Decides.{not_from_Decides}
use Rattle.std.proofs.lemmas.Result.{err_from_is_err_and}
use Rattle.reader.specs.Lines.{Carries}
use Rattle.reader.proofs.Entering.{ends_full, ends_fine, ends_are}
use Rattle.reader.proofs.line.CutLine.ends.Goals as goal

pub returns-in_err-to : goal.returns-in_err-to
returns-in_err-to c =
    let l = c.args.self.now in
    let one = c.in_ok-from.ensures in
    let full = c.in_err-to.ensures in
    let p = err_from_is_err_and c.from_residual-in_err-to.result c.from_residual-in_err-to.ensures.1 in
    rw (p.1, p.2, full.1) (ends_full l _ _ (omega arith) (search rules) one.0 one.2 full.0)

pub returns : goal.returns
returns c =
    let l = c.args.self.now in
    let one = c.in_ok-from.ensures in
    let two = c.in_ok-to.ensures in
    let there : 2 < length l.fields.now = omega arith in
    let carries : Carries l.kind = search rules in (
      ends_fine l _ _ there carries one.0 one.2 two.2 (not_from_Decides _ c.same_name.ensures c.if-same_name.false),
      ends_are l _ _ there carries one.0 one.2 two.2 _ _ two.0 one.1 two.1,
    )
