use Rattle.std.proofs.Common.{◌≡◌, ◌+◌, ◌-◌, ◌∙◌, ap, arith}
use Rattle.std.proofs.lemmas.Result.{err_from_is_err_and}
use Rattle.cut.specs.Cuts.{FirstFields}
use Rattle.reader.specs.Lines.{kind_of_line}
use Rattle.reader.specs.Inner.{standing}
use Rattle.reader.proofs.Ending.{line_taken, line_fails}
use Rattle.reader.proofs.reading.Reading.read_line.Goals as goal
use Rattle.reader.proofs.reading.Reading.read_line.Goals.{After-take}

-- the line is cut into its fields, of which the first five are at hand
cutting : (c : After-take) → FirstFields c.args.text.now c.args.start (c.args.start + (c.line_end-end.result - c.args.start)) c.as_slice-fields.result.now
cutting c =
    let line = c.line_end-end.ensures.within (omega arith) in
    rw c.as_slice-fields.ensures.items (c.fields_of-found.ensures.within (omega (arith, line.low, line.high)))

stands : (c : After-take) → c.standing_as-kind.result ≡ standing c.args.start c.args.self.now.closed (kind_of_line c.args.text.now c.as_slice-fields.result.now)
stands c = c.standing_as-kind.ensures ∙ ap (standing c.args.start c.args.self.now.closed) c.line_kind.ensures

pub returns-in_err-take : goal.returns-in_err-take
returns-in_err-take c =
    let here = (goal.at.returns-in_err-take c).After-take in
    let cut = cutting here in
    let p = err_from_is_err_and c.from_residual.result c.from_residual.ensures.1 in
    rw (p.1, p.2)
    (line_fails c.requires.before c.requires.inside c.requires.small _ _ _ (c.line_end-end.ensures.within (omega arith)) cut (stands here) _ (c.in_err-take.ensures cut.0 (cut.1, cut.2)))

pub returns : goal.returns
returns c =
    let here = (goal.at.returns c).After-take in
    let cut = cutting here in
    line_taken c.requires.before c.requires.inside c.requires.small _ _ _ (c.line_end-end.ensures.within (omega arith)) cut (stands here) _ _ c.min.ensures (c.in_ok-take.ensures cut.0 (cut.1, cut.2))
