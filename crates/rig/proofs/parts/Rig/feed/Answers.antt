use Rattle.std.proofs.Common.{ℤ, ap, ◌∙◌, subst, w32, SFits, rules}
use Rattle.std.proofs.lemmas.Int.{to_z-of_z}
use Rattle.rig.specs.Steps.{Rounded}
use Rattle.rig.proofs.parts.Rig.feed.Goals as goal

pub returns : goal.returns
returns g c =
    let rig = c.args.self.now in
    let e : SFits w32 c.args.e = c.ranges.e in
    let r : SFits w32 c.get.result = record { sfits = c.get.type_inv } in
    let asked = simp to_z-of_z at c.answer-falling.ensures in
    let rising = c.get.ensures ∙ c.rising-rising.ensures in
    let falling = asked ∙ ap (λ z. g.C.Closing.answers rig.closing z c.args.e c.ratio-ratio.result) rising in (
      search rules,
      search rules,
      record {
        ratio = c.ratio-ratio.result;
        num = c.ratio-ratio.ensures.0;
        den = c.ratio-ratio.ensures.1;
        round = subst (λ (f : ℤ). Rounded g.P.Port rig f c.round.result c.round.new.self) falling c.round.ensures;
      },
    )
