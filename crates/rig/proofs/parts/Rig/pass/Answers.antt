use Rattle.std.proofs.Common.{ℤ, Ok, Result, subst, w32, SFits, rules}
use Rattle.std.proofs.lemmas.Int.{to_z-of_z}
use Rattle.rig.specs.Steps.{Fed}
use Rattle.rig.specs.Runs.Event.{feed}
use Rattle.rig.specs.Runs.Run.{done, next}
use Rattle.rig.specs.declared.pages.Round.{Round}
use Rattle.rig.specs.declared.refusals.Refusal.{Refusal}
use Rattle.rig.proofs.parts.Rig.pass.Goals as goal

pub returns : goal.returns
returns g c =
    let x = c.unwrap-round.result in
    let wave : SFits w32 c.wave_of.result = record { sfits = c.wave_of.type_inv } in
    let heard : SFits w32 x.heard = search rules in
    let sound = simp to_z-of_z at c.feed.ensures in
    let told = subst (λ (r : Result Round Refusal). Fed g.P.Port g.C.Closing c.args.self.now c.wave_of.result r c.feed.new.self) c.unwrap-round.ensures sound in
    let fed = subst (λ (e : ℤ). Fed g.P.Port g.C.Closing c.args.self.now e (Ok x) c.feed.new.self) c.wave_of.ensures told in
    record {
      round = x;
      run = next (feed _ (Ok x)) fed done;
      heard = simp to_z-of_z at c.bytes_of.ensures;
      idle = told.2.round.raised;
      entered = told.2.round.tally.entries;
    }
