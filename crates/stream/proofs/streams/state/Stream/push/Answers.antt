use Rattle.std.proofs.Common.{◌∷◌, ℤ, Ok, Result, sym, ◌∙◌, subst, w32, SFits, rules}
use Rattle.std.proofs.lemmas.Int.{to_z-of_z}
use Rattle.rig.specs.Runs.{Run}
use Rattle.rig.specs.Runs.Event.{feed}
use Rattle.rig.specs.declared.refusals.Refusal.{Refusal}
use Rattle.session.specs.Sessions.{turns, Sounded}
use Rattle.session.specs.declared.sessions.turning.Entry.{Entry}
use Rattle.stream.proofs.Cuts.{first_byte, second_byte}
use Rattle.stream.proofs.streams.state.Stream.push.Goals as goal

pub returns-in_default-clause-piece : goal.returns-in_default-clause-piece
returns-in_default-clause-piece g c = first_byte _ _ _ _ _ (sym c.take.ensures.value ∙ c.in_default.is)

pub returns-clause-piece : goal.returns-clause-piece
returns-clause-piece g c =
    let x = c.unwrap-entry.result in
    let fits : SFits w32 c.wave_of.result = record { sfits = c.wave_of.type_inv } in
    let heard : SFits w32 x.round.heard = search rules in
    let sound = simp to_z-of_z at c.feed.ensures in
    let told = subst (λ (r : Result Entry Refusal). Sounded g.P.Port g.C.Closing c.args.self.now.session.rig c.wave_of.result r c.feed.new.self.rig) c.unwrap-entry.ensures sound in
    let run = subst (λ (e : ℤ). Run g.P.Port g.C.Closing c.args.self.now.session.rig (feed e (Ok x.round) ∷ turns x.page) c.feed.new.self.rig) c.wave_of.ensures told.0 in
    second_byte _ _ _ _ _ _ _ x.round x.page _ _ (sym c.take.ensures.value ∙ c.in-Some.is) c.take.ensures.after run told.1 (simp to_z-of_z at c.bytes_of.ensures)
