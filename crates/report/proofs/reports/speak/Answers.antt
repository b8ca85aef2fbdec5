use Rattle.std.proofs.Common.{◌∷◌, ℤ, Ok, Result, subst, arith, w32, SFits}
use Rattle.std.proofs.lemmas.Int.{to_z-of_z}
use Rattle.rig.specs.Runs.{Run}
use Rattle.rig.specs.Runs.Event.{feed}
use Rattle.rig.specs.declared.refusals.Refusal.{Refusal}
use Rattle.session.specs.Sessions.{turns, Sounded}
use Rattle.session.specs.declared.sessions.turning.Entry.{Entry}
use Rattle.report.proofs.Speaking.{said_start, said_more, said_end}
use Rattle.report.proofs.reports.speak.Goals as goal

pub loop-pair-init : goal.loop-pair-init
loop-pair-init g c = said_start _ _ _ _ _

pub loop-pair-preserved : goal.loop-pair-preserved
loop-pair-preserved g c =
    let fits : SFits w32 c.wave_of.result = record { sfits = c.wave_of.type_inv } in
    let x = c.unwrap-entry.result in
    let sound = simp to_z-of_z at c.feed.ensures in
    let told = subst (λ (r : Result Entry Refusal). Sounded g.P.Port g.C.Closing c.loop-pair.session.rig c.wave_of.result r c.feed.new.self.rig) c.unwrap-entry.ensures sound in
    let run = subst (λ (e : ℤ). Run g.P.Port g.C.Closing c.loop-pair.session.rig (feed e (Ok x.round) ∷ turns x.page) c.feed.new.self.rig) c.wave_of.ensures told.0 in
    said_more _ _ _ _ _ _ _ _ _ _ _ _ _ _ c.as_chunks.ensures.front c.as_chunks.ensures.front_len c.loop-pair-test.true c.loop-pair.invariant run c.counted-account.ensures

pub returns : goal.returns
returns g c = said_end _ _ _ _ _ _ _ _ c.empty-account.ensures (omega (arith, c.as_chunks.ensures.front_len)) c.loop-pair.invariant
