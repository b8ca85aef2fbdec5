use Rattle.std.proofs.Common.{pos, Result, inl, inr, subst, arith}
use Rattle.rig.specs.declared.refusals.Refusal.{Refusal}
use Rattle.session.specs.Sessions.{Sounded}
use Rattle.session.specs.declared.sessions.turning.Entry.{Entry}
use Rattle.report.proofs.Speaking.{hushed_start, hushed_more, hushed_end}
use Rattle.report.proofs.reports.rest.Goals as goal

pub loop-init : goal.loop-init
loop-init g c =
    let s = c.default-silence.ensures in
    (hushed_start _ _ _ _ _ s.0 s.1.0 s.1.1, s.0, omega (arith, s.1.1))

pub counted-account-requires : goal.counted-account-requires
counted-account-requires g c =
    let H = c.loop.invariant.0 in
    omega (arith, c.loop.invariant.1, H.adds.entries, H.hush.rounds)

pub after-silence-requires : goal.after-silence-requires
after-silence-requires g c =
    let H = c.loop.invariant.0 in
    (omega (arith, c.loop.invariant.1), (H.busy_most, H.idle_most))

pub loop-preserved : goal.loop-preserved
loop-preserved g c =
    let I = c.loop.invariant in
    let fed = subst (λ (r : Result Entry Refusal). Sounded g.P.Port g.C.Closing c.loop.session.rig (pos 0) r c.feed.new.self.rig) c.unwrap-entry.ensures c.feed.ensures in (
      hushed_more _ _ _ _ _ _ _ _ _ _ _ _ I.2 (omega (arith, I.1)) I.0 fed.0 c.counted-account.ensures c.after-silence.ensures,
      omega (arith, c.after-silence.ensures.rounds, I.1),
      omega arith,
    )

pub returns-after-loop : goal.returns-after-loop
returns-after-loop g c = hushed_end _ _ _ _ _ _ _ (inl (omega (arith, c.loop.invariant.1))) c.loop.invariant.0

pub returns-then-silence-ge-QUIET : goal.returns-then-silence-ge-QUIET
returns-then-silence-ge-QUIET g c =
    let I = c.loop.invariant in
    let fed = subst (λ (r : Result Entry Refusal). Sounded g.P.Port g.C.Closing c.loop.session.rig (pos 0) r c.feed.new.self.rig) c.unwrap-entry.ensures c.feed.ensures in
    hushed_end _ _ _ _ _ _ _ (inr (omega arith)) (hushed_more _ _ _ _ _ _ _ _ _ _ _ _ I.2 (omega (arith, I.1)) I.0 fed.0 c.counted-account.ensures c.after-silence.ensures)
