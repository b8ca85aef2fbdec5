use Rattle.std.proofs.Common.{refl, ap, ◌∙◌, arith}
use Rattle.rig.proofs.Blocked.{run_more}
use Rattle.report.proofs.Fairness.{Sums, sums_adds, sums_clear, weighs_of, fair_of}
use Rattle.report.proofs.reports.report_on.Goals as goal

pub returns : goal.returns
returns g c =
    let ports = g.P.Port in
    let closings = g.C.Closing in
    let made = c.new-session.ensures.made in
    let E = c.speak-account.ensures in
    let R = c.rest.ensures in
    let K = c.clear-dropped.ensures.0 in
    let p = c.args.port in
    let num = c.ratio-ratio.ensures.0 in
    let den = c.ratio-ratio.ensures.1 in
    let start = c.stored-start.ensures in
    let spoken = c.speak-account.new.session.rig in
    let ended = c.clear-dropped.new.self.rig in
    let T = c.stored.ensures ∙ ap (λ q. (ports.reads q).stored) c.port.ensures in
    let U = c.stored-2.ensures ∙ ap (λ q. (ports.reads q).stored) c.port-2.ensures in
    let s : Sums c.speak-account.result E.calls = record { entered = E.entries; absorbs = E.absorbed; drops = E.dropped; shortens = E.shortened; swings = E.swing } in
    let both = sums_adds _ _ E.calls R.calls s R.adds in
    let all = sums_clear _ _ _ _ c.clear-dropped.result.1 both c.cleared.ensures in
    let first = weighs_of _ _ _ _ _ _ _ E.calls _ _ refl refl T s c.weighed-spoken.ensures in
    let last = weighs_of _ _ _ _ _ _ _ _ _ _ refl refl U all c.weighed-ended.ensures in
    let whole = run_more ports closings (run_more ports closings E.speech.run R.hush.run) K in
    let energy = c.new-session.ensures.promises.energy in
    let quiet = c.new-session.ensures.promises.silences g.C.BoundedClosing.offers g.met.C.BoundedClosing.bounded _ _ _ _ E.speech.run R.hush.run R.hush.silent in
    record {
      what = (
        omega arith,
        record {
          made = c.new-session.result.rig;
          port = made.port;
          closing = made.closing;
          fresh = made.tally;
          promises = c.new-session.ensures.promises;
          speech = E.calls;
          spoken = spoken;
          speaks = E.speech;
          hush = R.calls;
          rested = c.rest.new.session.rig;
          rests = R.hush;
          over = R.over;
          drop = c.clear-dropped.result.0;
          page = c.clear-dropped.result.1;
          ended = ended;
          ends = K;
          num = num;
          den = den;
          start = start;
          first = first;
          last = last;
        },
      );
      spoken = fair_of ports closings _ spoken p _ _ _ _ _ _ made.port num den start refl energy E.speech.run first;
      ended = fair_of ports closings _ ended p _ _ _ _ _ _ made.port num den start refl energy whole last;
      silence = omega (arith, quiet, R.hush.busy, first.stored);
    }
