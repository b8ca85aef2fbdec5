use Rattle.std.proofs.Common.{◌≡◌, ◌+◌, get_or, sym, ap, ◌∙◌, ⊎_elim, arith}
use Rattle.std.proofs.lemmas.Bool.{both_ways, cases_lt, not-true, not-false}
use Rattle.cut.specs.Cuts.{blank}
use Rattle.cut.proofs.Runs.{run_passes, run_stops}
use Rattle.cut.proofs.next_field.Goals as goal

pub returns-then-len-eq0 : goal.returns-then-len-eq0
returns-then-len-eq0 c =
    λ k l m.
    let t = c.args.text.now in
    let p = c.args.from + c.gap_len.result in
    let stops = run_stops _ t c.args.from c.args.end _ (omega arith) (omega arith) c.gap_len.ensures.run in
    let more = run_stops _ t p c.args.end _ (omega arith) (omega arith) c.word_len-len.ensures.run in
    let n : p + c.word_len-len.result ≡ p = omega arith in
    run_passes _ t c.args.from c.args.end _ (omega arith) (omega arith) c.gap_len.ensures.run k l
    (⊎_elim
    (λ q. absurd (both_ways _ (stops q) (ap (λ i. blank (get_or t i 0)) (sym n) ∙ not-false _ (more (omega arith)))))
    (λ q. omega arith)
    (cases_lt p c.args.end))

pub returns : goal.returns
returns c =
    let t = c.args.text.now in
    let p = c.args.from + c.gap_len.result in
    record {
      after = omega arith;
      gap = run_passes _ t c.args.from c.args.end _ (omega arith) (omega arith) c.gap_len.ensures.run;
      some = omega arith;
      high = omega arith;
      solid = λ k l m. not-true _ (run_passes _ t p c.args.end _ (omega arith) (omega arith) c.word_len-len.ensures.run k l m);
      stops = λ l. not-false _ (run_stops _ t p c.args.end _ (omega arith) (omega arith) c.word_len-len.ensures.run l);
    }
