use Rattle.std.proofs.Common.{◌≡◌, ◌-◌, eqb, not, length, take, drop, ap, ◌∙◌, arith, rules}
use Rattle.std.specs.List.{prefix_len}
use Rattle.std.proofs.lemmas.Bool.Decides.{nat_tests}
use Rattle.std.proofs.lemmas.Bool.{both_ways}
use Rattle.cut.proofs.Runs.{run_within, run_passes, run_stops}
use Rattle.cut.proofs.line_end.Goals as goal

pub returns-in-Some-clause-within : goal.returns-in-Some-clause-within
returns-in-Some-clause-within c =
    λ l.
    let t = c.args.text.now in
    let a = c.args.start in
    let r : c.in-Some.rest.now ≡ take (length t - a) (drop a t) = search rules in
    let n = c.line_len.ensures.run ∙ ap (prefix_len (λ b. not (eqb b 10))) r in
    record {
      low = omega arith;
      high = run_within _ t a (length t) _ l (omega arith) n;
      clear = λ k p q z. both_ways _ (ap (λ b. not (eqb b 10)) z) (run_passes _ t a (length t) _ l (omega arith) n k p q);
      closed = λ p. let y = run_stops _ t a (length t) _ l (omega arith) n p in grind (arith, nat_tests);
    }
