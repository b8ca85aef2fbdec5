use Rattle.std.proofs.Common.{◌≡◌, ℕ, ◌*◌, ◌<◌, ◌≤◌, List, length, get_or, Some, None, Option, MatchOption, MatchResult, sym, subst, ap, ◌∙◌, inl, inr, ⊎_elim, arith, get_or-take, rules}
use Rattle.std.specs.Option.{ok_or}
use Rattle.std.specs.Char.{is_ascii_digit}
use Rattle.std.proofs.lemmas.List.Sums.{prefix_len-le-length}
use Rattle.std.proofs.lemmas.Result.{err_from_is_err_and}
use Rattle.values.specs.Limits.{InRange}
use Rattle.values.specs.Values.{Valued, ValueFault}
use Rattle.values.specs.declared.Kind.{Kind}
use Rattle.values.specs.declared.counted.Value.{Value}
use Rattle.values.specs.declared.Wrong.TheVariants.{Range}
use Rattle.values.proofs.Numerals.{leading_each, made_by, none_by_count, none_by_factor}
use Rattle.values.proofs.Passed.{some_of, none_of, iff_cases, kept_ok, kept_err}
use Rattle.values.proofs.value_of.Goals as goal
use Rattle.values.proofs.value_of.Goals.{Else-count-gt-MOST_DIGITS, After-decimal_of}

fits : (c : Else-count-gt-MOST_DIGITS) → c.digit_count-count.result ≤ length c.args.word.now
fits c = omega (arith, c.digit_count-count.ensures, prefix_len-le-length is_ascii_digit c.args.word.now)

valued : (c : After-decimal_of) → Valued c.args.kind c.args.word.now (c.decimal_of.result * c.in_ok-times.times)
valued c =
    made_by c.args.kind c.args.word.now _ _ c.digit_count-count.result _ _ c.digit_count-count.ensures (search rules) c.if-count-gt-MOST_DIGITS.false (omega (arith, c.digit_count-count.ensures, prefix_len-le-length is_ascii_digit c.args.word.now))
    c.split_at.ensures.front c.split_at.ensures.back c.decimal_of.ensures.value (sym (some_of _ _ c.ok_or.result _ c.in_ok-times.was c.ok_or.ensures.value) ∙ c.factor_of.ensures.value)

pub returns-then-count-eq0 : goal.returns-then-count-eq0
returns-then-count-eq0 c = none_by_count _ _ _ c.digit_count-count.ensures (⊎_elim inl (λ x. inr x.1) c.then-count-eq0.either)

pub split_at-requires : goal.split_at-requires
split_at-requires c = fits c

pub returns-in_err-times : goal.returns-in_err-times
returns-in_err-times c =
    let p = err_from_is_err_and c.from_residual.result c.from_residual.ensures.1 in
    let n = none_of _ _ c.ok_or.result _ c.in_err-times.was c.ok_or.ensures.value in
    rw (p.1, p.2, n.1) (none_by_factor _ _ _ _ c.digit_count-count.ensures c.split_at.ensures.back (sym n.0 ∙ c.factor_of.ensures.value))

pub decimal_of-requires-clause-by_index : goal.decimal_of-requires-clause-by_index
decimal_of-requires-clause-by_index c = λ k l.
    let n = c.digit_count-count.result in
    let bs = c.args.word.now in
    let m : k < n = omega (arith, c.split_at.ensures.front_len) in
    ap is_ascii_digit (ap (λ xs. get_or xs k 0) c.split_at.ensures.front ∙ get_or-take n bs k 0 m) ∙ leading_each bs k (omega (arith, c.digit_count-count.ensures))

pub returns-in_err-scaled : goal.returns-in_err-scaled
returns-in_err-scaled c =
    let p = err_from_is_err_and c.from_residual-in_err-scaled.result c.from_residual-in_err-scaled.ensures.1 in
    let k = kept_err _ _ _ c.try_from.result c.map_err.result _ c.in_err-scaled.was c.map_err.ensures.cases (iff_cases _ _ _ c.try_from.ensures) in
    let t : c.in_err-scaled.field-0.0 ≡ Range = let h = k.2 in search rules in
    rw (p.1, p.2, t) (_, valued (goal.at.returns-in_err-scaled c).After-decimal_of, λ r. omega (arith, r.1, k.1))

-- none where it is out of range
or_range : (k : Kind) (bs : List ℕ) (n : ℕ) (o : Option Value) → Valued k bs n → MatchOption o (InRange n → ⊥) (λ v. v.value ≡ n) → MatchResult (ok_or o Range) (λ v. Valued k bs v.value) (λ x. ValueFault k bs x)
or_range k bs n None h out = (n, h, out)
or_range k bs n (Some v) h is = subst (Valued k bs) (sym is) h

pub returns : goal.returns
returns c =
    let v = valued (goal.at.returns c).After-decimal_of in
    let k = kept_ok _ _ _ c.try_from.result c.map_err.result _ c.in_ok-scaled.was c.map_err.ensures.cases (iff_cases _ _ _ c.try_from.ensures) in
    rw c.ok_or-2.ensures.value (or_range c.args.kind c.args.word.now c.in_ok-scaled.scaled c.new.result (subst (Valued c.args.kind c.args.word.now) (sym k.1) v) c.new.ensures)
