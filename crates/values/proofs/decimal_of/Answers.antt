use Rattle.std.proofs.Common.{◌≡◌, ℕ, ◌+◌, ◌-◌, ◌*◌, ◌^◌, ◌<◌, [], ◌∷◌, map, length, List, get_or, take, Some, sym, refl, ap, ◌∙◌, subst, arith, rules, take_all}
use Rattle.std.proofs.lemmas.Fn.{serves_by, fronts}
use Rattle.std.proofs.iter.Yields.{gives_left}
use Rattle.std.proofs.lemmas.Iterator.{YieldsList-from_slice}
use Rattle.std.proofs.lemmas.Iterator.Consumers.{YieldsList-turn}
use Rattle.std.proofs.lemmas.List.{map-append, length-map, get_or_default}
use Rattle.std.proofs.lemmas.List.Sums.{fold_push}
use lib.Seq.{take-append_seam}
use Rattle.values.specs.Values.{decimal}
use Rattle.values.proofs.Numerals.{digit_range, decimal_below, six_digits}
use Rattle.values.proofs.decimal_of.Goals as goal

-- each call gets the number of the digits so far
pub fold-requires-clause-callable : goal.fold-requires-clause-callable
fold-requires-clause-callable c =
    serves_by _ (λ xs q. q.1 ≡ decimal (map (λ y. y.now) xs))
    (λ xs q x v j r.
    let s : v.1 ≡ q.1 * 10 + (x.now - 48) = search rules in
    s ∙ ap (λ n. n * 10 + (x.now - 48)) j ∙ sym (ap decimal (map-append (λ y. y.now) xs (x ∷ [])) ∙ fold_push (λ n b. n * 10 + (b - 48)) 0 (map (λ y. y.now) xs) x.now))
    _ _ _ _ refl
    (λ xs t q x u y e j.
    let ds = c.args.digits.now in
    let ms : List ℕ = map (λ z. z.now) xs in
    let m = YieldsList-turn (YieldsList-from_slice ds c.iter.ensures.rest) xs t y (Some x) u x refl e in
    let f = gives_left fronts (λ z. z.now) xs ds c.iter.result t (YieldsList-from_slice {s = c.iter.result} ds c.iter.ensures.rest).runs y in
    let l : length ms ≡ length xs = simp length-map in
    let k : take (length ms) ds ≡ ms = ap (take (length ms)) f.1 ∙ take-append_seam ms f.0 in
    let n : decimal (take (length ms) ds) < 1000000 = six_digits _ (length ms) (omega arith) (decimal_below ds (length ms) (omega arith) c.requires.by_index) in
    let r : q.1 < 1000000 = omega (arith, ap decimal k) in
    let g : get_or ds (length xs) 0 ≡ x.now = get_or_default ds (length xs) 0 x.now m.0 ∙ sym m.1 in
    let d = digit_range (get_or ds (length xs) 0) (c.requires.by_index (length xs) m.0) in
    (λ _ _ _ _ _. omega arith, λ _ _ _ _ _ _. omega (arith, d.0), λ _ _ _ _ _ _ z. omega (arith, z.ensures)))

pub returns-clause-bound : goal.returns-clause-bound
returns-clause-bound c =
    let ds = c.args.digits.now in
    let e : c.fold.result ≡ decimal ds = search rules in
    let b = decimal_below ds (length ds) (omega arith) c.requires.by_index in
    subst (λ n. n < 1000000) (sym e) (six_digits (decimal ds) (length ds) (omega arith) (subst (λ l. decimal l < 10 ^ length ds) (take_all (length ds) ds (omega arith)) b))
