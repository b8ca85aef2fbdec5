use Rattle.std.proofs.Common.{ℕ, Bool, List, Option, map, drop, true, false, Some, None, sym, subst, arith, rules}
use Rattle.std.proofs.lemmas.List.{length-map, drop-map}
use Rattle.std.proofs.lemmas.Iterator.{IsFirst-from_position, YieldsList-from_slice, YieldsList-from_map}
use Rattle.std.proofs.lemmas.Iterator.Consumers.{YieldsList-at}
use Rattle.std.proofs.lemmas.Iterator.Adapters.{YieldsList-from_skip}
use Rattle.net.specs.declared.wires.Wire.{Wire}
use Rattle.net.proofs.Found.{IsFirst, past_found}
use Rattle.net.proofs.searches.first_past.Goals as goal

-- the branches from `start` on, by their ends, are the ends of all from `start` on
past_start : {X : Type 0} (f : X → Wire) (answers : Wire → Bool → Type 0) (start : ℕ) (xs : List X) (r : Option ℕ) → IsFirst answers (map f (drop start xs)) r → IsFirst answers (drop start (map f xs)) r
past_start f answers start xs r = subst (λ ws. IsFirst answers ws r) (sym (drop-map f start xs))

pub returns-in_err-past : goal.returns-in_err-past
returns-in_err-past g c =
    let f = g.B.Wired.wired in
    let bs = c.args.branches.now in
    let answers : Wire → Bool → Type 0 = λ w b. g.F.Fn.post c.args.test (w, tt) b in
    let first : IsFirst answers (map f (drop c.args.start bs)) None = IsFirst-from_position _ _ _ (λ w. answers w true) (λ w. answers w false) (c.in_err-past.ensures.ran) (YieldsList-from_map _ f (YieldsList-at c.map.ensures.source (YieldsList-from_skip c.args.start (YieldsList-at c.skip.ensures.source (YieldsList-from_slice bs c.iter.ensures.rest)) c.skip.ensures.count)) c.map.ensures.closure (λ x r q k. search rules)) (λ x q k. search rules) (λ x q k. search rules) in
    let h = past_found answers (map f bs) c.args.start None (past_start f answers c.args.start bs None first) in
    let e = length-map bs f in
    rw c.from_residual.ensures (λ k lo hi. h k lo (omega arith))

pub returns : goal.returns
returns g c =
    let f = g.B.Wired.wired in
    let bs = c.args.branches.now in
    let answers : Wire → Bool → Type 0 = λ w b. g.F.Fn.post c.args.test (w, tt) b in
    let first : IsFirst answers (map f (drop c.args.start bs)) (Some c.in_ok-past.past) = IsFirst-from_position _ _ _ (λ w. answers w true) (λ w. answers w false) (c.in_ok-past.ensures.ran) (YieldsList-from_map _ f (YieldsList-at c.map.ensures.source (YieldsList-from_skip c.args.start (YieldsList-at c.skip.ensures.source (YieldsList-from_slice bs c.iter.ensures.rest)) c.skip.ensures.count)) c.map.ensures.closure (λ x r q k. search rules)) (λ x q k. search rules) (λ x q k. search rules) in
    past_found answers (map f bs) c.args.start (Some c.in_ok-past.past) (past_start f answers c.args.start bs (Some c.in_ok-past.past) first)
