use Rattle.std.proofs.Common.{◌≡◌, max, fold, ap, ◌∙◌, rules}
use Rattle.std.specs.Ordering.{nat_cmp, max_by_ordering}
use Rattle.std.specs.Option.{unwrap_or}
use Rattle.std.proofs.lemmas.Iterator.{YieldsList-from_slice, YieldsList-from_map}
use Rattle.std.proofs.lemmas.Iterator.Consumers.{YieldsList-at, reduce_from_yields_List}
use Rattle.std.proofs.lemmas.List.Folds.{max_of_map}
use Rattle.net.proofs.Found.{larger, ends_within}
use Rattle.net.proofs.chains.largest_node.Goals as goal

pub returns : goal.returns
returns g c =
    let xs = c.args.branches.now in
    let wire = g.B.Wired.wired in
    let found = reduce_from_yields_List (λ p z. max_by_ordering (nat_cmp p z) p z) _ c.max.result c.max.ensures.ran
    (YieldsList-from_map _ (λ x. max (wire x).from (wire x).to) (YieldsList-at c.map.ensures.source (YieldsList-from_slice xs c.iter.ensures.rest)) c.map.ensures.closure (λ x r q k. search rules)) in
    let is : c.unwrap_or.result ≡ fold (larger wire) 0 xs = c.unwrap_or.ensures ∙ ap (λ o. unwrap_or o 0) found ∙ max_of_map (λ x. max (wire x).from (wire x).to) xs in
    λ k n h t. rw is (ends_within wire xs 0 k n h t)
