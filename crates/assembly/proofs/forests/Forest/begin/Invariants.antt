use Rattle.std.proofs.Common.{◌≡◌, ℕ, ◌<◌, ◌≤◌, get_or, vec_items, vec_len, vec_capacity}
use Rattle.std.specs.List.{AllWithin}
use Rattle.tree.specs.Models.{Model}
use Rattle.net.specs.Reductions.{Edge}
use Rattle.reader.specs.declared.Element.{Element}
use Rattle.assembly.specs.Limits.{most_branches}
use Rattle.assembly.specs.Branches.{edges}
use Rattle.assembly.specs.Beginnings.{BeginsAs, Outside, weight_of_element}
use Rattle.assembly.specs.Inner.{sizes, ears, passed}
use Rattle.assembly.proofs.forests.Forest.begin.Given as goal

abbrev pub invariant-loop-index : goal.invariant-loop-index
invariant-loop-index l =
    (vec_len l.branches ≡ l.index)
    × (most_branches ≤ vec_capacity l.branches)
    × ((k : ℕ) (e : Element) (b : Edge Model) → k < l.index → BeginsAs l.scale.rate l.scale.unit l.ear k (get_or l.elements k e) (get_or (edges (vec_items l.branches)) k b))
    × (sizes (edges (vec_items l.branches)) ≡ l.index)
    × (ears (edges (vec_items l.branches)) ≤ passed l.ear l.index)
    × AllWithin (λ e. Outside (weight_of_element l.scale.rate l.scale.unit e) → ⊥) l.elements 0 l.index
