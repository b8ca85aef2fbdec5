-- What the inner calls of a reduction promise.
use Rattle.std.specs.Prelude.{◌≡◌, ℕ, ◌≤◌, Bool, cond, List, Some, None, sum_by, Option, nat_lt, slice_set}
use Rattle.std.specs.List.{remove}
use Rattle.port.specs.Meaning.{largest_size}
use Rattle.tree.specs.Models.{Model, reads}
use Rattle.net.specs.Wires.{far}
use Rattle.net.specs.Choices.{chosen_pair}
use Rattle.net.specs.Reductions.{Edge, Stands, EndsDown, EndsLeft, EndsOver}
use Rattle.net.specs.declared.wires.Wire.{Wire}
use Rattle.net.specs.declared.wires.Choice.{Choice}
use Rattle.net.specs.declared.wires.Choice.TheVariants.{Twins, Chain}
use Rattle.reader.specs.declared.Element as reader
use Rattle.tree.specs.declared.elements.Element.{Element}
use Rattle.assembly.specs.Branches.{Joins, Refused}
use Rattle.assembly.specs.Beginnings.{BodyIs, weight_of_element, Begins, Outside, Unweighable}
use Rattle.assembly.specs.declared.faults.AssemblyFault.{AssemblyFault}
use Rattle.assembly.specs.declared.faults.AssemblyFault.TheVariants.{Reading, OutOfRange, BadWeight, Irreducible, TooLarge, NoEar}

-- how many elements, and how many ears, the branches have in all
abbrev pub sizes : List (Edge Model) → ℕ
sizes es = sum_by (λ e. (reads e.what).size) es

abbrev pub ears : List (Edge Model) → ℕ
ears es = sum_by (λ e. (reads e.what).ears) es

-- no join of two of them is too large or has two ears
abbrev pub Fit : List (Edge Model) → Type 0
Fit es = (sizes es ≤ largest_size) × (ears es ≤ 1)

-- the ends of what two branches with the ends v and w become
abbrev pub ends_after_join : Choice → Wire → Wire → Wire
ends_after_join (Twins p) v w = v
ends_after_join (Chain p n) v w = record { from = far n v; to = far n w }

-- what a step does to the branches
pub record Replaced (c : Choice) (es fs : List (Edge Model)) : Type 0 where
  pub a : Edge Model
  pub b : Edge Model
  pub low : Stands es (chosen_pair c).low a
  pub high : Stands es (chosen_pair c).high b
  pub made : Model
  pub joins : Joins c a.what b.what made
  pub after : fs ≡ remove (slice_set es (chosen_pair c).low (record { what = made; wire = ends_after_join c a.wire b.wire; place = a.place })) (chosen_pair c).high

-- the two branches are refused, and p is the place of the lower
pub record Halted (c : Choice) (es : List (Edge Model)) (p : ℕ) : Type 0 where
  pub a : Edge Model
  pub b : Edge Model
  pub low : Stands es (chosen_pair c).low a
  pub high : Stands es (chosen_pair c).high b
  pub refused : Refused c a.what b.what
  pub place : p ≡ a.place

-- the leaf of the element e, which has a weight
pub record LeafIs (rate unit index : ℕ) (ear : Bool) (e : reader.Element) (x : Element) : Type 0 where
  pub place : x.index ≡ index
  pub body : BodyIs e.kind (weight_of_element rate unit e) ear x.body
  pub inside : Outside (weight_of_element rate unit e) → ⊥

-- 1 once the ear has been passed
abbrev pub passed : Option ℕ → ℕ → ℕ
passed None k = 0
passed (Some i) k = cond (nat_lt i k) 1 0

-- what a listing's elements come to
pub record GrownFrom (rate unit : ℕ) (ear : Option ℕ) (es : List reader.Element) (port : Wire) (m : Model) : Type 0 where
  pub branches : List (Edge Model)
  pub begins : Begins rate unit ear es branches
  pub down : EndsDown Joins Refused port branches m

abbrev pub Ungrown : ℕ → ℕ → Option ℕ → List reader.Element → Wire → AssemblyFault → Type 0
Ungrown rate unit ear es port (Reading f) = ⊥
Ungrown rate unit ear es port OutOfRange = ⊥
Ungrown rate unit ear es port (BadWeight p) = Unweighable rate unit es p
Ungrown rate unit ear es port (TooLarge p) = (bs : List (Edge Model)) × Begins rate unit ear es bs × EndsOver Joins Refused port bs p
Ungrown rate unit ear es port Irreducible = (bs : List (Edge Model)) × Begins rate unit ear es bs × EndsLeft Joins Refused port bs
Ungrown rate unit ear es port NoEar = ⊥
