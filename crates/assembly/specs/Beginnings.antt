-- The branches of a listing before any step: each element a leaf at rest, with its weight.
use Rattle.std.specs.Prelude.{◌≡◌, ℕ, ◌<◌, Bool, false, ◌⊎◌, List, length, Some, None, Option, ◌==◌, ◌≢◌, slice_index_or}
use Rattle.std.specs.List.{HoldsAt, AllWithin}
use Rattle.wave.specs.Numbers.{largest_weight}
use Rattle.port.specs.Elements as port
use Rattle.port.specs.declared.elements.StorageKind.TheVariants as stores
use Rattle.values.specs.declared.Kind.{Kind}
use Rattle.values.specs.declared.Kind.TheVariants.{Resistor, Capacitor, Coil}
use Rattle.names.specs.Alike.{NoneCalled, FirstCalled}
use Rattle.reader.specs.declared.Element as reader
use Rattle.weights.specs.Weights.{weight}
use Rattle.tree.specs.Models.{Model, leaf}
use Rattle.tree.specs.declared.elements.Body.{Body}
use Rattle.tree.specs.declared.elements.Body.TheVariants.{Store, Resist}
use Rattle.tree.specs.declared.elements.Element.{Element}
use Rattle.net.specs.Reductions.{Edge}

-- what stands at a leaf of weight w
abbrev pub BodyIs : Kind → ℕ → Bool → Body → Type 0
BodyIs Resistor w ear (Resist r) = (r.weight.value ≡ w) × (r.ear ≡ ear)
BodyIs Resistor w ear (Store c) = ⊥
BodyIs Capacitor w ear (Resist r) = ⊥
BodyIs Capacitor w ear (Store c) = port.AtRest stores.Capacitor w c
BodyIs Coil w ear (Resist r) = ⊥
BodyIs Coil w ear (Store c) = port.AtRest stores.Coil w c

-- the ear, if there is one, is on the element k
abbrev pub hears : Option ℕ → ℕ → Bool
hears None k = false
hears (Some i) k = i == k

abbrev pub weight_of_element : ℕ → ℕ → reader.Element → ℕ
weight_of_element rate unit e = weight e.kind e.value.value rate unit

-- the element e, the k-th of its listing, as a branch
pub record BeginsAs (rate unit : ℕ) (ear : Option ℕ) (k : ℕ) (e : reader.Element) (b : Edge Model) : Type 0 where
  pub element : Element
  pub index : element.index ≡ k
  pub body : BodyIs e.kind (weight_of_element rate unit e) (hears ear k) element.body
  pub what : b.what ≡ leaf element
  pub from : b.wire.from ≡ e.ends.from.index
  pub to : b.wire.to ≡ e.ends.to.index
  pub place : b.place ≡ e.name.place

-- all elements as branches, in the order of the listing
pub record Begins (rate unit : ℕ) (ear : Option ℕ) (es : List reader.Element) (bs : List (Edge Model)) : Type 0 where
  pub long : length bs ≡ length es
  pub each : (k : ℕ) (e : reader.Element) (b : Edge Model) → k < length es → BeginsAs rate unit ear k (slice_index_or es k e) (slice_index_or bs k b)

-- a weight is outside 1 to the largest
abbrev pub Outside : ℕ → Type 0
Outside w = (w ≡ 0) ⊎ (largest_weight < w)

-- the first element whose weight is outside has its name at p
pub record Unweighable (rate unit : ℕ) (es : List reader.Element) (p : ℕ) : Type 0 where
  pub k : ℕ
  pub within : k < length es
  pub outside : HoldsAt (λ e. Outside (weight_of_element rate unit e)) es k
  pub first : AllWithin (λ e. Outside (weight_of_element rate unit e) → ⊥) es 0 k
  pub place : HoldsAt (λ e. p ≡ e.name.place) es k

-- ---- the ear
-- a name is given, and no resistor has it
abbrev pub Earless : List ℕ → List reader.Element → List ℕ → Type 0
Earless t es name = (0 < length name)
    × (NoneCalled (λ e. e.name) t name es (length es) ⊎ ((i : ℕ) × FirstCalled (λ e. e.name) t name es i × HoldsAt (λ e. e.kind ≢ Resistor) es i))

-- which element has the ear: the resistor of that name; none where no name is given, or no resistor has it
abbrev pub EarIs : List ℕ → List reader.Element → List ℕ → Option ℕ → Type 0
EarIs t es name None = (length name ≡ 0) ⊎ Earless t es name
EarIs t es name (Some i) = (0 < length name) × FirstCalled (λ e. e.name) t name es i × HoldsAt (λ e. e.kind ≡ Resistor) es i
