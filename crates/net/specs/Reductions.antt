-- How a net comes down, one step at a time. What stands in a branch is anything; what two of them make is told by Joins, and when they are
-- refused by Refused.
use Rattle.std.specs.Prelude.{◌≡◌, ℕ, true, List, [], ◌∷◌, map, slice_index_or, slice_set}
use Rattle.std.specs.List.{remove}
use Rattle.net.specs.Wires.{same_ends}
use Rattle.net.specs.Choices.{Takes, Stuck, chosen_pair, ends_of}
use Rattle.net.specs.declared.wires.Wire.{Wire}
use Rattle.net.specs.declared.wires.Choice.{Choice}

-- a branch: what stands in it, its ends, and the place of its first element's name
pub record Edge (A : Type 0) : Type 0 where
  pub what : A
  pub wire : Wire
  pub place : ℕ

abbrev pub wires : {A : Type 0} → List (Edge A) → List Wire
wires es = map (λ e. e.wire) es

-- the branch at k
abbrev pub Stands : {A : Type 0} → List (Edge A) → ℕ → Edge A → Type 0
Stands {A} es k e = (d : Edge A) → slice_index_or es k d ≡ e

module _ {A : Type 0} (Joins : Choice → A → A → A → Type 0) (Refused : Choice → A → A → Type 0) (port : Wire) where
  -- the choice that is taken, and its two branches
  pub record Chosen (es : List (Edge A)) (c : Choice) (a b : Edge A) : Type 0 where
    pub takes : Takes (wires es) port c
    pub low : Stands es (chosen_pair c).low a
    pub high : Stands es (chosen_pair c).high b

  -- the lower of the two becomes what both make, where it stands; the other is removed
  pub record Step (es fs : List (Edge A)) : Type 0 where
    pub choice : Choice
    pub a : Edge A
    pub b : Edge A
    pub chosen : Chosen es choice a b
    pub made : A
    pub joins : Joins choice a.what b.what made
    pub after : fs ≡ remove (slice_set es (chosen_pair choice).low (record { what = made; wire = ends_of (wires es) choice; place = a.place })) (chosen_pair choice).high

  pub data Steps : List (Edge A) → List (Edge A) → Type 0 where
    none : {es : List (Edge A)} → Steps es es
    then : {es fs gs : List (Edge A)} → Steps es fs → Step fs gs → Steps es gs

  -- one branch is left, between the ends of the port
  pub record Whole (es : List (Edge A)) (m : A) : Type 0 where
    pub last : Edge A
    pub alone : es ≡ last ∷ []
    pub ends : same_ends last.wire port ≡ true
    pub is : m ≡ last.what

  -- where the steps end: in a whole, in branches that no step joins, or at two that are refused, known by the place of the lower one
  pub data Answer : Type 0 where
    Down : A → Answer
    Left : Answer
    Over : ℕ → Answer

  pub record EndsDown (es : List (Edge A)) (m : A) : Type 0 where
    pub last : List (Edge A)
    pub came : Steps es last
    pub stuck : Stuck (wires last) port
    pub whole : Whole last m

  pub record EndsLeft (es : List (Edge A)) : Type 0 where
    pub last : List (Edge A)
    pub came : Steps es last
    pub stuck : Stuck (wires last) port
    pub broken : (m : A) → Whole last m → ⊥

  pub record EndsOver (es : List (Edge A)) (p : ℕ) : Type 0 where
    pub last : List (Edge A)
    pub came : Steps es last
    pub choice : Choice
    pub a : Edge A
    pub b : Edge A
    pub chosen : Chosen last choice a b
    pub refused : Refused choice a.what b.what
    pub place : p ≡ a.place

  abbrev pub Ends : List (Edge A) → Answer → Type 0
  Ends es (Down m) = EndsDown es m
  Ends es Left = EndsLeft es
  Ends es (Over p) = EndsOver es p

  -- the steps lead to one answer only
  abbrev pub OneAnswer : List (Edge A) → Type 0
  OneAnswer es = (x y : Answer) → Ends es x → Ends es y → x ≡ y
