-- What is read of a listing: its nodes, its elements and its port.
use Rattle.std.specs.Prelude.{◌≡◌, ℕ, ◌<◌, ◌⊎◌, List, length, slice_index_or}
use Rattle.std.specs.List.{HoldsAt, AllWithin, ContainsAt as Has}
use Rattle.cut.specs.Cuts.{bytes}
use Rattle.cut.specs.declared.Span.{Span}
use Rattle.names.specs.Alike.{Alike}
use Rattle.values.specs.Values.{Valued}
use Rattle.reader.specs.declared.Element.{Element}
use Rattle.reader.specs.declared.Node.{Node}
use Rattle.reader.specs.declared.PortRecord.{PortRecord}
use Rattle.reader.specs.declared.LineKind.{LineKind}
use Rattle.reader.specs.declared.LineKind.TheVariants.{Part}
use Rattle.reader.specs.Lines.{nth, Carries, Line, LineIn, Stands, PartLine, PortLine}

-- xs are listed from some sources: each is sound, each source has one, and they stand in the order of their places
pub record Listed {Y X : Type 0} (From : Y → Type 0) (Is : Y → X → Type 0) (Sound : X → Type 0) (place : X → ℕ) (xs : List X) : Type 0 where
  pub sound : AllWithin Sound xs 0 (length xs)
  pub complete : (y : Y) → From y → (x : X) × Has xs x × Is y x
  pub ascends : (i j : ℕ) (d : X) → i < j → j < length xs → place (slice_index_or xs i d) < place (slice_index_or xs j d)

-- what is read from the lines of kind K that start before q, where Is tells what a line says
abbrev pub ReadFrom : {X : Type 0} → (Line → Type 0) → (Line → X → Type 0) → List ℕ → ℕ → X → Type 0
ReadFrom K Is t q x = (l : Line) × LineIn t q l × K l × Is l x

abbrev pub Records : {X : Type 0} → (Line → Type 0) → (Line → X → Type 0) → (X → ℕ) → List ℕ → ℕ → List X → Type 0
Records K Is place t q xs = Listed (λ l. LineIn t q l × K l) Is (ReadFrom K Is t q) place xs

-- one of the records has the name bs
abbrev pub Among : {X : Type 0} → (X → Span) → List ℕ → List X → List ℕ → Type 0
Among name t xs bs = (i : ℕ) × (i < length xs) × HoldsAt (λ x. Alike (bytes t (name x)) bs) xs i

-- s is the name of a node, in an element line or a port line, and starts before p
pub record NodeUse (t : List ℕ) (p : ℕ) (s : Span) : Type 0 where
  pub line : Line
  pub kd : LineKind
  pub k : ℕ
  pub within : LineIn t (length t) line
  pub stands : Stands t line kd
  pub carries : Carries kd
  pub which : (k ≡ 1) ⊎ (k ≡ 2)
  pub there : k < length line.fields
  pub is : s ≡ nth line.fields k
  pub early : s.place < p

-- the first use of a node: none before it has the name
abbrev pub FirstUse : List ℕ → ℕ → Span → Type 0
FirstUse t p s = NodeUse t p s × ((s' : Span) → NodeUse t s.place s' → Alike (bytes t s) (bytes t s') → ⊥)

-- the nodes that are used before p, in the order of their first uses
abbrev pub Nodes : List ℕ → ℕ → List Node → Type 0
Nodes t p ns = Listed (NodeUse t p) (λ s n. Alike (bytes t n.name) (bytes t s)) (λ n. FirstUse t p n.name) (λ n. n.name.place) ns

-- the node that s names is the i-th, counted from 0
abbrev pub NumberIs : List ℕ → List Node → Span → ℕ → Type 0
NumberIs t ns s i = (i < length ns) × HoldsAt (λ n. Alike (bytes t n.name) (bytes t s)) ns i × AllWithin (λ n. Alike (bytes t n.name) (bytes t s) → ⊥) ns 0 i

-- e is what an element line says
pub record ElementIs (t : List ℕ) (ns : List Node) (l : Line) (e : Element) : Type 0 where
  pub kind : Stands t l (Part e.kind)
  pub name : e.name ≡ nth l.fields 0
  pub from : NumberIs t ns (nth l.fields 1) e.ends.from.index
  pub to : NumberIs t ns (nth l.fields 2) e.ends.to.index
  pub value : Valued e.kind (bytes t (nth l.fields 3)) e.value.value

-- p is what a port line says
pub record PortIs (t : List ℕ) (ns : List Node) (l : Line) (p : PortRecord) : Type 0 where
  pub name : p.name ≡ nth l.fields 0
  pub from : NumberIs t ns (nth l.fields 1) p.ends.from.index
  pub to : NumberIs t ns (nth l.fields 2) p.ends.to.index

abbrev pub Names : List ℕ → ℕ → List Span → Type 0
Names t q ss = Records (PartLine t) (λ l s. s ≡ nth l.fields 0) (λ s. s.place) t q ss

abbrev pub Elements : List ℕ → ℕ → List Node → List Element → Type 0
Elements t q ns es = Records (PartLine t) (ElementIs t ns) (λ e. e.name.place) t q es

abbrev pub Ports : List ℕ → ℕ → List Node → List PortRecord → Type 0
Ports t q ns ps = Records (PortLine t) (PortIs t ns) (λ p. p.name.place) t q ps
