-- What the functions within the reader promise. The contract of `read` does not rest on it.
use Rattle.std.specs.Prelude.{◌≡◌, ℕ, ◌<◌, ◌≤◌, Bool, true, false, cond, ◌⊎◌, List, [], ◌∷◌, ◌++◌, length, take, is_some, Some, None, Option, ◌==◌}
use Rattle.cut.specs.Cuts.{bytes, stop, StartsLine, FieldsIn}
use Rattle.cut.specs.declared.Span.{Span}
use Rattle.values.specs.Values.{Valued}
use Rattle.values.specs.declared.counted.Value.{Value}
use Rattle.values.specs.declared.Kind.{Kind}
use Rattle.refusals.specs.declared.Rule.{Rule}
use Rattle.reader.specs.declared.line.CutLine.{CutLine}
use Rattle.reader.specs.declared.LineKind.{LineKind}
use Rattle.reader.specs.declared.LineKind.TheVariants.{Passed, Part, Port, Close, Strange}
use Rattle.reader.specs.declared.reading.Reading.{Reading}
use Rattle.reader.specs.declared.Ends.{Ends}
use Rattle.reader.specs.declared.Node.{Node}
use Rattle.reader.specs.declared.Element.{Element}
use Rattle.reader.specs.declared.PortRecord.{PortRecord}
use Rattle.reader.specs.Limits.{most_elements, most_nodes}
use Rattle.reader.specs.Lines.{nth, past, Carries, Closed}
use Rattle.reader.specs.Records.{Among, Nodes, NumberIs, Names, Elements, Ports}
use Rattle.reader.specs.Faults.{ValueFaultAt, EndsFault, PlainFault, LineFaultBy, FaultBefore}

-- the kind as which a line that starts at a stands, by whether .end came before
abbrev pub standing : ℕ → Bool → LineKind → LineKind
standing a closed kd = cond (a == 0) Passed (cond closed (past kd) kd)

-- there is no room for the node s
abbrev pub Overfull : List ℕ → List Node → Span → Type 0
Overfull t ns s = (most_nodes ≤ length ns) × (Among (λ n. n.name) t ns (bytes t s) → ⊥)

-- the nodes with one more, if it is new
abbrev pub Entered : List ℕ → List Node → Span → List Node → Type 0
Entered t ns s ns' =
    (Among (λ n. n.name) t ns (bytes t s) × (ns' ≡ ns))
    ⊎ ((Among (λ n. n.name) t ns (bytes t s) → ⊥) × (ns' ≡ ns ++ record { name = s } ∷ []))

-- a node too many as the first or the second end of a line, where the nodes so far are ns
abbrev pub CrowdedFirst : List ℕ → List Node → List Span → Type 0
CrowdedFirst t ns fs = Overfull t ns (nth fs 1)

abbrev pub CrowdedSecond : List ℕ → List Node → List Span → Type 0
CrowdedSecond t ns fs = (ns' : List Node) × Entered t ns (nth fs 1) ns' × Overfull t ns' (nth fs 2)

-- the faults of a line with the fields fs that stands as kd, by what the lines before it hold
abbrev pub ReaderFault : List ℕ → ℕ → ℕ → List Span → LineKind → Reading → ℕ → Rule → Type 0
ReaderFault t a b fs kd x p r =
    LineFaultBy t a b fs kd
    (Among (λ e. e.name) t x.elements (bytes t (nth fs 0))) (most_elements ≤ length x.elements) (is_some x.port ≡ true)
    (CrowdedFirst t x.nodes fs) (CrowdedSecond t x.nodes fs) p r

-- fs are all the fields of the line
abbrev pub CutInto : CutLine → List Span → Type 0
CutInto l fs = FieldsIn l.text.now l.span.place (stop l.span) fs × (l.fields.now ≡ take 5 fs)

abbrev pub FaultOf : CutLine → List Span → Reading → ℕ → Rule → Type 0
FaultOf l fs x = ReaderFault l.text.now l.span.place (stop l.span) fs l.kind x

-- the numbers of the two ends of a line, where the nodes are ns before it and ns' after it
abbrev pub BothEnds : List ℕ → List Span → List Node → List Node → Ends → Type 0
BothEnds t fs ns ns' e = (mid : List Node) × Entered t ns (nth fs 1) mid × Entered t mid (nth fs 2) ns' × NumberIs t ns' (nth fs 1) e.from.index × NumberIs t ns' (nth fs 2) e.to.index

-- the faults of a line but for its value and its ends, by the elements so far and whether there is a port
abbrev pub PlainFaultOf : CutLine → List Element → Bool → ℕ → Rule → Type 0
PlainFaultOf l es ported =
    PlainFault l.text.now l.span.place (stop l.span) l.fields.now l.kind
    (Among (λ e. e.name) l.text.now es (bytes l.text.now (nth l.fields.now 0))) (most_elements ≤ length es) (ported ≡ true)

-- the faults of its value
abbrev pub ValueFaultOf : CutLine → ℕ → Rule → Type 0
ValueFaultOf l = ValueFaultAt l.text.now l.kind l.fields.now

-- the faults of its ends, by the nodes so far
abbrev pub EndsFaultOf : CutLine → List Node → ℕ → Rule → Type 0
EndsFaultOf l ns = EndsFault l.text.now l.kind l.fields.now (CrowdedFirst l.text.now ns l.fields.now) (CrowdedSecond l.text.now ns l.fields.now)

-- the two ends of a line, where the nodes so far are ns, and ns' with the line's; none where it is of another kind or a field is missing
abbrev pub EndsAre : CutLine → List Node → List Node → Option Ends → Type 0
EndsAre l ns ns' None = ((Carries l.kind → ⊥) → ns' ≡ ns) × (Carries l.kind → 2 < length l.fields.now → ⊥)
EndsAre l ns ns' (Some e) = Carries l.kind × BothEnds l.text.now l.fields.now ns ns' e

-- the value of an element line; none where the line is of another kind or has no fourth field
abbrev pub ValueIs : CutLine → Option Value → Type 0
ValueIs l None = (s : Kind) → l.kind ≡ Part s → 3 < length l.fields.now → ⊥
ValueIs l (Some v) = (s : Kind) × (l.kind ≡ Part s) × Valued s (bytes l.text.now (nth l.fields.now 3)) v.value

-- what a line with the fields fs that stands as kd adds to what the lines before it hold
abbrev pub Taken : List ℕ → List Span → LineKind → Reading → Reading → Type 0
Taken t fs Passed x y = y ≡ x
Taken t fs (Part s) x y =
    (e : Element) × (e.name ≡ nth fs 0) × (e.kind ≡ s) × BothEnds t fs x.nodes y.nodes e.ends × Valued s (bytes t (nth fs 3)) e.value.value
    × (y ≡ record { nodes = y.nodes; elements = x.elements ++ e ∷ []; port = x.port; closed = x.closed })
Taken t fs Port x y =
    (p : PortRecord) × (p.name ≡ nth fs 0) × BothEnds t fs x.nodes y.nodes p.ends
    × (y ≡ record { nodes = y.nodes; elements = x.elements; port = Some p; closed = x.closed })
Taken t fs Close x y = y ≡ record { nodes = x.nodes; elements = x.elements; port = x.port; closed = true }
Taken t fs Strange x y = y ≡ x

abbrev pub port_list : Option PortRecord → List PortRecord
port_list None = []
port_list (Some p) = p ∷ []

-- x is what the lines before q hold, and they have no fault
pub record Sofar (t : List ℕ) (q : ℕ) (x : Reading) : Type 0 where
  pub top : q ≤ length t
  pub begins : q < length t → StartsLine t q
  pub shut : x.closed ≡ true → Closed t q
  pub still : x.closed ≡ false → Closed t q → ⊥
  pub clean : (p : ℕ) (r : Rule) → FaultBefore t q p r → ⊥
  pub nodes : Nodes t q x.nodes
  pub elements : Elements t q x.nodes x.elements
  pub ports : Ports t q x.nodes (port_list x.port)
  pub names : (ss : List Span) × Names t q ss × (length ss ≡ length x.elements)
