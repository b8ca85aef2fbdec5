-- The faults of a listing, each by its place and its rule.
use Rattle.std.specs.Prelude.{◌≡◌, ℕ, ◌+◌, ◌<◌, ◌≤◌, true, ◌⊎◌, List, length, slice_index}
use Rattle.std.specs.Char.{is_ascii_alphanumeric}
use Rattle.cut.specs.Cuts.{bytes}
use Rattle.cut.specs.declared.Span.{Span}
use Rattle.names.specs.Alike.{Alike}
use Rattle.values.specs.Values.{ValueFault}
use Rattle.values.specs.declared.Kind.{Kind}
use Rattle.values.specs.declared.Wrong.{Wrong}
use Rattle.refusals.specs.declared.Rule.{Rule}
use Rattle.refusals.specs.declared.Rule.TheVariants.{Size, TooLong, Shape, BadName, Twice, Full, Wanting, Joined}
use Rattle.refusals.specs.Refusals.{rule_for}
use Rattle.reader.specs.declared.LineKind.{LineKind}
use Rattle.reader.specs.declared.LineKind.TheVariants.{Passed, Part, Port, Close, Strange}
use Rattle.reader.specs.declared.Node.{Node}
use Rattle.reader.specs.Limits.{largest_text, largest_line, largest_name, most_elements, most_nodes}
use Rattle.reader.specs.Lines.{nth, width, Carries, Line, LineIn, Closed, Stands, PartLine, PortLine}
use Rattle.reader.specs.Records.{Among, Nodes, Names}

-- a name is 1 to 8 letters and digits
abbrev pub NameForm : List ℕ → Type 0
NameForm bs = (0 < length bs) × (length bs ≤ largest_name) × ((i : ℕ) → i < length bs → is_ascii_alphanumeric (slice_index bs i) ≡ true)

-- the rule that a field breaks by its form, the k-th of a line; values apart
abbrev pub FormFault : List ℕ → LineKind → ℕ → Span → Rule → Type 0
FormFault t Passed k f r = ⊥
FormFault t Strange k f r = r ≡ Shape
FormFault t Close k f r = (0 < k) × (r ≡ Shape)
FormFault t Port k f r = ((k < 3) × (NameForm (bytes t f) → ⊥) × (r ≡ BadName)) ⊎ ((3 ≤ k) × (r ≡ Shape))
FormFault t (Part s) k f r = ((k < 3) × (NameForm (bytes t f) → ⊥) × (r ≡ BadName)) ⊎ ((4 ≤ k) × (r ≡ Shape))

-- the same with its place, the start of the field
abbrev pub FieldFormFault : List ℕ → LineKind → ℕ → Span → ℕ → Rule → Type 0
FieldFormFault t kd k f p r = (p ≡ f.place) × FormFault t kd k f r

abbrev pub FormFaultAt : List ℕ → LineKind → List Span → ℕ → ℕ → Rule → Type 0
FormFaultAt t kd fs k p r = FieldFormFault t kd k (nth fs k) p r

abbrev pub FormsFault : List ℕ → LineKind → List Span → ℕ → ℕ → Rule → Type 0
FormsFault t kd fs n p r = (k : ℕ) × (k < n) × FormFaultAt t kd fs k p r

-- a line of more than 120 bytes, at its byte 121
abbrev pub LongFault : ℕ → ℕ → ℕ → Rule → Type 0
LongFault a b p r = (p ≡ a + largest_line) × ((a + largest_line < b) × (r ≡ TooLong))

-- a field is missing, at the end of the line
abbrev pub MissingFault : ℕ → LineKind → ℕ → ℕ → Rule → Type 0
MissingFault b kd n p r = (p ≡ b) × ((n < width kd) × (r ≡ Shape))

-- the value of an element is wrong
abbrev pub ValueFaultAt : List ℕ → LineKind → List Span → ℕ → Rule → Type 0
ValueFaultAt t kd fs p r = (p ≡ (nth fs 3).place) × ((s : Kind) × (w : Wrong) × (kd ≡ Part s) × (3 < length fs) × ValueFault s (bytes t (nth fs 3)) w × (r ≡ rule_for w))

-- the name is used before (used), or there are elements enough (filled), or a port line came before (ported)
abbrev pub NameRule : LineKind → Type 0 → Type 0 → Type 0 → Rule → Type 0
NameRule Passed used filled ported r = ⊥
NameRule (Part s) used filled ported r = (used × (r ≡ Twice)) ⊎ (filled × (r ≡ Full))
NameRule Port used filled ported r = ported × (r ≡ Twice)
NameRule Close used filled ported r = ⊥
NameRule Strange used filled ported r = ⊥

abbrev pub NameFault : LineKind → List Span → Type 0 → Type 0 → Type 0 → ℕ → Rule → Type 0
NameFault kd fs used filled ported p r = (p ≡ (nth fs 0).place) × ((0 < length fs) × NameRule kd used filled ported r)

-- an end is a node too many (first, second), or both are one node
abbrev pub EndsFault : List ℕ → LineKind → List Span → Type 0 → Type 0 → ℕ → Rule → Type 0
EndsFault t kd fs first second p r =
    Carries kd × (((p ≡ (nth fs 1).place) × (1 < length fs) × first × (r ≡ Full))
    ⊎ ((p ≡ (nth fs 2).place) × (2 < length fs) × ((second × (r ≡ Full)) ⊎ (Alike (bytes t (nth fs 1)) (bytes t (nth fs 2)) × (r ≡ Joined)))))

-- the faults of a line from a to b that stands as kd, but for its value and its ends
abbrev pub PlainFault : List ℕ → ℕ → ℕ → List Span → LineKind → Type 0 → Type 0 → Type 0 → ℕ → Rule → Type 0
PlainFault t a b fs kd used filled ported p r =
    LongFault a b p r ⊎ (FormsFault t kd fs (length fs) p r ⊎ (MissingFault b kd (length fs) p r ⊎ NameFault kd fs used filled ported p r))

-- all faults of a line
abbrev pub LineFaultBy : List ℕ → ℕ → ℕ → List Span → LineKind → Type 0 → Type 0 → Type 0 → Type 0 → Type 0 → ℕ → Rule → Type 0
LineFaultBy t a b fs kd used filled ported first second p r = PlainFault t a b fs kd used filled ported p r ⊎ (ValueFaultAt t kd fs p r ⊎ EndsFault t kd fs first second p r)

-- an element line before q has the name bs
abbrev pub UsedBefore : List ℕ → ℕ → List ℕ → Type 0
UsedBefore t q bs = (l : Line) × LineIn t q l × PartLine t l × Alike (bytes t (nth l.fields 0)) bs

-- there are 32 element lines before q
abbrev pub FilledBefore : List ℕ → ℕ → Type 0
FilledBefore t q = (ss : List Span) × Names t q ss × (most_elements ≤ length ss)

abbrev pub PortBefore : List ℕ → ℕ → Type 0
PortBefore t q = (l : Line) × LineIn t q l × PortLine t l

-- s is new, and there are 33 nodes before it
abbrev pub Crowded : List ℕ → Span → Type 0
Crowded t s = (ns : List Node) × Nodes t s.place ns × (most_nodes ≤ length ns) × (Among (λ n. n.name) t ns (bytes t s) → ⊥)

abbrev pub LineFault : List ℕ → Line → LineKind → ℕ → Rule → Type 0
LineFault t l kd p r =
    LineFaultBy t l.start l.end l.fields kd
    (UsedBefore t l.start (bytes t (nth l.fields 0))) (FilledBefore t l.start) (PortBefore t l.start)
    (Crowded t (nth l.fields 1)) (Crowded t (nth l.fields 2)) p r

-- a line that starts before q has the fault
abbrev pub FaultBefore : List ℕ → ℕ → ℕ → Rule → Type 0
FaultBefore t q p r = (l : Line) × (kd : LineKind) × LineIn t q l × Stands t l kd × LineFault t l kd p r

abbrev pub SizeFault : List ℕ → ℕ → Rule → Type 0
SizeFault t p r = (p ≡ 0) × ((length t ≡ 0) ⊎ (largest_text < length t)) × (r ≡ Size)

-- there is no element, no port or no .end
abbrev pub WantFault : List ℕ → ℕ → Rule → Type 0
WantFault t p r =
    (p ≡ length t)
    × ((((l : Line) → LineIn t (length t) l → PartLine t l → ⊥) ⊎ ((PortBefore t (length t) → ⊥) ⊎ (Closed t (length t) → ⊥)))
    × (r ≡ Wanting))

-- the text has, at place p, a fault by rule r
abbrev pub FaultAt : List ℕ → ℕ → Rule → Type 0
FaultAt t p r = SizeFault t p r ⊎ (FaultBefore t (length t) p r ⊎ WantFault t p r)
