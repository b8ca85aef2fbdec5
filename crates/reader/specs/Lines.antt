-- The lines of a listing and their kinds.
use Rattle.std.specs.Prelude.{◌≡◌, ℕ, ◌<◌, Bool, cond, ◌⊎◌, List, [], ◌∷◌, map, Some, None, codes, Option, ◌==◌, slice_index, slice_index_or}
use Rattle.std.specs.Char.{to_ascii_lowercase}
use Rattle.std.specs.Str.{bytes_eq}
use Rattle.cut.specs.Cuts.{bytes, LineTo, StartsLine, FieldsIn}
use Rattle.cut.specs.declared.Span.{Span}
use Rattle.values.specs.declared.Kind.{Kind}
use Rattle.values.specs.declared.Kind.TheVariants.{Resistor, Capacitor, Coil}
use Rattle.reader.specs.declared.LineKind.{LineKind}
use Rattle.reader.specs.declared.LineKind.TheVariants.{Passed, Part, Port, Close, Strange}

-- what stands for a field that a line does not have
abbrev pub nowhere : Span
nowhere = record { place = 0; len = 0 }

-- the k-th field, counted from 0
abbrev pub nth : List Span → ℕ → Span
nth fs k = slice_index_or fs k nowhere

-- the kind of an element by the first byte of its name; 114, 99 and 108 are the letters r, c and l
abbrev pub kind_of : ℕ → Option Kind
kind_of c = cond (to_ascii_lowercase c == 114) (Some Resistor) (cond (to_ascii_lowercase c == 99) (Some Capacitor) (cond (to_ascii_lowercase c == 108) (Some Coil) None))

-- an element line, if the first byte is that of a kind
abbrev pub part_or : Option Kind → LineKind → LineKind
part_or None other = other
part_or (Some s) other = Part s

-- .end, of whatever case
abbrev pub closing : List ℕ → Bool
closing bs = bytes_eq (map to_ascii_lowercase bs) (codes ".end")

-- the kind of a line by the first byte c of its first field, and whether that field is .end; 42 is the star, 118 the letter v
abbrev pub kind_by : ℕ → Bool → LineKind
kind_by c closes = cond (c == 42) Passed (part_or (kind_of c) (cond (to_ascii_lowercase c == 118) Port (cond closes Close Strange)))

-- the kind of a line with the fields fs, wherever it stands
abbrev pub kind_of_line : List ℕ → List Span → LineKind
kind_of_line t [] = Passed
kind_of_line t (f ∷ fs) = kind_by (slice_index (bytes t f) 0) (closing (bytes t f))

-- past .end only lines that are passed over have a meaning
abbrev pub past : LineKind → LineKind
past Passed = Passed
past (Part s) = Strange
past Port = Strange
past Close = Strange
past Strange = Strange

-- how many fields a line has at least
abbrev pub width : LineKind → ℕ
width Passed = 0
width (Part s) = 4
width Port = 3
width Close = 1
width Strange = 0

-- the line has two ends
abbrev pub Carries : LineKind → Type 0
Carries Passed = ⊥
Carries (Part s) = Unit {0}
Carries Port = Unit {0}
Carries Close = ⊥
Carries Strange = ⊥

-- a line: where it starts, where it ends, and its fields
pub record Line : Type 0 where
  pub start : ℕ
  pub end : ℕ
  pub fields : List Span

-- a line of the text that starts before q. The first is the title
pub record LineIn (t : List ℕ) (q : ℕ) (l : Line) : Type 0 where
  pub before : l.start < q
  pub starts : StartsLine t l.start
  pub ends : LineTo t l.start l.end
  pub cut : FieldsIn t l.start l.end l.fields

-- a line before q, and past the title, closes the listing
abbrev pub Closed : List ℕ → ℕ → Type 0
Closed t q = (l : Line) × LineIn t q l × (0 < l.start) × (kind_of_line t l.fields ≡ Close)

-- the kind as which a line stands: the title is passed over, and past .end other rules hold
abbrev pub Stands : List ℕ → Line → LineKind → Type 0
Stands t l kd = ((l.start ≡ 0) × (kd ≡ Passed)) ⊎ ((0 < l.start) × (((Closed t l.start → ⊥) × (kd ≡ kind_of_line t l.fields)) ⊎ (Closed t l.start × (kd ≡ past (kind_of_line t l.fields)))))

-- an element line, and a port line
abbrev pub PartLine : List ℕ → Line → Type 0
PartLine t l = (s : Kind) × Stands t l (Part s)

abbrev pub PortLine : List ℕ → Line → Type 0
PortLine t l = Stands t l Port
