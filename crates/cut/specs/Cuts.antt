-- The lines of a text and the fields of a line, by the places where they start and end.
use Rattle.std.specs.Prelude.{◌≡◌, ℕ, ◌+◌, ◌-◌, ◌<◌, ◌≤◌, Bool, true, false, ◌||◌, ◌⊎◌, List, [], ◌∷◌, length, take, drop, ◌==◌, ◌≢◌, slice_index}
use Rattle.cut.specs.declared.Span.{Span}

-- a space, 32, or a tab, 9
abbrev pub blank : ℕ → Bool
blank c = c == 32 || c == 9

-- the place past the last byte of a span
abbrev pub stop : Span → ℕ
stop s = s.place + s.len

-- the bytes of a span
abbrev pub bytes : List ℕ → Span → List ℕ
bytes t s = take s.len (drop s.place t)

-- a line that starts at a ends at b: at the first line feed, 10, from a on, or at the end of the text
pub record LineTo (t : List ℕ) (a b : ℕ) : Type 0 where
  pub low : a ≤ b
  pub high : b ≤ length t
  pub clear : (k : ℕ) → a ≤ k → k < b → slice_index t k ≢ 10
  pub closed : b < length t → slice_index t b ≡ 10

-- a line starts at a: the first does at 0, any other after a line feed; and there is a byte
abbrev pub StartsLine : List ℕ → ℕ → Type 0
StartsLine t a = (a < length t) × ((a ≡ 0) ⊎ ((0 < a) × (slice_index t (a - 1) ≡ 10)))

abbrev pub AllBlank : List ℕ → ℕ → ℕ → Type 0
AllBlank t a b = (k : ℕ) → a ≤ k → k < b → blank (slice_index t k) ≡ true

-- f is the first field from p on, in a line that ends at b: the longest run of bytes that are not blank
pub record FieldAt (t : List ℕ) (p b : ℕ) (f : Span) : Type 0 where
  pub after : p ≤ f.place
  pub gap : AllBlank t p f.place
  pub some : f.place < stop f
  pub high : stop f ≤ b
  pub solid : (k : ℕ) → f.place ≤ k → k < stop f → blank (slice_index t k) ≡ false
  pub stops : stop f < b → blank (slice_index t (stop f)) ≡ true

-- fs are the fields between p and b, in their order
abbrev pub FieldsIn : List ℕ → ℕ → ℕ → List Span → Type 0
FieldsIn t p b [] = AllBlank t p b
FieldsIn t p b (f ∷ fs) = FieldAt t p b f × FieldsIn t (stop f) b fs

-- xs are the first five of the fields between a and b, or all of them
abbrev pub FirstFields : List ℕ → ℕ → ℕ → List Span → Type 0
FirstFields t a b xs = (fs : List Span) × FieldsIn t a b fs × (xs ≡ take 5 fs)
