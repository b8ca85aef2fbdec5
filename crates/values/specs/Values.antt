-- A value is 1 to 6 digits and then at most one scale factor.
use Rattle.std.specs.Prelude.{◌≡◌, ℕ, ◌+◌, ◌-◌, ◌*◌, ◌<◌, ◌≤◌, Bool, true, false, cond, ◌&&◌, List, [], ◌∷◌, ◌++◌, map, length, Some, None, codes, fold, Option, slice_index}
use Rattle.std.specs.Char.{to_ascii_lowercase, is_ascii_digit}
use Rattle.std.specs.Str.{bytes_eq}
use Rattle.values.specs.Limits.{most_digits, InRange}
use Rattle.values.specs.declared.Kind.{Kind}
use Rattle.values.specs.declared.Kind.TheVariants.{Resistor, Capacitor, Coil}
use Rattle.values.specs.declared.Factor.{Factor}
use Rattle.values.specs.declared.Wrong.{Wrong}
use Rattle.values.specs.declared.Wrong.TheVariants.{Form, Range}

-- the number that digits write
abbrev pub decimal : List ℕ → ℕ
decimal ds = fold (λ n c. n * 10 + (c - 48)) 0 ds

-- one scale factor: its kind, its letters, and by how much it multiplies
abbrev pub Row : Type 0
Row = Kind × List ℕ × ℕ

-- ohms, microhenries and picofarads
abbrev pub factors : List Row
factors =
    (Resistor, [], 1) ∷ (Resistor, codes "k", 1000) ∷ (Resistor, codes "meg", 1000000)
    ∷ (Coil, [], 1000000) ∷ (Coil, codes "m", 1000) ∷ (Coil, codes "u", 1)
    ∷ (Capacitor, [], 1000000000000) ∷ (Capacitor, codes "u", 1000000) ∷ (Capacitor, codes "n", 1000) ∷ (Capacitor, codes "p", 1) ∷ []

abbrev pub row : Factor → Row
row f = (f.kind, f.letters.now, f.times)

-- what an element of a kind is called, and what its value counts
abbrev pub kind_word : Kind → List ℕ
kind_word Resistor = codes "resistor"
kind_word Capacitor = codes "capacitor"
kind_word Coil = codes "coil"

abbrev pub kind_unit : Kind → List ℕ
kind_unit Resistor = codes "ohms"
kind_unit Capacitor = codes "picofarads"
kind_unit Coil = codes "microhenries"

abbrev pub is_same_kind : Kind → Kind → Bool
is_same_kind Resistor Resistor = true
is_same_kind Resistor Capacitor = false
is_same_kind Resistor Coil = false
is_same_kind Capacitor Resistor = false
is_same_kind Capacitor Capacitor = true
is_same_kind Capacitor Coil = false
is_same_kind Coil Resistor = false
is_same_kind Coil Capacitor = false
is_same_kind Coil Coil = true

-- letters are compared without regard to case
abbrev pub fits_row : Row → Kind → List ℕ → Bool
fits_row r s bs = is_same_kind r.0 s && bytes_eq (map to_ascii_lowercase bs) (map to_ascii_lowercase r.1)

-- the factor that stands first in the table for the kind and the letters
abbrev pub looked : List Row → Kind → List ℕ → Option ℕ
looked [] s bs = None
looked (r ∷ rows) s bs = cond (fits_row r s bs) (Some r.2) (looked rows s bs)

-- a word of this kind has the scaled value n
pub record Valued (s : Kind) (bs : List ℕ) (n : ℕ) : Type 0 where
  pub front : List ℕ
  pub back : List ℕ
  pub factor : ℕ
  pub split : bs ≡ front ++ back
  pub some : 0 < length front
  pub few : length front ≤ most_digits
  pub each : (k : ℕ) → k < length front → is_ascii_digit (slice_index front k) ≡ true
  pub scale : looked factors s back ≡ Some factor
  pub count : n ≡ decimal front * factor

-- what is wrong with a word: it has no value, or one out of range
abbrev pub ValueFault : Kind → List ℕ → Wrong → Type 0
ValueFault s bs Form = (n : ℕ) → Valued s bs n → ⊥
ValueFault s bs Range = (n : ℕ) × Valued s bs n × (InRange n → ⊥)
