-- Names are compared without regard to case.
use Rattle.std.specs.Prelude.{◌≡◌, ℕ, ◌<◌, List, map, length}
use Rattle.std.specs.List.{HoldsAt, AllWithin}
use Rattle.std.specs.Char.{to_ascii_lowercase}
use Rattle.cut.specs.Cuts.{bytes}
use Rattle.cut.specs.declared.Span.{Span}

abbrev pub Alike : List ℕ → List ℕ → Type 0
Alike xs ys = map to_ascii_lowercase xs ≡ map to_ascii_lowercase ys

-- none of the first n records, whose names are the spans `named`, has the name bs
abbrev pub NoneCalled : {R : Type 0} → (R → Span) → List ℕ → List ℕ → List R → ℕ → Type 0
NoneCalled named t bs rs n = AllWithin (λ x. Alike (bytes t (named x)) bs → ⊥) rs 0 n

-- the record at i has the name bs, and none before it
abbrev pub FirstCalled : {R : Type 0} → (R → Span) → List ℕ → List ℕ → List R → ℕ → Type 0
FirstCalled named t bs rs i = (i < length rs) × HoldsAt (λ x. Alike (bytes t (named x)) bs) rs i × NoneCalled named t bs rs i
