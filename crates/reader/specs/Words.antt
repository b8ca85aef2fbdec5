-- The words of a line.
use Rattle.std.specs.Prelude.{◌≡◌, ℕ, ◌<◌, ◌≤◌, List, Some, None, Option}
use Rattle.cut.specs.Cuts.{bytes}
use Rattle.cut.specs.declared.Span.{Span}
use Rattle.values.specs.declared.Kind.{Kind}
use Rattle.reader.specs.declared.LineKind.{LineKind}
use Rattle.reader.specs.declared.LineKind.TheVariants.{Part, Close}
use Rattle.reader.specs.declared.words.Word.{Word}
use Rattle.reader.specs.declared.words.Word.TheVariants.{Name, Node, Value, Dot}
use Rattle.reader.specs.Lines.{width, Carries}

-- what the field f is, the k-th of a line that stands as kd: past the last field of such a line, nothing
abbrev pub WordIs : List ℕ → LineKind → ℕ → Span → Option Word → Type 0
WordIs t kd k f None = width kd ≤ k
WordIs t kd k f (Some (Name s p)) = (k ≡ 0) × Carries kd × (s.now ≡ bytes t f) × (p ≡ f.place)
WordIs t kd k f (Some (Node s p)) = ((0 < k) × (k < 3)) × Carries kd × (s.now ≡ bytes t f) × (p ≡ f.place)
WordIs t kd k f (Some (Value s p)) = (k ≡ 3) × ((c : Kind) × (kd ≡ Part c)) × (s.now ≡ bytes t f) × (p ≡ f.place)
WordIs t kd k f (Some (Dot s p)) = (k ≡ 0) × (kd ≡ Close) × (s.now ≡ bytes t f) × (p ≡ f.place)
