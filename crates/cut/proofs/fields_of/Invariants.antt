use Rattle.std.proofs.Common.{◌≡◌, ◌-◌, ◌≤◌, List, ◌++◌, take}
use Rattle.cut.specs.declared.Span.{Span}
use Rattle.cut.specs.Cuts.{FieldsIn}
use Rattle.cut.proofs.fields_of.Given as goal

-- some fields were passed, whose first five are kept; and with the fields from here on they are the fields of the line
abbrev pub invariant-loop-field : goal.invariant-loop-field
invariant-loop-field l =
    (l.from ≤ l.end)
    × ((passed : List Span) × (l.found ≡ take 5 passed) × ((rest : List Span) → FieldsIn l.text l.from l.end rest → FieldsIn l.text l.initial.from l.end (passed ++ rest)))

abbrev pub decreases-loop-field : goal.decreases-loop-field
decreases-loop-field l = l.end - l.from
