-- The memory that assembling needs.
use Rattle.std.specs.Prelude.{ℕ, ◌*◌, ◌-◌}
use Rattle.reader.specs.Limits.{most_elements}

-- one for each element of a listing
abbrev pub most_branches : ℕ
most_branches = most_elements

-- two for each join
abbrev pub most_boxes : ℕ
most_boxes = 2 * most_branches - 2
