-- Branches by their two ends alone: the numbers of two nodes.
use Rattle.std.specs.Prelude.{ℕ, Bool, cond, ◌&&◌, ◌||◌, List, map, ◌==◌, slice_index_or}
use Rattle.net.specs.declared.wires.Wire.{Wire}
use Rattle.net.specs.declared.wired.Wired.{Ghosts}

-- the same two ends, in either order
abbrev pub same_ends : Wire → Wire → Bool
same_ends a b = (a.from == b.from && a.to == b.to) || (a.from == b.to && a.to == b.from)

abbrev pub touches : ℕ → Wire → Bool
touches n a = a.from == n || a.to == n

-- the end that is not at n
abbrev pub far : ℕ → Wire → ℕ
far n a = cond (a.from == n) a.to a.from

-- what stands past the end of a list
abbrev pub nowhere : Wire
nowhere = record { from = 0; to = 0 }

abbrev pub at : List Wire → ℕ → Wire
at ws k = slice_index_or ws k nowhere

-- the ends of what stands in a list
abbrev pub wires_of : {B : Type 0} → Ghosts B → List B → List Wire
wires_of B+ bs = map B+.wired bs
