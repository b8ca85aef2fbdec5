-- The door listing has the port V1 from node 1 to node 0, the coil L1 from 1 to 2, the capacitor C1 from 2 to 0 and the resistor R1 from 2 to 0.
-- A node goes by its number in the order of first appearance in the text: node 1 has the number 0, node 0 the number 1, node 2 the number 2.
use Rattle.std.specs.Prelude.{List, [], ◌∷◌, ℕ}
use Rattle.adaptor.specs.Joins.{Joined}
use Rattle.adaptor.specs.declared.ways.Way.TheVariants.{Series, Parallel}
use Rattle.adaptor.specs.declared.joints.joint.Joint.{Joint}
use Rattle.tree.specs.Models.{Model, join, reads}
use Rattle.net.specs.Reductions.{Edge, EndsDown}
use Rattle.net.specs.declared.wires.Wire.{Wire}
use Rattle.assembly.specs.Branches.{Joins, Refused}

abbrev pub port : Wire
port = record { from = 0; to = 1 }

-- l, c and r stand in the three branches, with their names at the places x, y and z
abbrev pub branches : {A : Type 0} → A → A → A → ℕ → ℕ → ℕ → List (Edge A)
branches l c r x y z = record { what = l; wire = record { from = 0; to = 2 }; place = x }
    ∷ record { what = c; wire = record { from = 2; to = 1 }; place = y }
    ∷ record { what = r; wire = record { from = 2; to = 1 }; place = z }
    ∷ []

-- Whatever stands in the branches: where c and r have a parallel joint, and l and the shunt so made a series joint, the branches come down to
-- l in series with c parallel to r.
abbrev pub DoorTree : Type 0
DoorTree = (l c r : Model) (x y z : ℕ) (shunt line : Joint)
    → Joined Parallel (reads c) (reads r) shunt
    → Joined Series (reads l) (reads (join shunt c r)) line
    → EndsDown Joins Refused port (branches l c r x y z) (join line l (join shunt c r))
