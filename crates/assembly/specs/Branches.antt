-- The branches of a listing, with their trees free of pointers, and what two of them make.
use Rattle.std.specs.Prelude.{List, map}
use Rattle.adaptor.specs.Joins.{Parted}
use Rattle.adaptor.specs.declared.ways.Way.{Way}
use Rattle.adaptor.specs.declared.ways.Way.TheVariants.{Series, Parallel}
use Rattle.adaptor.specs.declared.joints.JoinRefusal.TheVariants.{Number}
use Rattle.tree.specs.Models.{Model, reads}
use Rattle.tree.specs.Growth.{Grown}
use Rattle.net.specs.Reductions.{Edge}
use Rattle.net.specs.declared.wires.Wire.{Wire}
use Rattle.net.specs.declared.wires.Choice.{Choice}
use Rattle.net.specs.declared.wires.Choice.TheVariants.{Twins, Chain}
use Rattle.reader.specs.declared.Ends.{Ends}
use Rattle.assembly.specs.declared.branches.Branch.{Branch}

-- the two ends of an element or of the port, by the numbers of their nodes
abbrev pub ends_at : Ends → Wire
ends_at e = record { from = e.from.index; to = e.to.index }

abbrev pub edge : Branch → Edge Model
edge b = record { what = b.tree.tree; wire = b.wire; place = b.place }

abbrev pub edges : List Branch → List (Edge Model)
edges bs = map edge bs

-- twins are joined in parallel, a chain in series
abbrev pub way_for : Choice → Way
way_for (Twins p) = Parallel
way_for (Chain p n) = Series

abbrev pub Joins : Choice → Model → Model → Model → Type 0
Joins c a b m = Grown (way_for c) a b m

-- a number of the ratio, or the total of the shares, is too large
abbrev pub Refused : Choice → Model → Model → Type 0
Refused c a b = Parted (way_for c) (reads a) (reads b) Number
