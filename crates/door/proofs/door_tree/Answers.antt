use mathlib.Core.Path.{refl}
use Rattle.tree.specs.Models.{join}
use Rattle.assembly.specs.Branches.{Joins, Refused}
use Rattle.door.proofs.Steps.{comes_down}
use Rattle.door.proofs.door_tree.Goals as goal

pub returns : goal.returns
returns c = record {
  tree = λ l c r x y z shunt line P S. comes_down Joins Refused l c r (join shunt c r) (join line l (join shunt c r)) x y z
      (record { joint = shunt; joined = P; is = refl }) (record { joint = line; joined = S; is = refl });
  value = refl;
}
