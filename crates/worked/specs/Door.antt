-- The door line as its ports make it: a port of the constructors' adaptors, with the relations of the port's meaning.
use Rattle.std.specs.Prelude.{◌≡◌, true, ℕ, ℤ}
use Rattle.port.specs.Meaning.{Readings}
use Rattle.port.specs.Elements.{storage_reads, Stores, Drops, AtRest, resistor_reads, Absorbs, resistor_clears}
use Rattle.port.specs.declared.meaning.Port.{Ghosts}
use Rattle.port.specs.declared.takings.Taken.{Taken}
use Rattle.port.specs.declared.elements.Storage.{Storage}
use Rattle.port.specs.declared.elements.StorageKind.TheVariants.{Capacitor, Coil}
use Rattle.port.specs.declared.elements.Resistor.{Resistor}
use Rattle.adaptor.specs.Adaptors.{adaptor_reads, Takes, Clears}
use Rattle.adaptor.specs.Joins.{Joined}
use Rattle.adaptor.specs.declared.adaptors.Adaptor.{Adaptor}
use Rattle.adaptor.specs.declared.ways.Way.TheVariants.{Series, Parallel}

-- what each part is as a port
abbrev pub storage : Ghosts Storage
storage = record { reads = storage_reads; takes = Stores; clears = Drops }

abbrev pub resistor : Ghosts Resistor
resistor = record { reads = resistor_reads; takes = Absorbs; clears = resistor_clears }

abbrev pub Shunt : Type 0
Shunt = Adaptor Storage Resistor

abbrev pub shunt_reads : Shunt → Readings
shunt_reads m = adaptor_reads m.joint (storage_reads m.left) (resistor_reads m.right)

abbrev pub shunt_takes : Shunt → ℤ → Taken → Shunt → Type 0
shunt_takes m f t z = Takes storage resistor m.joint m.left m.right f t z.joint z.left z.right

abbrev pub shunt_clears : Shunt → ℕ → Shunt → Type 0
shunt_clears m e z = Clears storage resistor m.joint m.left m.right e z.joint z.left z.right

abbrev pub shunt : Ghosts Shunt
shunt = record { reads = shunt_reads; takes = shunt_takes; clears = shunt_clears }

abbrev pub Door : Type 0
Door = Adaptor Storage Shunt

abbrev pub door_reads : Door → Readings
door_reads d = adaptor_reads d.joint (storage_reads d.left) (shunt_reads d.right)

abbrev pub door_takes : Door → ℤ → Taken → Door → Type 0
door_takes d f t z = Takes storage shunt d.joint d.left d.right f t z.joint z.left z.right

-- the four parts are new, and joined as the constructors join
pub record Built (d : Door) : Type 0 where
  pub coil : AtRest Coil 31 d.left
  pub capacitor : AtRest Capacitor 320 d.right.left
  pub ohm : d.right.right.weight.value ≡ 166
  pub ear : d.right.right.ear ≡ true
  pub shunt_joined : Joined Parallel (storage_reads d.right.left) (resistor_reads d.right.right) d.right.joint
  pub joined : Joined Series (storage_reads d.left) (shunt_reads d.right) d.joint
