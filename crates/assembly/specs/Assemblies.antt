-- What assembling answers to a text, a rate in hertz, a unit in nanosiemens and the name of the resistor with the ear.
use Rattle.std.specs.Prelude.{◌≡◌, ℕ, List, Option}
use Rattle.reader.specs.Answers as reader
use Rattle.refusals.specs.Refusals.{told}
use Rattle.reader.specs.declared.Listing.{Listing}
use Rattle.told.specs.declared.Told.{Told}
use Rattle.weights.specs.Limits.{Scaled}
use Rattle.tree.specs.Models.{Model, reads}
use Rattle.net.specs.Reductions.{Edge, EndsDown, EndsLeft, EndsOver, OneAnswer}
use Rattle.net.specs.declared.wires.Wire.{Wire}
use Rattle.assembly.specs.Branches.{ends_at, Joins, Refused}
use Rattle.assembly.specs.Beginnings.{Begins, Unweighable, Earless, EarIs}
use Rattle.assembly.specs.declared.faults.AssemblyFault.{AssemblyFault}
use Rattle.assembly.specs.declared.faults.AssemblyFault.TheVariants.{Reading, OutOfRange, BadWeight, Irreducible, TooLarge, NoEar}
use Rattle.assembly.specs.declared.assembling.Assembled.{Assembled}

-- every refusal as it is told
abbrev pub row : AssemblyFault → Told
row (Reading f) = told f
row OutOfRange = record { layer = 2; number = 11; place = 0 }
row (BadWeight p) = record { layer = 2; number = 12; place = p }
row Irreducible = record { layer = 2; number = 13; place = 0 }
row (TooLarge p) = record { layer = 2; number = 14; place = p }
row NoEar = record { layer = 2; number = 15; place = 0 }

abbrev pub port_of : Listing → Wire
port_of d = ends_at d.port.ends

-- the text is read, rate and unit are in range, and the elements are branches
pub record Begun (t : List ℕ) (rate unit : ℕ) (name : List ℕ) (d : Listing) (bs : List (Edge Model)) : Type 0 where
  pub read : reader.Reads t d
  pub scaled : Scaled rate unit
  pub ear : Option ℕ
  pub eared : EarIs t d.elements name ear
  pub begins : Begins rate unit ear d.elements bs

-- the tree m is what the branches of the text come down to, and the name of the ear fits
pub record Accepts (t : List ℕ) (rate unit : ℕ) (name : List ℕ) (m : Model) (a : Assembled) : Type 0 where
  pub listing : Listing
  pub branches : List (Edge Model)
  pub begun : Begun t rate unit name listing branches
  pub down : EndsDown Joins Refused (port_of listing) branches m
  pub ear : Earless t listing.elements name → ⊥
  pub num : a.num ≡ (reads m).num
  pub den : a.den ≡ (reads m).den
  pub elements : a.elements ≡ (reads m).size

-- which refusal; an earlier line of these goes before a later one
abbrev pub Refuses : List ℕ → ℕ → ℕ → List ℕ → AssemblyFault → Type 0
Refuses t rate unit name (Reading f) = reader.Refuses t f
Refuses t rate unit name OutOfRange = (d : Listing) × reader.Reads t d × (Scaled rate unit → ⊥)
Refuses t rate unit name (BadWeight p) = (d : Listing) × reader.Reads t d × Scaled rate unit × Unweighable rate unit d.elements p
Refuses t rate unit name (TooLarge p) = (d : Listing) × (bs : List (Edge Model)) × Begun t rate unit name d bs × EndsOver Joins Refused (port_of d) bs p
Refuses t rate unit name Irreducible = (d : Listing) × (bs : List (Edge Model)) × Begun t rate unit name d bs × EndsLeft Joins Refused (port_of d) bs
Refuses t rate unit name NoEar = (d : Listing) × (bs : List (Edge Model)) × (m : Model) × Begun t rate unit name d bs × EndsDown Joins Refused (port_of d) bs m × Earless t d.elements name

-- the steps lead to one answer only, whatever the branches and the port
abbrev pub OneEnd : Type 0
OneEnd = (port : Wire) (bs : List (Edge Model)) → OneAnswer Joins Refused port bs
