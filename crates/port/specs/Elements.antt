-- What a capacitor, a coil and a resistor are as ports (Fettweis 1986): each has its weight over 1 as ratio, and size 1.
use Rattle.std.specs.Prelude.{◌≡◌, ℕ, ◌*◌, cond, ℤ, pos, neg_ℤ}
use Rattle.wave.specs.Numbers.{sq, held}
use Rattle.port.specs.Meaning.{Readings}
use Rattle.port.specs.declared.takings.Taken.{Taken}
use Rattle.port.specs.declared.elements.StorageKind.{StorageKind}
use Rattle.port.specs.declared.elements.StorageKind.TheVariants.{Capacitor, Coil}
use Rattle.port.specs.declared.elements.Storage.{Storage}
use Rattle.port.specs.declared.elements.Resistor.{Resistor}

-- ---- capacitor and coil
-- what rises where the state is s
abbrev pub raised : StorageKind → ℤ → ℤ
raised Capacitor s = s
raised Coil s = neg_ℤ s

abbrev pub storage_reads : Storage → Readings
storage_reads c = record {
  num = c.weight.value;
  den = 1;
  size = 1;
  ears = 0;
  rising = raised c.kind c.state.value;
  stored = c.weight.value * sq c.state.value;
}

-- the held wave is the new state; nothing is absorbed, shortened or heard
pub record Stores (c : Storage) (f : ℤ) (t : Taken) (c' : Storage) : Type 0 where
  pub kind : c'.kind ≡ c.kind
  pub weight : c'.weight ≡ c.weight
  pub state : c'.state.value ≡ held f
  pub absorbed : t.absorbed ≡ 0
  pub shortened : t.shortened ≡ 0
  pub heard : t.heard ≡ pos 0

-- the energy of the state is dropped, and the state is 0
pub record Drops (c : Storage) (e : ℕ) (c' : Storage) : Type 0 where
  pub kind : c'.kind ≡ c.kind
  pub weight : c'.weight ≡ c.weight
  pub state : c'.state.value ≡ pos 0
  pub dropped : e ≡ c.weight.value * sq c.state.value

-- a new one
pub record AtRest (k : StorageKind) (w : ℕ) (c : Storage) : Type 0 where
  pub kind : c.kind ≡ k
  pub weight : c.weight.value ≡ w
  pub state : c.state.value ≡ pos 0

-- ---- resistor
abbrev pub resistor_reads : Resistor → Readings
resistor_reads r = record { num = r.weight.value; den = 1; size = 1; ears = cond r.ear 1 0; rising = pos 0; stored = 0 }

-- the energy of the held wave is absorbed; an ear hears that wave
pub record Absorbs (r : Resistor) (f : ℤ) (t : Taken) (r' : Resistor) : Type 0 where
  pub same : r' ≡ r
  pub absorbed : t.absorbed ≡ r.weight.value * sq (held f)
  pub shortened : t.shortened ≡ 0
  pub heard : t.heard ≡ cond r.ear (held f) (pos 0)

abbrev pub resistor_clears : Resistor → ℕ → Resistor → Type 0
resistor_clears r e r' = (r' ≡ r) × (e ≡ 0)
