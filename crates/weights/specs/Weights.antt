-- The weight of an element with the value v (ohms, picofarads or microhenries), at a rate in hertz and a unit in nanosiemens: a quotient,
-- rounded down.
use Rattle.std.specs.Prelude.{◌≡◌, ℕ, ◌*◌, ◌/◌}
use Rattle.values.specs.declared.Kind.{Kind}
use Rattle.values.specs.declared.Kind.TheVariants.{Resistor, Capacitor, Coil}

abbrev pub dividend : Kind → ℕ → ℕ → ℕ
dividend Resistor v rate = 1000000000
dividend Capacitor v rate = 2 * v * rate
dividend Coil v rate = 1000000000000000

abbrev pub divisor : Kind → ℕ → ℕ → ℕ → ℕ
divisor Resistor v rate unit = v * unit
divisor Capacitor v rate unit = 1000 * unit
divisor Coil v rate unit = 2 * v * rate * unit

abbrev pub weight : Kind → ℕ → ℕ → ℕ → ℕ
weight k v rate unit = dividend k v rate / divisor k v rate unit

-- ---- examples, at 16,000 hertz and 10,000 nanosiemens
abbrev pub at_door : Kind → ℕ → ℕ
at_door k v = weight k v 16000 10000

abbrev pub Table : ℕ → ℕ → ℕ → ℕ → ℕ → ℕ → ℕ → Type 0
Table coil capacitor resistor faint nothing heavy over =
    (coil ≡ at_door Coil 100000) × (capacitor ≡ at_door Capacitor 100000) × (resistor ≡ at_door Resistor 600)
    × (faint ≡ at_door Resistor 100000) × (nothing ≡ at_door Resistor 100001) × (heavy ≡ at_door Resistor 196) × (over ≡ at_door Resistor 195)
