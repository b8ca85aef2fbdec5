-- A listing's element as a port: a capacitor, a coil or a resistor, at its place in the listing.
use Rattle.std.specs.Prelude.{◌≡◌, ℕ, ◌*◌, ◌≤◌, false, cond, ℤ, pos, negsuc, unsigned_abs}
use Rattle.std.proofs.Common.{arith}
use Rattle.wave.specs.Numbers.{sq, held, largest_wave}
use Rattle.wave.specs.declared.waves.Wave.{Wave}
use Rattle.port.specs.Meaning.{Readings}
use Rattle.port.specs.Elements.{storage_reads, resistor_reads}
use Rattle.port.specs.declared.takings.Taken.{Taken}
use Rattle.port.specs.declared.elements.Storage.{Storage}
use Rattle.tree.specs.declared.elements.Body.{Body}
use Rattle.tree.specs.declared.elements.Body.TheVariants.{Store, Resist}
use Rattle.tree.specs.declared.elements.Element.{Element}

pub held_within : (f : ℤ) → unsigned_abs (held f) ≤ largest_wave
held_within (pos n) = omega arith
held_within (negsuc n) = omega arith

abbrev pub wave_of : ℤ → Wave
wave_of f = record { value = held f; within = held_within f }

-- a capacitor or a coil with another state
abbrev pub keeping : Storage → Wave → Storage
keeping c s = record { kind = c.kind; weight = c.weight; state = s }

-- ---- what is read off it
abbrev pub body_reads : Body → Readings
body_reads (Store c) = storage_reads c
body_reads (Resist r) = resistor_reads r

abbrev pub element_reads : Element → Readings
element_reads e = body_reads e.body

-- ---- what it does with the falling wave f
abbrev pub body_after : Body → ℤ → Body
body_after (Store c) f = Store (keeping c (wave_of f))
body_after (Resist r) f = Resist r

abbrev pub element_after : Element → ℤ → Element
element_after e f = record { index = e.index; body = body_after e.body f }

abbrev pub body_answer : Body → ℤ → Taken
body_answer (Store c) f = record { absorbed = 0; shortened = 0; heard = pos 0 }
body_answer (Resist r) f = record { absorbed = r.weight.value * sq (held f); shortened = 0; heard = cond r.ear (held f) (pos 0) }

abbrev pub element_answer : Element → ℤ → Taken
element_answer e f = body_answer e.body f

pub record ElementTakes (e : Element) (f : ℤ) (t : Taken) (e' : Element) : Type 0 where
  pub after : e' ≡ element_after e f
  pub answer : t ≡ element_answer e f

-- ---- clearing
abbrev pub body_cleared : Body → Body
body_cleared (Store c) = Store (keeping c (wave_of (pos 0)))
body_cleared (Resist r) = Resist r

abbrev pub element_cleared : Element → Element
element_cleared e = record { index = e.index; body = body_cleared e.body }

pub record ElementClears (e : Element) (x : ℕ) (e' : Element) : Type 0 where
  pub after : e' ≡ element_cleared e
  pub dropped : x ≡ (element_reads e).stored

-- ---- the built-in element: a resistor of weight 1 without an ear
abbrev pub BuiltBody : Body → Type 0
BuiltBody (Store c) = ⊥
BuiltBody (Resist r) = (r.weight.value ≡ 1) × (r.ear ≡ false)

abbrev pub BuiltIn : Element → Type 0
BuiltIn e = (e.index ≡ 0) × BuiltBody e.body
