-- The door line: a coil of weight 31 in series with a shunt, which is a capacitor of weight 320 parallel to a resistor of weight 166 with an
-- ear. A source of weight 166 closes it. All by the definitions of waves, elements, joints and closings.
use Rattle.std.specs.Prelude.{ℕ, ◌+◌, ◌*◌, ℤ, pos}
use Rattle.wave.specs.Numbers.{sq, held, short, cut}
use Rattle.port.specs.Elements.{raised}
use Rattle.port.specs.declared.elements.StorageKind.TheVariants.{Capacitor, Coil}
use Rattle.adaptor.specs.Ways.{rises, rises_over, falls}
use Rattle.adaptor.specs.declared.ways.Way.TheVariants.{Series, Parallel}
use Rattle.closing.specs.Kinds.{source_exact}

-- the states of the coil and the capacitor
pub record States : Type 0 where
  pub coil : ℤ
  pub capacitor : ℤ

abbrev pub at_rest : States
at_rest = record { coil = pos 0; capacitor = pos 0 }

-- ---- what rises
-- the shunt's shares are 160 and 83 of 243
abbrev pub shunt_up : States → ℤ
shunt_up s = rises Parallel 160 (raised Capacitor s.capacitor) 83 (pos 0)

abbrev pub shunt_rising : States → ℤ
shunt_rising s = short (shunt_up s) (rises_over Parallel 243)

-- the line's shares are 31 and 486 of 517
abbrev pub line_up : States → ℤ
line_up s = rises Series 31 (raised Coil s.coil) 486 (shunt_rising s)

abbrev pub rising : States → ℤ
rising s = short (line_up s) (rises_over Series 517)

-- ---- what falls where f falls on the line: on the coil and the shunt, on the capacitor and the resistor
abbrev pub coil_down : States → ℤ → ℤ
coil_down s f = falls Series 517 31 (raised Coil s.coil) 486 (shunt_rising s) f

abbrev pub shunt_down : States → ℤ → ℤ
shunt_down s f = falls Series 517 486 (shunt_rising s) 31 (raised Coil s.coil) f

abbrev pub shunt_falling : States → ℤ → ℤ
shunt_falling s f = short (shunt_down s f) 517

abbrev pub capacitor_down : States → ℤ → ℤ
capacitor_down s f = falls Parallel 243 160 (raised Capacitor s.capacitor) 83 (pos 0) (shunt_falling s f)

abbrev pub resistor_down : States → ℤ → ℤ
resistor_down s f = falls Parallel 243 83 (pos 0) 160 (raised Capacitor s.capacitor) (shunt_falling s f)

-- ---- what comes of it
abbrev pub after : States → ℤ → States
after s f = record { coil = short (coil_down s f) 517; capacitor = short (capacitor_down s f) 243 }

abbrev pub heard : States → ℤ → ℤ
heard s f = short (resistor_down s f) 243

abbrev pub absorbed : States → ℤ → ℕ
absorbed s f = 166 * sq (heard s f)

abbrev pub shortened : States → ℤ → ℕ
shortened s f = cut (shunt_up s) (rises_over Parallel 243) + cut (capacitor_down s f) 243 + cut (resistor_down s f) 243
    + (cut (line_up s) (rises_over Series 517) + cut (coil_down s f) 517 + cut (shunt_down s f) 517)

abbrev pub stored : States → ℕ
stored s = 31 * sq s.coil + 320 * sq s.capacitor

-- ---- a feed of the sample e
abbrev pub falling : States → ℤ → ℤ
falling s e = short (source_exact 15066 (517 * 166) (rising s) (held e)) (15066 + 517 * 166)

pub record Fed : Type 0 where
  pub rising : ℤ
  pub falling : ℤ
  pub absorbed : ℕ
  pub shortened : ℕ
  pub heard : ℤ
  pub stored : ℕ

abbrev pub feed : States → ℤ → Fed
feed s e =
    let f = falling s e in
    record { rising = rising s; falling = f; absorbed = absorbed s f; shortened = shortened s f; heard = heard s f; stored = stored (after s f) }

abbrev pub next : States → ℤ → States
next s e = after s (falling s e)
