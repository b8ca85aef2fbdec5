-- A resistor of the largest size.
use Rattle.std.specs.Prelude.{ℕ, ℤ}
use Rattle.port.specs.Meaning.{Readings, largest_size}
use Rattle.port.specs.Elements.{resistor_reads, Absorbs, resistor_clears}
use Rattle.port.specs.declared.takings.Taken.{Taken}
use Rattle.refused.specs.declared.wide.Wide.{Wide}

abbrev pub wide_reads : Wide → Readings
wide_reads s =
    let a = resistor_reads s.resistor in
    record { num = a.num; den = a.den; size = largest_size; ears = a.ears; rising = a.rising; stored = a.stored }

abbrev pub wide_takes : Wide → ℤ → Taken → Wide → Type 0
wide_takes s f t s' = Absorbs s.resistor f t s'.resistor

abbrev pub wide_clears : Wide → ℕ → Wide → Type 0
wide_clears s e s' = resistor_clears s.resistor e s'.resistor
