-- What never changes of a port, compared with what is read off one.
use Rattle.std.specs.Prelude.{Bool, ◌&&◌, ◌==◌}
use Rattle.port.specs.Meaning.{Readings}
use Rattle.port.specs.declared.parts.fixed.Part.{Part}

abbrev pub shows : Part → Readings → Bool
shows p a = p.ratio.num == a.num && p.ratio.den == a.den && p.size == a.size && p.ears == a.ears
