-- How long a line can be.
use Rattle.std.specs.Prelude.{ℕ}

abbrev pub line_room : ℕ
line_room = 240
