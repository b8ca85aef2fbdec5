-- How long a page is, and the most that one entry can add to its sums.
use Rattle.std.specs.Prelude.{ℕ, ◌*◌}
use Rattle.wave.specs.Numbers.{largest_wave, most_energy}
use Rattle.port.specs.Meaning.{largest_size}

abbrev pub page_length : ℕ
page_length = 4096

-- of absorbed or dropped energy
abbrev pub most_absorbed : ℕ
most_absorbed = largest_size * most_energy

-- of shortened waves
abbrev pub most_count : ℕ
most_count = 3 * largest_size

-- of the swing
abbrev pub most_square : ℕ
most_square = largest_wave * largest_wave
