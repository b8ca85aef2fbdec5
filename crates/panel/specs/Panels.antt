-- What a panel's own programs take for granted.
use Rattle.std.specs.Prelude.{ℕ}

abbrev pub source_weight : ℕ
source_weight = 166

-- the rate in hertz, and the unit in nanosiemens
abbrev pub panel_rate : ℕ
panel_rate = 16000

abbrev pub panel_unit : ℕ
panel_unit = 10000
