-- What the four closings answer and offer (Fettweis 1986). A closing ends a port: it sends a falling wave back for the rising one.
use Rattle.std.specs.Prelude.{ℕ, ◌+◌, ◌*◌, ℤ, pos, negsuc, ◌+ℤ◌, ◌-ℤ◌, ◌*ℤ◌, neg_ℤ}
use Rattle.wave.specs.Numbers.{sq, held, short}
use Rattle.wave.specs.declared.ratios.lowest.Ratio.{Ratio}
use Rattle.closing.specs.declared.kinds.Source.{Source}
use Rattle.closing.specs.declared.kinds.Short.{Short}
use Rattle.closing.specs.declared.kinds.Diode.{Diode}
use Rattle.closing.specs.declared.kinds.Stiff.{Stiff}

-- n + b times the exact falling wave, where b is d g
abbrev pub source_exact : ℕ → ℕ → ℤ → ℤ → ℤ
source_exact n b r e = pos (2 * b) *ℤ e +ℤ (pos n -ℤ pos b) *ℤ r

abbrev pub source_answers : Source → ℤ → ℤ → Ratio → ℤ
source_answers s r e q = short (source_exact q.num (q.den * s.weight.value) (held r) (held e)) (q.num + q.den * s.weight.value)

abbrev pub source_offers : Source → ℤ → ℕ
source_offers s e = s.weight.value * sq (held e)

abbrev pub short_answers : Short → ℤ → ℤ → Ratio → ℤ
short_answers s r e q = neg_ℤ (held r)

-- -r if r > 0, else r
abbrev pub fold : ℤ → ℤ
fold (pos n) = neg_ℤ (pos n)
fold (negsuc n) = negsuc n

abbrev pub diode_answers : Diode → ℤ → ℤ → Ratio → ℤ
diode_answers s r e q = fold (held r)

abbrev pub stiff_answers : Stiff → ℤ → ℤ → Ratio → ℤ
stiff_answers s r e q = short (pos 2 *ℤ held e -ℤ held r) 1
