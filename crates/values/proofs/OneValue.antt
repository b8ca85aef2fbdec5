-- A value is told by its number.
use Rattle.std.proofs.Common.{◌≡◌, arith}
use mathlib.Core.HLevel.{is_prop→PathP}
use native.Mathlib.Bridge.{le_prop}
use Rattle.values.specs.Limits.{InRange}
use Rattle.values.specs.declared.counted.Value.{Value}

pub same_value : (v w : Value) → v.value ≡ w.value → v ≡ w
same_value v w e = λ i. record { value = e i; within = is_prop→PathP (λ j. InRange (e j)) (λ j x y i. (le_prop x.0 y.0 i, le_prop x.1 y.1 i)) v.within w.within i }

-- a value, where any will do
pub some_value : Value
some_value = record { value = 1; within = (omega arith, omega arith) }
