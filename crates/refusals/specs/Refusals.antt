-- The refusals of reading.
use Rattle.std.specs.Prelude.{ℕ}
use Rattle.told.specs.declared.Told.{Told}
use Rattle.values.specs.declared.Wrong.{Wrong}
use Rattle.values.specs.declared.Wrong.TheVariants.{Form, Range}
use Rattle.refusals.specs.declared.Rule.{Rule}
use Rattle.refusals.specs.declared.Fault.{Fault}
use Rattle.refusals.specs.declared.Rule.TheVariants.{Size, TooLong, Shape, BadName, BadValue, OutOfRange, Twice, Full, Wanting, Joined}

-- the number of each rule
abbrev pub number : Rule → ℕ
number Size = 1
number TooLong = 2
number Shape = 3
number BadName = 4
number BadValue = 5
number OutOfRange = 6
number Twice = 7
number Full = 8
number Wanting = 9
number Joined = 10

-- the rule that a value breaks
abbrev pub rule_for : Wrong → Rule
rule_for Form = BadValue
rule_for Range = OutOfRange

-- a refusal as it is told: its layer, which is 1 for all of reading, the number of its rule, and its place
abbrev pub told : Fault → Told
told f = record { layer = 1; number = number f.rule; place = f.place }
