-- The short, the diode and the stiff source keep the laws of closings, and the first two give nothing.
use Rattle.std.proofs.Common.{rules}
use Rattle.closing.specs.Meaning.{Answers, Bounded}
use Rattle.closing.specs.Kinds.{short_answers, diode_answers, stiff_answers}

pub short_lawful : Answers short_answers
short_lawful = search rules

pub short_bounded : Bounded short_answers (λ c e. 0)
short_bounded = search rules

pub diode_lawful : Answers diode_answers
diode_lawful = search rules

pub diode_bounded : Bounded diode_answers (λ c e. 0)
diode_bounded = search rules

pub stiff_lawful : Answers stiff_answers
stiff_lawful = search rules
