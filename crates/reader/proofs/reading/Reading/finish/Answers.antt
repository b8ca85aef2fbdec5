use Rattle.std.proofs.Common.{length, ap, arith}
use Rattle.std.proofs.lemmas.Bool.Decides.{nat_tests}
use Rattle.reader.proofs.Ending.{no_port_wanting, not_closed_wanting, no_element_wanting, read_whole}
use Rattle.reader.proofs.reading.Reading.finish.Goals as goal
use Rattle.reader.proofs.reading.Reading.finish.Goals.{then-not-closed-via-then-not-closed, then-not-closed-via-else-not-closed+then-is_empty}

pub returns-in_default : goal.returns-in_default
returns-in_default c = rw c.at-wanting.ensures (no_port_wanting c.requires.all c.requires.some c.requires.small c.in_default.is)

pub returns-then-not-closed : goal.returns-then-not-closed
returns-then-not-closed c =
    rw c.at-wanting.ensures
    (elim c.then-not-closed.branch [
      | then-not-closed-via-then-not-closed w ↦ not_closed_wanting c.requires.all c.requires.some c.requires.small w.if-not-closed.true
      | then-not-closed-via-else-not-closed+then-is_empty w ↦ no_element_wanting c.requires.all c.requires.some c.requires.small (let e = ap length w.as_slice.ensures.items in grind (arith, nat_tests))
    ])

pub returns : goal.returns
returns c =
    read_whole c.requires.all c.requires.some c.requires.small c.in-Some.port c.in-Some.is c.if-not-closed.false (λ z. let e = ap length c.as_slice.ensures.items in grind (arith, nat_tests))
