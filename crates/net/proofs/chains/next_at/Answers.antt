use Rattle.std.proofs.Common.{rules}
use Rattle.net.proofs.Found.{found_as}
use Rattle.net.proofs.chains.next_at.Goals as goal

pub returns : goal.returns
returns g c = found_as c.first_past.result (λ h k lo hi. let e = h k lo hi in search rules) (λ j h. record { order = h.order; within = h.within; there = let e = h.there in search rules; first = λ k lo hi. let e = h.first k lo hi in search rules }) c.first_past.ensures
