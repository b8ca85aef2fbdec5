use Rattle.std.proofs.Common.{◌≡◌, sym, arith, rules}
use Rattle.net.specs.Wires.{at, wires_of}
use Rattle.net.proofs.Found.{stands, found_as}
use Rattle.net.proofs.finds.partner.Goals as goal

pub returns : goal.returns
returns g c =
    let ws = wires_of g.B.Wired c.args.branches.now in
    let is : c.wire-wire.result ≡ at ws c.args.low = stands g.B.Wired.wired c.args.branches.now c.args.low _ _ c.requires c.wire-wire.ensures c.index-branches-low.is in
    found_as c.first_past.result
    (λ h k lo hi. let e = h k (omega arith) hi in rw (sym is) (search rules))
    (λ j h. record { order = omega (arith, h.order); within = h.within; same = let e = h.there in rw (sym is) (search rules); first = λ k lo hi. let e = h.first k (omega arith) hi in rw (sym is) (search rules) })
    c.first_past.ensures
