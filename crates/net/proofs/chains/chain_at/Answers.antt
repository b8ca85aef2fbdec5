use Rattle.std.proofs.Common.{◌<◌, length, sym, ap, ◌∙◌, nat_eq, arith}
use Rattle.std.proofs.lemmas.List.{length-map}
use Rattle.net.specs.Wires.{far, wires_of}
use Rattle.net.proofs.Found.{stands, chain_if}
use Rattle.net.proofs.chains.chain_at.Goals as goal

pub returns : goal.returns
returns g c =
    let xs = c.args.branches.now in
    let wire = g.B.Wired.wired in
    let p = c.in_ok-pair.pair in
    let m = c.in_ok-pair.ensures in
    let high : p.high < length xs = omega (arith, m.within, length-map xs wire) in
    let low : p.low < length xs = omega (arith, m.order) in
    let left = c.far-left.ensures ∙ ap (far c.args.node) (stands wire xs p.low _ _ low c.wire.ensures c.index-branches-pair.is) in
    let right = c.far-right.ensures ∙ ap (far c.args.node) (stands wire xs p.high _ _ high c.wire-2.ensures c.index-branches-pair-2.is) in
    rw c.then_some.ensures (chain_if (wires_of g.B.Wired xs) c.args.port c.args.node p (nat_eq c.far-left.result c.far-right.result) m (sym c.touches.ensures ∙ c.if-touches.false) (λ k. nat_eq (sym left k) (sym right k)))
