use Rattle.std.proofs.Common.{pos, sym, ap, ◌∙◌}
use Rattle.tree.specs.Elements.{wave_of, body_reads, body_cleared}
use Rattle.tree.specs.declared.elements.Body.{Body}
use Rattle.tree.specs.declared.elements.Body.TheVariants.{Store}
use Rattle.tree.specs.declared.elements.Element.{Element}
use Rattle.tree.specs.Leaves.{same_storage}
use Rattle.tree.proofs.elements.ElementPort.clear.Goals as goal

pub returns-in-Store : goal.returns-in-Store
returns-in-Store c =
    let e = c.args.self.now in
    let is = sym c.in-Store.is in
    let h = c.clear.ensures in
    let R : Body → Element = λ b. record { index = e.index; body = b } in
    record {
      after = ap R (ap Store (same_storage c.in-Store.c _ (wave_of (pos 0)) h.kind h.weight h.state) ∙ ap body_cleared is);
      dropped = h.dropped ∙ ap (λ b. (body_reads b).stored) is;
    }
