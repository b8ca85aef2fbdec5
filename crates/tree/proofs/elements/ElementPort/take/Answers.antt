use Rattle.std.proofs.Common.{sym, ap, ◌∙◌, w32, SFits}
use Rattle.std.proofs.lemmas.Int.{to_z-of_z}
use Rattle.tree.specs.Elements.{wave_of, body_after, body_answer}
use Rattle.tree.specs.declared.elements.Body.{Body}
use Rattle.tree.specs.declared.elements.Body.TheVariants.{Store}
use Rattle.tree.specs.declared.elements.Element.{Element}
use Rattle.tree.specs.Leaves.{same_storage, same_taken}
use Rattle.tree.proofs.elements.ElementPort.take.Goals as goal

pub returns-in-Store : goal.returns-in-Store
returns-in-Store c =
    let fit : SFits w32 c.args.f = c.ranges.f in
    let e = c.args.self.now in
    let f = c.args.f in
    let is = sym c.in-Store.is in
    let h = simp to_z-of_z at c.take.ensures in
    let R : Body → Element = λ b. record { index = e.index; body = b } in
    record {
      after = ap R (ap Store (same_storage c.in-Store.c _ (wave_of f) h.kind h.weight h.state) ∙ ap (λ b. body_after b f) is);
      answer = same_taken _ (body_answer (Store c.in-Store.c) f) h.absorbed h.shortened h.heard ∙ ap (λ b. body_answer b f) is;
    }
