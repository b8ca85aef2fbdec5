use Rattle.tree.proofs.Caches.{held, stored_sum}
use Rattle.tree.proofs.trees.Tree.+stored.Goals as goal

pub overflow_add-result : goal.overflow_add-result
overflow_add-result t c =
    stored_sum c.in-Join.field-0 c.in-Join.a.value c.in-Join.b.value _ _ (held c.self.invariant c.in-Join.is)
    (simp c.deref.ensures at c.stored-in-Join.ensures) (simp c.deref-in-Join.ensures at c.stored-in-Join-2.ensures)
