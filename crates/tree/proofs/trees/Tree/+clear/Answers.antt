use Rattle.std.proofs.Common.{◌≡◌, sym, ap, ◌∙◌, ap₂}
use Rattle.tree.specs.Models.{join, reads, fitted, cleared}
use Rattle.tree.specs.Law.{fits_cleared}
use Rattle.tree.proofs.Caches.{held, stored_sum, rising_cleared}
use Rattle.tree.proofs.trees.Tree.+clear.Goals as goal
use Rattle.tree.proofs.trees.Tree.+clear.Goals.{in-Leaf, in-Join}

pub invariant_of-self : goal.invariant_of-self
invariant_of-self t c = elim c.match-self.branch [
  | in-Leaf w ↦ rw w.self-inside-is tt
  | in-Join w ↦
      let a = w.in-Join.a.value in
      let b = w.in-Join.b.value in
      let j = w.in-Join.k.joint in
      let h = held c.self.invariant w.in-Join.is in
      let x : w.clear-x.new.self ≡ cleared a = w.clear-x.ensures.after ∙ ap cleared w.deref_mut.ensures.value in
      let y : w.clear-y.new.self ≡ cleared b = w.clear-y.ensures.after ∙ ap cleared w.deref_mut-in-Join.ensures.value in
      rw w.self-inside-is (record {
        fits = ap₂ (λ s u. fitted (join j s u)) x y ∙ fits_cleared (join j a b) ∙ h.fits;
        left = sym (ap (λ s. (reads s).rising) x ∙ rising_cleared a);
        right = sym (ap (λ s. (reads s).rising) y ∙ rising_cleared b);
      })
]

pub overflow_add-result : goal.overflow_add-result
overflow_add-result t c =
    stored_sum c.in-Join.k c.in-Join.a.value c.in-Join.b.value _ _ (held c.self.invariant c.in-Join.is)
    (simp c.deref_mut.ensures.value at c.clear-x.ensures.dropped) (simp c.deref_mut-in-Join.ensures.value at c.clear-y.ensures.dropped)
