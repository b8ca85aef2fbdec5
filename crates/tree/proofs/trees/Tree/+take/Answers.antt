use Rattle.std.proofs.Common.{◌≡◌, ℕ, sym, ap, ◌∙◌, ap₂, arith, w32, SFits}
use Rattle.std.proofs.lemmas.Int.{to_z-of_z}
use Rattle.tree.specs.Models.{reads, to_left, to_right, cuts, taken, answer, summed}
use Rattle.tree.specs.Trees.{model, Holds}
use Rattle.tree.specs.Law.{fits_left, fits_right, answer_most}
use Rattle.tree.specs.Leaves.{same_taken}
use Rattle.tree.proofs.Caches.{held, still_taken}
use Rattle.tree.proofs.trees.Tree.+take.Goals as goal
use Rattle.tree.proofs.trees.Tree.+take.Goals.{in-Leaf, in-Join}

both : (t : ℕ) (c : goal.Joined-self t) → Holds c.match-self.self-inside.node × (c.match-self.result.taken ≡ answer c.args.self.now c.args.f)
both t c =
    let fit : SFits w32 c.args.f = c.ranges.f in
    let f = c.args.f in
    elim c.match-self.branch [
      | in-Leaf w ↦
          let taken = simp to_z-of_z at w.take-taken.ensures in
          let seen = ap (λ n. answer (model n) f) (sym w.in-Leaf.is) ∙ ap (λ m. answer m f) c.self.view_is in
          (rw w.self-inside-is tt, rw w.result-is (taken.answer ∙ seen))
      | in-Join w ↦
          let gl : SFits w32 w.get.result = record { sfits = w.get.type_inv } in
          let gr : SFits w32 w.get-in-Join.result = record { sfits = w.get-in-Join.type_inv } in
          let k = w.in-Join.k in
          let j = k.joint in
          let a = w.in-Join.a.value in
          let b = w.in-Join.b.value in
          let h = held c.self.invariant w.in-Join.is in
          let l = to_left j (reads a) (reads b) f in
          let r = to_right j (reads a) (reads b) f in
          let hold = simp to_z-of_z at w.hold.ensures in
          let R = w.round-round.ensures in
          let up = simp (h.left, h.right) at R.rising in
          let left = simp (hold, h.left, h.right) at R.left in
          let right = simp (hold, h.left, h.right) at R.right in
          let e₁ : w.get.result ≡ l = w.get.ensures ∙ left.wave in
          let e₂ : w.get-in-Join.result ≡ r = w.get-in-Join.ensures ∙ right.wave in
          let d₁ : w.deref_mut.result.now ≡ a = w.deref_mut.ensures.value in
          let d₂ : w.deref_mut-in-Join.result.now ≡ b = w.deref_mut-in-Join.ensures.value in
          let x = w.take-x.ensures in
          let y = w.take-y.ensures in
          let a₁ : w.take-x.new.self ≡ taken a l = simp (d₁, e₁) at (simp to_z-of_z at x.after) in
          let a₂ : w.take-y.new.self ≡ taken b r = simp (d₂, e₂) at (simp to_z-of_z at y.after) in
          let b₁ : w.take-x.result.rising.value ≡ (reads (taken a l)).rising = simp (d₁, e₁) at (simp to_z-of_z at x.raises) in
          let b₂ : w.take-y.result.rising.value ≡ (reads (taken b r)).rising = simp (d₂, e₂) at (simp to_z-of_z at y.raises) in
          let t₁ : w.take-x.result.taken ≡ answer a l = simp (d₁, e₁) at (simp to_z-of_z at x.answers) in
          let t₂ : w.take-y.result.taken ≡ answer b r = simp (d₂, e₂) at (simp to_z-of_z at y.answers) in
          let B = answer_most a l _ (fits_left j a b h.fits) t₁ in
          let D = answer_most b r _ (fits_right j a b h.fits) t₂ in
          let G = w.gathered-taken.ensures in
          let seen = ap (λ n. answer (model n) f) (sym w.in-Join.is) ∙ ap (λ m. answer m f) c.self.view_is in (
            rw w.self-inside-is (record {
              fits = still_taken k a b w.take-x.new.self w.take-y.new.self f h a₁ a₂;
              left = b₁ ∙ sym (ap (λ s. (reads s).rising) a₁);
              right = b₂ ∙ sym (ap (λ s. (reads s).rising) a₂);
            }),
            rw w.result-is (same_taken _ (summed w.take-x.result.taken w.take-y.result.taken (cuts j (reads a) (reads b) f))
                (G.absorbed (omega (arith, B.absorbed, D.absorbed)))
                (simp (up.cut, left.cut, right.cut) at (G.shortened (omega (arith, B.shortened, D.shortened))))
                (G.heard B.heard D.heard)
                ∙ ap₂ (λ s u. summed s u (cuts j (reads a) (reads b) f)) t₁ t₂ ∙ seen),
          )
    ]

pub invariant_of-self : goal.invariant_of-self
invariant_of-self t c = (both t c).0

pub returns-clause-answers : goal.returns-clause-answers
returns-clause-answers t c = (both t c).1
