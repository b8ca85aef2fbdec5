-- The exact falling waves, as the code computes them: the shares p and s, mixed.
use Rattle.std.proofs.Common.{◌≡◌, ℕ, ◌+◌, [], ◌∷◌, ℤ, pos, negsuc, ◌+ℤ◌, ◌-ℤ◌, ◌*ℤ◌, sym, refl, ap, ◌∙◌, add_comm, arith}
use borrow.Author.Differences.{ints}
use lib.IntN.{+ℤ_comm}
use Rattle.lemmas.proofs.Ring.{ring_by, v, k, ◌⊕◌, ◌⊗◌, by, done}
use Rattle.adaptor.specs.Ways.{falls}
use Rattle.adaptor.specs.declared.ways.Way.{Way}
use Rattle.adaptor.specs.declared.ways.Way.TheVariants.{Series, Parallel}

-- what p times and what s times
abbrev own : Way → ℤ → ℤ → ℤ → ℤ
own Series r t f = r
own Parallel r t f = f

abbrev other : Way → ℤ → ℤ → ℤ → ℤ
other Series r t f = f -ℤ t
other Parallel r t f = f -ℤ (r -ℤ t)

mixed : (w : Way) (p s : ℕ) (r t f : ℤ) → falls w (p + s) p r s t f ≡ pos p *ℤ own w r t f +ℤ pos s *ℤ other w r t f
mixed Series p s r t f =
    let P = v 0 in let S = v 1 in let R = v 2 in let D = v 3 in let E = v 4 in
    let i : f -ℤ (r +ℤ t) ≡ (f -ℤ t) +ℤ negsuc 0 *ℤ r = omega (arith, ints) in
    ring_by (pos p ∷ pos s ∷ r ∷ (f -ℤ (r +ℤ t)) ∷ (f -ℤ t) ∷ []) (by S D (E ⊕ k (negsuc 0) ⊗ R) done)
    ((P ⊕ S) ⊗ R ⊕ S ⊗ D) (P ⊗ R ⊕ S ⊗ E) refl (i, tt)
mixed Parallel p s r t f =
    let P = v 0 in let S = v 1 in let R = v 2 in let T = v 3 in let F = v 4 in let D = v 5 in let E = v 6 in
    let m = k (negsuc 0) in
    let i : f -ℤ r ≡ f +ℤ negsuc 0 *ℤ r = omega (arith, ints) in
    let j : f -ℤ (r -ℤ t) ≡ f +ℤ negsuc 0 *ℤ r +ℤ t = omega (arith, ints) in
    ring_by (pos p ∷ pos s ∷ r ∷ t ∷ f ∷ (f -ℤ r) ∷ (f -ℤ (r -ℤ t)) ∷ []) (by (P ⊕ S) D (F ⊕ m ⊗ R) (by (m ⊗ S) E (F ⊕ m ⊗ R ⊕ T) done))
    (P ⊗ R ⊕ S ⊗ T ⊕ (P ⊕ S) ⊗ D) (P ⊗ F ⊕ S ⊗ E) refl (i, (j, tt))

pub left_mixed : (w : Way) (q p s : ℕ) (r t f : ℤ) → q ≡ p + s → pos p *ℤ own w r t f +ℤ pos s *ℤ other w r t f ≡ falls w q p r s t f
left_mixed w q p s r t f h = sym (ap (λ n. falls w n p r s t f) h ∙ mixed w p s r t f)

pub right_mixed : (w : Way) (q p s : ℕ) (r t f : ℤ) → q ≡ p + s → pos p *ℤ other w t r f +ℤ pos s *ℤ own w t r f ≡ falls w q s t p r f
right_mixed w q p s r t f h = +ℤ_comm (pos p *ℤ other w t r f) (pos s *ℤ own w t r f) ∙ left_mixed w q s p t r f (h ∙ add_comm p s)
