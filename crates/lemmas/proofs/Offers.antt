-- A source never gives more than its offer.
use mathlib.Core.Path.{◌≡◌, refl, ap}
use mathlib.Core.List.{[], ◌∷◌}
use Prim.Native.Nat.{ℕ, ◌*◌, ◌+◌, ◌≤◌, ◌<◌}
use native.Mathlib.Nat.{le_of_mul-le-mul_left, mul-pos, mul-add, mul_left_comm}
use native.Mathlib.Omega.{arith}
use lib.IntN.{ℤ, pos, negsuc, nat_abs, ◌+ℤ◌, ◌-ℤ◌, ◌*ℤ◌}
use borrow.Author.Differences.{ints}
use Rattle.lemmas.proofs.Integers.{pos_inj, pos_sq}
use Rattle.lemmas.proofs.Ring.{ring_by, v, k, ◌⊕◌, ◌⊗◌, by, done}

abbrev sq : ℤ → ℕ
sq z = nat_abs z * nat_abs z

-- with x = a (e - r) and y = b e + a r, which come to (a + b) e: 4 x y is (x + y)² less (x - y)²
offer_is : (a b : ℕ) (r e : ℤ) →
    (a + b) * (a + b) * (a * sq r + b * sq e)
    ≡ a * sq (pos (2 * b) *ℤ e +ℤ (pos a -ℤ pos b) *ℤ r) + b * sq ((pos a -ℤ pos b) *ℤ e +ℤ negsuc 1 *ℤ (pos a *ℤ r))
offer_is a b r e =
    let A = v 0 in let B = v 1 in let R = v 2 in let E = v 3 in let M = v 4 in
    let RR = v 5 in let EE = v 6 in let ZZ = v 7 in let WW = v 8 in
    let Z = k (pos 2) ⊗ B ⊗ E ⊕ M ⊗ R in let W = M ⊗ E ⊕ k (negsuc 1) ⊗ (A ⊗ R) in
    let m = pos a -ℤ pos b in
    let z = pos (2 * b) *ℤ e +ℤ m *ℤ r in let w = m *ℤ e +ℤ negsuc 1 *ℤ (pos a *ℤ r) in
    let i : m ≡ pos a +ℤ negsuc 0 *ℤ pos b = omega (arith, ints) in
    let n = k (negsuc 0) in
    pos_inj _ _ (ring_by (pos a ∷ pos b ∷ r ∷ e ∷ m ∷ pos (sq r) ∷ pos (sq e) ∷ pos (sq z) ∷ pos (sq w) ∷ [])
    (by (n ⊗ (A ⊗ R ⊗ R ⊕ B ⊗ E ⊗ E) ⊗ (M ⊕ A ⊕ n ⊗ B)) M (A ⊕ n ⊗ B)
    (by ((A ⊕ B) ⊗ (A ⊕ B) ⊗ A) RR (R ⊗ R) (by ((A ⊕ B) ⊗ (A ⊕ B) ⊗ B) EE (E ⊗ E)
    (by (n ⊗ A) ZZ (Z ⊗ Z) (by (n ⊗ B) WW (W ⊗ W) done)))))
    ((A ⊕ B) ⊗ (A ⊕ B) ⊗ (A ⊗ RR ⊕ B ⊗ EE)) (A ⊗ ZZ ⊕ B ⊗ WW)
    refl (i, (pos_sq r, (pos_sq e, (pos_sq z, (pos_sq w, tt))))))

-- F is the square of what the exact wave is shortened to
pub offer_most : (a b : ℕ) (r e : ℤ) (F lost : ℕ) → 0 < a + b →
    sq (pos (2 * b) *ℤ e +ℤ (pos a -ℤ pos b) *ℤ r) ≡ (a + b) * (a + b) * F + lost →
    a * F ≤ a * sq r + b * sq e
offer_most a b r e F lost q+ h =
    let q = a + b in
    let i = offer_is a b r e in
    let t : a * ((a + b) * (a + b) * F + lost) ≡ (a + b) * (a + b) * (a * F) + a * lost = spread a ((a + b) * (a + b)) F lost in
    le_of_mul-le-mul_left (omega (arith, ap (λ x. a * x) h)) (mul-pos q+ q+)
  where
    spread : (a q F l : ℕ) → a * (q * F + l) ≡ q * (a * F) + a * l
    spread a q F l = simp (mul-add, mul_left_comm)
