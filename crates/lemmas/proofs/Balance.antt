-- The energy of two parts behind one joint: one equation for both ways to join, with every loss on one side, and what follows from it.
--
--
-- The parts have ratios n₁/d₁ and n₂/d₂ and the whole has n/d; G = n₁ d₂ + n₂ d₁, and the shares p₁ p₂ of q are as n₁ d₂ to n₂ d₁.
-- In squares: X₁/q and X₂/q are the exact falling waves and Z/e the exact rising one, F₁ F₂ R what they are shortened to, and h₁ h₂ h₃ what
-- that loses; f is what falls on the whole, r₁ r₂ what the parts raise. S is stored before, T stored after and absorbed, g₁ g₂ what the parts lose.
use mathlib.Core.Path.{◌≡◌, refl, sym, ap, ◌∙◌}
use mathlib.Core.List.{[], ◌∷◌}
use Prim.Native.Nat.{ℕ, ◌*◌, ◌+◌, ◌-◌, ◌≤◌, ◌<◌}
use native.Mathlib.Nat.{le_of_mul-le-mul_left, eq_of_mul-eq-mul_left, mul-zero, mul-pos, add-mul, mul_assoc, mul_comm, mul_left_comm}
use native.Mathlib.Omega.{arith}
use lib.IntN.{ℤ, pos, negsuc, nat_abs, ◌+ℤ◌, ◌-ℤ◌, ◌*ℤ◌}
use borrow.Author.Differences.{ints}
use Rattle.lemmas.proofs.Integers.{pos_inj, pos_sq}
use Rattle.lemmas.proofs.Ring.{ring_by, v, k, ◌⊕◌, ◌⊗◌, by, done}

abbrev sq : ℤ → ℕ
sq z = nat_abs z * nat_abs z

-- ---- the exact waves keep the energy
pub series_exact : (p s : ℕ) (a b f : ℤ) →
    p * sq (pos (p + s) *ℤ a +ℤ pos s *ℤ (f -ℤ (a +ℤ b))) + s * sq (pos (p + s) *ℤ b +ℤ pos p *ℤ (f -ℤ (b +ℤ a))) + p * (s * (p + s)) * sq (a +ℤ b)
    ≡ (p + s) * (p + s) * (p * sq a + s * sq b) + p * (s * (p + s)) * (1 * 1 * sq f)
series_exact p s a b f =
    let P = v 0 in let S = v 1 in let A = v 2 in let B = v 3 in let F = v 4 in let E = v 5 in let E' = v 6 in
    let XX = v 7 in let WW = v 8 in let YY = v 9 in let AA = v 10 in let BB = v 11 in let FF = v 12 in
    let m = k (negsuc 0) in
    let Q = P ⊕ S in let X = Q ⊗ A ⊕ S ⊗ E in let W = Q ⊗ B ⊕ P ⊗ E' in
    let e = f -ℤ (a +ℤ b) in let e' = f -ℤ (b +ℤ a) in
    let x = pos (p + s) *ℤ a +ℤ pos s *ℤ e in let w = pos (p + s) *ℤ b +ℤ pos p *ℤ e' in
    let i : e ≡ f +ℤ negsuc 0 *ℤ (a +ℤ b) = omega (arith, ints) in
    let i' : e' ≡ e = omega (arith, ints) in
    pos_inj _ _ (ring_by
    (pos p ∷ pos s ∷ a ∷ b ∷ f ∷ e ∷ e' ∷ pos (sq x) ∷ pos (sq w) ∷ pos (sq (a +ℤ b)) ∷ pos (sq a) ∷ pos (sq b) ∷ pos (sq f) ∷ [])
    (by (P ⊗ S ⊗ Q ⊗ (A ⊕ B ⊕ E ⊕ F)) E (F ⊕ m ⊗ (A ⊕ B))
    (by (S ⊗ P ⊗ (k (pos 2) ⊗ Q ⊗ B ⊕ P ⊗ (E ⊕ E'))) E' E
    (by P XX (X ⊗ X) (by S WW (W ⊗ W) (by (P ⊗ (S ⊗ Q)) YY ((A ⊕ B) ⊗ (A ⊕ B))
    (by (m ⊗ P ⊗ Q ⊗ Q) AA (A ⊗ A) (by (m ⊗ S ⊗ Q ⊗ Q) BB (B ⊗ B) (by (m ⊗ P ⊗ S ⊗ Q) FF (F ⊗ F) done))))))))
    (P ⊗ XX ⊕ S ⊗ WW ⊕ P ⊗ (S ⊗ Q) ⊗ YY)
    (Q ⊗ Q ⊗ (P ⊗ AA ⊕ S ⊗ BB) ⊕ P ⊗ (S ⊗ Q) ⊗ (k (pos 1) ⊗ k (pos 1) ⊗ FF))
    refl
    (i, (i', (pos_sq x, (pos_sq w, (pos_sq (a +ℤ b), (pos_sq a, (pos_sq b, (pos_sq f, tt)))))))))

pub parallel_exact : (p s : ℕ) (a b f : ℤ) →
    p * sq (pos p *ℤ a +ℤ pos s *ℤ b +ℤ pos (p + s) *ℤ (f -ℤ a)) + s * sq (pos s *ℤ b +ℤ pos p *ℤ a +ℤ pos (p + s) *ℤ (f -ℤ b)) + (p + s) * sq (pos p *ℤ a +ℤ pos s *ℤ b)
    ≡ (p + s) * (p + s) * (p * sq a + s * sq b) + (p + s) * ((p + s) * (p + s) * sq f)
parallel_exact p s a b f =
    let P = v 0 in let S = v 1 in let A = v 2 in let B = v 3 in let F = v 4 in let D = v 5 in let D' = v 6 in
    let XX = v 7 in let WW = v 8 in let ZZ = v 9 in let AA = v 10 in let BB = v 11 in let FF = v 12 in
    let m = k (negsuc 0) in
    let Q = P ⊕ S in let Z = P ⊗ A ⊕ S ⊗ B in let X = Z ⊕ Q ⊗ D in let W = S ⊗ B ⊕ P ⊗ A ⊕ Q ⊗ D' in
    let d = f -ℤ a in let d' = f -ℤ b in
    let z = pos p *ℤ a +ℤ pos s *ℤ b in
    let x = z +ℤ pos (p + s) *ℤ d in let w = pos s *ℤ b +ℤ pos p *ℤ a +ℤ pos (p + s) *ℤ d' in
    let i : d ≡ f +ℤ negsuc 0 *ℤ a = omega (arith, ints) in
    let i' : d' ≡ f +ℤ negsuc 0 *ℤ b = omega (arith, ints) in
    pos_inj _ _ (ring_by
    (pos p ∷ pos s ∷ a ∷ b ∷ f ∷ d ∷ d' ∷ pos (sq x) ∷ pos (sq w) ∷ pos (sq z) ∷ pos (sq a) ∷ pos (sq b) ∷ pos (sq f) ∷ [])
    (by (P ⊗ Q ⊗ (k (pos 2) ⊗ Z ⊕ Q ⊗ (D ⊕ F ⊕ m ⊗ A))) D (F ⊕ m ⊗ A)
    (by (S ⊗ Q ⊗ (k (pos 2) ⊗ Z ⊕ Q ⊗ (D' ⊕ F ⊕ m ⊗ B))) D' (F ⊕ m ⊗ B)
    (by P XX (X ⊗ X) (by S WW (W ⊗ W) (by Q ZZ (Z ⊗ Z)
    (by (m ⊗ P ⊗ Q ⊗ Q) AA (A ⊗ A) (by (m ⊗ S ⊗ Q ⊗ Q) BB (B ⊗ B) (by (m ⊗ Q ⊗ Q ⊗ Q) FF (F ⊗ F) done))))))))
    (P ⊗ XX ⊕ S ⊗ WW ⊕ Q ⊗ ZZ)
    (Q ⊗ Q ⊗ (P ⊗ AA ⊕ S ⊗ BB) ⊕ Q ⊗ (Q ⊗ Q ⊗ FF))
    refl
    (i, (i', (pos_sq x, (pos_sq w, (pos_sq z, (pos_sq a, (pos_sq b, (pos_sq f, tt)))))))))

-- ---- the balance of the whole from those of the parts
balance : (n₁ d₁ n₂ d₂ G p₁ p₂ q n d u e X₁ X₂ Z r₁ r₂ f F₁ F₂ R S₁ S₂ T₁ T₂ g₁ g₂ h₁ h₂ h₃ : ℕ) →
    G * p₁ ≡ q * (n₁ * d₂) → G * p₂ ≡ q * (n₂ * d₁) → G * (u * (e * e)) * d ≡ q * (q * q) * (n * (d₁ * d₂)) →
    n₁ * F₁ + d₁ * S₁ ≡ d₁ * T₁ + n₁ * r₁ + g₁ →
    n₂ * F₂ + d₂ * S₂ ≡ d₂ * T₂ + n₂ * r₂ + g₂ →
    X₁ ≡ q * q * F₁ + h₁ → X₂ ≡ q * q * F₂ + h₂ → Z ≡ e * e * R + h₃ →
    p₁ * X₁ + p₂ * X₂ + u * Z ≡ q * q * (p₁ * r₁ + p₂ * r₂) + u * (e * e * f) →
    q * (q * q) * (d₁ * d₂) * (n * f + d * (S₁ + S₂))
    ≡ q * (q * q) * (d₁ * d₂) * (d * (T₁ + T₂) + n * R)
    + d * (q * (q * q) * d₂ * g₁ + q * (q * q) * d₁ * g₂ + G * p₁ * h₁ + G * p₂ * h₂ + G * u * h₃)
balance n₁ d₁ n₂ d₂ G p₁ p₂ q n d u e X₁ X₂ Z r₁ r₂ f F₁ F₂ R S₁ S₂ T₁ T₂ g₁ g₂ h₁ h₂ h₃ c₁ c₂ c₃ a₁ a₂ b₁ b₂ b₃ i =
    let N₁ = v 0 in let D₁ = v 1 in let N₂ = v 2 in let D₂ = v 3 in let G' = v 4 in let P₁ = v 5 in let P₂ = v 6 in let Q = v 7 in let N = v 8 in let D = v 9 in
    let U = v 10 in let E = v 11 in let X₁' = v 12 in let X₂' = v 13 in let Z' = v 14 in let R₁' = v 15 in let R₂' = v 16 in let F = v 17 in
    let F₁' = v 18 in let F₂' = v 19 in let R' = v 20 in let S₁' = v 21 in let S₂' = v 22 in let T₁' = v 23 in let T₂' = v 24 in
    let G₁ = v 25 in let G₂ = v 26 in let H₁ = v 27 in let H₂ = v 28 in let H₃ = v 29 in
    let m = k (negsuc 0) in
    let QQ = Q ⊗ Q in let QQQ = Q ⊗ QQ in
    pos_inj _ _ (ring_by
    (pos n₁ ∷ pos d₁ ∷ pos n₂ ∷ pos d₂ ∷ pos G ∷ pos p₁ ∷ pos p₂ ∷ pos q ∷ pos n ∷ pos d ∷ pos u ∷ pos e ∷ pos X₁ ∷ pos X₂ ∷ pos Z ∷ pos r₁ ∷ pos r₂ ∷ pos f
    ∷ pos F₁ ∷ pos F₂ ∷ pos R ∷ pos S₁ ∷ pos S₂ ∷ pos T₁ ∷ pos T₂ ∷ pos g₁ ∷ pos g₂ ∷ pos h₁ ∷ pos h₂ ∷ pos h₃ ∷ [])
    (by (D ⊗ QQ ⊗ (F₁' ⊕ m ⊗ R₁')) (G' ⊗ P₁) (Q ⊗ (N₁ ⊗ D₂))
    (by (D ⊗ QQ ⊗ (F₂' ⊕ m ⊗ R₂')) (G' ⊗ P₂) (Q ⊗ (N₂ ⊗ D₁))
    (by (m ⊗ F ⊕ R') (G' ⊗ (U ⊗ (E ⊗ E)) ⊗ D) (QQQ ⊗ (N ⊗ (D₁ ⊗ D₂)))
    (by (D ⊗ QQQ ⊗ D₂) (N₁ ⊗ F₁' ⊕ D₁ ⊗ S₁') (D₁ ⊗ T₁' ⊕ N₁ ⊗ R₁' ⊕ G₁)
    (by (D ⊗ QQQ ⊗ D₁) (N₂ ⊗ F₂' ⊕ D₂ ⊗ S₂') (D₂ ⊗ T₂' ⊕ N₂ ⊗ R₂' ⊕ G₂)
    (by (G' ⊗ D ⊗ P₁) X₁' (QQ ⊗ F₁' ⊕ H₁)
    (by (G' ⊗ D ⊗ P₂) X₂' (QQ ⊗ F₂' ⊕ H₂)
    (by (G' ⊗ D ⊗ U) Z' (E ⊗ E ⊗ R' ⊕ H₃)
    (by (m ⊗ G' ⊗ D) (P₁ ⊗ X₁' ⊕ P₂ ⊗ X₂' ⊕ U ⊗ Z') (QQ ⊗ (P₁ ⊗ R₁' ⊕ P₂ ⊗ R₂') ⊕ U ⊗ (E ⊗ E ⊗ F))
    done)))))))))
    (QQQ ⊗ (D₁ ⊗ D₂) ⊗ (N ⊗ F ⊕ D ⊗ (S₁' ⊕ S₂')))
    (QQQ ⊗ (D₁ ⊗ D₂) ⊗ (D ⊗ (T₁' ⊕ T₂') ⊕ N ⊗ R')
    ⊕ D ⊗ (QQQ ⊗ D₂ ⊗ G₁ ⊕ QQQ ⊗ D₁ ⊗ G₂ ⊕ G' ⊗ P₁ ⊗ H₁ ⊕ G' ⊗ P₂ ⊗ H₂ ⊕ G' ⊗ U ⊗ H₃))
    refl
    (ap pos c₁, (ap pos c₂, (ap pos c₃, (ap pos a₁, (ap pos a₂, (ap pos b₁, (ap pos b₂, (ap pos b₃, (ap pos i, tt))))))))))

-- ---- the numbers of a joint. Its way gives u and e: p₁ p₂ q and 1 in series, q and q in parallel
pub record Scale (n₁ d₁ n₂ d₂ p₁ p₂ q n d u e : ℕ) : Type 0 where
  pub first : (n₁ * d₂ + n₂ * d₁) * p₁ ≡ q * (n₁ * d₂)
  pub second : (n₁ * d₂ + n₂ * d₁) * p₂ ≡ q * (n₂ * d₁)
  pub ratio : (n₁ * d₂ + n₂ * d₁) * (u * (e * e)) * d ≡ q * (q * q) * (n * (d₁ * d₂))
  pub all+ : 0 < n₁ * d₂ + n₂ * d₁
  pub u+ : 0 < u

share : (a b p s : ℕ) → p * b ≡ s * a → ((a + b) * p ≡ (p + s) * a) × ((a + b) * s ≡ (p + s) * b)
share a b p s h = (simp (add-mul, mul_comm) (omega (arith, simp mul_comm at h)), simp (add-mul, mul_comm) (omega (arith, simp mul_comm at h)))

module _ (n₁ d₁ n₂ d₂ p₁ p₂ n d : ℕ) (n₁+ : 0 < n₁) (d₂+ : 0 < d₂) (p₁+ : 0 < p₁) (p₂+ : 0 < p₂) (h : p₁ * (n₂ * d₁) ≡ p₂ * (n₁ * d₂)) where
  G+ : 0 < n₁ * d₂ + n₂ * d₁
  G+ = let a = mul-pos n₁+ d₂+ in omega arith

  series_ratio : n * (n₁ * d₂ + n₂ * d₁) ≡ d * (n₁ * n₂) →
      (n₁ * d₂ + n₂ * d₁) * (p₁ * (p₂ * (p₁ + p₂)) * (1 * 1)) * d ≡ (p₁ + p₂) * ((p₁ + p₂) * (p₁ + p₂)) * (n * (d₁ * d₂))
  series_ratio r =
      let N₁ = v 0 in let D₁ = v 1 in let N₂ = v 2 in let D₂ = v 3 in let P₁ = v 4 in let P₂ = v 5 in let N = v 6 in let D = v 7 in
      let G = N₁ ⊗ D₂ ⊕ N₂ ⊗ D₁ in let Q = P₁ ⊕ P₂ in let QQQ = Q ⊗ (Q ⊗ Q) in
      let s = share (n₁ * d₂) (n₂ * d₁) p₁ p₂ h in
      eq_of_mul-eq-mul_left (n₁ * d₂ + n₂ * d₁) G+ _ _ (pos_inj _ _ (ring_by
      (pos n₁ ∷ pos d₁ ∷ pos n₂ ∷ pos d₂ ∷ pos p₁ ∷ pos p₂ ∷ pos n ∷ pos d ∷ [])
      (by (G ⊗ P₂ ⊗ Q ⊗ D) (G ⊗ P₁) (Q ⊗ (N₁ ⊗ D₂))
      (by (Q ⊗ D ⊗ Q ⊗ N₁ ⊗ D₂) (G ⊗ P₂) (Q ⊗ (N₂ ⊗ D₁))
      (by (k (negsuc 0) ⊗ QQQ ⊗ D₁ ⊗ D₂) (N ⊗ G) (D ⊗ (N₁ ⊗ N₂)) done)))
      (G ⊗ (G ⊗ (P₁ ⊗ (P₂ ⊗ Q) ⊗ (k (pos 1) ⊗ k (pos 1))) ⊗ D)) (G ⊗ (QQQ ⊗ (N ⊗ (D₁ ⊗ D₂))))
      refl (ap pos s.0, (ap pos s.1, (ap pos r, tt)))))

  pub series_scale : n * (n₁ * d₂ + n₂ * d₁) ≡ d * (n₁ * n₂) → Scale n₁ d₁ n₂ d₂ p₁ p₂ (p₁ + p₂) n d (p₁ * (p₂ * (p₁ + p₂))) 1
  series_scale r =
      let s = share (n₁ * d₂) (n₂ * d₁) p₁ p₂ h in
      record { first = s.0; second = s.1; ratio = series_ratio r; all+ = G+; u+ = mul-pos p₁+ (mul-pos p₂+ (omega arith)) }

  pub parallel_scale : n * (d₁ * d₂) ≡ d * (n₁ * d₂ + n₂ * d₁) → Scale n₁ d₁ n₂ d₂ p₁ p₂ (p₁ + p₂) n d (p₁ + p₂) (p₁ + p₂)
  parallel_scale r =
      let s = share (n₁ * d₂) (n₂ * d₁) p₁ p₂ h in
      let c : (n₁ * d₂ + n₂ * d₁) * ((p₁ + p₂) * ((p₁ + p₂) * (p₁ + p₂))) * d ≡ (p₁ + p₂) * ((p₁ + p₂) * (p₁ + p₂)) * (d * (n₁ * d₂ + n₂ * d₁)) = cube (n₁ * d₂ + n₂ * d₁) ((p₁ + p₂) * ((p₁ + p₂) * (p₁ + p₂))) d in
      record { first = s.0; second = s.1; ratio = c ∙ ap (λ x. (p₁ + p₂) * ((p₁ + p₂) * (p₁ + p₂)) * x) (sym r); all+ = G+; u+ = omega arith }
    where
      cube : (g c d : ℕ) → g * c * d ≡ c * (d * g)
      cube g c d = simp (mul_assoc, mul_comm, mul_left_comm)

-- ---- what follows in orders
least_of : (m a b e : ℕ) → 0 < m → m * a ≡ m * b + e → b ≤ a
least_of m a b e p h = le_of_mul-le-mul_left (omega arith) p

same_of : (m a b e : ℕ) → 0 < m → m * a ≡ m * b + e → e ≡ 0 → b ≡ a
same_of m a b e p h z = eq_of_mul-eq-mul_left m p b a (omega arith)

none_of : (m a b e : ℕ) → m * a ≡ m * b + e → b ≡ a → e ≡ 0
none_of m a b e h s = let t : m * b ≡ m * a = ap (λ x. m * x) s in omega arith

pub zero_of : (m e : ℕ) → 0 < m → m * e ≡ 0 → e ≡ 0
zero_of m e p h = eq_of_mul-eq-mul_left m p e 0 (h ∙ sym (mul-zero m))

-- five losses, each with a weight above 0: their sum is 0 exactly if each is
pub record Losses (g₁ g₂ h₁ h₂ h₃ : ℕ) : Type 0 where
  pub left : g₁ ≡ 0
  pub right : g₂ ≡ 0
  pub first : h₁ ≡ 0
  pub second : h₂ ≡ 0
  pub up : h₃ ≡ 0

losses_of : (x y z u w a b c e i : ℕ) → 0 < x → 0 < y → 0 < z → 0 < u → 0 < w → x * a + y * b + z * c + u * e + w * i ≡ 0 → Losses a b c e i
losses_of x y z u w a b c e i p q r s t h = record {
  left = zero_of x a p (omega arith);
  right = zero_of y b q (omega arith);
  first = zero_of z c r (omega arith);
  second = zero_of u e s (omega arith);
  up = zero_of w i t (omega arith);
}

no_losses : (x y z u w a b c e i : ℕ) → Losses a b c e i → x * a + y * b + z * c + u * e + w * i ≡ 0
no_losses x y z u w a b c e i l = simp (l.left, l.right, l.first, l.second, l.up, mul-zero)

pub record Whole (less more g₁ g₂ h₁ h₂ h₃ : ℕ) : Type 0 where
  pub least : less ≤ more
  pub exact : Losses g₁ g₂ h₁ h₂ h₃ → less ≡ more
  pub only : less ≡ more → Losses g₁ g₂ h₁ h₂ h₃

module _ (n₁ d₁ n₂ d₂ p₁ p₂ q n d u e X₁ X₂ Z r₁ r₂ R S₁ S₂ h₃ : ℕ) (d₁+ : 0 < d₁) (d₂+ : 0 < d₂) (p₁+ : 0 < p₁) (p₂+ : 0 < p₂) (q+ : 0 < q) (d+ : 0 < d)
    (s : Scale n₁ d₁ n₂ d₂ p₁ p₂ q n d u e) (up : Z ≡ e * e * R + h₃) where
  pub whole : (f F₁ F₂ T₁ T₂ g₁ g₂ h₁ h₂ : ℕ) →
      n₁ * F₁ + d₁ * S₁ ≡ d₁ * T₁ + n₁ * r₁ + g₁ → n₂ * F₂ + d₂ * S₂ ≡ d₂ * T₂ + n₂ * r₂ + g₂ →
      X₁ ≡ q * q * F₁ + h₁ → X₂ ≡ q * q * F₂ + h₂ →
      p₁ * X₁ + p₂ * X₂ + u * Z ≡ q * q * (p₁ * r₁ + p₂ * r₂) + u * (e * e * f) →
      Whole (d * (T₁ + T₂) + n * R) (n * f + d * (S₁ + S₂)) g₁ g₂ h₁ h₂ h₃
  whole f F₁ F₂ T₁ T₂ g₁ g₂ h₁ h₂ a₁ a₂ b₁ b₂ i =
      let G = n₁ * d₂ + n₂ * d₁ in
      let b = balance n₁ d₁ n₂ d₂ G p₁ p₂ q n d u e X₁ X₂ Z r₁ r₂ f F₁ F₂ R S₁ S₂ T₁ T₂ g₁ g₂ h₁ h₂ h₃ s.first s.second s.ratio a₁ a₂ b₁ b₂ up i in
      let q³ = mul-pos q+ (mul-pos q+ q+) in
      let K = mul-pos q³ (mul-pos d₁+ d₂+) in
      let x = q * (q * q) * d₂ in let y = q * (q * q) * d₁ in let z = G * p₁ in let w = G * p₂ in let t = G * u in
      record {
        least = least_of _ _ _ _ K b;
        exact = λ l. same_of _ _ _ _ K b (ap (λ c. d * c) (no_losses x y z w t g₁ g₂ h₁ h₂ h₃ l) ∙ mul-zero d);
        only = λ c. losses_of x y z w t g₁ g₂ h₁ h₂ h₃
            (mul-pos q³ d₂+) (mul-pos q³ d₁+) (mul-pos s.all+ p₁+) (mul-pos s.all+ p₂+) (mul-pos s.all+ s.u+)
            (zero_of d _ d+ (none_of _ _ _ _ b c));
      }

  -- the rising wave is paid for: as if 0 fell, and nothing were left
  pub enough : n₁ * r₁ ≤ d₁ * S₁ → n₂ * r₂ ≤ d₂ * S₂ →
      p₁ * X₁ + p₂ * X₂ + u * Z ≡ q * q * (p₁ * r₁ + p₂ * r₂) + u * (e * e * 0) →
      n * R ≤ d * (S₁ + S₂)
  enough a₁ a₂ i =
      let z = mul-zero in
      let w = whole 0 0 0 0 0 (d₁ * S₁ - n₁ * r₁) (d₂ * S₂ - n₂ * r₂) X₁ X₂
      (omega (arith, z n₁, z d₁)) (omega (arith, z n₂, z d₂)) (omega (arith, z (q * q))) (omega (arith, z (q * q))) i in
      omega (arith, w.least, z n, z d)
