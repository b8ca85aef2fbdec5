-- What an ear hears is absorbed where it stands.
use Rattle.std.proofs.Common.{◌≡◌, ℕ, zero, suc, ◌+◌, ◌*◌, ◌<◌, ◌≤◌, Bool, true, false, cond, ℤ, pos, negsuc, ◌+ℤ◌, sym, refl, ap, ◌∙◌, subst, ap₂, le_refl, mul-pos, arith}
use lib.IntN.{+ℤ_idl, +ℤ_idr}
use Rattle.wave.specs.Numbers.{sq, held}
use Rattle.port.specs.declared.takings.Taken.{Taken}
use Rattle.adaptor.specs.declared.joints.joint.Joint.{Joint}
use Rattle.tree.specs.Elements.{body_reads, body_answer}
use Rattle.tree.specs.Models.{Model, leaf, join, reads, fitted, to_left, to_right, answer}
use Rattle.tree.specs.Ears.{body_ear, ear_weight, Pays, HeardAbsorbs}
use Rattle.tree.specs.declared.elements.Body.{Body}
use Rattle.tree.specs.declared.elements.Body.TheVariants.{Store, Resist}
use Rattle.tree.specs.Law.{fits_here, fits_left, fits_right, fall}

-- ---- a tree without an ear
body_deaf : (b : Body) → (body_reads b).ears ≡ 0 → body_ear b ≡ 0
body_deaf (Store c) h = refl
body_deaf (Resist r) h = by_ear r.ear h where
  by_ear : (x : Bool) → ◌≡◌ {A = ℕ} (cond x 1 0) 0 → cond x r.weight.value 0 ≡ 0
  by_ear true h = absurd (omega arith)
  by_ear false h = refl

deaf : (m : Model) → fitted m ≡ true → (reads m).ears ≡ 0 → ear_weight m ≡ 0
deaf (leaf e) h z = body_deaf e.body z
deaf (join j a b) h z =
    let F = fits_here j a b h in
    omega (arith, deaf a (fits_left j a b h) (omega (arith, F.left.ears)), deaf b (fits_right j a b h) (omega (arith, F.right.ears)))

-- ---- an element
square_some : (z : ℤ) → (z ≡ pos 0 → ⊥) → 0 < sq z
square_some (pos zero) h = absurd (h refl)
square_some (pos (suc n)) h = mul-pos (omega arith) (omega arith)
square_some (negsuc n) h = mul-pos (omega arith) (omega arith)

body_pays : (b : Body) (f : ℤ) → (body_ear b * sq (body_answer b f).heard ≤ (body_answer b f).absorbed)
    × (((body_answer b f).heard ≡ pos 0 → ⊥) → 0 < (body_answer b f).absorbed)
body_pays (Store c) f = (omega arith, λ h. absurd (h refl))
body_pays (Resist r) f = by_ear r.ear where
  by_ear : (x : Bool) → (cond x r.weight.value 0 * sq (cond x (held f) (pos 0)) ≤ r.weight.value * sq (held f))
      × ((cond x (held f) (pos 0) ≡ pos 0 → ⊥) → 0 < r.weight.value * sq (held f))
  by_ear true = (le_refl _, λ h. mul-pos r.weight.within.0 (square_some (held f) h))
  by_ear false = (omega arith, λ h. absurd (h refl))

-- ---- two parts, one of them without an ear
record Paid (w : ℕ) (t : Taken) : Type 0 where
  energy : w * sq t.heard ≤ t.absorbed
  some : (t.heard ≡ pos 0 → ⊥) → 0 < t.absorbed

one_paid : (u w : ℕ) (x y : Taken) (h : ℤ) (e : ℕ) → u ≡ 0 → x.heard ≡ pos 0 → h ≡ x.heard +ℤ y.heard → e ≡ x.absorbed + y.absorbed → Paid w y →
    ((u + w) * sq h ≤ e) × ((h ≡ pos 0 → ⊥) → 0 < e)
one_paid u w x y h e z d s a P =
    let k : h ≡ y.heard = s ∙ ap (λ n. n +ℤ y.heard) d ∙ +ℤ_idl y.heard in
    let v : u + w ≡ w = omega (arith, z) in
    let q : (u + w) * sq h ≡ w * sq y.heard = ap₂ (λ n m. n * sq m) v k in
    (omega (arith, P.energy), λ n. omega (arith, P.some (λ g. n (k ∙ g))))

two_paid : (u w : ℕ) (x y : Taken) (h : ℤ) (e : ℕ) → w ≡ 0 → y.heard ≡ pos 0 → h ≡ x.heard +ℤ y.heard → e ≡ x.absorbed + y.absorbed → Paid u x →
    ((u + w) * sq h ≤ e) × ((h ≡ pos 0 → ⊥) → 0 < e)
two_paid u w x y h e z d s a P =
    let k : h ≡ x.heard = s ∙ ap (λ n. x.heard +ℤ n) d ∙ +ℤ_idr x.heard in
    let v : u + w ≡ u = omega (arith, z) in
    let q : (u + w) * sq h ≡ u * sq x.heard = ap₂ (λ n m. n * sq m) v k in
    (omega (arith, P.energy), λ n. omega (arith, P.some (λ g. n (k ∙ g))))

-- ---- a tree
by_ears : (j : Joint) (a b : Model) (f : ℤ) (n : ℕ) → fitted (join j a b) ≡ true → (reads a).ears ≡ n →
    Pays a (answer a (to_left j (reads a) (reads b) f)) → Pays b (answer b (to_right j (reads a) (reads b) f)) →
    (ear_weight (join j a b) * sq (answer (join j a b) f).heard ≤ (answer (join j a b) f).absorbed)
    × (((answer (join j a b) f).heard ≡ pos 0 → ⊥) → 0 < (answer (join j a b) f).absorbed)
by_ears j a b f zero h z A B =
    let hl = fits_left j a b h in
    one_paid (ear_weight a) (ear_weight b) (answer a _) (answer b _) _ _ (deaf a hl z) ((fall a _ hl).deaf z) refl refl (record { energy = B.energy; some = B.some })
by_ears j a b f (suc n) h z A B =
    let F = fits_here j a b h in
    let hr = fits_right j a b h in
    let y : (reads b).ears ≡ 0 = omega (arith, F.left.ears, F.right.ears, j.sized) in
    two_paid (ear_weight a) (ear_weight b) (answer a _) (answer b _) _ _ (deaf b hr y) ((fall b _ hr).deaf y) refl refl (record { energy = A.energy; some = A.some })

pub pays : (m : Model) (f : ℤ) → fitted m ≡ true → Pays m (answer m f)
pays (leaf e) f h = let p = body_pays e.body f in record { energy = p.0; some = p.1 }
pays (join j a b) f h =
    let p = by_ears j a b f (reads a).ears h refl (pays a (to_left j (reads a) (reads b) f) (fits_left j a b h)) (pays b (to_right j (reads a) (reads b) f) (fits_right j a b h)) in
    record { energy = p.0; some = p.1 }

pub heard_absorbs : HeardAbsorbs
heard_absorbs s f t z h =
    let R : Taken → Type 0 = λ u. Pays s.tree u in
    subst R (sym h.answer) (pays s.tree f s.fits)
