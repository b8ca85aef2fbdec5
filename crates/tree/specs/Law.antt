-- A tree whose joints were made for their parts keeps the laws of a port, by induction.
use Rattle.std.specs.Prelude.{◌≡◌, ℕ, ◌*◌, ◌≤◌, true, ◌&&◌, ℤ, unsigned_abs, refl}
use Rattle.std.proofs.Common.{sym, ap₂, subst, subst₂, arith}
use Rattle.wave.specs.Numbers.{largest_wave, most_energy}
use Rattle.port.specs.Meaning.{largest_size, Sound, Kept, Fall, Cleared}
use Rattle.port.specs.declared.takings.Taken.{Taken}
use Rattle.port.proofs.Shown.{and_left, and_right}
use Rattle.adaptor.specs.Joints as joints
use Rattle.adaptor.specs.Adapted.{fits_kept}
use Rattle.adaptor.specs.Whole.{Fits, fits_of, whole_sound, whole_fall, whole_cleared}
use Rattle.adaptor.specs.declared.joints.joint.Joint.{Joint}
use Rattle.tree.specs.Models.{Model, leaf, join, reads, fitted, to_left, to_right, taken, answer, cleared, Took, Emptied}
use Rattle.tree.specs.Leaves.{element_sound, element_fall, element_empty}

-- ---- the parts of a tree that fits
pub fits_here : (j : Joint) (a b : Model) → fitted (join j a b) ≡ true → Fits j (reads a) (reads b)
fits_here j a b h = fits_of j (reads a) (reads b) (and_left _ _ h)

pub fits_left : (j : Joint) (a b : Model) → fitted (join j a b) ≡ true → fitted a ≡ true
fits_left j a b h = and_left _ _ (and_right (joints.fits j (reads a) (reads b)) _ h)

pub fits_right : (j : Joint) (a b : Model) → fitted (join j a b) ≡ true → fitted b ≡ true
fits_right j a b h = and_right (fitted a) _ (and_right (joints.fits j (reads a) (reads b)) _ h)

-- ---- the laws
pub sound : (m : Model) → fitted m ≡ true → Sound (reads m)
sound (leaf e) h = element_sound e
sound (join j a b) h = whole_sound j (reads a) (reads b) (sound a (fits_left j a b h)) (sound b (fits_right j a b h)) (fits_here j a b h)

pub fall : (m : Model) (f : ℤ) → fitted m ≡ true → Fall (reads m) f (answer m f) (reads (taken m f))
fall (leaf e) f h = element_fall e f
fall (join j a b) f h =
    let l = to_left j (reads a) (reads b) f in
    let r = to_right j (reads a) (reads b) f in
    let hl = fits_left j a b h in
    let hr = fits_right j a b h in
    whole_fall j (reads a) (reads b) (sound a hl) (sound b hr) (fits_here j a b h) (reads (taken a l)) (reads (taken b r)) f (answer a l) (answer b r)
    (answer (join j a b) f) (fall a l hl) (fall b r hr) (record { absorbed = refl; shortened = refl; heard = refl })

pub empty : (m : Model) → Cleared (reads m) (reads m).stored (reads (cleared m))
empty (leaf e) = element_empty e
empty (join j a b) = whole_cleared j (reads a) (reads b) (reads (cleared a)) (reads (cleared b)) _ _ _ (empty a) (empty b) refl

-- ---- as the relations have it
pub took_fall : (m : Model) (f : ℤ) (t : Taken) (n : Model) → fitted m ≡ true → Took m f t n → Fall (reads m) f t (reads n)
took_fall m f t n h d =
    let R : Taken → Model → Type 0 = λ u k. Fall (reads m) f u (reads k) in
    subst₂ R (sym d.answer) (sym d.after) (fall m f h)

pub emptied_cleared : (m : Model) (e : ℕ) (n : Model) → Emptied m e n → Cleared (reads m) e (reads n)
emptied_cleared m e n d =
    let R : ℕ → Model → Type 0 = λ x k. Cleared (reads m) x (reads k) in
    subst₂ R (sym d.dropped) (sym d.after) (empty m)

-- ---- bounds
pub stored_most : (m : Model) → fitted m ≡ true → (reads m).stored ≤ largest_size * most_energy
stored_most m h = let S = sound m h in omega (arith, S.full, S.sizes)

pub record Most (t : Taken) : Type 0 where
  pub absorbed : t.absorbed ≤ largest_size * most_energy
  pub shortened : t.shortened ≤ 3 * largest_size
  pub heard : unsigned_abs t.heard ≤ largest_wave

pub answer_most : (m : Model) (f : ℤ) (t : Taken) → fitted m ≡ true → t ≡ answer m f → Most t
answer_most m f t h e =
    let S = (sound m h).sizes in
    let F = fall m f h in
    subst Most (sym e) (record { absorbed = omega (arith, S, F.absorbs); shortened = omega (arith, S, F.counts); heard = F.hears })

-- ---- a joint fits its parts as long as they live
kept_taken : (m : Model) (f : ℤ) → Kept (reads m) (reads (taken m f))
kept_taken (leaf e) f = (element_fall e f).keeps
kept_taken (join j a b) f = record { num = refl; den = refl; size = refl; ears = refl }

pub fits_taken : (m : Model) (f : ℤ) → fitted (taken m f) ≡ fitted m
fits_taken (leaf e) f = refl
fits_taken (join j a b) f = ap₂ (λ x y. x && y) (fits_kept j _ _ _ _ (kept_taken a _) (kept_taken b _))
    (ap₂ (λ x y. x && y) (fits_taken a _) (fits_taken b _))

pub fits_cleared : (m : Model) → fitted (cleared m) ≡ fitted m
fits_cleared (leaf e) = refl
fits_cleared (join j a b) = ap₂ (λ x y. x && y) (fits_kept j _ _ _ _ (empty a).keeps (empty b).keeps)
    (ap₂ (λ x y. x && y) (fits_cleared a) (fits_cleared b))
