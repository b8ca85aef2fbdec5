-- Two ports behind a joint are a port, whether the joint fits them or not.
use Rattle.std.specs.Prelude.{◌≡◌, ℕ, zero, suc, ◌*◌, ◌<◌, ◌≤◌, Bool, true, false, ◌&&◌, ℤ, pos, negsuc, refl}
use Rattle.std.proofs.Common.{sym, ap₂, ◌∙◌, subst, subst₂, mul-pos, mul-zero, arith}
use Rattle.lemmas.proofs.Balance.{zero_of}
use Rattle.wave.specs.Numbers.{sq, held}
use Rattle.port.specs.Meaning.{Readings, Sound, Kept, Fall, Cleared, Laws}
use Rattle.port.proofs.Shown.{shows_kept}
use Rattle.port.specs.declared.meaning.Port.{Ghosts}
use Rattle.port.specs.declared.takings.Taken.{Taken}
use Rattle.adaptor.specs.Joints.{fits}
use Rattle.adaptor.specs.Adaptors.{reads_at, adaptor_reads, nonzero, Passes, Idles, Takes, Empties, Clears}
use Rattle.adaptor.specs.Whole.{fits_of, whole_sound, whole_fall, whole_cleared}
use Rattle.adaptor.specs.declared.joints.joint.Joint.{Joint}

pub fits_kept : (j : Joint) (a b a' b' : Readings) → Kept a a' → Kept b b' → fits j a' b' ≡ fits j a b
fits_kept j a b a' b' h k = ap₂ (λ x y. x && y) (shows_kept j.left a a' h) (shows_kept j.right b b' k)

-- ---- a joint that does not fit
zero_square : (z : ℤ) → nonzero z ≡ 0 → sq z ≡ 0
zero_square (pos zero) h = refl
zero_square (pos (suc n)) h = absurd (omega arith)
zero_square (negsuc n) h = absurd (omega arith)

square_zero : (z : ℤ) → sq z ≡ 0 → nonzero z ≡ 0
square_zero (pos zero) h = refl
square_zero (pos (suc n)) h = absurd (let p : 0 < suc n * suc n = mul-pos (omega arith) (omega arith) in omega arith)
square_zero (negsuc n) h = absurd (let p : 0 < suc n * suc n = mul-pos (omega arith) (omega arith) in omega arith)

nonzero_most : (z : ℤ) → nonzero z ≤ 1
nonzero_most (pos zero) = omega arith
nonzero_most (pos (suc n)) = omega arith
nonzero_most (negsuc n) = omega arith

module _ (j : Joint) (a b : Readings) where
  idle_sound : Sound (reads_at false j a b)
  idle_sound = record {
    nums = (j.ratio.above.0, j.ratio.within.0);
    dens = (j.ratio.above.1, j.ratio.within.1);
    lowest = j.ratio.lowest;
    sizes = omega (arith, j.sized, j.left.within);
    eared = j.sized.1;
    full = omega arith;
    paid = simp mul-zero (omega arith);
  }

  idle_fall : (f : ℤ) (t : Taken) → t.absorbed ≡ 0 → t.shortened ≡ nonzero (held f) → t.heard ≡ pos 0 →
      Fall (reads_at false j a b) f t (reads_at false j a b)
  idle_fall f t eA eC eH =
      let m = mul-zero j.ratio.den in let n = mul-zero j.ratio.num in
      record {
        least = simp (eA, m, n) (omega arith);
        exact = λ c. simp (eA, m, n, zero_square (held f) (sym eC ∙ c)) refl;
        only = λ e. eC ∙ square_zero (held f) (zero_of j.ratio.num _ j.ratio.above.0 (omega (arith, simp (eA, m, n) at e)));
        absorbs = omega arith;
        counts = omega (arith, nonzero_most (held f), j.left.within, j.right.within);
        hears = simp eH (omega arith);
        deaf = λ _. eH;
        keeps = record { num = refl; den = refl; size = refl; ears = refl };
      }

  idle_cleared : (e : ℕ) → e ≡ 0 → Cleared (reads_at false j a b) e (reads_at false j a b)
  idle_cleared e h = record { dropped = h; empty = refl; keeps = record { num = refl; den = refl; size = refl; ears = refl } }

-- ---- any joint, and any two ports
module _ {P Q : Type 0} {P+ : Ghosts P} {Q+ : Ghosts Q} (L : Laws P+.reads P+.takes P+.clears) (M : Laws Q+.reads Q+.takes Q+.clears) (j : Joint) (p : P) (q : Q) where
  pub adaptor_sound : Sound (adaptor_reads j (P+.reads p) (Q+.reads q))
  adaptor_sound = by_fit (fits j (P+.reads p) (Q+.reads q)) refl where
    by_fit : (x : Bool) → fits j (P+.reads p) (Q+.reads q) ≡ x → Sound (reads_at x j (P+.reads p) (Q+.reads q))
    by_fit true h = whole_sound j (P+.reads p) (Q+.reads q) (L.sound p) (M.sound q) (fits_of j _ _ h)
    by_fit false h = idle_sound j (P+.reads p) (Q+.reads q)

  fall_at : (x : Bool) (f : ℤ) (t : Taken) (p' : P) (q' : Q) → fits j (P+.reads p) (Q+.reads q) ≡ x →
      (x ≡ true → Passes P+ Q+ j p q f t p' q') → (x ≡ false → Idles P+ Q+ p q f t p' q') →
      Fall (reads_at x j (P+.reads p) (Q+.reads q)) f t (adaptor_reads j (P+.reads p') (Q+.reads q'))
  fall_at true f t p' q' h y n =
      let d = y refl in
      let A = L.fall p _ d.x p' d.left in
      let B = M.fall q _ d.y q' d.right in
      let R : Bool → Type 0 = λ x. Fall (reads_at true j (P+.reads p) (Q+.reads q)) f t (reads_at x j (P+.reads p') (Q+.reads q')) in
      subst R (sym (fits_kept j _ _ _ _ A.keeps B.keeps ∙ h))
      (whole_fall j (P+.reads p) (Q+.reads q) (L.sound p) (M.sound q) (fits_of j _ _ h) (P+.reads p') (Q+.reads q') f d.x d.y t A B d.gathers)
  fall_at false f t p' q' h y n =
      let d = n refl in
      let R : P → Q → Type 0 = λ u w. Fall (reads_at false j (P+.reads p) (Q+.reads q)) f t (adaptor_reads j (P+.reads u) (Q+.reads w)) in
      let S : Bool → Type 0 = λ x. Fall (reads_at false j (P+.reads p) (Q+.reads q)) f t (reads_at x j (P+.reads p) (Q+.reads q)) in
      subst₂ R (sym d.left) (sym d.right) (subst S (sym h) (idle_fall j (P+.reads p) (Q+.reads q) f t d.absorbed d.shortened d.heard))

  pub adaptor_fall : (f : ℤ) (t : Taken) (j' : Joint) (p' : P) (q' : Q) → Takes P+ Q+ j p q f t j' p' q' →
      Fall (adaptor_reads j (P+.reads p) (Q+.reads q)) f t (adaptor_reads j' (P+.reads p') (Q+.reads q'))
  adaptor_fall f t j' p' q' h =
      let R : Joint → Type 0 = λ i. Fall (adaptor_reads j (P+.reads p) (Q+.reads q)) f t (adaptor_reads i (P+.reads p') (Q+.reads q')) in
      subst R (sym h.joint) (fall_at (fits j (P+.reads p) (Q+.reads q)) f t p' q' refl h.passes h.idles)

  cleared_at : (x : Bool) (e : ℕ) (p' : P) (q' : Q) → fits j (P+.reads p) (Q+.reads q) ≡ x →
      (x ≡ true → Empties P+ Q+ p q e p' q') → (x ≡ false → (p' ≡ p) × (q' ≡ q) × (e ≡ 0)) →
      Cleared (reads_at x j (P+.reads p) (Q+.reads q)) e (adaptor_reads j (P+.reads p') (Q+.reads q'))
  cleared_at true e p' q' h y n =
      let d = y refl in
      let A = L.cleared p d.x p' d.left in
      let B = M.cleared q d.y q' d.right in
      let R : Bool → Type 0 = λ x. Cleared (reads_at true j (P+.reads p) (Q+.reads q)) e (reads_at x j (P+.reads p') (Q+.reads q')) in
      subst R (sym (fits_kept j _ _ _ _ A.keeps B.keeps ∙ h)) (whole_cleared j (P+.reads p) (Q+.reads q) (P+.reads p') (Q+.reads q') d.x d.y e A B d.dropped)
  cleared_at false e p' q' h y n =
      let d = n refl in
      let R : P → Q → Type 0 = λ u w. Cleared (reads_at false j (P+.reads p) (Q+.reads q)) e (adaptor_reads j (P+.reads u) (Q+.reads w)) in
      let S : Bool → Type 0 = λ x. Cleared (reads_at false j (P+.reads p) (Q+.reads q)) e (reads_at x j (P+.reads p) (Q+.reads q)) in
      subst₂ R (sym d.0) (sym d.1) (subst S (sym h) (idle_cleared j (P+.reads p) (Q+.reads q) e d.2))

  pub adaptor_cleared : (e : ℕ) (j' : Joint) (p' : P) (q' : Q) → Clears P+ Q+ j p q e j' p' q' →
      Cleared (adaptor_reads j (P+.reads p) (Q+.reads q)) e (adaptor_reads j' (P+.reads p') (Q+.reads q'))
  adaptor_cleared e j' p' q' h =
      let R : Joint → Type 0 = λ i. Cleared (adaptor_reads j (P+.reads p) (Q+.reads q)) e (adaptor_reads i (P+.reads p') (Q+.reads q')) in
      subst R (sym h.joint) (cleared_at (fits j (P+.reads p) (Q+.reads q)) e p' q' refl h.empties h.idles)
