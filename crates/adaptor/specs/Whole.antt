-- Two parts that obey their laws obey them as a whole, by the joint that fits them. It speaks of readings alone, so it serves any kind of port
-- that is made of two.
use Rattle.std.specs.Prelude.{◌≡◌, ℕ, zero, suc, ◌+◌, ◌-◌, ◌*◌, ◌<◌, ◌≤◌, true, ℤ, pos, ◌+ℤ◌, unsigned_abs, refl}
use Rattle.std.proofs.Common.{sym, ap, ap₂, ◌∙◌, subst, arith}
use Rattle.std.proofs.Math.IntN.{+ℤ_idl, +ℤ_idr}
use Rattle.lemmas.proofs.Balance.{Scale, series_scale, parallel_scale, series_exact, parallel_exact, Losses, whole, enough}
use Rattle.wave.specs.Numbers.{largest_wave, sq, held, short, lost}
use Rattle.wave.proofs.Losses.{held_same, short_most, lost_is, uncut_lost, lost_uncut, cut_most}
use Rattle.port.specs.Meaning.{Readings, Sound, Fall, Cleared}
use Rattle.port.proofs.Shown.{Shown, shown, and_left, and_right}
use Rattle.port.specs.declared.takings.Taken.{Taken}
use Rattle.adaptor.specs.Ways.{whole_num, whole_den, rises, rises_over, falls}
use Rattle.adaptor.specs.Joints.{fits, rising_exact, rising_over, exact_left, exact_right, Gathers}
use Rattle.adaptor.specs.Joints as joints
use Rattle.adaptor.specs.declared.ways.Way.{Way}
use Rattle.adaptor.specs.declared.ways.Way.TheVariants.{Series, Parallel}
use Rattle.adaptor.specs.declared.joints.joint.Joint.{Joint}

pub record Fits (j : Joint) (a b : Readings) : Type 0 where
  pub left : Shown j.left a
  pub right : Shown j.right b

pub fits_of : (j : Joint) (a b : Readings) → fits j a b ≡ true → Fits j a b
fits_of j a b h = record { left = shown _ _ (and_left _ _ h); right = shown _ _ (and_right _ _ h) }

-- ---- the way of a joint: how the rising wave weighs in the balance, and that the exact waves keep the energy
abbrev weighs : Way → ℕ → ℕ → ℕ
weighs Series p s = p * (s * (p + s))
weighs Parallel p s = p + s

way_scale : (w : Way) (n₁ d₁ n₂ d₂ p s n d : ℕ) → 0 < n₁ → 0 < d₂ → 0 < p → 0 < s → p * (n₂ * d₁) ≡ s * (n₁ * d₂) →
    n * whole_den w n₁ d₁ n₂ d₂ ≡ d * whole_num w n₁ d₁ n₂ d₂ →
    Scale n₁ d₁ n₂ d₂ p s (p + s) n d (weighs w p s) (rises_over w (p + s))
way_scale Series n₁ d₁ n₂ d₂ p s n d n₁+ d₂+ p+ s+ h r = series_scale n₁ d₁ n₂ d₂ p s n d n₁+ d₂+ p+ s+ h r
way_scale Parallel n₁ d₁ n₂ d₂ p s n d n₁+ d₂+ p+ s+ h r = parallel_scale n₁ d₁ n₂ d₂ p s n d n₁+ d₂+ p+ s+ h r

way_exact : (w : Way) (p s : ℕ) (a b f : ℤ) →
    p * sq (falls w (p + s) p a s b f) + s * sq (falls w (p + s) s b p a f) + weighs w p s * sq (rises w p a s b)
    ≡ (p + s) * (p + s) * (p * sq a + s * sq b) + weighs w p s * (rises_over w (p + s) * rises_over w (p + s) * sq f)
way_exact Series p s a b f = series_exact p s a b f
way_exact Parallel p s a b f = parallel_exact p s a b f

-- ---- what a part loses of a wave
record Gap (a : Readings) (f : ℤ) (t : Taken) (b : Readings) : Type 0 where
  gone : ℕ
  is : a.num * sq f + a.den * a.stored ≡ a.den * (b.stored + t.absorbed) + a.num * sq a.rising + gone
  none : t.shortened ≡ 0 → gone ≡ 0
  some : gone ≡ 0 → t.shortened ≡ 0

gap : (a : Readings) (f : ℤ) (t : Taken) (b : Readings) → unsigned_abs f ≤ largest_wave → Fall a f t b → Gap a f t b
gap a f t b h F =
    let e : a.num * sq (held f) ≡ a.num * sq f = ap (λ z. a.num * sq z) (held_same f h) in
    let l = F.least in
    record {
      gone = a.num * sq f + a.den * a.stored - (a.den * (b.stored + t.absorbed) + a.num * sq a.rising);
      is = omega arith;
      none = λ z. omega (arith, F.exact z);
      some = λ z. F.only (omega arith);
    }

heard_most : (x y : ℤ) (e u : ℕ) → e + u ≤ 1 → unsigned_abs x ≤ largest_wave → unsigned_abs y ≤ largest_wave → (e ≡ 0 → x ≡ pos 0) → (u ≡ 0 → y ≡ pos 0) → unsigned_abs (x +ℤ y) ≤ largest_wave
heard_most x y zero u h p q r s = simp (r refl, +ℤ_idl) q
heard_most x y (suc e) u h p q r s = let z : u ≡ 0 = omega arith in simp (s z, +ℤ_idr) p

module _ (j : Joint) (a b : Readings) (sa : Sound a) (sb : Sound b) (F : Fits j a b) where
  scale : Scale a.num a.den b.num b.den j.shares.num j.shares.den j.total.value j.ratio.num j.ratio.den
      (weighs j.way j.shares.num j.shares.den) (rising_over j)
  scale =
      let l = F.left in let r = F.right in
      let R : ℕ → Type 0 = λ q. Scale a.num a.den b.num b.den j.shares.num j.shares.den q j.ratio.num j.ratio.den
      (weighs j.way j.shares.num j.shares.den) (rises_over j.way q) in
      subst R (sym j.summed.0)
      (way_scale j.way _ _ _ _ _ _ _ _ sa.nums.0 sb.dens.0 j.shares.above.0 j.shares.above.1
      (simp (l.num, l.den, r.num, r.den) at j.shared) (simp (l.num, l.den, r.num, r.den) at j.scaled))

  balanced : (f : ℤ) → j.shares.num * sq (exact_left j a.rising b.rising f) + j.shares.den * sq (exact_right j a.rising b.rising f)
      + weighs j.way j.shares.num j.shares.den * sq (rising_exact j a.rising b.rising)
      ≡ j.total.value * j.total.value * (j.shares.num * sq a.rising + j.shares.den * sq b.rising)
      + weighs j.way j.shares.num j.shares.den * (rising_over j * rising_over j * sq f)
  balanced f =
      let p = j.shares.num in let s = j.shares.den in let x = a.rising in let y = b.rising in
      let R : ℕ → Type 0 = λ q. p * sq (falls j.way q p x s y f) + s * sq (falls j.way q s y p x f) + weighs j.way p s * sq (rising_exact j x y)
      ≡ q * q * (p * sq x + s * sq y) + weighs j.way p s * (rises_over j.way q * rises_over j.way q * sq f) in
      subst R (sym j.summed.0) (way_exact j.way p s x y f)

  -- the rising wave of the whole is paid for by what the parts store
  paid : j.ratio.num * sq (short (rising_exact j a.rising b.rising) (rising_over j)) ≤ j.ratio.den * (a.stored + b.stored)
  paid = enough a.num a.den b.num b.den j.shares.num j.shares.den j.total.value j.ratio.num j.ratio.den _ (rising_over j)
      (sq (exact_left j a.rising b.rising (pos 0))) (sq (exact_right j a.rising b.rising (pos 0))) (sq (rising_exact j a.rising b.rising))
      (sq a.rising) (sq b.rising) _ a.stored b.stored _
      sa.dens.0 sb.dens.0 j.shares.above.0 j.shares.above.1 j.total.above j.ratio.above.1 scale (lost_is _ _)
      sa.paid sb.paid (balanced (pos 0))

  pub whole_sound : Sound (joints.whole j a b)
  whole_sound = record {
    nums = (j.ratio.above.0, j.ratio.within.0);
    dens = (j.ratio.above.1, j.ratio.within.1);
    lowest = j.ratio.lowest;
    sizes = omega (arith, j.sized, j.left.within);
    eared = j.sized.1;
    full = omega (arith, sa.full, sb.full, F.left.size, F.right.size);
    paid = paid;
  }

  pub whole_fall : (a' b' : Readings) (f : ℤ) (x y t : Taken) →
      Fall a (short (exact_left j a.rising b.rising (held f)) j.total.value) x a' →
      Fall b (short (exact_right j a.rising b.rising (held f)) j.total.value) y b' →
      Gathers j a b f x y t → Fall (joints.whole j a b) f t (joints.whole j a' b')
  whole_fall a' b' f x y t A B G =
      let q = j.total.value in
      let zₗ = exact_left j a.rising b.rising (held f) in
      let zᵣ = exact_right j a.rising b.rising (held f) in
      let z = rising_exact j a.rising b.rising in
      let o = rising_over j in
      let g₁ = gap a _ x a' (short_most zₗ q) A in
      let g₂ = gap b _ y b' (short_most zᵣ q) B in
      let W = whole a.num a.den b.num b.den j.shares.num j.shares.den q j.ratio.num j.ratio.den _ o
      (sq zₗ) (sq zᵣ) (sq z) (sq a.rising) (sq b.rising) (sq (short z o)) a.stored b.stored (lost z o)
      sa.dens.0 sb.dens.0 j.shares.above.0 j.shares.above.1 j.total.above j.ratio.above.1 scale (lost_is z o)
      (sq (held f)) (sq (short zₗ q)) (sq (short zᵣ q)) (a'.stored + x.absorbed) (b'.stored + y.absorbed) g₁.gone g₂.gone (lost zₗ q) (lost zᵣ q)
      g₁.is g₂.is (lost_is zₗ q) (lost_is zᵣ q) (balanced (held f)) in
      let all : j.ratio.den * (a'.stored + b'.stored + t.absorbed) ≡ j.ratio.den * (a'.stored + x.absorbed + (b'.stored + y.absorbed)) =
      ap (λ n. j.ratio.den * n) (omega (arith, G.absorbed)) in
      record {
        least = omega (arith, W.least);
        exact = λ c.
            let none : Losses g₁.gone g₂.gone (lost zₗ q) (lost zᵣ q) (lost z o) = record {
              left = g₁.none (omega (arith, G.shortened));
              right = g₂.none (omega (arith, G.shortened));
              first = uncut_lost zₗ q (omega (arith, G.shortened));
              second = uncut_lost zᵣ q (omega (arith, G.shortened));
              up = uncut_lost z o (omega (arith, G.shortened));
            } in
            omega (arith, W.exact none);
        only = λ e.
            let L = W.only (omega arith) in
            omega (arith, G.shortened, g₁.some L.left, g₂.some L.right, lost_uncut zₗ q L.first, lost_uncut zᵣ q L.second, lost_uncut z o L.up);
        absorbs = omega (arith, G.absorbed, A.absorbs, B.absorbs, F.left.size, F.right.size);
        counts = omega (arith, G.shortened, A.counts, B.counts, cut_most z o, cut_most zₗ q, cut_most zᵣ q, sa.sizes, sb.sizes, F.left.size, F.right.size);
        hears = simp G.heard (heard_most x.heard y.heard a.ears b.ears (omega (arith, j.sized, F.left.ears, F.right.ears)) A.hears B.hears A.deaf B.deaf);
        deaf = λ e. G.heard ∙ ap₂ (λ u w. u +ℤ w) (A.deaf (omega (arith, F.left.ears))) (B.deaf (omega (arith, F.right.ears)));
        keeps = record { num = refl; den = refl; size = refl; ears = refl };
      }

pub whole_cleared : (j : Joint) (a b a' b' : Readings) (x y e : ℕ) → Cleared a x a' → Cleared b y b' → e ≡ x + y → Cleared (joints.whole j a b) e (joints.whole j a' b')
whole_cleared j a b a' b' x y e A B h = record {
  dropped = h ∙ ap₂ (λ u w. u + w) A.dropped B.dropped;
  empty = ap₂ (λ u w. u + w) A.empty B.empty;
  keeps = record { num = refl; den = refl; size = refl; ears = refl };
}
