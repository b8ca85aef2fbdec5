-- The numbers of a joint follow from its way and the ratios of its parts: no joint has others.
use Rattle.std.proofs.Common.{◌≡◌, ℕ, ◌+◌, ◌*◌, ◌<◌, sym, ap, ◌∙◌, subst, ap₂, mul_assoc, mul_comm, mul-pos, mul_left_comm, arith}
use native.Mathlib.Nat.{eq_of_mul-eq-mul_left}
use Rattle.lemmas.proofs.Unique.{lowest_only}
use Rattle.wave.specs.declared.ratios.lowest.Ratio.{Ratio}
use Rattle.adaptor.specs.Ways.{whole_num, whole_den}
use Rattle.adaptor.specs.declared.ways.Way.{Way}
use Rattle.adaptor.specs.declared.ways.Way.TheVariants.{Series, Parallel}
use Rattle.adaptor.specs.declared.joints.joint.Joint.{Joint}

pub record Alike (i j : Joint) : Type 0 where
  pub num : i.ratio.num ≡ j.ratio.num
  pub den : i.ratio.den ≡ j.ratio.den
  pub first : i.shares.num ≡ j.shares.num
  pub second : i.shares.den ≡ j.shares.den
  pub total : i.total.value ≡ j.total.value

crossed : (X Y n d m e : ℕ) → 0 < X → n * X ≡ d * Y → m * X ≡ e * Y → n * e ≡ d * m
crossed X Y n d m e X+ a b =
    let l : X * (n * e) ≡ n * X * e = simp (mul_assoc, mul_comm) in
    let k : d * Y * e ≡ d * (e * Y) = simp (mul_assoc, mul_comm, mul_left_comm) in
    let r : X * (d * m) ≡ d * (m * X) = simp (mul_comm, mul_left_comm) in
    eq_of_mul-eq-mul_left X X+ (n * e) (d * m) (l ∙ ap (λ t. t * e) a ∙ k ∙ sym (ap (λ t. d * t) b) ∙ sym r)

-- two ratios of X to Y
same_ratio : (p q : Ratio) (X Y : ℕ) → 0 < X → p.num * X ≡ p.den * Y → q.num * X ≡ q.den * Y → (p.num ≡ q.num) × (p.den ≡ q.den)
same_ratio p q X Y X+ a b =
    lowest_only p.num p.den q.num q.den p.above.0 p.above.1 q.above.0 q.above.1 p.lowest q.lowest
    (crossed X Y p.num p.den q.num q.den X+ a b)

den_above : (w : Way) (a b : Ratio) → 0 < whole_den w a.num a.den b.num b.den
den_above Series a b = let h : 0 < a.num * b.den = mul-pos a.above.0 b.above.1 in omega arith
den_above Parallel a b = mul-pos a.above.1 b.above.1

pub one_joint : (i j : Joint) → i.way ≡ j.way → i.left.ratio ≡ j.left.ratio → i.right.ratio ≡ j.right.ratio → Alike i j
one_joint i j w l r =
    let a = i.left.ratio in let b = i.right.ratio in
    let S : Ratio → Ratio → Type 0 = λ x y. j.shares.num * (y.num * x.den) ≡ j.shares.den * (x.num * y.den) in
    let R : Way → Ratio → Ratio → Type 0 = λ v x y. j.ratio.num * whole_den v x.num x.den y.num y.den ≡ j.ratio.den * whole_num v x.num x.den y.num y.den in
    let s : S a b = subst (λ (x : Ratio). S x b) (sym l) (subst (λ (y : Ratio). S j.left.ratio y) (sym r) j.shared) in
    let t : R i.way a b = subst (λ (v : Way). R v a b) (sym w) (subst (λ (x : Ratio). R j.way x b) (sym l) (subst (λ (y : Ratio). R j.way j.left.ratio y) (sym r) j.scaled)) in
    let p = same_ratio i.shares j.shares (b.num * a.den) (a.num * b.den) (mul-pos b.above.0 a.above.1) i.shared s in
    let q = same_ratio i.ratio j.ratio (whole_den i.way a.num a.den b.num b.den) (whole_num i.way a.num a.den b.num b.den) (den_above i.way a b) i.scaled t in
    record { num = q.0; den = q.1; first = p.0; second = p.1; total = i.summed.0 ∙ ap₂ (λ x y. x + y) p.0 p.1 ∙ sym j.summed.0 }
