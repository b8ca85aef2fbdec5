-- What two trees make is one tree, and they are not refused as well.
use Rattle.std.proofs.Common.{◌≡◌, ℕ, ◌+◌, ◌*◌, ◌<◌, ◌≤◌, true, ◌&&◌, eqb, sym, ap, ◌∙◌, subst, inl, inr, arith}
use mathlib.Core.HLevel.{is_prop→PathP, ×₃_prop}
use native.Mathlib.Nat.{ℕ_set}
use native.Mathlib.Bridge.{le_prop}
use Rattle.std.proofs.lemmas.Bool.Decides.{nat_tests}
use Rattle.wave.specs.Terms.{Coprime, Reduced, largest_number}
use Rattle.wave.specs.Refusals.{Past}
use Rattle.wave.specs.declared.ratios.lowest.Ratio.{Ratio}
use Rattle.wave.specs.declared.shortening.shortened.Divisor.{Divisor}
use Rattle.wave.proofs.Divided.{reduced_only}
use Rattle.port.specs.Meaning.{Readings, largest_size}
use Rattle.port.specs.Parts.{shows}
use Rattle.port.specs.declared.parts.fixed.Part.{Part}
use Rattle.adaptor.specs.Ways.{whole_num, whole_den}
use Rattle.adaptor.specs.Joints.{Heavy, num_of, den_of}
use Rattle.adaptor.specs.Joins.{Joined, Parted}
use Rattle.adaptor.specs.declared.ways.Way.{Way}
use Rattle.adaptor.specs.declared.joints.JoinRefusal.TheVariants.{Number}
use Rattle.adaptor.specs.declared.joints.joint.Joint.{Joint}
use Rattle.tree.specs.Models.{Model, join, reads}
use Rattle.tree.specs.Growth.{Grown}

both_prop : {A B : Type 0} → ((x y : A) → x ≡ y) → ((x y : B) → x ≡ y) → (x y : A × B) → x ≡ y
both_prop p q x y = λ i. (p x.0 y.0 i, q x.1 y.1 i)

coprime_prop : (a b : ℕ) (f g : Coprime a b) → f ≡ g
coprime_prop a b f g = λ i k x y. ℕ_set k 1 (f k x y) (g k x y) i

pub same_ratio : (a b : Ratio) → a.num ≡ b.num → a.den ≡ b.den → a ≡ b
same_ratio a b p q = λ i. record {
  num = p i;
  den = q i;
  above = is_prop→PathP (λ j. (0 < p j) × (0 < q j)) (λ j. both_prop le_prop le_prop) a.above b.above i;
  within = is_prop→PathP (λ j. (p j ≤ largest_number) × (q j ≤ largest_number)) (λ j. both_prop le_prop le_prop) a.within b.within i;
  lowest = is_prop→PathP (λ j. Coprime (p j) (q j)) (λ j. coprime_prop (p j) (q j)) a.lowest b.lowest i;
}

pub same_part : (a b : Part) → a.ratio ≡ b.ratio → a.size ≡ b.size → a.ears ≡ b.ears → a ≡ b
same_part a b r s e = λ i. record {
  ratio = r i;
  size = s i;
  ears = e i;
  within = is_prop→PathP (λ j. (0 < s j) × (s j ≤ largest_size) × (e j ≤ 1)) (λ j. ×₃_prop le_prop le_prop le_prop) a.within b.within i;
}

same_divisor : (a b : Divisor) → a.value ≡ b.value → a ≡ b
same_divisor a b p = λ i. record { value = p i; above = is_prop→PathP (λ j. 0 < p j) (λ j. le_prop) a.above b.above i }

same_joint : (a b : Joint) → a.way ≡ b.way → a.left ≡ b.left → a.right ≡ b.right → a.ratio ≡ b.ratio → a.shares ≡ b.shares → a.total ≡ b.total → a ≡ b
same_joint a b w l r q s t = λ i. record {
  way = w i;
  left = l i;
  right = r i;
  ratio = q i;
  shares = s i;
  total = t i;
  scaled = is_prop→PathP (λ j. (q j).num * whole_den (w j) (l j).ratio.num (l j).ratio.den (r j).ratio.num (r j).ratio.den ≡ (q j).den * whole_num (w j) (l j).ratio.num (l j).ratio.den (r j).ratio.num (r j).ratio.den)
      (λ j. ℕ_set ((q j).num * whole_den (w j) (l j).ratio.num (l j).ratio.den (r j).ratio.num (r j).ratio.den) ((q j).den * whole_num (w j) (l j).ratio.num (l j).ratio.den (r j).ratio.num (r j).ratio.den)) a.scaled b.scaled i;
  shared = is_prop→PathP (λ j. (s j).num * ((r j).ratio.num * (l j).ratio.den) ≡ (s j).den * ((l j).ratio.num * (r j).ratio.den))
      (λ j. ℕ_set ((s j).num * ((r j).ratio.num * (l j).ratio.den)) ((s j).den * ((l j).ratio.num * (r j).ratio.den))) a.shared b.shared i;
  summed = is_prop→PathP (λ j. ((t j).value ≡ (s j).num + (s j).den) × ((t j).value ≤ largest_number)) (λ j. both_prop (ℕ_set (t j).value ((s j).num + (s j).den)) le_prop) a.summed b.summed i;
  sized = is_prop→PathP (λ j. ((l j).size + (r j).size ≤ largest_size) × ((l j).ears + (r j).ears ≤ 1)) (λ j. both_prop le_prop le_prop) a.sized b.sized i;
}

four : (a b c d e f g h : ℕ) → (eqb a b && eqb c d && eqb e f && eqb g h) ≡ true → (a ≡ b) × (c ≡ d) × (e ≡ f) × (g ≡ h)
four a b c d e f g h t = (grind (arith, nat_tests), grind (arith, nat_tests), grind (arith, nat_tests), grind (arith, nat_tests))

-- what a part shows
pub shown : (p : Part) (a : Readings) → shows p a ≡ true → (p.ratio.num ≡ a.num) × (p.ratio.den ≡ a.den) × (p.size ≡ a.size) × (p.ears ≡ a.ears)
shown p a t = four p.ratio.num a.num p.ratio.den a.den p.size a.size p.ears a.ears t

pub one_part : (p q : Part) (a : Readings) → shows p a ≡ true → shows q a ≡ true → p ≡ q
one_part p q a s t =
    let x = shown p a s in
    let y = shown q a t in
    same_part p q (same_ratio p.ratio q.ratio (x.0 ∙ sym y.0) (x.1 ∙ sym y.1)) (x.2 ∙ sym y.2) (x.3 ∙ sym y.3)

one_joined : (w : Way) (a b : Readings) (i j : Joint) → Joined w a b i → Joined w a b j → i ≡ j
one_joined w a b i j x y =
    let l = one_part i.left j.left a x.left y.left in
    let r = one_part i.right j.right b x.right y.right in
    let v = x.made.way ∙ sym y.made.way in
    let s : Reduced (i.left.ratio.num * i.right.ratio.den) (i.right.ratio.num * i.left.ratio.den) j.shares.num j.shares.den
    = subst (λ (q : Part). Reduced (i.left.ratio.num * q.ratio.den) (q.ratio.num * i.left.ratio.den) j.shares.num j.shares.den) (sym r) (subst (λ (p : Part). Reduced (p.ratio.num * j.right.ratio.den) (j.right.ratio.num * p.ratio.den) j.shares.num j.shares.den) (sym l) y.made.shares) in
    let q : Reduced (num_of w i.left i.right) (den_of w i.left i.right) j.ratio.num j.ratio.den
    = subst (λ (q : Part). Reduced (num_of w i.left q) (den_of w i.left q) j.ratio.num j.ratio.den) (sym r) (subst (λ (p : Part). Reduced (num_of w p j.right) (den_of w p j.right) j.ratio.num j.ratio.den) (sym l) y.made.ratio) in
    let m = reduced_only (i.left.ratio.num * i.right.ratio.den) (i.right.ratio.num * i.left.ratio.den) i.shares.num i.shares.den x.made.shares j.shares.num j.shares.den s in
    let n = reduced_only (num_of w i.left i.right) (den_of w i.left i.right) i.ratio.num i.ratio.den x.made.ratio j.ratio.num j.ratio.den q in
    let total : i.total.value ≡ j.total.value = i.summed.0 ∙ (λ k. sym m.0 k + sym m.1 k) ∙ sym j.summed.0 in
    same_joint i j v l r (same_ratio i.ratio j.ratio (sym n.0) (sym n.1)) (same_ratio i.shares j.shares (sym m.0) (sym m.1)) (same_divisor i.total j.total total)

pub one_tree : (w : Way) (a b m n : Model) → Grown w a b m → Grown w a b n → m ≡ n
one_tree w a b m n x y = x.is ∙ ap (λ j. join j a b) (one_joined w (reads a) (reads b) x.joint y.joint x.joined y.joined) ∙ sym y.is

-- a joint that was made is not refused
not_heavy : (j : Joint) (x y : Part) → j.left ≡ x → j.right ≡ y → Reduced (j.left.ratio.num * j.right.ratio.den) (j.right.ratio.num * j.left.ratio.den) j.shares.num j.shares.den → Heavy x y → ⊥
not_heavy j x y l r s h =
    let t : Reduced (j.left.ratio.num * j.right.ratio.den) (j.right.ratio.num * j.left.ratio.den) h.p₁ h.p₂
    = subst (λ (p : Part). Reduced (j.left.ratio.num * p.ratio.den) (p.ratio.num * j.left.ratio.den) h.p₁ h.p₂) (sym r) (subst (λ (p : Part). Reduced (p.ratio.num * y.ratio.den) (y.ratio.num * p.ratio.den) h.p₁ h.p₂) (sym l) h.shares) in
    let e = reduced_only (j.left.ratio.num * j.right.ratio.den) (j.right.ratio.num * j.left.ratio.den) j.shares.num j.shares.den s h.p₁ h.p₂ t in
    omega (arith, e.0, e.1, j.summed.0, j.summed.1, h.past)

not_past : (w : Way) (j : Joint) (x y : Part) → j.left ≡ x → j.right ≡ y → Reduced (num_of w j.left j.right) (den_of w j.left j.right) j.ratio.num j.ratio.den → Past (num_of w x y) (den_of w x y) → ⊥
not_past w j x y l r s h =
    let t : Reduced (num_of w j.left j.right) (den_of w j.left j.right) h.num h.den
    = subst (λ (p : Part). Reduced (num_of w j.left p) (den_of w j.left p) h.num h.den) (sym r) (subst (λ (p : Part). Reduced (num_of w p y) (den_of w p y) h.num h.den) (sym l) h.reduced) in
    let e = reduced_only (num_of w j.left j.right) (den_of w j.left j.right) j.ratio.num j.ratio.den s h.num h.den t in
    omega (arith, e.0, e.1, j.ratio.within.0, j.ratio.within.1, h.past)

pub not_both : (w : Way) (a b m : Model) → Grown w a b m → Parted w (reads a) (reads b) Number → ⊥
not_both w a b m x y =
    let j = x.joint in
    let l = one_part j.left y.x (reads a) x.joined.left y.left in
    let r = one_part j.right y.y (reads b) x.joined.right y.right in
    elim y.refused [
      | inl h ↦ not_heavy j y.x y.y l r x.joined.made.shares h
      | inr h ↦ not_past w j y.x y.y l r x.joined.made.ratio h
    ]
