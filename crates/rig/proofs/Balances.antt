-- Balances over whole numbers, one after another, and the same as a balance over integers.
use Rattle.std.proofs.Common.{◌≡◌, ℕ, zero, suc, ◌+◌, ◌*◌, ◌<◌, ◌≤◌, min, ℤ, pos, negsuc, ◌+ℤ◌, ◌*ℤ◌, refl, ap, mul-add, arith}
use native.Mathlib.Nat.{le_of_mul-le-mul_left, lt_of_mul-lt-mul_left}
use Rattle.std.proofs.lemmas.Int.{ints}
use Rattle.rig.specs.Energy.{Balance}

-- F fell and R rose, squared; A is gone, c waves were shortened; S was stored before and T after
pub record Balanced (n d S F R A c T : ℕ) : Type 0 where
  pub most : d * (T + A) + n * R ≤ d * S + n * F
  pub exact : c ≡ 0 → d * (T + A) + n * R ≡ d * S + n * F
  pub loses : 0 < c → d * (T + A) + n * R < d * S + n * F

pub strict : (x y c : ℕ) → x ≤ y → (x ≡ y → c ≡ 0) → 0 < c → x < y
strict x y c h only l = let ne : x ≡ y → ⊥ = (λ e. omega (arith, only e)) in omega (arith, ne)

-- w times n is a difference
times : (n F R : ℕ) (w : ℤ) → w +ℤ pos R ≡ pos F → pos n *ℤ w +ℤ pos (n * R) ≡ pos (n * F)
times n F R (pos k) e = let h : F ≡ k + R = omega (arith, ints) in omega (arith, ints, mul-add n k R, ap (λ j. n * j) h)
times n F R (negsuc k) e = let h : R ≡ F + suc k = omega (arith, ints) in omega (arith, ints, mul-add n F (suc k), ap (λ j. n * j) h)

only_none : (c x y : ℕ) → (0 < c → x < y) → x ≡ y → c ≡ 0
only_none zero x y l e = refl
only_none (suc c) x y l e = absurd (omega (arith, l (omega arith)))

-- the same over integers, where w is F less R
pub balance_of : (n d S F R A c T : ℕ) (w : ℤ) → w +ℤ pos R ≡ pos F → Balanced n d S F R A c T → Balance n d S T A c w
balance_of n d S F R A c T w e b =
    let t = times n F R w e in
    let m = b.most in
    record {
      most = omega (arith, ints);
      exact = λ h. omega (arith, ints, b.exact h);
      only = λ h. only_none c _ _ b.loses (omega (arith, ints));
    }

-- nothing happens
pub still : (n d S : ℕ) → Balanced n d S 0 0 0 0 S
still n d S = record {
  most = omega (arith, mul-add d S 0);
  exact = λ _. omega (arith, mul-add d S 0);
  loses = λ h. omega arith;
}

-- all is dropped
pub spilled : (n d S : ℕ) → Balanced n d S 0 0 S 0 0
spilled n d S = record {
  most = omega (arith, mul-add d 0 S);
  exact = λ _. omega (arith, mul-add d 0 S);
  loses = λ h. omega arith;
}

-- where one of two falls short, so do both together
one_loses : (c c' x y u v : ℕ) → x ≤ y → u ≤ v → (0 < c → x < y) → (0 < c' → u < v) → 0 < c + c' → x + u < y + v
one_loses zero c' x y u v p q f g h = omega (arith, g (omega arith))
one_loses (suc c) c' x y u v p q f g h = omega (arith, f (omega arith))

-- one thing, and then another
pub joined : (n d S F R A c T F' R' A' c' U B : ℕ) → Balanced n d S F R A c T → Balanced n d T F' R' A' c' U → B ≡ A + A'
    → Balanced n d S (F + F') (R + R') B (c + c') U
joined n d S F R A c T F' R' A' c' U B p q e =
    let g : d * (U + B) ≡ d * U + d * A + d * A' = omega (arith, ap (λ k. d * (U + k)) e, mul-add d U (A + A'), mul-add d A A') in
    let i = mul-add d T A in
    let j = mul-add d U A' in
    let k = mul-add n F F' in
    let l = mul-add n R R' in
    let pm = p.most in
    let qm = q.most in
    record {
      most = omega (arith, g, i, j, k, l, pm, qm);
      exact = λ h. omega (arith, g, i, j, k, l, p.exact (omega arith), q.exact (omega arith));
      loses = λ h. omega (arith, g, i, j, k, l, one_loses c c' _ _ _ _ pm qm p.loses q.loses h);
    }

-- the same balance, by other names
pub renamed : {n d S F R A c T F' R' A' S' T' : ℕ} → Balanced n d S F R A c T → S' ≡ S → F' ≡ F → R' ≡ R → A' ≡ A → T' ≡ T → Balanced n d S' F' R' A' c T'
renamed b s f r a t = rw (s, f, r, a, t) b

-- where what fell exceeds what rose by at most an offer O, so does what is stored and gone exceed what was stored
pub offered : (n d S F R A O c T : ℕ) → 0 < d → Balanced n d S F R A c T → n * F ≤ n * R + d * O → T + A ≤ S + O
offered n d S F R A O c T p b h = le_of_mul-le-mul_left (let m = b.most in omega (arith, mul-add d S O)) p

-- and where a wave was shortened, by less
pub offered_less : (n d S F R A O c T : ℕ) → Balanced n d S F R A c T → n * F ≤ n * R + d * O → 0 < c → T + A < S + O
offered_less n d S F R A O c T b h l = lt_of_mul-lt-mul_left d (let m = b.loses l in omega (arith, mul-add d S O))

-- a round that shortens or absorbs takes some of what is stored
pub worn : (c A S T : ℕ) → T + A ≤ S → (0 < c → T + A < S) → min 1 (c + A) + T ≤ S
worn zero A S T p q = omega arith
worn (suc c) A S T p q = omega (arith, q (omega arith))
