-- Equations of sums and products of integers, proved by computing: `ring ρ a b refl` shows that the expressions a and b
-- are equal at the values ρ, if both come to one polynomial.
use mathlib.Core.Path.{◌≡◌, refl, sym, ap, ap₂, ◌∙◌}
use mathlib.Core.Bool.{Bool, true, false, cond}
use mathlib.Core.List.{List, [], ◌∷◌}
use Prim.Native.Nat.{ℕ, zero, suc}
use lib.Dec.{eqb, ltb}
use borrow.Author.Tests.{eqb-true}
use borrow.Author.Differences.{ints}
use native.Mathlib.Omega.{arith}
use lib.IntN.{ℤ, pos, negsuc, ◌+ℤ◌, ◌*ℤ◌, +ℤ_assoc, +ℤ_idl, zero-*ℤ, *ℤ-zero}
use Rattle.lemmas.proofs.Integers.{*ℤ-+ℤ, +ℤ-*ℤ, *ℤ-assoc, *ℤ-left, +ℤ-left, one-*ℤ}

pub data Ex : Type 0 where
  v : ℕ → Ex
  k : ℤ → Ex
  ◌⊕◌ : Ex → Ex → Ex
  ◌⊗◌ : Ex → Ex → Ex

infixl 6 ◌⊕◌
infixl 7 ◌⊗◌
abbrev pub look : List ℤ → ℕ → ℤ
look [] i = pos 0
look (x ∷ ρ) zero = x
look (x ∷ ρ) (suc i) = look ρ i

abbrev pub ev : List ℤ → Ex → ℤ
ev ρ (v i) = look ρ i
ev ρ (k c) = c
ev ρ (a ⊕ b) = ev ρ a +ℤ ev ρ b
ev ρ (a ⊗ b) = ev ρ a *ℤ ev ρ b

-- a product of variables, in order; a sum of such products, each with a number
pub data Poly : Type 0 where
  nil : Poly
  term : ℤ → List ℕ → Poly → Poly

pub data Side : Type 0 where
  before : Side
  same : Side
  after : Side

abbrev pub insert : ℕ → List ℕ → List ℕ
insert i [] = i ∷ []
insert i (j ∷ m) = elim (ltb j i) [ true ↦ j ∷ insert i m | false ↦ i ∷ j ∷ m ]

abbrev pub times : List ℕ → List ℕ → List ℕ
times [] m = m
times (i ∷ l) m = insert i (times l m)

abbrev pub side : List ℕ → List ℕ → Side
side [] [] = same
side [] (j ∷ m) = before
side (i ∷ l) [] = after
side (i ∷ l) (j ∷ m) = elim (ltb i j) [ true ↦ before | false ↦ elim (eqb i j) [ true ↦ side l m | false ↦ after ] ]

abbrev pub add1 : ℤ → List ℕ → Poly → Poly
add1 c m nil = term c m nil
add1 c m (term d l p) = elim (side m l) [ before ↦ term c m (term d l p) | same ↦ term (c +ℤ d) l p | after ↦ term d l (add1 c m p) ]

abbrev pub add : Poly → Poly → Poly
add nil q = q
add (term c m p) q = add1 c m (add p q)

abbrev pub mul1 : ℤ → List ℕ → Poly → Poly
mul1 c m nil = nil
mul1 c m (term d l p) = add1 (c *ℤ d) (times m l) (mul1 c m p)

abbrev pub mul : Poly → Poly → Poly
mul nil q = nil
mul (term c m p) q = add (mul1 c m q) (mul p q)

abbrev pub norm : Ex → Poly
norm (v i) = term (pos 1) (i ∷ []) nil
norm (k c) = term c [] nil
norm (a ⊕ b) = add (norm a) (norm b)
norm (a ⊗ b) = mul (norm a) (norm b)

abbrev pub is0 : ℤ → Bool
is0 (pos zero) = true
is0 (pos (suc n)) = false
is0 (negsuc n) = false

abbrev pub none : Poly → Bool
none nil = true
none (term c m p) = cond (is0 c) (none p) false

abbrev pub agrees : Ex → Ex → Bool
agrees a b = none (norm (a ⊕ k (negsuc 0) ⊗ b))

-- ---- helpers
unit_v : (x : ℤ) → pos 1 *ℤ (x *ℤ pos 1) +ℤ pos 0 ≡ x
unit_v x = omega (arith, ints)

unit_k : (x : ℤ) → x *ℤ pos 1 +ℤ pos 0 ≡ x
unit_k x = omega (arith, ints)

cancel : (x y : ℤ) → x +ℤ negsuc 0 *ℤ y ≡ pos 0 → x ≡ y
cancel x y h = omega (arith, ints)

side_next : (i j : ℕ) (l m : List ℕ) (a b : Bool) → (b ≡ true → i ≡ j) → (side l m ≡ same → l ≡ m) →
    (elim a [ true ↦ before | false ↦ elim b [ true ↦ side l m | false ↦ after ] ]) ≡ same → (i ∷ l) ≡ (j ∷ m)
side_next i j l m true b f ih e = cc
side_next i j l m false true f ih e = ap₂ (λ s t. s ∷ t) (f refl) (ih e)
side_next i j l m false false f ih e = cc

side_same : (l m : List ℕ) → side l m ≡ same → l ≡ m
side_same [] [] e = refl
side_same [] (j ∷ m) e = cc
side_same (i ∷ l) [] e = cc
side_same (i ∷ l) (j ∷ m) e = side_next i j l m (ltb i j) (eqb i j) (eqb-true i j) (side_same l m) e

-- ---- what they come to
module _ (ρ : List ℤ) where
  ev_m : List ℕ → ℤ
  ev_m [] = pos 1
  ev_m (i ∷ m) = look ρ i *ℤ ev_m m

  ev_p : Poly → ℤ
  ev_p nil = pos 0
  ev_p (term c m p) = c *ℤ ev_m m +ℤ ev_p p

  insert_is : (i : ℕ) (m : List ℕ) → ev_m (insert i m) ≡ look ρ i *ℤ ev_m m
  unfolding ev_m
  insert_is i [] = refl
  insert_is i (j ∷ m) =
      elim (ltb j i) as (λ b. ev_m (elim b [ true ↦ j ∷ insert i m | false ↦ i ∷ j ∷ m ]) ≡ look ρ i *ℤ (look ρ j *ℤ ev_m m))
      [ true ↦ ap (λ t. look ρ j *ℤ t) (insert_is i m) ∙ *ℤ-left (look ρ j) (look ρ i) (ev_m m) | false ↦ refl ]

  times_is : (l m : List ℕ) → ev_m (times l m) ≡ ev_m l *ℤ ev_m m
  unfolding ev_m
  times_is [] m = sym (one-*ℤ (ev_m m))
  times_is (i ∷ l) m = insert_is i (times l m) ∙ ap (λ t. look ρ i *ℤ t) (times_is l m) ∙ sym (*ℤ-assoc (look ρ i) (ev_m l) (ev_m m))

  add1_by : (c d : ℤ) (m l : List ℕ) (p r : Poly) (o : Side) → (o ≡ same → m ≡ l) → ev_p r ≡ c *ℤ ev_m m +ℤ ev_p p →
      ev_p (elim o [ before ↦ term c m (term d l p) | same ↦ term (c +ℤ d) l p | after ↦ term d l r ]) ≡ c *ℤ ev_m m +ℤ (d *ℤ ev_m l +ℤ ev_p p)
  unfolding ev_p
  add1_by c d m l p r before h e = refl
  add1_by c d m l p r same h e = ap (λ t. t +ℤ ev_p p) (+ℤ-*ℤ c d (ev_m l)) ∙ +ℤ_assoc (c *ℤ ev_m l) (d *ℤ ev_m l) (ev_p p) ∙ ap (λ t. c *ℤ ev_m t +ℤ (d *ℤ ev_m l +ℤ ev_p p)) (sym (h refl))
  add1_by c d m l p r after h e = ap (λ t. d *ℤ ev_m l +ℤ t) e ∙ +ℤ-left (d *ℤ ev_m l) (c *ℤ ev_m m) (ev_p p)

  add1_is : (c : ℤ) (m : List ℕ) (p : Poly) → ev_p (add1 c m p) ≡ c *ℤ ev_m m +ℤ ev_p p
  unfolding ev_p
  add1_is c m nil = refl
  add1_is c m (term d l p) = add1_by c d m l p (add1 c m p) (side m l) (side_same m l) (add1_is c m p)

  add_is : (p q : Poly) → ev_p (add p q) ≡ ev_p p +ℤ ev_p q
  unfolding ev_p
  add_is nil q = sym (+ℤ_idl (ev_p q))
  add_is (term c m p) q = add1_is c m (add p q) ∙ ap (λ t. c *ℤ ev_m m +ℤ t) (add_is p q) ∙ sym (+ℤ_assoc (c *ℤ ev_m m) (ev_p p) (ev_p q))

  four : (c d x y : ℤ) → c *ℤ d *ℤ (x *ℤ y) ≡ c *ℤ x *ℤ (d *ℤ y)
  four c d x y = *ℤ-assoc c d (x *ℤ y) ∙ ap (λ t. c *ℤ t) (*ℤ-left d x y) ∙ sym (*ℤ-assoc c x (d *ℤ y))

  mul1_is : (c : ℤ) (m : List ℕ) (p : Poly) → ev_p (mul1 c m p) ≡ c *ℤ ev_m m *ℤ ev_p p
  unfolding ev_p
  mul1_is c m nil = sym (*ℤ-zero (c *ℤ ev_m m))
  mul1_is c m (term d l p) =
      add1_is (c *ℤ d) (times m l) (mul1 c m p)
      ∙ ap₂ (λ s t. s +ℤ t) (ap (λ t. c *ℤ d *ℤ t) (times_is m l) ∙ four c d (ev_m m) (ev_m l)) (mul1_is c m p)
      ∙ sym (*ℤ-+ℤ (c *ℤ ev_m m) (d *ℤ ev_m l) (ev_p p))

  mul_is : (p q : Poly) → ev_p (mul p q) ≡ ev_p p *ℤ ev_p q
  unfolding ev_p
  mul_is nil q = sym (zero-*ℤ (ev_p q))
  mul_is (term c m p) q =
      add_is (mul1 c m q) (mul p q) ∙ ap₂ (λ s t. s +ℤ t) (mul1_is c m q) (mul_is p q) ∙ sym (+ℤ-*ℤ (c *ℤ ev_m m) (ev_p p) (ev_p q))

  norm_is : (a : Ex) → ev_p (norm a) ≡ ev ρ a
  unfolding ev_p ev_m
  norm_is (v i) = unit_v (look ρ i)
  norm_is (k c) = unit_k c
  norm_is (a ⊕ b) = add_is (norm a) (norm b) ∙ ap₂ (λ s t. s +ℤ t) (norm_is a) (norm_is b)
  norm_is (a ⊗ b) = mul_is (norm a) (norm b) ∙ ap₂ (λ s t. s *ℤ t) (norm_is a) (norm_is b)

  none_is : (p : Poly) → none p ≡ true → ev_p p ≡ pos 0
  unfolding ev_p
  none_is nil h = refl
  none_is (term (pos zero) m p) h = ap (λ t. t +ℤ ev_p p) (zero-*ℤ (ev_m m)) ∙ +ℤ_idl (ev_p p) ∙ none_is p h
  none_is (term (pos (suc n)) m p) h = cc
  none_is (term (negsuc n) m p) h = cc

  pub ring : (a b : Ex) → agrees a b ≡ true → ev ρ a ≡ ev ρ b
  ring a b h =
      let z : ev ρ a +ℤ negsuc 0 *ℤ ev ρ b ≡ pos 0 = sym (norm_is (a ⊕ k (negsuc 0) ⊗ b)) ∙ none_is _ h in
      cancel (ev ρ a) (ev ρ b) z

-- ---- with equations that are given: a and b are equal if a - b is a sum of multiples m * (l - r), each with l ≡ r
pub data Facts : Type 0 where
  done : Facts
  by : Ex → Ex → Ex → Facts → Facts

abbrev pub Hold : List ℤ → Facts → Type 0
Hold ρ done = Unit {0}
Hold ρ (by m l r fs) = (ev ρ l ≡ ev ρ r) × Hold ρ fs

abbrev pub lefts : Ex → Facts → Ex
lefts a done = a
lefts a (by m l r fs) = lefts (a ⊕ m ⊗ l) fs

abbrev pub rights : Ex → Facts → Ex
rights a done = a
rights a (by m l r fs) = rights (a ⊕ m ⊗ r) fs

cancel_add : (x y t : ℤ) → x +ℤ t ≡ y +ℤ t → x ≡ y
cancel_add x y t h = omega (arith, ints)

drop_facts : (ρ : List ℤ) (fs : Facts) (a b : Ex) → Hold ρ fs → ev ρ (rights a fs) ≡ ev ρ (lefts b fs) → ev ρ a ≡ ev ρ b
drop_facts ρ done a b h e = e
drop_facts ρ (by m l r fs) a b h e =
    let i = drop_facts ρ fs (a ⊕ m ⊗ r) (b ⊕ m ⊗ l) h.1 e in
    cancel_add (ev ρ a) (ev ρ b) (ev ρ m *ℤ ev ρ r) (i ∙ ap (λ t. ev ρ b +ℤ ev ρ m *ℤ t) h.0)

pub ring_by : (ρ : List ℤ) (fs : Facts) (a b : Ex) → agrees (rights a fs) (lefts b fs) ≡ true → Hold ρ fs → ev ρ a ≡ ev ρ b
ring_by ρ fs a b t h = drop_facts ρ fs a b h (ring ρ (rights a fs) (lefts b fs) t)
