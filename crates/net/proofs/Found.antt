-- What the searches find is what is taken.
use Rattle.std.proofs.Common.{◌≡◌, ℕ, zero, suc, [], ◌∷◌, fold, le_refl, ◌+◌, ◌-◌, ◌<◌, ◌≤◌, max, Bool, true, false, not, nat_eq, List, map, length, Option, Some, None, MatchOption, drop, get_or, sym, ap, ◌∙◌, subst, inl, inr, eq-eqb, arith}
use Rattle.std.proofs.lemmas.List.{length-drop, get_or-drop, get_or-map}
use Rattle.std.specs.Bool.{then_some}
use Rattle.std.specs.List.{AllWithin, HoldsAt}
use Rattle.std.proofs.lemmas.Bool.Decides.{nat_tests}
use Rattle.net.specs.Wires.{touches, far, nowhere, at}
use Rattle.net.specs.Searches.{FailsAll, FirstPast}
use Rattle.net.specs.Choices.{NoTwins, Meet, AreChain, NoChain, Stuck, OneChoice}
use Rattle.net.specs.declared.wires.Wire.{Wire}
use Rattle.net.specs.declared.wires.Pair.{Pair}
use Rattle.net.specs.declared.wires.Choice.TheVariants.{Twins, Chain}

-- what `position` answers
abbrev pub IsFirst : (Wire → Bool → Type 0) → List Wire → Option ℕ → Type 0
IsFirst answers ws r = MatchOption r (AllWithin (λ w. answers w false) ws 0 (length ws)) (λ i. (i < length ws) × HoldsAt (λ w. answers w true) ws i × AllWithin (λ w. answers w false) ws 0 i)

pub never : {x : Bool} → x ≡ true → x ≡ false → ⊥
never t f = let e : true ≡ false = sym t ∙ f in let z : ◌≡◌ {A = ℕ} 0 1 = cc in omega arith

-- the ends of the branch that stands at k
pub stands : {X : Type 0} (f : X → Wire) (xs : List X) (k : ℕ) (w : Wire) (x : X) → k < length xs → w ≡ f x → x ≡ get_or xs k x → w ≡ at (map f xs) k
stands f xs k w x h e is = e ∙ ap f is ∙ sym (get_or-map f xs k x nowhere h)

-- ---- the first place from `start` on
below_past : (answers : Wire → Bool → Type 0) (ws : List Wire) (start n : ℕ) → AllWithin (λ w. answers w false) (drop start ws) 0 n → FailsAll answers ws start (start + n)
below_past answers ws start n h k lo hi =
    let e : start + (k - start) ≡ k = omega arith in
    let g = h (k - start) nowhere (omega arith) (omega arith) in
    subst (λ w. answers w false) (get_or-drop start ws (k - start) nowhere ∙ ap (λ j. at ws j) e) g

pub past_found : (answers : Wire → Bool → Type 0) (ws : List Wire) (start : ℕ) (r : Option ℕ) → IsFirst answers (drop start ws) r → MatchOption r (FailsAll answers ws start (length ws)) (λ i. FirstPast answers ws start (start + i))
past_found answers ws start None h = λ k lo hi. below_past answers ws start (length (drop start ws)) h k lo (omega (arith, length-drop start ws))
past_found answers ws start (Some i) h = record {
  order = omega arith;
  within = omega (arith, h.0, length-drop start ws);
  there = subst (λ w. answers w true) (get_or-drop start ws i nowhere) (h.1 nowhere);
  first = below_past answers ws start i h.2;
}

-- what is found says what is wanted
pub found_as : {A N N' : Type 0} {S S' : A → Type 0} (r : Option A) → (N → N') → ((x : A) → S x → S' x) → MatchOption r N S → MatchOption r N' S'
found_as (Some x) f g h = g x h
found_as None f g h = f h

-- ---- chains
one_meet : (ws : List Wire) (n : ℕ) (p q : Pair) → Meet ws n p → Meet ws n q → (p.low ≡ q.low) × (p.high ≡ q.high)
one_meet ws n p q a b =
    let low = a.alone q.low (omega (arith, b.order, b.within)) b.left in
    let high = a.alone q.high b.within b.right in (
      elim low [
        | inl x ↦ sym x
        | inr x ↦ elim high [ inl y ↦ omega (arith, a.order, b.order, x, y) | inr y ↦ omega (arith, b.order, x, y) ]
      ],
      elim high [
        | inl x ↦ elim low [ inl y ↦ omega (arith, b.order, x, y) | inr y ↦ omega (arith, a.order, b.order, x, y) ]
        | inr x ↦ sym x
      ],
    )

-- the far ends of the only two branches at n are the same
pub close_meet : (ws : List Wire) (port : Wire) (n : ℕ) (p : Pair) → Meet ws n p → far n (at ws p.low) ≡ far n (at ws p.high) → (q : Pair) → AreChain ws port n q → ⊥
close_meet ws port n p m same q c =
    let pairs = one_meet ws n p q m c.meet in
    let e : far n (at ws q.low) ≡ far n (at ws q.high) = ap (λ i. far n (at ws i)) (sym pairs.0) ∙ same ∙ ap (λ i. far n (at ws i)) pairs.1 in
    never (eq-eqb _ _ e) c.apart

-- the pair, if its far ends differ
pub chain_if : (ws : List Wire) (port : Wire) (n : ℕ) (p : Pair) (b : Bool) → Meet ws n p → touches n port ≡ false → nat_eq (far n (at ws p.low)) (far n (at ws p.high)) ≡ b → MatchOption (then_some (not b) p) ((q : Pair) → AreChain ws port n q → ⊥) (AreChain ws port n)
chain_if ws port n p true m inner same = close_meet ws port n p m (grind (arith, nat_tests))
chain_if ws port n p false m inner apart = record { meet = m; inner = inner; apart = apart }

-- ---- the largest node
abbrev pub larger : {X : Type 0} → (X → Wire) → ℕ → X → ℕ
larger f a x = max a (max (f x).from (f x).to)

end_within : (w : Wire) (n a : ℕ) → touches n w ≡ true → n ≤ max a (max w.from w.to)
end_within w n a t = grind (arith, nat_tests)

above_start : {X : Type 0} (f : X → Wire) (xs : List X) (a : ℕ) → a ≤ fold (larger f) a xs
above_start f [] a = le_refl a
above_start f (x ∷ xs) a = let h = above_start f xs (larger f a x) in omega arith

pub ends_within : {X : Type 0} (f : X → Wire) (xs : List X) (a k n : ℕ) → k < length xs → touches n (at (map f xs) k) ≡ true → n ≤ fold (larger f) a xs
ends_within f [] a k n h t = absurd (omega arith)
ends_within f (x ∷ xs) a zero n h t = let u = above_start f xs (larger f a x) in let w = end_within (f x) n a t in omega arith
ends_within f (x ∷ xs) a (suc k) n h t = ends_within f xs (larger f a x) k n (omega arith) t

-- ---- one choice
same_pair : (p q : Pair) → p.low ≡ q.low → p.high ≡ q.high → p ≡ q
same_pair p q a b = λ k. record { low = a k; high = b k }

pub one_choice : (ws : List Wire) (port : Wire) → OneChoice ws port
one_choice ws port (Twins p) (Twins q) a b =
    let low : p.low ≡ q.low = omega (arith, a.lowest q b.twins, b.lowest p a.twins) in
    let high : p.high ≡ q.high = omega (arith, a.nearest q b.twins (sym low), b.nearest p a.twins low) in
    ap Twins (same_pair p q low high)
one_choice ws port (Twins p) (Chain q m) a b = absurd (b.0 p a.twins)
one_choice ws port (Chain p n) (Twins q) a b = absurd (a.0 q b.twins)
one_choice ws port (Chain p n) (Chain q m) a b =
    let node : n ≡ m = omega (arith, a.1.first m q b.1.chain, b.1.first n p a.1.chain) in
    let there : Meet ws n q = subst (λ k. Meet ws k q) (sym node) b.1.chain.meet in
    let same = one_meet ws n p q a.1.chain.meet there in
    let pairs = same_pair p q same.0 same.1 in cc

pub stuck : (ws : List Wire) (port : Wire) → NoTwins ws → NoChain ws port → Stuck ws port
stuck ws port nt nc (Twins p) t = nt p t.twins
stuck ws port nt nc (Chain p n) t = nc n p t.1.chain
