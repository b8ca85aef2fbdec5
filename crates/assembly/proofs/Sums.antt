-- A step keeps the sums over all branches.
use Rattle.std.proofs.Common.{◌≡◌, ℕ, zero, suc, ◌+◌, ◌<◌, ◌≤◌, List, [], ◌∷◌, map, length, get_or, set, sum_by, refl, ap, arith}
use Rattle.std.specs.List.{remove, insert}
use Rattle.std.proofs.lemmas.List.{get_or-set_other, length-set}
use Rattle.std.proofs.lemmas.List.Edits.{get_or-remove_below, length-remove}
use Rattle.std.proofs.lemmas.List.Sums.{sum_by-remove, sum_by-set, get_or-le-sum_by}

-- to take out the later and the former and put c in the former's place is to set c there and take out the later
pub put_back : {X : Type 0} (xs : List X) (i j : ℕ) (c : X) → i < j → j < length xs → insert (remove (remove xs j) i) i c ≡ remove (set xs i c) j
put_back [] i j c lo hi = absurd (let no : ⊥ = omega arith in no)
put_back (x ∷ xs) i zero c lo hi = absurd (let no : ⊥ = omega arith in no)
put_back (x ∷ xs) zero (suc j) c lo hi = refl
put_back (x ∷ xs) (suc i) (suc j) c lo hi = ap (λ ys. x ∷ ys) (put_back xs i j c (omega arith) (omega arith))

pub map_removed : {X Y : Type 0} (f : X → Y) (xs : List X) (i : ℕ) → map f (remove xs i) ≡ remove (map f xs) i
map_removed f [] zero = refl
map_removed f [] (suc i) = refl
map_removed f (x ∷ xs) zero = refl
map_removed f (x ∷ xs) (suc i) = ap (λ ys. f x ∷ ys) (map_removed f xs i)

apart : (i j : ℕ) → i < j → j ≡ i → ⊥
apart i j h e = omega arith

-- c stands for both
pub sum_step : {X : Type 0} (f : X → ℕ) (xs : List X) (i j : ℕ) (c d : X) → i < j → j < length xs → f c ≡ f (get_or xs i d) + f (get_or xs j d) → sum_by f (remove (set xs i c) j) ≡ sum_by f xs
sum_step f xs i j c d lo hi e =
    let a = sum_by-set f xs i c d (omega arith) in
    let n = length-set xs i c in
    let b = sum_by-remove f (set xs i c) j d (omega arith) in
    let g : f (get_or (set xs i c) j d) ≡ f (get_or xs j d) = ap f (get_or-set_other xs i j c d (apart i j lo)) in
    omega (arith, a, b, g, e)

-- two of them are no more than all
pub sum_two : {X : Type 0} (f : X → ℕ) (xs : List X) (i j : ℕ) (d : X) → i < j → j < length xs → f (get_or xs i d) + f (get_or xs j d) ≤ sum_by f xs
sum_two f xs i j d lo hi =
    let a = sum_by-remove f xs j d hi in
    let n = length-remove xs j hi in
    let b = get_or-le-sum_by f (remove xs j) i d (omega arith) in
    let g : f (get_or (remove xs j) i d) ≡ f (get_or xs i d) = ap f (get_or-remove_below xs j d i lo hi) in
    omega (arith, a, b, g)
