-- A source holds what it is asked, and gives no more than its offer.
use Rattle.std.specs.Prelude.{◌≡◌, ℕ, ◌+◌, ◌*◌, ◌≤◌, [], ◌∷◌, ℤ, pos, negsuc, ◌+ℤ◌, ◌-ℤ◌, ◌*ℤ◌, unsigned_abs, refl}
use Rattle.std.proofs.Common.{sym, ap₂, mul_assoc, arith}
use Rattle.std.proofs.lemmas.Int.{ints}
use Rattle.lemmas.proofs.Ring.{ring_by, v, k, ◌⊕◌, ◌⊗◌, by, done}
use Rattle.lemmas.proofs.Offers.{offer_most}
use Rattle.wave.specs.Numbers.{largest_wave, sq, held, short, lost}
use Rattle.wave.proofs.Losses.{held_most, held_same, short_most, lost_is}
use Rattle.wave.specs.declared.ratios.lowest.Ratio.{Ratio}
use Rattle.closing.specs.Kinds.{source_exact, source_answers, source_offers}
use Rattle.closing.specs.declared.kinds.Source.{Source}

held_held : (r : ℤ) → held r ≡ held (held r)
held_held r = sym (held_same (held r) (held_most r))

pub source_holds : (s : Source) (r e : ℤ) (q : Ratio) → source_answers s r e q ≡ source_answers s (held r) (held e) q
source_holds s r e q =
    let b = q.den * s.weight.value in
    ap₂ (λ x y. short (source_exact q.num b x y) (q.num + b)) (held_held r) (held_held e)

pub source_wave : (s : Source) (r e : ℤ) (q : Ratio) → unsigned_abs (source_answers s r e q) ≤ largest_wave
source_wave s r e q = short_most (source_exact q.num (q.den * s.weight.value) (held r) (held e)) (q.num + q.den * s.weight.value)

pub source_within : (s : Source) (r e : ℤ) (q : Ratio) → q.num * sq (source_answers s r e q) ≤ q.num * sq (held r) + q.den * source_offers s e
source_within s r e q =
    let b = q.den * s.weight.value in
    let z = source_exact q.num b (held r) (held e) in
    let h = offer_most q.num b (held r) (held e) (sq (short z (q.num + b))) (lost z (q.num + b)) (omega (arith, q.above)) (lost_is z (q.num + b)) in
    omega (arith, h, mul_assoc q.den s.weight.value (sq (held e)))

-- as the code computes it
pub source_mixed : (n d g : ℕ) (r e : ℤ) → pos n *ℤ r +ℤ pos d *ℤ (pos g *ℤ (pos 2 *ℤ e -ℤ r)) ≡ source_exact n (d * g) r e
source_mixed n d g r e =
    let N = v 0 in let D = v 1 in let G = v 2 in let R = v 3 in let E = v 4 in let X = v 5 in let M = v 6 in
    let m = k (negsuc 0) in
    let i : pos 2 *ℤ e -ℤ r ≡ pos 2 *ℤ e +ℤ negsuc 0 *ℤ r = omega (arith, ints) in
    let j : pos n -ℤ pos (d * g) ≡ pos n +ℤ negsuc 0 *ℤ pos (d * g) = omega (arith, ints) in
    ring_by (pos n ∷ pos d ∷ pos g ∷ r ∷ e ∷ (pos 2 *ℤ e -ℤ r) ∷ (pos n -ℤ pos (d * g)) ∷ [])
    (by (D ⊗ G) X (k (pos 2) ⊗ E ⊕ m ⊗ R) (by (m ⊗ R) M (N ⊕ m ⊗ (D ⊗ G)) done))
    (N ⊗ R ⊕ D ⊗ (G ⊗ X)) (k (pos 2) ⊗ (D ⊗ G) ⊗ E ⊕ M ⊗ R) refl (i, (j, tt))
