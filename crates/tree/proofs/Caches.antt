-- The waves that a tree's joints keep at hand.
use Rattle.std.proofs.Common.{◌≡◌, ℕ, ◌+◌, Fits, w64, min, true, ℤ, pos, ◌+ℤ◌, Box, refl, ap, ◌∙◌, subst, ap₂, arith}
use Rattle.std.specs.declared.alloc.Global.{Global}
use native.Mathlib.Nat.{zero-div}
use lib.IntN.{*ℤ-zero}
use Rattle.wave.specs.Numbers.{short, largest_wave}
use Rattle.adaptor.specs.Ways.{rises}
use Rattle.adaptor.specs.declared.ways.Way.{Way}
use Rattle.adaptor.specs.declared.ways.Way.TheVariants.{Series, Parallel}
use Rattle.adaptor.specs.Joints.{rising_exact, rising_over}
use Rattle.tree.specs.Models.{Model, leaf, join, reads, fitted, taken, cleared, to_left, to_right}
use Rattle.tree.specs.Trees.{Holds, HoldsAt}
use Rattle.tree.specs.declared.trees.Knot.{Knot}
use Rattle.tree.specs.declared.trees.Tree.{Tree}
use Rattle.tree.specs.declared.trees.Node.{Node}
use Rattle.tree.specs.declared.trees.Node.TheVariants.{Join}
use Rattle.tree.specs.declared.elements.Body.{Body}
use Rattle.tree.specs.declared.elements.Body.TheVariants.{Store, Resist}
use Rattle.port.specs.Elements.{raised}
use Rattle.port.specs.declared.elements.StorageKind.{StorageKind}
use Rattle.port.specs.declared.elements.StorageKind.TheVariants.{Capacitor, Coil}
use Rattle.tree.specs.Elements.{body_reads, body_cleared}
use Rattle.tree.specs.Law.{fits_left, fits_right, fits_taken, stored_most}

-- what is known of a tree whose node is a join
pub held : {n : Node} {k : Knot} {a b : Box Tree Global} → Holds n → n ≡ Join k a b → HoldsAt k a.value b.value
held h is = subst Holds is h

-- two parts after they took a falling wave, or were cleared, under the same joint
pub still_taken : (k : Knot) (a b m n : Model) (f : ℤ) → HoldsAt k a b →
    m ≡ taken a (to_left k.joint (reads a) (reads b) f) → n ≡ taken b (to_right k.joint (reads a) (reads b) f) → fitted (join k.joint m n) ≡ true
still_taken k a b m n f h x y = ap₂ (λ s t. fitted (join k.joint s t)) x y ∙ fits_taken (join k.joint a b) f ∙ h.fits

-- ---- what two parts store is no more than a number holds
pub stored_sum : (k : Knot) (a b : Model) (x y : ℕ) → HoldsAt k a b → x ≡ (reads a).stored → y ≡ (reads b).stored → Fits w64 (x + y)
stored_sum k a b x y h p q = omega (arith, p, q, stored_most a (fits_left k.joint a b h.fits), stored_most b (fits_right k.joint a b h.fits))

-- ---- from what is cleared nothing rises
rises_zero : (w : Way) (p s : ℕ) → rises w p (pos 0) s (pos 0) ≡ pos 0
rises_zero Series p s = refl
rises_zero Parallel p s = ap₂ (λ x y. x +ℤ y) (*ℤ-zero (pos p)) (*ℤ-zero (pos s))

short_zero : (d : ℕ) → short (pos 0) d ≡ pos 0
short_zero d = ap (λ n. pos (min n largest_wave)) (zero-div d)

body_zero : (b : Body) → (body_reads (body_cleared b)).rising ≡ pos 0
body_zero (Store c) = raised_zero c.kind where
  raised_zero : (k : StorageKind) → raised k (pos 0) ≡ pos 0
  raised_zero Capacitor = refl
  raised_zero Coil = refl
body_zero (Resist r) = refl

pub rising_cleared : (m : Model) → (reads (cleared m)).rising ≡ pos 0
rising_cleared (leaf e) = body_zero e.body
rising_cleared (join j a b) =
    ap₂ (λ x y. short (rising_exact j x y) (rising_over j)) (rising_cleared a) (rising_cleared b)
    ∙ ap (λ z. short z (rising_over j)) (rises_zero j.way j.shares.num j.shares.den)
    ∙ short_zero (rising_over j)
