-- A part that shows what is read off a port has its numbers.
use Rattle.std.proofs.Common.{◌≡◌, Bool, true, false, ◌&&◌, refl, eqb-true}
use Rattle.port.specs.Meaning.{Readings, Kept}
use Rattle.port.specs.Parts.{shows}
use Rattle.port.specs.declared.parts.fixed.Part.{Part}

pub record Shown (p : Part) (a : Readings) : Type 0 where
  pub num : p.ratio.num ≡ a.num
  pub den : p.ratio.den ≡ a.den
  pub size : p.size ≡ a.size
  pub ears : p.ears ≡ a.ears

pub and_left : (x y : Bool) → (x && y) ≡ true → x ≡ true
and_left true y h = refl
and_left false y h = h

pub and_right : (x y : Bool) → (x && y) ≡ true → y ≡ true
and_right true y h = h
and_right false y h = cc

pub shown : (p : Part) (a : Readings) → shows p a ≡ true → Shown p a
shown p a h =
    let x₂ = and_left _ _ h in let x₁ = and_left _ _ x₂ in
    record { num = eqb-true _ _ (and_left _ _ x₁); den = eqb-true _ _ (and_right _ _ x₁); size = eqb-true _ _ (and_right _ _ x₂); ears = eqb-true _ _ (and_right _ _ h) }

pub shows_kept : (p : Part) (a b : Readings) → Kept a b → shows p b ≡ shows p a
shows_kept p a b k = simp (k.num, k.den, k.size, k.ears)
