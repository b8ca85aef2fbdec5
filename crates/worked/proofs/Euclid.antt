-- Greatest common divisors of given numbers, by Euclid's way.
use Rattle.std.proofs.Common.{refl, arith}
use Rattle.std.proofs.lemmas.Nat.Gcd.{IsGcd-from_zero, IsGcd-from_mod}
use Rattle.wave.proofs.Divided.{gcd_of}
use Rattle.wave.specs.Terms.{Reduced}

pub shunt_shares : Reduced 320 166 160 83
shunt_shares =
    let d = IsGcd-from_mod 320 166 2 (IsGcd-from_mod 166 154 2 (IsGcd-from_mod 154 12 2 (IsGcd-from_mod 12 10 2 (IsGcd-from_mod 10 2 2 (IsGcd-from_zero 2 0 refl))))) in
    record { by = 2; gcd = gcd_of 320 166 2 (omega arith) d; left = refl; right = refl }

pub shunt_ratio : Reduced 486 1 486 1
shunt_ratio =
    let d = IsGcd-from_mod 486 1 1 (IsGcd-from_zero 1 0 refl) in
    record { by = 1; gcd = gcd_of 486 1 1 (omega arith) d; left = refl; right = refl }

pub line_shares : Reduced 31 486 31 486
line_shares =
    let d = IsGcd-from_mod 31 486 1 (IsGcd-from_mod 486 31 1 (IsGcd-from_mod 31 21 1 (IsGcd-from_mod 21 10 1 (IsGcd-from_mod 10 1 1 (IsGcd-from_zero 1 0 refl))))) in
    record { by = 1; gcd = gcd_of 31 486 1 (omega arith) d; left = refl; right = refl }

pub line_ratio : Reduced 15066 517 15066 517
line_ratio =
    let d = IsGcd-from_mod 15066 517 1 (IsGcd-from_mod 517 73 1 (IsGcd-from_mod 73 6 1 (IsGcd-from_mod 6 1 1 (IsGcd-from_zero 1 0 refl)))) in
    record { by = 1; gcd = gcd_of 15066 517 1 (omega arith) d; left = refl; right = refl }
