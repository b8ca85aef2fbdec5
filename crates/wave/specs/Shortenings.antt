-- What shortening answers.
use Rattle.std.specs.Prelude.{◌≡◌, ℕ, cond, ℤ}
use Rattle.wave.specs.Numbers.{short, cut}
use Rattle.wave.specs.declared.shortening.shortened.Shortened.{Shortened}

-- x is the exact value z / d, shortened
pub record Shortens (z : ℤ) (d : ℕ) (x : Shortened) : Type 0 where
  pub wave : x.wave.value ≡ short z d
  pub cut : cond x.cut 1 0 ≡ cut z d
