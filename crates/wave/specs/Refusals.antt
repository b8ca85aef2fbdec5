-- When a number is no weight and when two numbers make no ratio, and how each refusal is told.
use Rattle.std.specs.Prelude.{◌≡◌, ℕ, ◌<◌, min, max, ◌⊎◌}
use Rattle.told.specs.declared.Told.{Told}
use Rattle.wave.specs.Numbers.{largest_weight}
use Rattle.wave.specs.Terms.{Reduced, largest_number}
use Rattle.wave.specs.declared.ratios.RatioRefusal.{RatioRefusal}
use Rattle.wave.specs.declared.ratios.RatioRefusal.TheVariants.{Zero, Large}
use Rattle.wave.specs.declared.weights.WeightRefusal.{WeightRefusal}
use Rattle.wave.specs.declared.weights.WeightRefusal.TheVariants.{Outside}

abbrev pub NoWeight : ℕ → WeightRefusal → Type 0
NoWeight w Outside = (w ≡ 0) ⊎ (largest_weight < w)

abbrev pub weight_row : WeightRefusal → Told
weight_row Outside = record { layer = 2; number = 12; place = 0 }

-- reduced, one of the two is over the largest number
pub record Past (a b : ℕ) : Type 0 where
  pub num : ℕ
  pub den : ℕ
  pub above : 0 < min a b
  pub reduced : Reduced a b num den
  pub past : largest_number < max num den

abbrev pub NoRatio : ℕ → ℕ → RatioRefusal → Type 0
NoRatio a b Zero = min a b ≡ 0
NoRatio a b Large = Past a b

abbrev pub ratio_row : RatioRefusal → Told
ratio_row Zero = record { layer = 2; number = 14; place = 0 }
ratio_row Large = record { layer = 2; number = 14; place = 0 }
