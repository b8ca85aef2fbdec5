-- The two ways to join: the ratio of the whole, and the exact waves of a round (Fettweis 1986).
use Rattle.std.specs.Prelude.{ℕ, ◌+◌, ◌*◌, Bool, true, false, ℤ, pos, ◌+ℤ◌, ◌-ℤ◌, ◌*ℤ◌}
use Rattle.adaptor.specs.declared.ways.Way.{Way}
use Rattle.adaptor.specs.declared.ways.Way.TheVariants.{Series, Parallel}

abbrev pub in_series : Way → Bool
in_series Series = true
in_series Parallel = false

-- the ratio of n₁/d₁ and n₂/d₂ as a whole is whole-num / whole-den
abbrev pub whole_num : Way → ℕ → ℕ → ℕ → ℕ → ℕ
whole_num Series n₁ d₁ n₂ d₂ = n₁ * n₂
whole_num Parallel n₁ d₁ n₂ d₂ = n₁ * d₂ + n₂ * d₁

abbrev pub whole_den : Way → ℕ → ℕ → ℕ → ℕ → ℕ
whole_den Series n₁ d₁ n₂ d₂ = n₁ * d₂ + n₂ * d₁
whole_den Parallel n₁ d₁ n₂ d₂ = d₁ * d₂

-- parts of the shares p and s of q raise r and t: the exact rising wave is rises / rises-over
abbrev pub rises : Way → ℕ → ℤ → ℕ → ℤ → ℤ
rises Series p r s t = r +ℤ t
rises Parallel p r s t = pos p *ℤ r +ℤ pos s *ℤ t

abbrev pub rises_over : Way → ℕ → ℕ
rises_over Series q = 1
rises_over Parallel q = q

-- where f falls on the whole, falls / q falls to the part of share p that raises r
abbrev pub falls : Way → ℕ → ℕ → ℤ → ℕ → ℤ → ℤ → ℤ
falls Series q p r s t f = pos q *ℤ r +ℤ pos s *ℤ (f -ℤ (r +ℤ t))
falls Parallel q p r s t f = pos p *ℤ r +ℤ pos s *ℤ t +ℤ pos q *ℤ (f -ℤ r)
