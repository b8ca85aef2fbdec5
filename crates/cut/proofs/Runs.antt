-- The bytes from a place on that pass a test, as far as an end.
use Rattle.std.proofs.Common.{◌≡◌, ℕ, ◌+◌, ◌-◌, ◌<◌, ◌≤◌, Bool, true, false, List, length, get_or, take, drop, sym, ap, ◌∙◌, arith, get_or-take, length-drop, length-take-le}
use Rattle.std.specs.List.{prefix_len}
use Rattle.std.proofs.lemmas.List.{get_or-drop}
use Rattle.std.proofs.lemmas.List.Sums.{prefix_len-le-length, prefix_len_passes, prefix_len_stops}

module _ (p : ℕ → Bool) (t : List ℕ) (a b n : ℕ) (low : a ≤ b) (high : b ≤ length t) (run : n ≡ prefix_len p (take (b - a) (drop a t))) where
  part_len : length (take (b - a) (drop a t)) ≡ b - a
  part_len = length-take-le (b - a) (drop a t) (omega (arith, length-drop a t))

  at : (k : ℕ) → a ≤ k → k < b → get_or (take (b - a) (drop a t)) (k - a) 0 ≡ get_or t k 0
  at k l m = get_or-take (b - a) (drop a t) (k - a) 0 (omega arith) ∙ get_or-drop a t (k - a) 0 ∙ ap (λ i. get_or t i 0) (omega arith)

  pub run_within : a + n ≤ b
  run_within = omega (arith, part_len, prefix_len-le-length p (take (b - a) (drop a t)))

  pub run_passes : (k : ℕ) → a ≤ k → k < a + n → p (get_or t k 0) ≡ true
  run_passes k l m = sym (ap p (at k l (omega (arith, run_within)))) ∙ prefix_len_passes p (take (b - a) (drop a t)) (k - a) 0 (omega arith)

  pub run_stops : a + n < b → p (get_or t (a + n) 0) ≡ false
  run_stops l =
      let e : n ≡ a + n - a = omega arith in
      sym (ap p (at (a + n) (omega arith) l)) ∙ ap (λ i. p (get_or (take (b - a) (drop a t)) i 0)) (sym e ∙ run) ∙ prefix_len_stops p (take (b - a) (drop a t)) 0 (omega (arith, part_len))
