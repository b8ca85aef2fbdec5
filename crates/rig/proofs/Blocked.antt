-- A block, sample by sample.
use Rattle.std.proofs.Common.{◌≡◌, ℕ, zero, suc, ◌+◌, ◌*◌, ◌/◌, ◌%◌, ◌<◌, ◌≤◌, false, List, [], ◌∷◌, ◌++◌, length, get_or, take, drop, ℤ, Ok, sym, refl, ap, ◌∙◌, subst, ap₂, append_assoc, arith, length-append, length-take, take_all, drop-drop}
use Rattle.std.specs.Simd.{first_chunks}
use Rattle.std.proofs.lemmas.List.{take_more, take-append-drop}
use Rattle.pcm.specs.Samples.{sample_wave, sample_bytes}
use Rattle.port.specs.declared.meaning.Port.{Ghosts as PortOf}
use Rattle.closing.specs.declared.meaning.Closing.{Ghosts as ClosingOf}
use Rattle.rig.specs.Runs.{Event, Run}
use Rattle.rig.specs.Runs.Event.{feed}
use Rattle.rig.specs.Runs.Run.{done, next}
use Rattle.rig.specs.Blocks.{waves_of, heard_bytes, feeds, Filtered, Passed}
use Rattle.rig.specs.declared.pages.Round.{Round}
use Rattle.rig.specs.declared.parts.Rig.{Rig}

pub waves_more : (xs : List ℕ) (low high : ℕ) → length xs % 2 ≡ 0 → waves_of (xs ++ (low ∷ high ∷ [])) ≡ waves_of xs ++ (sample_wave low high ∷ [])
waves_more [] low high h = refl
waves_more (x ∷ []) low high h = absurd (omega arith)
waves_more (x ∷ (y ∷ xs)) low high h = ap (λ l. sample_wave x y ∷ l) (waves_more xs low high (omega arith))

feeds_more : (es : List ℤ) (xs : List Round) (e : ℤ) (x : Round) → length xs ≡ length es → feeds (es ++ (e ∷ [])) (xs ++ (x ∷ [])) ≡ feeds es xs ++ (feed e (Ok x) ∷ [])
feeds_more [] [] e x h = refl
feeds_more [] (y ∷ xs) e x h = absurd (omega arith)
feeds_more (f ∷ es) [] e x h = absurd (omega arith)
feeds_more (f ∷ es) (y ∷ xs) e x h = ap (λ l. feed f (Ok y) ∷ l) (feeds_more es xs e x (omega arith))

heard_more : (xs : List Round) (x : Round) → heard_bytes (xs ++ (x ∷ [])) ≡ heard_bytes xs ++ sample_bytes x.heard
heard_more [] x = refl
heard_more (y ∷ xs) x = ap (λ l. sample_bytes y.heard ++ l) (heard_more xs x)

-- the samples of some bytes, each two of them
pub sample_at : (k : ℕ) (s : List ℕ) (i : ℕ) (d : List ℕ) → i < k → k * 2 ≤ length s → get_or (first_chunks 2 k s) i d ≡ get_or s (2 * i) 0 ∷ get_or s (2 * i + 1) 0 ∷ []
sample_at zero s i d h l = absurd (omega arith)
sample_at (suc k) [] i d h l = absurd (omega arith)
sample_at (suc k) (x ∷ []) i d h l = absurd (omega arith)
sample_at (suc k) (x ∷ (y ∷ s)) zero d h l = refl
sample_at (suc k) (x ∷ (y ∷ s)) (suc i) d h l =
    let low : suc (suc (2 * i)) ≡ 2 * suc i = omega arith in
    let high : suc (suc (2 * i + 1)) ≡ 2 * suc i + 1 = omega arith in
    sample_at k s i d (omega arith) (omega arith) ∙ ap₂ (λ m n. get_or (x ∷ (y ∷ s)) m 0 ∷ get_or (x ∷ (y ∷ s)) n 0 ∷ []) low high

-- two bytes more of the input
pub taken_two : (s : List ℕ) (i : ℕ) → 2 * i + 1 < length s → take (2 * (i + 1)) s ≡ take (2 * i) s ++ (get_or s (2 * i) 0 ∷ get_or s (2 * i + 1) 0 ∷ [])
taken_two s i h =
    let e : 2 * (i + 1) ≡ 2 * i + 1 + 1 = omega arith in
    let l : 2 * i < length s = omega arith in
    ap (λ n. take n s) e ∙ take_more s (2 * i + 1) 0 h ∙ ap (λ (t : List ℕ). t ++ (get_or s (2 * i + 1) 0 ∷ [])) (take_more s (2 * i) 0 l) ∙ append_assoc (take (2 * i) s) _ _

module _ {P C : Type 0} (ports : PortOf P) (closings : ClosingOf C) where
  pub run_more : {a b c : Rig P C} {xs ys : List Event} → Run ports closings a xs b → Run ports closings b ys c → Run ports closings a (xs ++ ys) c
  run_more done q = q
  run_more (next x s r) q = next x s (run_more r q)

  -- i samples of the input are fed, and what they gave is written
  pub record Progress (a : Rig P C) (input before : List ℕ) (i : ℕ) (b : Rig P C) (after : List ℕ) : Type 0 where
    pub rounds : List Round
    pub one_each : length rounds ≡ i
    pub waves : length (waves_of (take (2 * i) input)) ≡ i
    pub run : Run ports closings a (feeds (waves_of (take (2 * i) input)) rounds) b
    pub front : take (2 * i) after ≡ heard_bytes rounds
    pub back : drop (2 * i) after ≡ drop (2 * i) before
    pub idle : b.raised ≡ false
    pub entered : b.tally.entries ≡ a.tally.entries + i

  pub progress_start : (a : Rig P C) (input before : List ℕ) → a.raised ≡ false → Progress a input before 0 a before
  progress_start a input before h = record {
    rounds = [];
    one_each = refl;
    waves = refl;
    run = done;
    front = refl;
    back = refl;
    idle = h;
    entered = omega arith;
  }

  pub progress_step : (a : Rig P C) (input before : List ℕ) (i : ℕ) (b : Rig P C) (after out after' : List ℕ) (c : Rig P C) (ss : List (List ℕ)) (d : List ℕ)
      → ss ≡ first_chunks 2 (length input / 2) input → length ss ≡ length input / 2 → i < length ss → length input ≤ length before → Progress a input before i b after
      → Passed ports closings b (sample_wave (get_or (get_or ss i d) 0 0) (get_or (get_or ss i d) 1 0)) out c
      → take (2 * (i + 1)) after' ≡ take (2 * i) after ++ out → drop (2 * (i + 1)) after' ≡ drop (2 * (i + 1)) after
      → Progress a input before (i + 1) c after'
  progress_step a input before i b after out after' c ss d q l n k G u front back =
      let h : 2 * i + 1 < length input = omega (arith, l) in
      let p : Passed ports closings b (sample_wave (get_or input (2 * i) 0) (get_or input (2 * i + 1) 0)) out c =
      subst (λ (s : List ℕ). Passed ports closings b (sample_wave (get_or s 0 0) (get_or s 1 0)) out c) (ap (λ t. get_or t i d) q ∙ sample_at (length input / 2) input i d (omega (arith, l)) (omega arith)) u in
      let low = get_or input (2 * i) 0 in
      let high = get_or input (2 * i + 1) 0 in
      let e = sample_wave low high in
      let x = p.round in
      let ws = waves_of (take (2 * i) input) in
      let even : length (take (2 * i) input) % 2 ≡ 0 = omega (arith, length-take (2 * i) input) in
      let w : waves_of (take (2 * (i + 1)) input) ≡ ws ++ (e ∷ []) = ap waves_of (taken_two input i h) ∙ waves_more (take (2 * i) input) low high even in
      let f : feeds (waves_of (take (2 * (i + 1)) input)) (G.rounds ++ (x ∷ [])) ≡ feeds ws G.rounds ++ (feed e (Ok x) ∷ []) =
      ap (λ (l : List ℤ). feeds l (G.rounds ++ (x ∷ []))) w ∙ feeds_more ws G.rounds e x (omega (arith, G.one_each, G.waves)) in
      let n : 2 * i + 2 ≡ 2 * (i + 1) = omega arith in
      record {
        rounds = G.rounds ++ (x ∷ []);
        one_each = omega (arith, length-append G.rounds (x ∷ []), G.one_each);
        waves = ap length w ∙ omega (arith, length-append ws (e ∷ []), G.waves);
        run = subst (λ (l : List Event). Run ports closings a l c) (sym f) (run_more G.run p.run);
        front = front ∙ ap₂ ◌++◌ G.front p.heard ∙ sym (heard_more G.rounds x);
        back = back ∙ subst (λ m. drop m after ≡ drop m before) n (sym (drop-drop 2 (2 * i) after) ∙ ap (drop 2) G.back ∙ drop-drop 2 (2 * i) before);
        idle = p.idle;
        entered = omega (arith, p.entered, G.entered);
      }

  pub progress_end : (a : Rig P C) (input before : List ℕ) (i : ℕ) (b : Rig P C) (after : List ℕ) → 2 * i ≡ length input → Progress a input before i b after
      → Filtered ports closings a input before b after
  progress_end a input before i b after h G =
      let t = take_all (2 * i) input (omega arith) in
      record {
        rounds = G.rounds;
        one_each = G.one_each ∙ sym G.waves ∙ ap (λ (s : List ℕ). length (waves_of s)) t;
        run = subst (λ (s : List ℕ). Run ports closings a (feeds (waves_of s) G.rounds) b) t G.run;
        written = sym (take-append-drop (2 * i) after) ∙ ap₂ ◌++◌ G.front (G.back ∙ ap (λ n. drop n before) h);
      }
