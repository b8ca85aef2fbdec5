-- Two pieces, one after the other, are one piece; and a byte is a piece.
use Rattle.std.proofs.Common.{◌≡◌, ℕ, List, [], ◌∷◌, ◌++◌, ℤ, Some, None, Ok, Option, sym, refl, ap, ◌∙◌, subst, ap₂, append_assoc, append-nil, arith}
use Rattle.std.specs.Option.{option_to_list}
use Rattle.std.proofs.lemmas.Grind.{flat_map-append}
use Rattle.pcm.specs.Samples.{sample_wave, sample_bytes}
use Rattle.port.specs.declared.meaning.Port.{Ghosts as PortOf}
use Rattle.closing.specs.declared.meaning.Closing.{Ghosts as ClosingOf}
use Rattle.rig.specs.Blocks.{waves_of, heard_bytes}
use Rattle.rig.specs.Runs.{Run, Feeds}
use Rattle.rig.specs.Runs.Event.{feed}
use Rattle.rig.specs.Runs.Run.{done, next}
use Rattle.rig.proofs.Blocked.{run_more}
use Rattle.rig.specs.declared.pages.Page.{Page}
use Rattle.rig.specs.declared.pages.Round.{Round}
use Rattle.rig.specs.declared.parts.Rig.{Rig}
use Rattle.session.specs.Sessions.{turns, Plain, Fills}
use Rattle.session.proofs.Sums.{fed-++, all-++, round_fed, round_feeds, round_plain}
use Rattle.stream.specs.Pieces.{left_over, round_of, page_of, rounds, turned, Full, PieceFed, Pieced, AreOne, WhateverTheCuts}

waves_cut : (xs ys : List ℕ) → waves_of (xs ++ ys) ≡ waves_of xs ++ waves_of (left_over xs ++ ys)
waves_cut [] ys = refl
waves_cut (b ∷ []) ys = refl
waves_cut (l ∷ (h ∷ r)) ys = ap (λ (t : List ℤ). sample_wave l h ∷ t) (waves_cut r ys)

over_cut : (xs ys : List ℕ) → left_over (xs ++ ys) ≡ left_over (left_over xs ++ ys)
over_cut [] ys = refl
over_cut (b ∷ []) ys = refl
over_cut (l ∷ (h ∷ r)) ys = over_cut r ys

heard-++ : (xs ys : List Round) → heard_bytes (xs ++ ys) ≡ heard_bytes xs ++ heard_bytes ys
heard-++ [] ys = refl
heard-++ (x ∷ xs) ys = ap (λ (t : List ℕ). sample_bytes x.heard ++ t) (heard-++ xs ys) ∙ sym (append_assoc (sample_bytes x.heard) (heard_bytes xs) (heard_bytes ys))

full-++ : (p r : List Page) → Full p → Full r → Full (p ++ r)
full-++ [] r h k = k
full-++ (x ∷ p) r h k = (h.0, full-++ p r h.1 k)

-- a round, and the page that it filled
round_rounds : (e : ℤ) (x : Round) (p : Option Page) → rounds (feed e (Ok x) ∷ turns p) ≡ x ∷ []
round_rounds e x None = refl
round_rounds e x (Some p) = refl

round_turned : (e : ℤ) (x : Round) (p : Option Page) → turned (feed e (Ok x) ∷ turns p) ≡ option_to_list p
round_turned e x None = refl
round_turned e x (Some p) = refl

module _ {P C : Type 0} (ports : PortOf P) (closings : ClosingOf C) where
  pieces_fed : AreOne {P = P} {C = C} ports closings (PieceFed ports closings)
  pieces_fed a b c l m n x y o q p r A B =
      let w = option_to_list l ++ x in
      let s : option_to_list l ++ (x ++ y) ≡ w ++ y = sym (append_assoc (option_to_list l) x y) in
      record {
        calls = A.calls ++ B.calls;
        run = run_more ports closings A.run B.run;
        feeds = all-++ (Feeds (λ e. Unit {0})) A.calls B.calls A.feeds B.feeds;
        samples = fed-++ A.calls B.calls ∙ ap₂ (λ (t : List ℤ) (u : List ℤ). t ++ u) A.samples (B.samples ∙ ap (λ (t : List ℕ). waves_of (t ++ y)) A.waits)
            ∙ sym (ap waves_of s ∙ waves_cut w y);
        heard = ap₂ (λ (t : List ℕ) (u : List ℕ). t ++ u) A.heard B.heard ∙ sym (ap heard_bytes (flat_map-append round_of A.calls B.calls) ∙ heard-++ (rounds A.calls) (rounds B.calls));
        turns = ap₂ (λ (t : List Page) (u : List Page). t ++ u) A.turns B.turns ∙ sym (flat_map-append page_of A.calls B.calls);
        full = full-++ p r A.full B.full;
        waits = B.waits ∙ ap (λ (t : List ℕ). left_over (t ++ y)) A.waits ∙ sym (ap left_over s ∙ over_cut w y);
      }

  pub pieces_joined : AreOne {P = P} {C = C} ports closings (Pieced ports closings)
  unfolding pieces_fed
  pieces_joined a b c l m n x y o q p r A B = record {
    bytes = pieces_fed a b c l m n x y o q p r A.bytes B.bytes;
    plain = all-++ Plain A.bytes.calls B.bytes.calls A.plain B.plain;
  }

  pub whatever_the_cuts : WhateverTheCuts {P = P} {C = C} ports closings
  whatever_the_cuts = (pieces_fed, pieces_joined)

  -- nothing yet
  pub no_piece : (a : Rig P C) (l : Option ℕ) → Pieced ports closings a l [] [] [] a l
  no_piece a None = record { bytes = record { calls = []; run = done; feeds = tt; samples = refl; heard = refl; turns = refl; full = tt; waits = refl }; plain = tt }
  no_piece a (Some b) = record { bytes = record { calls = []; run = done; feeds = tt; samples = refl; heard = refl; turns = refl; full = tt; waits = refl }; plain = tt }

  -- a byte that waits
  pub first_byte : (a : Rig P C) (l : Option ℕ) (b : ℕ) → l ≡ None → Pieced ports closings a l (b ∷ []) [] [] a (Some b)
  first_byte a l b e = subst (λ (t : Option ℕ). Pieced ports closings a t (b ∷ []) [] [] a (Some b)) (sym e)
      record { bytes = record { calls = []; run = done; feeds = tt; samples = refl; heard = refl; turns = refl; full = tt; waits = refl }; plain = tt }

  filled : (a : Rig P C) (e : ℤ) (x : Round) (p : Option Page) (b : Rig P C) → Run ports closings a (feed e (Ok x) ∷ turns p) b → Fills a p → Full (option_to_list p)
  filled a e x None b r f = tt
  filled a e x (Some p) b (next y s (next z t q)) f = (ap (λ (g : Page). g.entries) t.1.answer ∙ omega (arith, s.2.round.tally.entries, f), tt)

  -- a byte that completes a sample
  pub second_byte : (a : Rig P C) (l m : Option ℕ) (low b : ℕ) (x : Round) (p : Option Page) (out : List ℕ) (c : Rig P C) → l ≡ Some low → m ≡ None
      → Run ports closings a (feed (sample_wave low b) (Ok x) ∷ turns p) c → Fills a p → out ≡ sample_bytes x.heard
      → Pieced ports closings a l (b ∷ []) out (option_to_list p) c m
  second_byte a l m low b x p out c e n r f h = record {
    bytes = record {
      calls = feed (sample_wave low b) (Ok x) ∷ turns p;
      run = r;
      feeds = round_feeds (λ e. Unit {0}) (sample_wave low b) x p tt;
      samples = round_fed (sample_wave low b) x p ∙ ap (λ t. waves_of (option_to_list t ++ (b ∷ []))) (sym e);
      heard = h ∙ sym (ap heard_bytes (round_rounds (sample_wave low b) x p) ∙ append-nil (sample_bytes x.heard));
      turns = sym (round_turned (sample_wave low b) x p);
      full = filled a (sample_wave low b) x p c r f;
      waits = ap option_to_list n ∙ ap (λ t. left_over (option_to_list t ++ (b ∷ []))) (sym e);
    };
    plain = round_plain (sample_wave low b) x p;
  }
