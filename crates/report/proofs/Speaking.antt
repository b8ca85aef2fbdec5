-- Samples and silence, round by round.
use Rattle.std.proofs.Common.{◌≡◌, ℕ, suc, ◌+◌, ◌*◌, ◌/◌, ◌%◌, ◌<◌, ◌≤◌, min, Bool, true, false, cond, eqb, ◌⊎◌, List, [], ◌∷◌, ◌++◌, length, get_or, take, ℤ, pos, ◌+ℤ◌, Ok, Option, sym, refl, ap, ◌∙◌, subst, ap₂, arith, length-take}
use Rattle.std.proofs.lemmas.Int.{ints}
use Rattle.std.specs.Simd.{first_chunks}
use Rattle.pcm.specs.Samples.{sample_wave}
use Rattle.port.specs.declared.meaning.Port.{Ghosts as PortOf}
use Rattle.closing.specs.declared.meaning.Closing.{Ghosts as ClosingOf}
use Rattle.rig.specs.Blocks.{waves_of}
use Rattle.rig.proofs.Blocked.{run_more, waves_more, taken_two, sample_at}
use Rattle.rig.specs.Runs.{Event, Run, All, Feeds, of_round, of_clear, swing}
use Rattle.rig.specs.Runs.Event.{feed}
use Rattle.rig.specs.Runs.Run.{done}
use Rattle.rig.specs.declared.pages.Page.{Page}
use Rattle.rig.specs.declared.pages.Round.{Round}
use Rattle.rig.specs.declared.parts.Rig.{Rig}
use Rattle.report.specs.Accounts.{Empty, CountsRound}
use Rattle.session.specs.Sessions.{turns, fed, Plain}
use Rattle.report.specs.Reports.{longest_silence, quiet, idle_after, Adds, Longer, Hush, Spoken, Rested}
use Rattle.report.specs.declared.accounts.account.Account.{Account}
use Rattle.report.specs.declared.reports.Silence.{Silence}
use Rattle.session.proofs.Sums.{sum-++, swing-++, fed-++, all-++, Comes, round_comes, round_busy, round_fed, round_feeds, round_plain}
use Rattle.report.proofs.Idle.{idle-++, round_idle, awaits-++, round_awaits}

waves_pairs : (s : List ℕ) → waves_of (take (2 * (length s / 2)) s) ≡ waves_of s
waves_pairs [] = refl
waves_pairs (x ∷ []) = refl
waves_pairs (x ∷ (y ∷ s)) =
    let e : 2 * (suc (suc (length s)) / 2) ≡ suc (suc (2 * (length s / 2))) = omega arith in
    ap (λ n. waves_of (take n (x ∷ (y ∷ s)))) e ∙ ap (λ (l : List ℤ). sample_wave x y ∷ l) (waves_pairs s)

added : (v a b w t : ℤ) → w ≡ v +ℤ a → t ≡ w +ℤ b → t ≡ v +ℤ (a +ℤ b)
added v a b w t h k = omega (arith, ints)

-- sums over xs and then ys, where ys comes to these
pub adds_more : (p q r : Account) (xs ys : List Event) (n A D c : ℕ) (w : ℤ) → Adds p xs q → Comes ys n A D c w → r.entries ≡ q.entries + n → r.absorbed ≡ q.absorbed + A
    → r.dropped ≡ q.dropped + D → r.shortened ≡ q.shortened + c → r.swing ≡ q.swing +ℤ w → Adds p (xs ++ ys) r
adds_more p q r xs ys n A D c w a y en eA eD ec ew = record {
  entries = omega (arith, a.entries, y.entered, en, sum-++ (λ x. of_round (λ z. 1) x + of_clear (λ z. 1) x) xs ys);
  absorbed = omega (arith, a.absorbed, y.absorbs, eA, sum-++ (of_round (λ x. x.absorbed)) xs ys);
  dropped = omega (arith, a.dropped, y.drops, eD, sum-++ (of_clear (λ z. z)) xs ys);
  shortened = omega (arith, a.shortened, y.shortens, ec, sum-++ (of_round (λ x. x.shortened)) xs ys);
  swing = added p.swing (swing xs) (swing ys) q.swing r.swing a.swing (ew ∙ ap (λ z. q.swing +ℤ z) (sym y.swings)) ∙ ap (λ z. p.swing +ℤ z) (sym (swing-++ xs ys));
}

nothing : (v : ℤ) → v ≡ v +ℤ pos 0
nothing v = omega (arith, ints)

pub adds_none : (p : Account) → Adds p [] p
adds_none p = record { entries = omega arith; absorbed = omega arith; dropped = omega arith; shortened = omega arith; swing = nothing p.swing }

pub adds_round : (p q r : Account) (xs : List Event) (e : ℤ) (x : Round) (g : Option Page) → Adds p xs q → CountsRound q x r → Adds p (xs ++ (feed e (Ok x) ∷ turns g)) r
adds_round p q r xs e x g a k =
    adds_more p q r xs _ _ _ _ _ _ a (round_comes e x g) k.entries k.absorbed (omega (arith, k.dropped)) k.shortened k.swing

module _ {P C : Type 0} (ports : PortOf P) (closings : ClosingOf C) where
  -- i samples are fed
  pub record Said (a : Rig P C) (samples : List ℕ) (p : Account) (i : ℕ) (x : Account) (b : Rig P C) : Type 0 where
    pub calls : List Event
    pub run : Run ports closings a calls b
    pub feeds : All (Feeds (λ e. Unit {0})) calls
    pub plain : All Plain calls
    pub all : fed calls ≡ waves_of (take (2 * i) samples)
    pub adds : Adds p calls x
    pub count : x.entries ≡ p.entries + i

  pub said_start : (a : Rig P C) (samples : List ℕ) (p : Account) → Said a samples p 0 p a
  said_start a samples p = record { calls = []; run = done; feeds = tt; plain = tt; all = refl; adds = adds_none p; count = omega arith }

  pub said_more : (a : Rig P C) (samples : List ℕ) (p : Account) (i : ℕ) (x : Account) (b : Rig P C) (r : Round) (g : Option Page) (c : Rig P C) (y : Account) → (ss : List (List ℕ)) (d : List ℕ)
      → ss ≡ first_chunks 2 (length samples / 2) samples → length ss ≡ length samples / 2 → i < length ss → Said a samples p i x b
      → Run ports closings b (feed (sample_wave (get_or (get_or ss i d) 0 0) (get_or (get_or ss i d) 1 0)) (Ok r) ∷ turns g) c → CountsRound x r y
      → Said a samples p (i + 1) y c
  said_more a samples p i x b r g c y ss d f m j s u k =
      let h : 2 * i + 1 < length samples = omega (arith, m) in
      let e = sample_wave (get_or samples (2 * i) 0) (get_or samples (2 * i + 1) 0) in
      let q : Run ports closings b (feed e (Ok r) ∷ turns g) c =
      subst (λ (t : List ℕ). Run ports closings b (feed (sample_wave (get_or t 0 0) (get_or t 1 0)) (Ok r) ∷ turns g) c)
      (ap (λ t. get_or t i d) f ∙ sample_at (length samples / 2) samples i d (omega (arith, m)) (omega arith)) u in
      let l = feed e (Ok r) ∷ turns g in
      let even : length (take (2 * i) samples) % 2 ≡ 0 = omega (arith, length-take (2 * i) samples) in
      record {
        calls = s.calls ++ l;
        run = run_more ports closings s.run q;
        feeds = all-++ (Feeds (λ e. Unit {0})) s.calls l s.feeds (round_feeds (λ e. Unit {0}) e r g tt);
        plain = all-++ Plain s.calls l s.plain (round_plain e r g);
        all = fed-++ s.calls l ∙ ap₂ (λ (u : List ℤ) (w : List ℤ). u ++ w) s.all (round_fed e r g) ∙ sym (ap waves_of (taken_two samples i h) ∙ waves_more (take (2 * i) samples) _ _ even);
        adds = adds_round p x y s.calls e r g s.adds k;
        count = omega (arith, s.count, k.entries);
      }

  pub said_end : (a : Rig P C) (samples : List ℕ) (p : Account) (i : ℕ) (x : Account) (b : Rig P C) → Empty p → i ≡ length samples / 2 → Said a samples p i x b
      → Spoken ports closings a samples x b
  said_end a samples p i x b z h s =
      let t : waves_of (take (2 * i) samples) ≡ waves_of samples = ap (λ n. waves_of (take (2 * n) samples)) h ∙ waves_pairs samples in
      record {
        calls = s.calls;
        speech = record { run = s.run; feeds = s.feeds; plain = s.plain; all = s.all ∙ t };
        entries = omega (arith, s.adds.entries, z.entries);
        few = omega (arith, s.count, z.entries);
        absorbed = omega (arith, s.adds.absorbed, z.absorbed);
        dropped = omega (arith, s.adds.dropped, z.dropped);
        shortened = omega (arith, s.adds.shortened, z.shortened);
        swing = s.adds.swing ∙ ap (λ v. v +ℤ swing s.calls) z.swing ∙ omega (arith, ints);
      }

  -- rounds of silence
  pub record Hushed (b : Rig P C) (p : Account) (s : Silence) (x : Account) (c : Rig P C) : Type 0 where
    pub calls : List Event
    pub hush : Hush ports closings b calls s c
    pub adds : Adds p calls x
    pub busy_most : s.busy ≤ s.rounds
    pub idle_most : s.idle ≤ s.rounds

  pub hushed_start : (b : Rig P C) (p : Account) (s : Silence) → s.rounds ≡ 0 → s.busy ≡ 0 → s.idle ≡ 0 → Hushed b p s p b
  hushed_start b p s n u v = record {
    calls = [];
    hush = record { run = done; silent = tt; plain = tt; rounds = n; busy = u; idle = v; until = tt; few = omega (arith, n) };
    adds = adds_none p;
    busy_most = omega (arith, n, u);
    idle_most = omega (arith, n, v);
  }

  cond_most : (b : Bool) (m n : ℕ) → m ≤ n → cond b (m + 1) 0 ≤ n + 1
  cond_most true m n h = omega arith
  cond_most false m n h = omega arith

  pub hushed_more : (b : Rig P C) (p : Account) (s : Silence) (x : Account) (c : Rig P C) (r : Round) (g : Option Page) (d : Rig P C) (t : Silence) (y : Account) → s.idle < quiet → s.rounds < longest_silence → Hushed b p s x c
      → Run ports closings c (feed (pos 0) (Ok r) ∷ turns g) d → CountsRound x r y → Longer s r t → Hushed b p t y d
  hushed_more b p s x c r g d t y i m H q k L =
      let l = feed (pos 0) (Ok r) ∷ turns g in
      let ys = H.calls in
      let S = H.hush in
      record {
        calls = ys ++ l;
        hush = record {
          run = run_more ports closings S.run q;
          silent = all-++ (Feeds (λ e. e ≡ pos 0)) ys l S.silent (round_feeds (λ e. e ≡ pos 0) (pos 0) r g refl);
          plain = all-++ Plain ys l S.plain (round_plain (pos 0) r g);
          rounds = omega (arith, L.rounds, S.rounds, sum-++ (λ x. of_round (λ z. 1) x + of_clear (λ z. 1) x) ys l, (round_comes (pos 0) r g).entered);
          busy = omega (arith, L.busy, S.busy, sum-++ (of_round (λ x. min 1 (x.shortened + x.absorbed))) ys l, round_busy (pos 0) r g);
          idle = L.idle ∙ ap (λ n. cond (eqb (r.shortened + r.absorbed) 0) (n + 1) 0) S.idle ∙ sym (idle-++ ys l 0 ∙ round_idle (idle_after 0 ys) (pos 0) r g);
          until = awaits-++ ys l 0 S.until (round_awaits (idle_after 0 ys) (pos 0) r g (omega (arith, i, S.idle)));
          few = omega (arith, m, L.rounds);
        };
        adds = adds_round p x y ys (pos 0) r g H.adds k;
        busy_most = omega (arith, L.busy, L.rounds, H.busy_most);
        idle_most = subst (λ n. n ≤ t.rounds) (sym L.idle) (subst (λ n. cond (eqb (r.shortened + r.absorbed) 0) (s.idle + 1) 0 ≤ n) (sym L.rounds) (cond_most _ s.idle s.rounds H.idle_most));
      }

  pub hushed_end : (b : Rig P C) (p : Account) (s : Silence) (x : Account) (c : Rig P C) → (s.rounds ≡ longest_silence) ⊎ (quiet ≤ s.idle) → Hushed b p s x c
      → Rested ports closings b p s x c
  hushed_end b p s x c o H = record { calls = H.calls; hush = H.hush; adds = H.adds; over = o }
