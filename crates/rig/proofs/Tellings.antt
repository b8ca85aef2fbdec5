-- The page tells the truth.
use Rattle.std.proofs.Common.{◌≡◌, ℕ, ◌+◌, List, [], ◌∷◌, ℤ, pos, ◌+ℤ◌, ◌-ℤ◌, Ok, sym, refl, ap, ◌∙◌, subst, arith}
use lib.IntN.{+ℤ_idr}
use Rattle.std.proofs.lemmas.Int.{ints}
use Rattle.wave.specs.Numbers.{sq}
use Rattle.port.specs.declared.meaning.Port.{Ghosts as PortOf}
use Rattle.closing.specs.declared.meaning.Closing.{Ghosts as ClosingOf}
use Rattle.port.specs.Meaning.{Laws}
use Rattle.rig.specs.Pages.{Fresh, Entered, page_of}
use Rattle.rig.specs.Steps.{Rounded}
use Rattle.rig.specs.Runs.{Event, Run, Step, All, Turns, entries, absorbed, dropped, shortened, swing}
use Rattle.rig.specs.Runs.Event.{feed, raise, answer, withdraw, clear, turn}
use Rattle.rig.specs.Runs.Run.{done, next}
use Rattle.rig.specs.Energy.{Begins, Tells, PagesTellTheTruth}
use Rattle.rig.specs.declared.pages.Round.{Round}
use Rattle.rig.specs.declared.parts.Rig.{Rig}
use Rattle.rig.specs.declared.parts.Tally.{Tally}
use Rattle.rig.proofs.Runs.{whole, never_makes_energy}

-- q is p and the calls ys
record Added (p : Tally) (ys : List Event) (q : Tally) : Type 0 where
  entered : q.entries ≡ p.entries + entries ys
  start : q.start ≡ p.start
  absorbs : q.absorbed ≡ p.absorbed + absorbed ys
  drops : q.dropped ≡ p.dropped + dropped ys
  shortens : q.shortened ≡ p.shortened + shortened ys
  swings : q.swing ≡ p.swing +ℤ swing ys

none : (p : Tally) → Added p [] p
none p = record { entered = omega arith; start = refl; absorbs = omega arith; drops = omega arith; shortens = omega arith; swings = omega (arith, ints) }

same : (p q : Tally) → q ≡ p → (x : Event) → entries (x ∷ []) ≡ 0 → absorbed (x ∷ []) ≡ 0 → dropped (x ∷ []) ≡ 0 → shortened (x ∷ []) ≡ 0 → swing (x ∷ []) ≡ pos 0
    → Added p (x ∷ []) q
same p q e x n A D c w = record {
  entered = ap (λ (t : Tally). t.entries) e ∙ omega (arith, n);
  start = ap (λ (t : Tally). t.start) e;
  absorbs = ap (λ (t : Tally). t.absorbed) e ∙ omega (arith, A);
  drops = ap (λ (t : Tally). t.dropped) e ∙ omega (arith, D);
  shortens = ap (λ (t : Tally). t.shortened) e ∙ omega (arith, c);
  swings = ap (λ (t : Tally). t.swing) e ∙ omega (arith, ints, w);
}

entry : (p q : Tally) (r f : ℤ) (A c D : ℕ) (x : Event) → Entered p r f A c D q → entries (x ∷ []) ≡ 1 → absorbed (x ∷ []) ≡ A → dropped (x ∷ []) ≡ D
    → shortened (x ∷ []) ≡ c → swing (x ∷ []) ≡ pos (sq f) -ℤ pos (sq r) → Added p (x ∷ []) q
entry p q r f A c D x h n eA eD ec ew = record {
  entered = omega (arith, h.entries, n);
  start = h.start;
  absorbs = omega (arith, h.absorbed, eA);
  drops = omega (arith, h.dropped, eD);
  shortens = omega (arith, h.shortened, ec);
  swings = omega (arith, ints, h.swing, ew);
}

more : (p q r : Tally) (x : Event) (ys : List Event) → Added p (x ∷ []) q → Added q ys r → Added p (x ∷ ys) r
more p q r x ys a b = record {
  entered = omega (arith, a.entered, b.entered);
  start = b.start ∙ a.start;
  absorbs = omega (arith, a.absorbs, b.absorbs);
  drops = omega (arith, a.drops, b.drops);
  shortens = omega (arith, a.shortens, b.shortens);
  swings = omega (arith, ints, a.swings, b.swings);
}

module _ {P C : Type 0} (ports : PortOf P) (closings : ClosingOf C) where
  tally_is : (a b : Rig P C) → b ≡ a → b.tally ≡ a.tally
  tally_is a b e = ap (λ (r : Rig P C). r.tally) e

  round_adds : (a : Rig P C) (f : ℤ) (x : Round) (b : Rig P C) (y : Event) → Rounded ports a f x b → entries (y ∷ []) ≡ 1 → absorbed (y ∷ []) ≡ x.absorbed
      → dropped (y ∷ []) ≡ 0 → shortened (y ∷ []) ≡ x.shortened → swing (y ∷ []) ≡ pos (sq x.falling.value) -ℤ pos (sq x.rising.value) → Added a.tally (y ∷ []) b.tally
  round_adds a f x b y h n A D c w = entry _ _ _ _ _ _ _ y h.tally n A D c w

  adds : (a : Rig P C) (x : Event) (b : Rig P C) → Step ports closings a x b → (Turns x → ⊥) → Added a.tally (x ∷ []) b.tally
  adds a (feed e (Ok x)) b h t = round_adds a _ x b (feed e (Ok x)) h.2.round (refl) (omega arith) refl (omega arith) (+ℤ_idr _)
  adds a (raise (Ok w)) b h t = same _ _ h.2.tally (raise (Ok w)) refl refl refl refl refl
  adds a (answer w f (Ok x)) b h t = round_adds a f x b (answer w f (Ok x)) h.2 (refl) (omega arith) refl (omega arith) (+ℤ_idr _)
  adds a (withdraw w (Ok u)) b h t = same _ _ h.2.tally (withdraw w (Ok u)) refl refl refl refl refl
  adds a (clear (Ok D)) b h t = entry _ _ _ _ _ _ _ (clear (Ok D)) h.1.tally refl refl (omega arith) refl refl
  adds a (turn (Ok p)) b h t = absurd (t tt)
  adds a refusal b h t = same _ _ (tally_is a b h.0) refusal refl refl refl refl refl

  stretch : {b z : Rig P C} {ys : List Event} → Run ports closings b ys z → All (λ x. Turns x → ⊥) ys → Added b.tally ys z.tally
  stretch done k = none _
  stretch (next {a = a} {b = b} {z = z} {xs = xs} x s r) k = more _ _ _ x xs (adds a x b s k.0) (stretch r k.1)

  abbrev Begun : Rig P C → Type 0
  Begun a = Fresh (ports.reads a.port).stored a.tally

  turned : (a : Rig P C) (x : Event) (b : Rig P C) → Step ports closings a x b → Turns x → Begun b
  turned a (turn (Ok p)) b h t = subst (λ (x : P). Fresh (ports.reads x).stored b.tally) (sym h.1.port) h.1.tally
  turned a other b h t = absurd t

  last_turned : {a b : Rig P C} {x : Event} {xs : List Event} → Run ports closings a (x ∷ xs) b → Begins (x ∷ xs) → Begun b
  last_turned (next {a = a} {b = b} x s done) k = turned a x b s k
  last_turned (next x s (next y t r)) k = last_turned (next y t r) k

  begun : {a b : Rig P C} {xs : List Event} → Run ports closings a xs b → Begins xs → Begun a → Begun b
  begun done k f = f
  begun (next x s r) k f = last_turned (next x s r) k

module _ {P C : Type 0} (ports : PortOf P) (laws : Laws ports.reads ports.takes ports.clears)
    (closings : ClosingOf C) where
  pub pages_tell : (a : Rig P C) → Begun ports closings a → PagesTellTheTruth ports closings a
  pages_tell a f xs ys b z r q k n =
      let B = begun ports closings r k f in
      let A = stretch ports closings q n in
      let M = whole ports laws closings q in
      let t : Tells (page_of z.tally (ports.reads z.port).stored) (ports.reads b.port).stored ys (ports.reads z.port).stored = record {
        entries = omega (arith, A.entered, B.entries);
        start = A.start ∙ B.start;
        end = refl;
        absorbed = omega (arith, A.absorbs, B.absorbed);
        dropped = omega (arith, A.drops, B.dropped);
        shortened = omega (arith, A.shortens, B.shortened);
        swing = omega (arith, ints, A.swings, B.swing);
      } in
      (t, simp (M.num, M.den, t.start, t.absorbed, t.dropped, t.shortened, t.swing) (never_makes_energy ports laws closings b ys z q))
