-- Rounding never makes energy: one call, and then any list of calls.
use Rattle.std.proofs.Common.{◌≡◌, ℕ, ◌+◌, ◌*◌, List, [], ◌∷◌, ℤ, pos, ◌+ℤ◌, Ok, refl, ap, ◌∙◌, subst, subst₂, add-zero, zero-add, arith}
use Rattle.std.proofs.lemmas.Int.{ints}
use Rattle.wave.specs.Numbers.{sq, held}
use Rattle.wave.proofs.Losses.{held_same}
use Rattle.port.specs.declared.meaning.Port.{Ghosts as PortOf}
use Rattle.closing.specs.declared.meaning.Closing.{Ghosts as ClosingOf}
use Rattle.port.specs.Meaning.{Readings, Laws, Fall}
use Rattle.port.specs.declared.takings.Taken.{Taken}
use Rattle.rig.specs.Steps.{Rounded, Emptied}
use Rattle.rig.specs.Runs.{Event, Run, Step, of_round, of_clear, sum, absorbed, dropped, shortened, swing}
use Rattle.rig.specs.Runs.Event.{feed, raise, answer, withdraw, clear, turn}
use Rattle.rig.specs.Runs.Run.{done, next}
use Rattle.rig.specs.Energy.{NeverMakesEnergy}
use Rattle.rig.specs.declared.pages.Round.{Round}
use Rattle.rig.specs.declared.parts.Rig.{Rig}
use Rattle.rig.proofs.Balances.{Balanced, strict, still, spilled, joined, renamed, balance_of}

abbrev pub rose : Event → ℕ
rose = of_round (λ y. sq y.rising.value)

abbrev pub fell : Event → ℕ
fell = of_round (λ y. sq y.falling.value)

abbrev pub risen : List Event → ℕ
risen = sum rose

abbrev pub fallen : List Event → ℕ
fallen = sum fell

-- the swing, as a difference
swing_is : (xs : List Event) → swing xs +ℤ pos (risen xs) ≡ pos (fallen xs)
swing_is [] = refl
swing_is (x ∷ xs) = omega (arith, ints, swing_is xs)

-- a port's law, as a balance
of_fall : (a : Readings) (f : ℤ) (t : Taken) (b : Readings) → held f ≡ f → Fall a f t b
    → Balanced a.num a.den a.stored (sq f) (sq a.rising) t.absorbed t.shortened b.stored
of_fall a f t b h F =
    let e : a.num * sq (held f) ≡ a.num * sq f = ap (λ z. a.num * sq z) h in
    let l = F.least in
    record {
      most = omega arith;
      exact = λ c. omega (arith, F.exact c);
      loses = λ c. strict _ _ t.shortened (omega arith) (λ q. F.only (omega arith)) c;
    }

module _ {P C : Type 0} (ports : PortOf P) (laws : Laws ports.reads ports.takes ports.clears)
    (closings : ClosingOf C) where
  -- what a call keeps, by what it came to
  pub record Moved (a : Rig P C) (F R A c : ℕ) (b : Rig P C) : Type 0 where
    pub balance : Balanced (ports.reads a.port).num (ports.reads a.port).den (ports.reads a.port).stored F R A c (ports.reads b.port).stored
    pub num : (ports.reads b.port).num ≡ (ports.reads a.port).num
    pub den : (ports.reads b.port).den ≡ (ports.reads a.port).den
    pub closing : b.closing ≡ a.closing

  idle : (a b : Rig P C) → b.port ≡ a.port → b.closing ≡ a.closing → Moved a 0 0 0 0 b
  idle a b p q = record {
    balance = renamed (still _ _ (ports.reads a.port).stored) refl refl refl refl (ap (λ x. (ports.reads x).stored) p);
    num = ap (λ x. (ports.reads x).num) p;
    den = ap (λ x. (ports.reads x).den) p;
    closing = q;
  }

  refused : (a b : Rig P C) → b ≡ a → Moved a 0 0 0 0 b
  refused a b e = idle a b (ap (λ (r : Rig P C). r.port) e) (ap (λ (r : Rig P C). r.closing) e)

  rounded : (a : Rig P C) (f : ℤ) (x : Round) (b : Rig P C) → Rounded ports a f x b
      → Moved a (sq x.falling.value) (sq x.rising.value) (x.absorbed + 0) x.shortened b
  rounded a f x b h =
      let F = laws.fall a.port f _ b.port h.took in
      let w : held f ≡ f = subst (λ (z : ℤ). held z ≡ z) h.falling (held_same x.falling.value x.falling.within) in
      record {
        balance = renamed (of_fall _ f _ _ w F) refl (ap sq h.falling) (ap sq h.rising) (add-zero x.absorbed) refl;
        num = F.keeps.num;
        den = F.keeps.den;
        closing = h.closing;
      }

  emptied : (a : Rig P C) (D : ℕ) (b : Rig P C) → Emptied ports a D b → Moved a 0 0 (0 + D) 0 b
  emptied a D b h =
      let F = laws.cleared a.port D b.port h.emptied in
      record {
        balance = renamed (spilled _ _ (ports.reads a.port).stored) refl refl refl (zero-add D ∙ F.dropped) F.empty;
        num = F.keeps.num;
        den = F.keeps.den;
        closing = h.closing;
      }

  pub moved : (a : Rig P C) (x : Event) (b : Rig P C) → Step ports closings a x b
      → Moved a (fell x) (rose x) (of_round (λ y. y.absorbed) x + of_clear (λ D. D) x) (of_round (λ y. y.shortened) x) b
  moved a (feed e (Ok x)) b h = rounded a _ x b h.2.round
  moved a (raise (Ok w)) b h = idle a b h.2.port h.2.closing
  moved a (answer w f (Ok x)) b h = rounded a f x b h.2
  moved a (withdraw w (Ok u)) b h = idle a b h.2.port h.2.closing
  moved a (clear (Ok D)) b h = emptied a D b h.1
  moved a (turn (Ok p)) b h = idle a b h.1.port h.1.closing
  moved a refusal b h = refused a b h.0

  pub whole : {a z : Rig P C} {xs : List Event} → Run ports closings a xs z
      → Moved a (fallen xs) (risen xs) (absorbed xs + dropped xs) (shortened xs) z
  whole done = idle _ _ refl refl
  whole (next {a = a} {b = b} {z = z} {xs = xs} x s r) =
      let p = moved a x b s in
      let q = whole r in
      let K : ℕ → ℕ → Type 0 = λ n d. Balanced n d (ports.reads b.port).stored (fallen xs) (risen xs) (absorbed xs + dropped xs) (shortened xs) (ports.reads z.port).stored in
      record {
        balance = joined _ _ _ _ _ _ _ _ _ _ _ _ _ _ p.balance (subst₂ K p.num p.den q.balance) (omega arith);
        num = q.num ∙ p.num;
        den = q.den ∙ p.den;
        closing = q.closing ∙ p.closing;
      }

  pub never_makes_energy : (a : Rig P C) → NeverMakesEnergy ports closings a
  never_makes_energy a xs z r = balance_of _ _ _ _ _ _ _ _ _ (swing_is xs) (whole r).balance
