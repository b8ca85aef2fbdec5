-- Over a bounded closing: the energy stays within the offers, and in silence the filter runs down.
use Rattle.std.proofs.Common.{◌≡◌, ℕ, ◌+◌, ◌*◌, ◌≤◌, min, List, ℤ, pos, Ok, sym, refl, subst, subst₂, mul-add, arith}
use Rattle.wave.specs.Numbers.{sq, held}
use Rattle.wave.proofs.Losses.{held_same}
use Rattle.port.specs.declared.meaning.Port.{Ghosts as PortOf}
use Rattle.closing.specs.declared.meaning.Closing.{Ghosts as ClosingOf}
use Rattle.port.specs.Meaning.{Laws}
use Rattle.closing.specs.Meaning.{Bounded}
use Rattle.rig.specs.Steps.{Closed}
use Rattle.rig.specs.Runs.{Event, Run, Step, All, Feeds, of_round, of_clear, of_feed, sum, busy}
use Rattle.rig.specs.Runs.Event.{feed, answer}
use Rattle.rig.specs.Runs.Run.{done, next}
use Rattle.rig.specs.Energy.{StaysWithinOffers, RunsDown}
use Rattle.rig.specs.declared.pages.Round.{Round}
use Rattle.rig.specs.declared.parts.Rig.{Rig}
use Rattle.rig.proofs.Balances.{offered, offered_less, worn}
use Rattle.rig.proofs.Runs.{rose, fell, risen, fallen, moved, whole}

busy_is : (x : Event) → of_round (λ y. min 1 (y.shortened + y.absorbed)) x ≤ min 1 (of_round (λ y. y.shortened) x + of_round (λ y. y.absorbed) x)
busy_is (feed e (Ok x)) = omega arith
busy_is (answer w f (Ok x)) = omega arith
busy_is other = omega arith

module _ {P C : Type 0} (ports : PortOf P) (laws : Laws ports.reads ports.takes ports.clears)
    (closings : ClosingOf C) (offers : C → ℤ → ℕ) (bound : Bounded closings.answers offers) where
  -- what an accepted feed is offered
  fed : (a : Rig P C) (e : ℤ) (x : Round) (b : Rig P C) → Closed ports closings a e x b
      → (ports.reads a.port).num * sq x.falling.value ≤ (ports.reads a.port).num * sq x.rising.value + (ports.reads a.port).den * offers a.closing e
  fed a e x b h =
      let w : held (ports.reads a.port).rising ≡ (ports.reads a.port).rising =
      subst (λ (z : ℤ). held z ≡ z) h.round.rising (held_same x.rising.value x.rising.within) in
      let l = bound.within a.closing (ports.reads a.port).rising e h.ratio in
      simp (h.round.falling, h.round.rising) (simp (w, h.num, h.den) at l)

  offer_step : (Q : ℤ → Type 0) (a : Rig P C) (x : Event) (b : Rig P C) → Step ports closings a x b → Feeds Q x
      → (ports.reads a.port).num * fell x ≤ (ports.reads a.port).num * rose x + (ports.reads a.port).den * of_feed (offers a.closing) x
  offer_step Q a (feed e (Ok x)) b h k = fed a e x b h.2
  offer_step Q a (answer w f (Ok x)) b h k = absurd k
  offer_step Q a other b h k = omega arith

  offer_run : {a z : Rig P C} {xs : List Event} → Run ports closings a xs z → All (Feeds (λ e. Unit {0})) xs
      → (ports.reads a.port).num * fallen xs ≤ (ports.reads a.port).num * risen xs + (ports.reads a.port).den * sum (of_feed (offers a.closing)) xs
  offer_run done k = omega arith
  offer_run (next {a = a} {b = b} {z = z} {xs = xs} x s r) k =
      let p = moved ports laws closings a x b s in
      let n = (ports.reads a.port).num in
      let d = (ports.reads a.port).den in
      let u = offer_step (λ e. Unit {0}) a x b s k.0 in
      let K : ℕ → ℕ → Type 0 = λ n d. n * fallen xs ≤ n * risen xs + d * sum (of_feed (offers b.closing)) xs in
      let L : C → Type 0 = λ t. n * fallen xs ≤ n * risen xs + d * sum (of_feed (offers t)) xs in
      let v : n * fallen xs ≤ n * risen xs + d * sum (of_feed (offers a.closing)) xs = subst L p.closing (subst₂ K p.num p.den (offer_run r k.1)) in
      omega (arith, u, v, mul-add n (fell x) (fallen xs), mul-add n (rose x) (risen xs), mul-add d (of_feed (offers a.closing) x) (sum (of_feed (offers a.closing)) xs))

  pub stays_within_offers : (a : Rig P C) → StaysWithinOffers ports closings offers a
  stays_within_offers a xs z r k = offered _ _ _ _ _ _ _ _ _ (laws.sound a.port).dens.0 (whole ports laws closings r).balance (offer_run r k)

  -- a silent event offers nothing
  silent_offer : (t : C) (x : Event) → Feeds (λ e. e ≡ pos 0) x → of_feed (offers t) x ≡ 0
  silent_offer t (feed e (Ok x)) k = subst (λ (z : ℤ). offers t z ≡ 0) (sym k) (bound.silent t)
  silent_offer t other k = refl

  silent_step : (a : Rig P C) (x : Event) (b : Rig P C) → Step ports closings a x b → Feeds (λ e. e ≡ pos 0) x
      → of_round (λ y. min 1 (y.shortened + y.absorbed)) x + (ports.reads b.port).stored ≤ (ports.reads a.port).stored
  silent_step a x b h k =
      let S = (ports.reads a.port).stored in
      let T = (ports.reads b.port).stored in
      let A = of_round (λ y. y.absorbed) x in
      let c = of_round (λ y. y.shortened) x in
      let p = (moved ports laws closings a x b h).balance in
      let u = offer_step (λ e. e ≡ pos 0) a x b h k in
      let z = silent_offer a.closing x k in
      let l : T + (A + of_clear (λ D. D) x) ≤ S + of_feed (offers a.closing) x = offered _ _ _ _ _ _ _ _ _ (laws.sound a.port).dens.0 p u in
      let w : min 1 (c + A) + T ≤ S = worn c A S T (omega (arith, z, l)) (λ i. omega (arith, z, offered_less _ _ _ _ _ _ _ _ _ p u i)) in
      omega (arith, w, busy_is x)

  silent_run : {a z : Rig P C} {xs : List Event} → Run ports closings a xs z → All (Feeds (λ e. e ≡ pos 0)) xs
      → busy xs + (ports.reads z.port).stored ≤ (ports.reads a.port).stored
  silent_run done k = omega arith
  silent_run (next {a = a} {b = b} {z = z} {xs = xs} x s r) k = omega (arith, silent_step a x b s k.0, silent_run r k.1)

  pub runs_down : (a : Rig P C) → RunsDown ports closings a
  runs_down a xs ys b z r q k = omega (arith, silent_run q k)
