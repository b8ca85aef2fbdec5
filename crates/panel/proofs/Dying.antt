-- A round in which anything is heard absorbs, so it is a busy one.
use Rattle.std.proofs.Common.{◌≡◌, ℕ, zero, suc, ◌+◌, ◌<◌, ◌≤◌, min, List, ℤ, pos, negsuc, Ok, arith}
use Rattle.closing.specs.declared.meaning.Closing.{Ghosts as ClosingOf}
use Rattle.rig.specs.Runs.{Event, Step, Run, of_round, busy}
use Rattle.rig.specs.Runs.Event.{feed, answer}
use Rattle.rig.specs.Runs.Run.{done, next}
use Rattle.rig.specs.Energy.{RunsDown}
use Rattle.rig.specs.declared.pages.Round.{Round}
use Rattle.rig.specs.declared.parts.Rig.{Rig}
use Rattle.rig.specs.Steps.{Rounded}
use Rattle.tree.specs.Ears.{HeardAbsorbs}
use Rattle.tree.specs.declared.listed.whole.ListingTree.{ListingTree}
use Rattle.panel.specs.Tails.{tree_port, sounds, sounding, TailDies}

module _ {C : Type 0} (closings : ClosingOf C) (heard : HeardAbsorbs) where
  by_wave : (h : ℤ) (A c : ℕ) → ((h ≡ pos 0 → ⊥) → 0 < A) → sounds h ≤ min 1 (c + A)
  by_wave (pos zero) A c f = omega arith
  by_wave (pos (suc n)) A c f = omega (arith, f (λ e. let z : ◌≡◌ {A = ℕ} 0 1 = cc in omega arith))
  by_wave (negsuc n) A c f = omega (arith, f (λ e. let z : ◌≡◌ {A = ℕ} 0 1 = cc in omega arith))

  rounded : (a : Rig ListingTree C) (f : ℤ) (x : Round) (b : Rig ListingTree C) → Rounded tree_port a f x b → sounds x.heard ≤ min 1 (x.shortened + x.absorbed)
  rounded a f x b h = by_wave x.heard x.absorbed x.shortened (heard a.port f _ b.port h.took).some

  one : (a : Rig ListingTree C) (x : Event) (b : Rig ListingTree C) → Step tree_port closings a x b
      → of_round (λ y. sounds y.heard) x ≤ of_round (λ y. min 1 (y.shortened + y.absorbed)) x
  one a (feed e (Ok x)) b h = rounded a _ x b h.2.round
  one a (answer w f (Ok x)) b h = rounded a f x b h.2
  one a other b h = omega arith

  busy_heard : {a z : Rig ListingTree C} {xs : List Event} → Run tree_port closings a xs z → sounding xs ≤ busy xs
  busy_heard done = omega arith
  busy_heard (next {a = a} {b = b} x s r) = omega (arith, one a x b s, busy_heard r)

  pub tail_dies : (a : Rig ListingTree C) → RunsDown tree_port closings a → TailDies closings a
  tail_dies a down xs ys b z r q k = omega (arith, down xs ys b z r q k, busy_heard q)
