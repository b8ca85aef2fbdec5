-- A call of a rig, and then the turn of the page that it filled.
use Rattle.std.proofs.Common.{◌≡◌, ◌+◌, ◌<◌, false, [], ◌∷◌, Some, None, Ok, Option, sym, subst, arith}
use Rattle.port.specs.declared.meaning.Port.{Ghosts as PortOf}
use Rattle.closing.specs.declared.meaning.Closing.{Ghosts as ClosingOf}
use Rattle.rig.specs.Limits.{page_length}
use Rattle.rig.specs.Runs.{Event, Step, Run}
use Rattle.rig.specs.Runs.Event.{turn}
use Rattle.rig.specs.Runs.Run.{done, next}
use Rattle.rig.specs.declared.pages.Page.{Page}
use Rattle.rig.specs.declared.parts.Rig.{Rig}
use Rattle.session.specs.Sessions.{turns, Turned, Fills}

module _ {P C : Type 0} (ports : PortOf P) (closings : ClosingOf C) where
  turned : (a : Rig P C) (p : Option Page) (b : Rig P C) → a.raised ≡ false → Turned ports a p b → Run ports closings a (turns p) b
  turned a None b h t = subst (λ (z : Rig P C). Run ports closings a [] z) (sym t.1) done
  turned a (Some p) b h t = next (turn (Ok p)) (h, t.1) done

  pub then_turned : (a : Rig P C) (x : Event) (b : Rig P C) (p : Option Page) (c : Rig P C) → Step ports closings a x b → b.raised ≡ false → Turned ports b p c
      → Run ports closings a (x ∷ turns p) c
  then_turned a x b p c s h t = next x s (turned b p c h t)

  pub fills : (a b : Rig P C) (p : Option Page) (c : Rig P C) → b.tally.entries ≡ a.tally.entries + 1 → a.tally.entries < page_length → Turned ports b p c → Fills a p
  fills a b None c e h t = omega (arith, e, t.0)
  fills a b (Some p) c e h t = omega (arith, e, t.0)
