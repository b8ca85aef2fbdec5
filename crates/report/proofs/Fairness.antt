-- Both balances of a report are fair.
use Rattle.std.proofs.Common.{◌≡◌, ℕ, ◌+◌, ◌*◌, List, ◌∷◌, ◌++◌, ℤ, pos, ◌+ℤ◌, ◌*ℤ◌, ◌≤ℤ◌, Ok, Option, sym, ap, ◌∙◌, subst, ap₂, arith}
use lib.IntN.{+ℤ_idr}
use Rattle.port.specs.declared.meaning.Port.{Ghosts as PortOf}
use Rattle.closing.specs.declared.meaning.Closing.{Ghosts as ClosingOf}
use Rattle.rig.specs.Energy.{NeverMakesEnergy}
use Rattle.rig.specs.Runs.{Event, Run, of_round, of_clear, entries, absorbed, dropped, shortened, swing}
use Rattle.rig.specs.Runs.Event.{clear}
use Rattle.rig.specs.declared.pages.Page.{Page}
use Rattle.rig.specs.declared.parts.Rig.{Rig}
use Rattle.report.specs.Accounts.{CountsClear, Weighed}
use Rattle.session.specs.Sessions.{turns}
use Rattle.report.specs.Reports.{Adds, Weighs, Fair}
use Rattle.report.specs.declared.accounts.Weighing.{Weighing}
use Rattle.report.specs.declared.accounts.account.Account.{Account}
use Rattle.session.proofs.Sums.{sum-++, swing-++, clear_comes}

-- the account x has the sums of the calls xs
pub record Sums (x : Account) (xs : List Event) : Type 0 where
  pub entered : x.entries ≡ entries xs
  pub absorbs : x.absorbed ≡ absorbed xs
  pub drops : x.dropped ≡ dropped xs
  pub shortens : x.shortened ≡ shortened xs
  pub swings : x.swing ≡ swing xs

pub sums_adds : (x y : Account) (xs ys : List Event) → Sums x xs → Adds x ys y → Sums y (xs ++ ys)
sums_adds x y xs ys s a = record {
  entered = omega (arith, s.entered, a.entries, sum-++ (λ x. of_round (λ z. 1) x + of_clear (λ z. 1) x) xs ys);
  absorbs = omega (arith, s.absorbs, a.absorbed, sum-++ (of_round (λ x. x.absorbed)) xs ys);
  drops = omega (arith, s.drops, a.dropped, sum-++ (of_clear (λ z. z)) xs ys);
  shortens = omega (arith, s.shortens, a.shortened, sum-++ (of_round (λ x. x.shortened)) xs ys);
  swings = a.swing ∙ ap (λ z. z +ℤ swing ys) s.swings ∙ sym (swing-++ xs ys);
}

pub sums_clear : (x y : Account) (xs : List Event) (D : ℕ) (g : Option Page) → Sums x xs → CountsClear x D y → Sums y (xs ++ (clear (Ok D) ∷ turns g))
sums_clear x y xs D g s k =
    let q = clear_comes D g in
    sums_adds x y xs (clear (Ok D) ∷ turns g) s record {
      entries = omega (arith, k.entries, q.entered);
      absorbed = omega (arith, k.absorbed, q.absorbs);
      dropped = omega (arith, k.dropped, q.drops);
      shortened = omega (arith, k.shortened, q.shortens);
      swing = k.swing ∙ sym (+ℤ_idr x.swing) ∙ ap (λ z. x.swing +ℤ z) (sym q.swings);
    }

pub weighs_of : (n d S T n' d' T' : ℕ) (xs : List Event) (x : Account) (w : Weighing) → n ≡ n' → d ≡ d' → T' ≡ T → Sums x xs → Weighed x n' d' S T' w → Weighs n d S xs T w
weighs_of n d S T n' d' T' xs x w en ed eT s h = record {
  entered = h.entries ∙ s.entered;
  stored = h.stored ∙ eT;
  absorbs = h.absorbed ∙ s.absorbs;
  drops = h.dropped ∙ s.drops;
  shortens = h.shortened ∙ s.shortens;
  swings = h.swing ∙ s.swings;
  left = h.left ∙ ap₂ (λ e t. e * t) (sym ed) (omega (arith, eT, s.absorbs, s.drops));
  right = h.right ∙ ap₂ (λ a b. a +ℤ b) (ap (λ e. pos (e * S)) (sym ed)) (ap₂ (λ e t. pos e *ℤ t) (sym en) s.swings);
}

module _ {P C : Type 0} (ports : PortOf P) (closings : ClosingOf C) where
  pub fair_of : (a z : Rig P C) (p : P) (n d S T : ℕ) (xs : List Event) (w : Weighing) → a.port ≡ p → n ≡ (ports.reads p).num → d ≡ (ports.reads p).den → S ≡ (ports.reads p).stored → T ≡ (ports.reads z.port).stored
      → NeverMakesEnergy ports closings a → Run ports closings a xs z → Weighs n d S xs T w → Fair w
  fair_of a z p n d S T xs w ep en ed eS eT E r W =
      let B = E xs z r in
      let num : n ≡ (ports.reads a.port).num = en ∙ ap (λ q. (ports.reads q).num) (sym ep) in
      let den : d ≡ (ports.reads a.port).den = ed ∙ ap (λ q. (ports.reads q).den) (sym ep) in
      let start : S ≡ (ports.reads a.port).stored = eS ∙ ap (λ q. (ports.reads q).stored) (sym ep) in
      let l : w.left ≡ (ports.reads a.port).den * ((ports.reads z.port).stored + (absorbed xs + dropped xs)) = W.left ∙ ap₂ (λ e t. e * (t + (absorbed xs + dropped xs))) den eT in
      let v : w.right ≡ pos ((ports.reads a.port).den * (ports.reads a.port).stored) +ℤ pos (ports.reads a.port).num *ℤ swing xs =
      W.right ∙ ap₂ (λ x y. x +ℤ y) (ap₂ (λ e t. pos (e * t)) den start) (ap (λ e. pos e *ℤ swing xs) num) in
      record {
        most = subst (λ (t : ℤ). pos w.left ≤ℤ t) (sym v) (subst (λ (t : ℕ). pos t ≤ℤ (pos ((ports.reads a.port).den * (ports.reads a.port).stored) +ℤ pos (ports.reads a.port).num *ℤ swing xs)) (sym l) B.most);
        exact = λ h. ap pos l ∙ B.exact (sym W.shortens ∙ h) ∙ sym v;
        only = λ h. W.shortens ∙ B.only (sym (ap pos l) ∙ h ∙ v);
      }
