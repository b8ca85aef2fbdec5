-- The first of the faults of two kinds is the first of the two firsts.
use Rattle.std.proofs.Common.{◌≡◌, ℕ, ◌+◌, ◌<◌, true, false, ◌⊎◌, Some, None, Option, subst, inl, inr, ⊎_elim, arith}
use Rattle.std.proofs.lemmas.Bool.{cond_both, cases_order}
use Rattle.std.proofs.lemmas.Bool.Decides.{nat_tests}
use Rattle.refusals.specs.declared.Rule.{Rule}
use Rattle.refusals.specs.declared.Fault.{Fault}
use Rattle.refusals.specs.Order.{NotBefore, Least, goes_before, first_of}

-- of two faults, the one that goes before is not after the other
pub first_yes : (f g : Fault) → goes_before g f ≡ true → NotBefore g f.place f.rule
first_yes f g h = (grind (arith, nat_tests), λ e. grind (arith, nat_tests))

pub first_no : (f g : Fault) → goes_before g f ≡ false → NotBefore f g.place g.rule
first_no f g h = (grind (arith, nat_tests), λ e. grind (arith, nat_tests))

pub not_before_trans : (f g : Fault) (p : ℕ) (r : Rule) → NotBefore f g.place g.rule → NotBefore g p r → NotBefore f p r
not_before_trans f g p r a b = (omega arith, λ e. omega (arith, a.1 (omega arith), b.1 (omega arith)))

pub least_either : (P Q : ℕ → Rule → Type 0) (a b : Option Fault) → Least P a → Least Q b → Least (λ p r. P p r ⊎ Q p r) (first_of a b)
least_either P Q None None x y = λ p r. ⊎_elim (x p r) (y p r)
least_either P Q None (Some g) x y = (inr y.0, λ p r. ⊎_elim (λ h. absurd (x p r h)) (y.1 p r))
least_either P Q (Some f) None x y = (inl x.0, λ p r. ⊎_elim (x.1 p r) (λ h. absurd (y p r h)))
least_either P Q (Some f) (Some g) x y =
    cond_both (goes_before g f) (Some g) (Some f) (Least (λ p r. P p r ⊎ Q p r))
    (λ e. (inr y.0, λ p r. ⊎_elim (λ h. not_before_trans g f p r (first_yes f g e) (x.1 p r h)) (y.1 p r)))
    (λ e. (inl x.0, λ p r. ⊎_elim (x.1 p r) (λ h. not_before_trans f g p r (first_no f g e) (y.1 p r h))))

pub least_same : (P Q : ℕ → Rule → Type 0) → ((p : ℕ) (r : Rule) → P p r → Q p r) → ((p : ℕ) (r : Rule) → Q p r → P p r) → (o : Option Fault) → Least P o → Least Q o
least_same P Q to back None h = λ p r q. h p r (back p r q)
least_same P Q to back (Some f) h = (to _ _ h.0, λ p r q. h.1 p r (back p r q))

-- one more turn
pub least_more : (Q : ℕ → ℕ → Rule → Type 0) (i : ℕ) (o new : Option Fault) → Least (λ p r. (k : ℕ) × (k < i) × Q k p r) o → Least (Q i) new → Least (λ p r. (k : ℕ) × (k < i + 1) × Q k p r) (first_of o new)
least_more Q i o new h here =
    least_same (λ p r. ((k : ℕ) × (k < i) × Q k p r) ⊎ Q i p r) _
    (λ p r. ⊎_elim (λ x. (x.0, omega arith, x.2)) (λ x. (i, omega arith, x)))
    (λ p r x. ⊎_elim (λ e. inr (subst (λ k. Q k p r) e x.2)) (⊎_elim (λ l. inl (x.0, l, x.2)) (λ l. absurd (omega arith))) (cases_order x.0 i))
    (first_of o new) (least_either _ _ o new h here)

-- each fault of Q has one of P that goes before it, or is one
pub least_cover : (P Q : ℕ → Rule → Type 0) → ((p : ℕ) (r : Rule) → P p r → Q p r) → ((p : ℕ) (r : Rule) → Q p r → (f : Fault) × P f.place f.rule × NotBefore f p r) → (o : Option Fault) → Least P o → Least Q o
least_cover P Q to back None h = λ p r q. let g = back p r q in h g.0.place g.0.rule g.1
least_cover P Q to back (Some f) h = (to _ _ h.0, λ p r q. let g = back p r q in not_before_trans f g.0 p r (h.1 g.0.place g.0.rule g.1) g.2)

pub not_before_self : (p : ℕ) (r : Rule) → NotBefore (record { place = p; rule = r }) p r
not_before_self p r = (omega arith, λ e. omega arith)
