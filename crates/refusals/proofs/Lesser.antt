-- The lesser of two faults is the one that is reported, and a rule is told by its number.
use Rattle.std.proofs.Common.{◌≡◌, ℕ, ◌+◌, ◌≤◌, Bool, true, false, cond, ◌||◌, ◌&&◌, nat_cmp, int_cmp, nat_lt, [], ◌∷◌, get_or, pos, ℤ, Some, refl, ap, ◌∙◌, arith}
use Rattle.std.specs.Prelude.{◌==◌}
use Rattle.std.specs.Ordering.{is_lt, ord_min, ordering_then}
use Rattle.std.proofs.lemmas.Grind.{common_steps}
use Rattle.std.proofs.lemmas.Int.{ints}
use Rattle.std.proofs.lemmas.Bool.Decides.{nat_tests}
use denote.Enum.Bare.{tag_one}
use denote.Enum.Declared.{tag_of}
use Rattle.refusals.specs.contracts.Rule.{the_type}
use Rattle.refusals.specs.declared.Rule.{Rule}
use Rattle.refusals.specs.declared.Rule.TheVariants.{Size, TooLong, Shape, BadName, BadValue, OutOfRange, Twice, Full, Wanting, Joined}
use Rattle.refusals.specs.declared.Fault.{Fault}
use Rattle.refusals.specs.Refusals.{number}
use Rattle.refusals.specs.Order.{goes_before}
use Rattle.refusals.specs.contracts.FaultOrd.TheImpl as ord

abbrev numbered : Rule → ℤ
numbered r = get_or (pos 1 ∷ pos 2 ∷ pos 3 ∷ pos 4 ∷ pos 5 ∷ pos 6 ∷ pos 7 ∷ pos 8 ∷ pos 9 ∷ pos 10 ∷ []) (tag_of the_type r) (pos 0)

number_is : (r : Rule) → (numbered r ≡ pos (number r)) × (number r ≡ tag_of the_type r + 1)
number_is Size = (refl, refl)
number_is TooLong = (refl, refl)
number_is Shape = (refl, refl)
number_is BadName = (refl, refl)
number_is BadValue = (refl, refl)
number_is OutOfRange = (refl, refl)
number_is Twice = (refl, refl)
number_is Full = (refl, refl)
number_is Wanting = (refl, refl)
number_is Joined = (refl, refl)

pub rule_least : (r : Rule) → 1 ≤ number r
rule_least r = omega (arith, (number_is r).1)

-- a rule is told by its number
pub same_number : (r s : Rule) → number r ≡ number s → r ≡ s
same_number r s e = tag_one the_type tt r s (omega (arith, e, (number_is r).1, (number_is s).1))

-- places first, then numbers
then_lt : (a b x y : ℕ) → is_lt (ordering_then (nat_cmp a b) (nat_cmp x y)) ≡ (nat_lt a b || (a == b && nat_lt x y))
then_lt a b x y = grind (arith, common_steps, nat_tests)

some_cond : {X : Type 0} (b : Bool) (x y : X) → Some (cond b x y) ≡ cond b (Some x) (Some y)
some_cond true x y = refl
some_cond false x y = refl

-- the numbers of rules are whole numbers from 1 on
pos_cmp : (x y : ℕ) → int_cmp (pos x) (pos y) ≡ nat_cmp x y
pos_cmp x y = grind (arith, ints, common_steps)

lt_is : (g f : Fault) → is_lt (ord.cmp-value.it g f) ≡ goes_before g f
lt_is g f = (λ i. is_lt (ordering_then (nat_cmp g.place f.place) (int_cmp ((number_is g.rule).0 i) ((number_is f.rule).0 i)))) ∙ ap (λ o. is_lt (ordering_then (nat_cmp g.place f.place) o)) (pos_cmp (number g.rule) (number f.rule)) ∙ then_lt g.place f.place (number g.rule) (number f.rule)

pub lesser_first : (f g : Fault) → Some (ord_min ord.cmp-value.it f g) ≡ cond (goes_before g f) (Some g) (Some f)
lesser_first f g = ap (λ b. Some (cond b g f)) (lt_is g f) ∙ some_cond (goes_before g f) g f
