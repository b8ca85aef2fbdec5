-- The leaves of a listing's elements.
use Rattle.std.proofs.Common.{◌≡◌, ℕ, ◌+◌, ◌<◌, ◌≤◌, Bool, cond, List, [], ◌∷◌, ◌++◌, length, get_or, eqb, Some, None, Option, sym, refl, ap, ◌∙◌, subst, arith, below_more}
use Rattle.std.specs.Option.{option_eq}
use Rattle.std.proofs.lemmas.List.{length-map, map_push, get_or_append_left, get_or_push, get_or_default}
use Rattle.std.proofs.lemmas.List.Sums.{sum_by_push}
use Rattle.std.proofs.lemmas.Bool.Decides.{nat_tests}
use Rattle.values.specs.declared.Kind.{Kind}
use Rattle.values.specs.declared.Kind.TheVariants.{Resistor, Capacitor, Coil}
use Rattle.values.proofs.OneValue.{some_value}
use Rattle.reader.specs.declared.Element.{Element}
use Rattle.tree.specs.Models.{Model, reads}
use Rattle.tree.specs.Elements.{body_reads}
use Rattle.tree.specs.declared.elements.Body.{Body}
use Rattle.tree.specs.declared.elements.Body.TheVariants.{Store, Resist}
use Rattle.net.specs.Reductions.{Edge}
use Rattle.assembly.specs.Branches.{edge, edges}
use Rattle.assembly.specs.Beginnings.{BodyIs, hears, BeginsAs}
use Rattle.assembly.specs.Inner.{sizes, ears, passed}
use Rattle.assembly.specs.declared.branches.Branch.{Branch}

-- what stands in for an element past the end
abbrev pub blank : Element
blank = record { name = record { place = 0; len = 0 }; kind = Resistor; ends = record { from = record { index = 0 }; to = record { index = 0 } }; value = some_value }

-- ---- sums over leaves
body_size : (b : Body) → (body_reads b).size ≡ 1
body_size (Store c) = refl
body_size (Resist r) = refl

body_ears : (k : Kind) (w : ℕ) (ear : Bool) (b : Body) → BodyIs k w ear b → (body_reads b).ears ≤ cond ear 1 0
body_ears Resistor w ear (Resist r) h = let e : (body_reads (Resist r)).ears ≡ cond ear 1 0 = ap (λ x. cond x 1 0) h.1 in omega (arith, e)
body_ears Resistor w ear (Store c) h = absurd h
body_ears Capacitor w ear (Resist r) h = absurd h
body_ears Capacitor w ear (Store c) h = let e : (body_reads (Store c)).ears ≡ 0 = refl in omega (arith, e)
body_ears Coil w ear (Resist r) h = absurd h
body_ears Coil w ear (Store c) h = let e : (body_reads (Store c)).ears ≡ 0 = refl in omega (arith, e)

pub is_hears : (ear : Option ℕ) (k : ℕ) → option_eq eqb ear (Some k) ≡ hears ear k
is_hears None k = refl
is_hears (Some i) k = refl

passed_more : (ear : Option ℕ) (k s x : ℕ) → s ≤ passed ear k → x ≤ cond (hears ear k) 1 0 → s + x ≤ passed ear (k + 1)
passed_more None k s x a b = omega arith
passed_more (Some i) k s x a b = grind (arith, nat_tests)

pub passed_one : (ear : Option ℕ) (k : ℕ) → passed ear k ≤ 1
passed_one None k = omega arith
passed_one (Some i) k = grind (arith, nat_tests)

pub none_yet : (bs : List Branch) → length bs ≡ 0 → (sizes (edges bs) ≡ 0) × (ears (edges bs) ≡ 0)
none_yet [] n = (refl, refl)
none_yet (b ∷ bs) n = absurd (let no : ⊥ = omega arith in no)

-- ---- one more leaf
edges_more : (bs ws : List Branch) (m : Branch) → ws ≡ bs ++ m ∷ [] → edges ws ≡ edges bs ++ edge m ∷ []
edges_more bs ws m put = ap edges put ∙ map_push edge bs m

pub more_begin : (rate unit : ℕ) (ear : Option ℕ) (es : List Element) (bs ws : List Branch) (k : ℕ) (x : Element) (m : Branch) → k < length es → x ≡ get_or es k x → length bs ≡ k → ws ≡ bs ++ m ∷ []
    → ((j : ℕ) (e : Element) (b : Edge Model) → j < k → BeginsAs rate unit ear j (get_or es j e) (get_or (edges bs) j b))
    → BeginsAs rate unit ear k x (edge m)
    → (j : ℕ) (e : Element) (b : Edge Model) → j < k + 1 → BeginsAs rate unit ear j (get_or es j e) (get_or (edges ws) j b)
more_begin rate unit ear es bs ws k x m lt is n put before here j e b h =
    let whole = edges_more bs ws m put in
    let long = length-map bs edge in
    let P : ℕ → Type 0 = λ j. (e : Element) (b : Edge Model) → BeginsAs rate unit ear j (get_or es j e) (get_or (edges ws) j b) in
    below_more P k
    (λ j h e b. subst (λ (y : Edge Model). BeginsAs rate unit ear j (get_or es j e) y) (sym (ap (λ l. get_or l j b) whole ∙ get_or_append_left (edges bs) (edge m ∷ []) b j (omega (arith, h)))) (before j e b h))
    (λ e b. subst (λ (y : Edge Model). BeginsAs rate unit ear k (get_or es k e) y) (sym (ap (λ l. get_or l k b) whole ∙ get_or_push (edges bs) (edge m) b k (long ∙ n)))
    (subst (λ (y : Element). BeginsAs rate unit ear k y (edge m)) (is ∙ get_or_default es k x e lt) here))
    j h e b

leaf_reads : (rate unit : ℕ) (ear : Option ℕ) (k : ℕ) (e : Element) (x : Edge Model) → BeginsAs rate unit ear k e x → ((reads x.what).size ≡ 1) × ((reads x.what).ears ≤ cond (hears ear k) 1 0)
leaf_reads rate unit ear k e x h =
    let s : (reads x.what).size ≡ 1 = ap (λ m. (reads m).size) h.what ∙ body_size h.element.body in
    let t : (reads x.what).ears ≡ (body_reads h.element.body).ears = ap (λ m. (reads m).ears) h.what in
    let u = body_ears e.kind _ (hears ear k) h.element.body h.body in
    (s, omega (arith, t, u))

pub more_sums : (rate unit : ℕ) (ear : Option ℕ) (bs ws : List Branch) (k : ℕ) (e : Element) (m : Branch) → ws ≡ bs ++ m ∷ [] → BeginsAs rate unit ear k e (edge m)
    → sizes (edges bs) ≡ k → ears (edges bs) ≤ passed ear k → (sizes (edges ws) ≡ k + 1) × (ears (edges ws) ≤ passed ear (k + 1))
more_sums rate unit ear bs ws k e m put here s t =
    let whole = edges_more bs ws m put in
    let r = leaf_reads rate unit ear k e (edge m) here in
    let a : sizes (edges ws) ≡ sizes (edges bs) + (reads (edge m).what).size = ap sizes whole ∙ sum_by_push (λ (x : Edge Model). (reads x.what).size) (edges bs) (edge m) in
    let b : ears (edges ws) ≡ ears (edges bs) + (reads (edge m).what).ears = ap ears whole ∙ sum_by_push (λ (x : Edge Model). (reads x.what).ears) (edges bs) (edge m) in
    let c = passed_more ear k (ears (edges bs)) (reads (edge m).what).ears t r.1 in
    (omega (arith, a, s, r.0), omega (arith, b, c))
