-- What `ok_or` and a call that was made room for pass on.
use Rattle.std.proofs.Common.{◌≡◌, ℕ, Bool, true, false, cond, Some, None, Option, Result, Ok, Err, MatchOption, MatchResult, sym, ◌∙◌, subst, arith}
use Rattle.std.specs.Option.{ok_or}

pub was_some : {T E : Type 0} (P : Type 0) (Q : T → Type 0) (o : Option T) (e : E) (m : Result T E) (x : T) → m ≡ Ok x → m ≡ ok_or o e → MatchOption o P Q → Q x
was_some {T} {E} P Q (Some y) e m x w s h = let f : ◌≡◌ {A = Result T E} (Ok y) (Ok x) = sym s ∙ w in let g : y ≡ x = cc in subst Q g h
was_some {T} {E} P Q None e m x w s h = let f : ◌≡◌ {A = Result T E} (Err e) (Ok x) = sym s ∙ w in let z : ◌≡◌ {A = ℕ} 0 1 = cc in absurd (let no : ⊥ = omega arith in no)

pub was_none : {T E : Type 0} (P : Type 0) (Q : T → Type 0) (o : Option T) (e : E) (m : Result T E) (d : E) → m ≡ Err d → m ≡ ok_or o e → MatchOption o P Q → P × (d ≡ e)
was_none {T} {E} P Q (Some y) e m d w s h = let f : ◌≡◌ {A = Result T E} (Ok y) (Err d) = sym s ∙ w in let z : ◌≡◌ {A = ℕ} 0 1 = cc in absurd (let no : ⊥ = omega arith in no)
was_none {T} {E} P Q None e m d w s h = let f : ◌≡◌ {A = Result T E} (Err e) (Err d) = sym s ∙ w in let g : d ≡ e = cc in (h, g)

pub either : {T E : Type 0} (P : Type 0) (Q F : T → Type 0) (G : E → Type 0) (o : Option T) (e : E) → ((x : T) → Q x → F x) → (P → G e) → MatchOption o P Q → MatchResult (ok_or o e) F G
either P Q F G (Some x) e f g h = f x h
either P Q F G None e f g h = g h

pub when_true : {A : Type 0} (b : Bool) (x y z : A) → b ≡ true → x ≡ cond b y z → x ≡ y
when_true true x y z t e = e
when_true false x y z t e = let n : ◌≡◌ {A = ℕ} 0 1 = cc in absurd (let no : ⊥ = omega arith in no)
