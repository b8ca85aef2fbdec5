-- What `ok_or` and `map_err` pass on.
use Rattle.std.proofs.Common.{◌≡◌, ℕ, Some, None, Option, Result, Ok, Err, MatchResult, IsErrAnd, OkIff, sym, refl, ◌∙◌, subst, arith}
use Rattle.std.specs.Option.{ok_or}

pub some_of : {T E : Type 0} (o : Option T) (e : E) (m : Result T E) (x : T) → m ≡ Ok x → m ≡ ok_or o e → o ≡ Some x
some_of {T} {E} (Some y) e m x w s = let f : ◌≡◌ {A = Result T E} (Ok y) (Ok x) = sym s ∙ w in cc
some_of {T} {E} None e m x w s = let f : ◌≡◌ {A = Result T E} (Err e) (Ok x) = sym s ∙ w in cc

pub none_of : {T E : Type 0} (o : Option T) (e : E) (m : Result T E) (d : E) → m ≡ Err d → m ≡ ok_or o e → (o ≡ None) × (d ≡ e)
none_of {T} {E} (Some y) e m d w s = let f : ◌≡◌ {A = Result T E} (Ok y) (Err d) = sym s ∙ w in let z : ◌≡◌ {A = ℕ} 0 1 = cc in absurd (omega arith)
none_of {T} {E} None e m d w s = let f : ◌≡◌ {A = Result T E} (Err e) (Err d) = sym s ∙ w in let g : d ≡ e = cc in (refl, g)

pub iff_cases : {T E : Type 0} (r : Result T E) (P : Type 0) (v : T) → OkIff r P v → MatchResult r (λ x. P × (x ≡ v)) (λ _. ¬ P)
iff_cases (Ok x) P v h = h
iff_cases (Err e) P v h = h

pub kept_ok : {T E D : Type 0} (P : T → Type 0) (Q : E → Type 0) (S : E → D → Type 0) (r : Result T E) (m : Result T D) (x : T) → m ≡ Ok x → MatchResult r (λ y. m ≡ Ok y) (λ e. IsErrAnd m (S e)) → MatchResult r P Q → P x
kept_ok {T} {E} {D} P Q S (Ok y) m x w s h = let e : ◌≡◌ {A = Result T D} (Ok y) (Ok x) = sym s ∙ w in let f : y ≡ x = cc in subst P f h
kept_ok {T} {E} {D} P Q S (Err e) m x w s h = absurd (subst (λ m. IsErrAnd m (S e)) w s)

pub kept_err : {T E D : Type 0} (P : T → Type 0) (Q : E → Type 0) (S : E → D → Type 0) (r : Result T E) (m : Result T D) (d : D) → m ≡ Err d → MatchResult r (λ y. m ≡ Ok y) (λ e. IsErrAnd m (S e)) → MatchResult r P Q → (e : E) × Q e × S e d
kept_err {T} {E} {D} P Q S (Ok y) m d w s h = let e : ◌≡◌ {A = Result T D} (Ok y) (Err d) = sym s ∙ w in let z : ◌≡◌ {A = ℕ} 0 1 = cc in absurd (omega arith)
kept_err {T} {E} {D} P Q S (Err e) m d w s h = (e, h, subst (λ m. IsErrAnd m (S e)) w s)
