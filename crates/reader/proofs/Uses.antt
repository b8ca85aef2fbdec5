-- How the nodes grow by one use.
use Rattle.std.proofs.Common.{◌≡◌, ℕ, zero, suc, ◌<◌, ◌≤◌, ◌⊎◌, List, [], ◌∷◌, ◌++◌, map, length, get_or, sym, refl, ap, ◌∙◌, subst, inl, inr, ⊎_elim, arith}
use Rattle.std.specs.Char.{to_ascii_lowercase}
use Rattle.std.specs.List.{HoldsAt, AllWithin}
use Rattle.std.specs.Str.{bytes_eq}
use Rattle.std.proofs.lemmas.Slice.Eq.{bytes_eq-Decides}
use Rattle.std.proofs.lemmas.Bool.{cases_lt, cases_Bool}
use Rattle.std.proofs.lemmas.Bool.Decides.{not_from_Decides}
use Rattle.std.proofs.lemmas.List.Elements.{AllWithin-push}
use Rattle.std.proofs.ByRecursion.{has_append_left, has_push}
use Rattle.std.proofs.lemmas.List.{get_or_append_left, get_or_push, get_or_default, length_push}
use Rattle.cut.specs.Cuts.{bytes}
use Rattle.cut.specs.declared.Span.{Span}
use Rattle.names.specs.Alike.{Alike}
use Rattle.reader.specs.declared.Node.{Node}
use Rattle.reader.specs.Records.{Among, NodeUse, FirstUse, Nodes}
use Rattle.reader.specs.Inner.{Entered}
use Rattle.reader.proofs.Once.{use_early}

-- whether a name is among the nodes can be told
among_or : (t bs : List ℕ) (ns : List Node) → Among (λ n. n.name) t ns bs ⊎ (Among (λ n. n.name) t ns bs → ⊥)
among_or t bs [] = inr (λ x. omega (arith, x.1))
among_or t bs (n ∷ ns) =
    let tells = bytes_eq-Decides (map to_ascii_lowercase (bytes t n.name)) (map to_ascii_lowercase bs) in
    ⊎_elim
    (λ e. inl (0, omega arith, λ d. tells.0 e))
    (λ e.
    ⊎_elim (λ x. inl (suc x.0, omega (arith, x.1), λ d. x.2 d)) (λ other. inr (λ x. later other (not_from_Decides _ tells e) x.0 x.1 x.2))
    (among_or t bs ns))
    (cases_Bool (bytes_eq (map to_ascii_lowercase (bytes t n.name)) (map to_ascii_lowercase bs)))
  where
    later : (Among (λ n. n.name) t ns bs → ⊥) → (Alike (bytes t n.name) bs → ⊥) → (i : ℕ) → i < length (n ∷ ns) → HoldsAt (λ n. Alike (bytes t n.name) bs) (n ∷ ns) i → ⊥
    later other not zero l x = not (x n)
    later other not (suc i) l x = other (i, omega arith, λ d. x d)

pub entered_some : (t : List ℕ) (ns : List Node) (s : Span) → (ns' : List Node) × Entered t ns s ns'
entered_some t ns s = ⊎_elim (λ x. (ns, inl (x, refl))) (λ x. (ns ++ record { name = s } ∷ [], inr (x, refl))) (among_or t (bytes t s) ns)

-- no use between p and p'
pub nodes_still : (t : List ℕ) (p p' : ℕ) (ns : List Node) → p ≤ p' → ((x : Span) → NodeUse t p' x → NodeUse t p x) → Nodes t p ns → Nodes t p' ns
nodes_still t p p' ns l back h =
    record {
      sound = λ k d low m. let x = h.sound k d low m in (use_early t p p' _ x.0 (omega (arith, x.0.early)), x.1);
      complete = λ s u. h.complete s (back s u);
      ascends = h.ascends;
    }

-- one use, of s, between p and p'
pub nodes_step : (t : List ℕ) (p p' : ℕ) (ns ns' : List Node) (s : Span) → p ≤ s.place → s.place < p' → NodeUse t p' s → ((x : Span) → NodeUse t p' x → NodeUse t p x ⊎ (x ≡ s)) → Entered t ns s ns' → Nodes t p ns → Nodes t p' ns'
nodes_step t p p' ns ns' s low high used split entered h =
    ⊎_elim
    (λ old.
    subst (Nodes t p') (sym old.1)
    (record {
      sound = widened;
      complete = λ x u. ⊎_elim (λ v. h.complete x v) (λ e. (get_or ns old.0.0 (record { name = s }), (old.0.0, old.0.1, λ d. get_or_default ns old.0.0 d (record { name = s }) old.0.1), old.0.2 (record { name = s }) ∙ ap (λ y. map to_ascii_lowercase (bytes t y)) (sym e))) (split x u);
      ascends = h.ascends;
    }))
    (λ new.
    subst (Nodes t p') (sym new.1)
    (record {
      sound = AllWithin-push (λ n. FirstUse t p' n.name) ns (record { name = s }) widened (used, λ x u alike. first new.0 x u alike);
      complete = λ x u.
          ⊎_elim (λ v. let y = h.complete x v in (y.0, has_append_left ns (record { name = s } ∷ []) y.0 y.1, y.2))
          (λ e. (record { name = s }, has_push ns (record { name = s }), ap (λ y. map to_ascii_lowercase (bytes t y)) (sym e))) (split x u);
      ascends = λ i j d l m.
          let n = length_push ns (record { name = s }) in
          ⊎_elim
          (λ inside.
          let a = ap (λ n. n.name.place) (get_or_append_left ns (record { name = s } ∷ []) d i (omega arith)) in
          let b = ap (λ n. n.name.place) (get_or_append_left ns (record { name = s } ∷ []) d j inside) in
          omega (arith, a, b, h.ascends i j d l inside))
          (λ outside.
          let same : length ns ≡ j = omega (arith, n) in
          let a = ap (λ n. n.name.place) (get_or_append_left ns (record { name = s } ∷ []) d i (omega arith)) in
          let b = ap (λ n. n.name.place) (get_or_push ns (record { name = s }) d j same) in
          omega (arith, a, b, (h.sound i d (omega arith) (omega arith)).0.early))
          (cases_lt j (length ns));
    }))
    entered
  where
    widened : AllWithin (λ n. FirstUse t p' n.name) ns 0 (length ns)
    widened k d l m = let x = h.sound k d l m in (use_early t p p' _ x.0 (omega (arith, x.0.early)), x.1)

    first : (Among (λ n. n.name) t ns (bytes t s) → ⊥) → (x : Span) → NodeUse t s.place x → Alike (bytes t s) (bytes t x) → ⊥
    first new x u alike =
        ⊎_elim
        (λ v. let y = h.complete x v in new (y.1.0, y.1.1, λ d. ap (λ n. map to_ascii_lowercase (bytes t n.name)) (y.1.2 d) ∙ y.2 ∙ sym alike))
        (λ e. omega (arith, u.early, ap (λ (f : Span). f.place) e))
        (split x (use_early t s.place p' x u (omega (arith, u.early))))
