-- Lists in the order of their places are determined by what they list.
use Rattle.std.proofs.Common.{◌≡◌, ℕ, zero, suc, ◌<◌, ◌≤◌, ◌⊎◌, List, [], ◌∷◌, length, get_or, sym, refl, ap, ◌∙◌, subst, inl, inr, ⊎_elim, arith}
use Rattle.std.proofs.lemmas.Bool.{cases_order}
use Rattle.cut.specs.Cuts.{bytes, LineTo, FieldsIn, stop}
use Rattle.cut.specs.declared.Span.{Span}
use Rattle.names.specs.Alike.{Alike}
use Rattle.reader.specs.declared.Node.{Node}
use Rattle.reader.specs.Lines.{nowhere, nth, Line, LineIn}
use Rattle.reader.specs.Records.{Listed, Records, NodeUse, Nodes}
use Rattle.reader.proofs.Few.{nth_between}
use Rattle.cut.proofs.Same.{line_same, fields_same, fields_ascend, line_apart}

module _ {X : Type 0} where
  Mem : X → List X → Type 0
  Mem x [] = ⊥
  Mem x (y ∷ ys) = (x ≡ y) ⊎ Mem x ys

  mem_at : (xs : List X) (k : ℕ) (d : X) → k < length xs → Mem (get_or xs k d) xs
  unfolding Mem
  mem_at [] k d l = absurd (omega arith)
  mem_at (x ∷ xs) zero d l = inl refl
  mem_at (x ∷ xs) (suc k) d l = inr (mem_at xs k d (omega arith))

  at_mem : (xs : List X) (x : X) → Mem x xs → (k : ℕ) × (k < length xs) × ((d : X) → get_or xs k d ≡ x)
  unfolding Mem
  at_mem [] x m = absurd m
  at_mem (y ∷ ys) x m = ⊎_elim (λ e. (0, omega arith, λ d. sym e)) (λ n. let r = at_mem ys x n in (suc r.0, omega (arith, r.1), λ d. r.2 d)) m

  module _ (place : X → ℕ) where
    Ascending : List X → Type 0
    Ascending xs = (i j : ℕ) (d : X) → i < j → j < length xs → place (get_or xs i d) < place (get_or xs j d)

    above : (x : X) (xs : List X) → Ascending (x ∷ xs) → (y : X) → Mem y xs → place x < place y
    unfolding Ascending
    above x xs a y m = let r = at_mem xs y m in let h = a 0 (suc r.0) x (omega arith) (omega (arith, r.1)) in subst (λ z. place x < place z) (r.2 x) h

    tail_ascends : (x : X) (xs : List X) → Ascending (x ∷ xs) → Ascending xs
    unfolding Ascending
    tail_ascends x xs a i j d l m = a (suc i) (suc j) d (omega arith) (omega arith)

    once : (xs ys : List X) → Ascending xs → Ascending ys → ((x : X) → Mem x xs → Mem x ys) → ((y : X) → Mem y ys → Mem y xs) → xs ≡ ys
    unfolding Mem
    once [] [] a b f g = refl
    once [] (y ∷ ys) a b f g = absurd (g y (inl refl))
    once (x ∷ xs) [] a b f g = absurd (f x (inl refl))
    once (x ∷ xs) (y ∷ ys) a b f g =
        let e : x ≡ y = ⊎_elim (λ p. p) (λ m. ⊎_elim (λ p. sym p) (λ n. absurd (let u = above y ys b x m in let v = above x xs a y n in omega arith)) (g y (inl refl))) (f x (inl refl)) in
        let rest = once xs ys (tail_ascends x xs a) (tail_ascends y ys b)
        (λ z m. ⊎_elim (λ p. absurd (let u = above x xs a z m in let v = ap place (p ∙ sym e) in omega arith)) (λ n. n) (f z (inr m)))
        (λ z m. ⊎_elim (λ p. absurd (let u = above y ys b z m in let v = ap place (p ∙ e) in omega arith)) (λ n. n) (g z (inr m))) in
        λ i. e i ∷ rest i

    -- two lists from the same sources are one, where what a sound item is stands for one source
    module _ {Y : Type 0} (From : Y → Type 0) (Is : Y → X → Type 0) (Sound : X → Type 0)
        (source : (x : X) → Sound x → (y : Y) × From y × ((z : X) → Sound z → Is y z → z ≡ x)) where
      within_other : (xs ys : List X) → Listed From Is Sound place xs → Listed From Is Sound place ys → (x : X) → Mem x xs → Mem x ys
      within_other xs ys a b x m =
          let r = at_mem xs x m in
          let s = source x (subst Sound (r.2 x) (a.sound r.0 x (omega arith) r.1)) in
          let c = b.complete s.0 s.1 in
          let sound = subst Sound (c.1.2 x) (b.sound c.1.0 x (omega arith) c.1.1) in
          let e : c.0 ≡ x = s.2 c.0 sound c.2 in
          subst (λ z. Mem z ys) (c.1.2 x ∙ e) (mem_at ys c.1.0 x c.1.1)

      pub listed_once : (xs ys : List X) → Listed From Is Sound place xs → Listed From Is Sound place ys → xs ≡ ys
      unfolding Ascending
      listed_once xs ys a b = once xs ys a.ascends b.ascends (within_other xs ys a b) (within_other ys xs b a)

-- what is read from lines is determined by them
pub records_once : {X : Type 0} (K : Line → Type 0) (Is : Line → X → Type 0) (place : X → ℕ) (t : List ℕ) (q : ℕ) → ((l : Line) (x y : X) → Is l x → Is l y → x ≡ y) → (xs ys : List X) → Records K Is place t q xs → Records K Is place t q ys → xs ≡ ys
records_once K Is place t q one xs ys a b =
    listed_once place (λ l. LineIn t q l × K l) Is (λ x. (l : Line) × LineIn t q l × K l × Is l x) (λ x s. (s.0, (s.1, s.2), λ z _ w. one s.0 z x w s.3)) xs ys a b

pub same_line : (t : List ℕ) (q q' : ℕ) (l m : Line) → LineIn t q l → LineIn t q' m → l.start ≡ m.start → l ≡ m
same_line t q q' l m x y e =
    let b = line_same t m.start l.end m.end (subst (λ n. LineTo t n l.end) e x.ends) y.ends in
    let z = subst (λ n. FieldsIn t n l.end l.fields) e x.cut in
    let f = fields_same t m.start m.end l.fields m.fields (subst (λ n. FieldsIn t m.start n l.fields) b z) y.cut in
    λ i. record { start = e i; end = b i; fields = f i }

-- lines do not overlap
pub apart : (t : List ℕ) (q q' : ℕ) (l m : Line) → LineIn t q l → LineIn t q' m → l.start < m.start → l.end < m.start
apart t q q' l m x y h = line_apart t l.start l.end m.start x.ends y.starts h

pub use_between : (t : List ℕ) (p : ℕ) (s : Span) → (u : NodeUse t p s) → (u.line.start ≤ s.place) × (s.place < stop s) × (stop s ≤ u.line.end)
use_between t p s u = subst (λ f. (u.line.start ≤ f.place) × (f.place < stop f) × (stop f ≤ u.line.end)) (sym u.is) (nth_between t u.line.start u.line.end u.line.fields u.k u.within.cut u.there)

-- two uses at one place are one
pub use_same : (t : List ℕ) (p : ℕ) (s s' : Span) → NodeUse t p s → NodeUse t p s' → s.place ≡ s'.place → s ≡ s'
use_same t p s s' u v e =
    let a = use_between t p s u in
    let b = use_between t p s' v in
    ⊎_elim
    (λ same.
    let l = same_line t (length t) (length t) u.line v.line u.within v.within same in
    let i = u.is ∙ ap (λ m. nth m.fields u.k) l in
    let long = subst (λ m. u.k < length m.fields) l u.there in
    let fs = v.line.fields in
    let si = ap (λ (f : Span). f.place) i in
    let vi = ap (λ (f : Span). f.place) v.is in
    let ei = ap (λ (f : Span). stop f) i in
    let wi = ap (λ (f : Span). stop f) v.is in
    ⊎_elim (λ k. i ∙ ap (nth fs) k ∙ sym v.is)
    (⊎_elim
    (λ k. absurd (let o = fields_ascend t v.line.start v.line.end fs nowhere u.k v.k v.within.cut k v.there in omega (arith, o, a.1, si, ei, vi, e)))
    (λ k. absurd (let o = fields_ascend t v.line.start v.line.end fs nowhere v.k u.k v.within.cut k long in omega (arith, o, b.1, si, vi, wi, e))))
    (cases_order u.k v.k))
    (⊎_elim
    (λ l. absurd (omega (arith, apart t (length t) (length t) u.line v.line u.within v.within l, a.1, a.2, b.0, e)))
    (λ l. absurd (omega (arith, apart t (length t) (length t) v.line u.line v.within u.within l, b.1, b.2, a.0, e))))
    (cases_order u.line.start v.line.start)

pub use_early : (t : List ℕ) (p p' : ℕ) (s : Span) → NodeUse t p s → s.place < p' → NodeUse t p' s
use_early t p p' s u l =
    record { line = u.line; kd = u.kd; k = u.k; within = u.within; stands = u.stands; carries = u.carries; which = u.which; there = u.there; is = u.is; early = l }

-- the nodes before a place are determined
pub nodes_once : (t : List ℕ) (p : ℕ) (xs ys : List Node) → Nodes t p xs → Nodes t p ys → xs ≡ ys
nodes_once t p xs ys a b =
    listed_once (λ n. n.name.place) (NodeUse t p) (λ s n. Alike (bytes t n.name) (bytes t s)) (λ n. NodeUse t p n.name × ((s' : Span) → NodeUse t n.name.place s' → Alike (bytes t n.name) (bytes t s') → ⊥))
    (λ x sx. (
      x.name,
      sx.0,
      λ z sz alike.
          let e : z.name.place ≡ x.name.place =
          ⊎_elim (λ e. e)
          (⊎_elim (λ l. absurd (sx.1 z.name (use_early t p x.name.place z.name sz.0 l) (sym alike)))
          (λ l. absurd (sz.1 x.name (use_early t p z.name.place x.name sx.0 l) alike)))
          (cases_order z.name.place x.name.place) in
          let s = use_same t p z.name x.name sz.0 sx.0 e in
          λ i. record { name = s i },
    ))
    xs ys a b
