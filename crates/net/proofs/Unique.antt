-- The steps lead to one answer only, where what two branches make is one thing and never refused too.
use Rattle.std.proofs.Common.{◌≡◌, List, [], ◌∷◌, get_or, set, sym, refl, ap, ◌∙◌, subst}
use Rattle.std.specs.List.{remove}
use Rattle.net.specs.Choices.{Takes, Stuck, chosen_pair, ends_of}
use Rattle.net.specs.Reductions.{Edge, wires, Chosen, Step, Steps, none, then, Whole, Down, Left, Over, OneAnswer}
use Rattle.net.specs.declared.wires.Wire.{Wire}
use Rattle.net.specs.declared.wires.Choice.{Choice}
use Rattle.net.proofs.Found.{one_choice}

module _ {A : Type 0} (Joins : Choice → A → A → A → Type 0) (Refused : Choice → A → A → Type 0) (port : Wire)
    (one : (c : Choice) (a b m n : A) → Joins c a b m → Joins c a b n → m ≡ n)
    (never : (c : Choice) (a b m : A) → Joins c a b m → Refused c a b → ⊥) where
  same_choice : (es : List (Edge A)) (c d : Choice) (a b x y : Edge A) → Chosen Joins Refused port es c a b → Chosen Joins Refused port es d x y → (c ≡ d) × (a ≡ x) × (b ≡ y)
  same_choice es c d a b x y p q =
      let e = one_choice (wires es) port c d p.takes q.takes in (
        e,
        sym (p.low a) ∙ ap (λ k. get_or es (chosen_pair k).low a) e ∙ q.low a,
        sym (p.high a) ∙ ap (λ k. get_or es (chosen_pair k).high a) e ∙ q.high a,
      )

  same_step : (es fs gs : List (Edge A)) → Step Joins Refused port es fs → Step Joins Refused port es gs → fs ≡ gs
  same_step es fs gs s t =
      let same = same_choice es s.choice t.choice s.a s.b t.a t.b s.chosen t.chosen in
      let made : s.made ≡ t.made = one t.choice t.a.what t.b.what s.made t.made
      (subst (λ b. Joins t.choice t.a.what b.what s.made) same.2 (subst (λ a. Joins t.choice a.what s.b.what s.made) same.1 (subst (λ c. Joins c s.a.what s.b.what s.made) same.0 s.joins))) t.joins in
      s.after
      ∙ (λ k. remove (set es (chosen_pair (same.0 k)).low (record { what = made k; wire = ends_of (wires es) (same.0 k); place = (same.1 k).place })) (chosen_pair (same.0 k)).high)
      ∙ sym t.after

  -- the same steps, told from the first
  data Path : List (Edge A) → List (Edge A) → Type 0 where
    here : {es : List (Edge A)} → Path es es
    on : {es fs gs : List (Edge A)} → Step Joins Refused port es fs → Path fs gs → Path es gs

  after_path : {es fs gs : List (Edge A)} → Path es fs → Step Joins Refused port fs gs → Path es gs
  after_path here s = on s here
  after_path (on r p) s = on r (after_path p s)

  path : {es gs : List (Edge A)} → Steps Joins Refused port es gs → Path es gs
  path none = here
  path (then r s) = after_path (path r) s

  same_end : {es fs gs : List (Edge A)} → Path es fs → Path es gs → ((hs : List (Edge A)) → Step Joins Refused port fs hs → ⊥) → ((hs : List (Edge A)) → Step Joins Refused port gs hs → ⊥) → fs ≡ gs
  same_end here here x y = refl
  same_end here (on s q) x y = absurd (x _ s)
  same_end (on r p) here x y = absurd (y _ r)
  same_end {gs = end} (on {es = es} {fs = fs} r p) (on {fs = gs} s q) x y = same_end p (subst (λ hs. Path hs end) (sym (same_step es fs gs r s)) q) x y

  ends_stuck : (es : List (Edge A)) → Stuck (wires es) port → (hs : List (Edge A)) → Step Joins Refused port es hs → ⊥
  ends_stuck es stuck hs s = stuck s.choice s.chosen.takes

  ends_refused : (es : List (Edge A)) (c : Choice) (a b : Edge A) → Chosen Joins Refused port es c a b → Refused c a.what b.what → (hs : List (Edge A)) → Step Joins Refused port es hs → ⊥
  ends_refused es c a b p r hs s =
      let same = same_choice es s.choice c s.a s.b a b s.chosen p in
      never c a.what b.what s.made
      (subst (λ y. Joins c a.what y.what s.made) same.2 (subst (λ x. Joins c x.what s.b.what s.made) same.1 (subst (λ k. Joins k s.a.what s.b.what s.made) same.0 s.joins))) r

  pub one_answer : (es : List (Edge A)) → OneAnswer Joins Refused port es
  one_answer es (Down m) (Down n) x y =
      let e = same_end (path x.came) (path y.came) (ends_stuck x.last x.stuck) (ends_stuck y.last y.stuck) in
      let cells : x.whole.last ∷ [] ≡ y.whole.last ∷ [] = sym x.whole.alone ∙ e ∙ y.whole.alone in
      let last : x.whole.last ≡ y.whole.last = cc in
      ap Down (x.whole.is ∙ ap (λ w. w.what) last ∙ sym y.whole.is)
  one_answer es (Down m) Left x y =
      let e = same_end (path x.came) (path y.came) (ends_stuck x.last x.stuck) (ends_stuck y.last y.stuck) in
      absurd (y.broken m (subst (λ l. Whole Joins Refused port l m) e x.whole))
  one_answer es Left (Down m) x y =
      let e = same_end (path x.came) (path y.came) (ends_stuck x.last x.stuck) (ends_stuck y.last y.stuck) in
      absurd (x.broken m (subst (λ l. Whole Joins Refused port l m) (sym e) y.whole))
  one_answer es Left Left x y = refl
  one_answer es (Down m) (Over p) x y =
      let e = same_end (path x.came) (path y.came) (ends_stuck x.last x.stuck) (ends_refused y.last y.choice y.a y.b y.chosen y.refused) in
      absurd (x.stuck y.choice (subst (λ l. Takes (wires l) port y.choice) (sym e) y.chosen.takes))
  one_answer es Left (Over p) x y =
      let e = same_end (path x.came) (path y.came) (ends_stuck x.last x.stuck) (ends_refused y.last y.choice y.a y.b y.chosen y.refused) in
      absurd (x.stuck y.choice (subst (λ l. Takes (wires l) port y.choice) (sym e) y.chosen.takes))
  one_answer es (Over p) (Down m) x y =
      let e = same_end (path x.came) (path y.came) (ends_refused x.last x.choice x.a x.b x.chosen x.refused) (ends_stuck y.last y.stuck) in
      absurd (y.stuck x.choice (subst (λ l. Takes (wires l) port x.choice) e x.chosen.takes))
  one_answer es (Over p) Left x y =
      let e = same_end (path x.came) (path y.came) (ends_refused x.last x.choice x.a x.b x.chosen x.refused) (ends_stuck y.last y.stuck) in
      absurd (y.stuck x.choice (subst (λ l. Takes (wires l) port x.choice) e x.chosen.takes))
  one_answer es (Over p) (Over q) x y =
      let e = same_end (path x.came) (path y.came) (ends_refused x.last x.choice x.a x.b x.chosen x.refused) (ends_refused y.last y.choice y.a y.b y.chosen y.refused) in
      let same = same_choice y.last x.choice y.choice x.a x.b y.a y.b (subst (λ l. Chosen Joins Refused port l x.choice x.a x.b) e x.chosen) y.chosen in
      ap Over (x.place ∙ ap (λ w. w.place) same.1 ∙ sym y.place)
