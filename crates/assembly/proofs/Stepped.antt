-- What taking two branches out and putting one in does to the list of branches.
use Rattle.std.proofs.Common.{◌≡◌, ℕ, ◌+◌, ◌<◌, ◌≤◌, List, [], ◌∷◌, map, length, get_or, set, sym, refl, ap, ◌∙◌, subst, arith}
use Rattle.std.specs.List.{remove, insert}
use Rattle.std.proofs.lemmas.List.{length-map, map-set, get_or-map}
use Rattle.std.proofs.lemmas.List.Sums.{sum_by-remove}
use Rattle.std.proofs.lemmas.List.Edits.{get_or-remove_below, length-remove}
use Rattle.port.specs.Meaning.{largest_size}
use Rattle.adaptor.specs.Joins.{Parted}
use Rattle.adaptor.specs.declared.ways.Way.{Way}
use Rattle.adaptor.specs.declared.joints.JoinRefusal.TheVariants.{Number, Size, Ears}
use Rattle.tree.specs.Models.{Model, reads}
use Rattle.tree.specs.Growth.{Grown, Ungrown}
use Rattle.tree.specs.declared.grown.Refusal.{Refusal}
use Rattle.tree.specs.declared.grown.Refusal.TheVariants.{NoRoom, NoJoint}
use Rattle.net.specs.Wires.{at, far, nowhere}
use Rattle.net.specs.Choices.{Takes, Stuck, chosen_pair, ends_of}
use Rattle.net.specs.Reductions.{Edge, wires, Stands, Step, Steps, EndsOver}
use Rattle.net.specs.declared.wires.Wire.{Wire}
use Rattle.net.specs.declared.wires.Pair.{Pair}
use Rattle.net.specs.declared.wires.Choice.{Choice}
use Rattle.net.specs.declared.wires.Choice.TheVariants.{Twins, Chain}
use Rattle.assembly.specs.Branches.{edge, edges, way_for, Joins, Refused}
use Rattle.assembly.specs.Inner.{sizes, ears, Fit, ends_after_join, Replaced, Halted}
use Rattle.assembly.specs.declared.branches.Branch.{Branch}
use Rattle.assembly.proofs.Sums.{put_back, map_removed, sum_step, sum_two}
use Rattle.assembly.proofs.OneTree.{shown}

-- ---- why two trees are not joined
pub only_number : (w : Way) (a b : Model) (n : ℕ) (r : Refusal) → 2 ≤ n → (reads a).size + (reads b).size ≤ largest_size → (reads a).ears + (reads b).ears ≤ 1 → Ungrown w a b n r → Parted w (reads a) (reads b) Number
only_number w a b n NoRoom two small eared u = absurd (let no : ⊥ = omega arith in no)
only_number w a b n (NoJoint Number) two small eared u = u.1
only_number w a b n (NoJoint Size) two small eared u =
    let p = u.1 in
    let x = shown p.x (reads a) p.left in
    let y = shown p.y (reads b) p.right in
    absurd (let no : ⊥ = omega (arith, x.2, y.2, p.refused.1) in no)
only_number w a b n (NoJoint Ears) two small eared u =
    let p = u.1 in
    let x = shown p.x (reads a) p.left in
    let y = shown p.y (reads b) p.right in
    absurd (let no : ⊥ = omega (arith, x.3, y.3, p.refused.2) in no)

-- ---- the two that are taken out
-- b is taken out at j, then a at i
pub record TakenOut (xs ys zs : List Branch) (i j : ℕ) (a b : Branch) : Type 0 where
  pub order : i < j
  pub within : j < length xs
  pub later : b ≡ get_or xs j b
  pub less : ys ≡ remove xs j
  pub former : a ≡ get_or ys i a
  pub least : zs ≡ remove ys i

-- the pair that they stand at is that of the choice
pub taken_out : {xs ys zs : List Branch} {a b : Branch} (c : Choice) (p : Pair) → p ≡ chosen_pair c → (chosen_pair c).low < (chosen_pair c).high → (chosen_pair c).high < length xs
    → b ≡ get_or xs p.high b → ys ≡ remove xs p.high → a ≡ get_or ys p.low a → zs ≡ remove ys p.low → TakenOut xs ys zs (chosen_pair c).low (chosen_pair c).high a b
taken_out {xs} {ys} {zs} {a} {b} c p e order within later less former least = record {
  order = order;
  within = within;
  later = later ∙ ap (λ q. get_or xs q.high b) e;
  less = less ∙ ap (λ q. remove xs q.high) e;
  former = former ∙ ap (λ q. get_or ys q.low a) e;
  least = least ∙ ap (λ q. remove ys q.low) e;
}

pub stands_low : {xs ys zs : List Branch} {i j : ℕ} {a b : Branch} → TakenOut xs ys zs i j a b → Stands (edges xs) i (edge a)
stands_low {xs} {ys} {zs} {i} {j} {a} {b} o d =
    let is : a ≡ get_or xs i a = o.former ∙ ap (λ l. get_or l i a) o.less ∙ get_or-remove_below xs j a i o.order o.within in
    get_or-map edge xs i a d (omega (arith, o.order, o.within)) ∙ ap edge (sym is)

pub stands_high : {xs ys zs : List Branch} {i j : ℕ} {a b : Branch} → TakenOut xs ys zs i j a b → Stands (edges xs) j (edge b)
stands_high {xs} {ys} {zs} {i} {j} {a} {b} o d = get_or-map edge xs j b d o.within ∙ ap edge (sym o.later)

pub after_put : {xs ys zs ws : List Branch} {i j : ℕ} {a b : Branch} (m : Branch) → TakenOut xs ys zs i j a b → ws ≡ insert zs i m → edges ws ≡ remove (set (edges xs) i (edge m)) j
after_put {xs} {ys} {zs} {ws} {i} {j} {a} {b} m o put =
    let same : ws ≡ remove (set xs i m) j = put ∙ ap (λ l. insert l i m) (o.least ∙ ap (λ l. remove l i) o.less) ∙ put_back xs i j m o.order o.within in
    ap edges same ∙ map_removed edge (set xs i m) j ∙ ap (λ l. remove l j) (map-set edge xs i m)

-- two of the branches fit each other
pub two_fit : (es : List (Edge Model)) (i j : ℕ) (a b : Edge Model) → Fit es → i < j → j < length es → Stands es i a → Stands es j b → ((reads a.what).size + (reads b.what).size ≤ largest_size) × ((reads a.what).ears + (reads b.what).ears ≤ 1)
two_fit es i j a b fit lo hi x y =
    let s = sum_two (λ e. (reads e.what).size) es i j a lo hi in
    let t = sum_two (λ e. (reads e.what).ears) es i j a lo hi in
    let sa : (reads (get_or es i a).what).size ≡ (reads a.what).size = ap (λ e. (reads e.what).size) (x a) in
    let sb : (reads (get_or es j a).what).size ≡ (reads b.what).size = ap (λ e. (reads e.what).size) (y a) in
    let ta : (reads (get_or es i a).what).ears ≡ (reads a.what).ears = ap (λ e. (reads e.what).ears) (x a) in
    let tb : (reads (get_or es j a).what).ears ≡ (reads b.what).ears = ap (λ e. (reads e.what).ears) (y a) in
    (omega (arith, s, sa, sb, fit.0), omega (arith, t, ta, tb, fit.1))

-- ---- a step keeps what fits
grown_sums : (w : Way) (a b m : Model) → Grown w a b m → ((reads m).size ≡ (reads a).size + (reads b).size) × ((reads m).ears ≡ (reads a).ears + (reads b).ears)
grown_sums w a b m g =
    let j = g.joint in
    let x = shown j.left (reads a) g.joined.left in
    let y = shown j.right (reads b) g.joined.right in
    (ap (λ n. (reads n).size) g.is ∙ (λ k. x.2 k + y.2 k), ap (λ n. (reads n).ears) g.is ∙ (λ k. x.3 k + y.3 k))

pub step_fits : (c : Choice) (es fs : List (Edge Model)) → (chosen_pair c).low < (chosen_pair c).high → (chosen_pair c).high < length es → Fit es → Replaced c es fs → Fit fs
step_fits c es fs lo hi fit r =
    let i = (chosen_pair c).low in
    let j = (chosen_pair c).high in
    let e : Edge Model = record { what = r.made; wire = ends_after_join c r.a.wire r.b.wire; place = r.a.place } in
    let g = grown_sums (way_for c) r.a.what r.b.what r.made r.joins in
    let size : (reads r.made).size ≡ (reads (get_or es i r.a).what).size + (reads (get_or es j r.a).what).size
    = g.0 ∙ (λ k. (reads (sym (r.low r.a) k).what).size + (reads (sym (r.high r.a) k).what).size) in
    let eared : (reads r.made).ears ≡ (reads (get_or es i r.a).what).ears + (reads (get_or es j r.a).what).ears
    = g.1 ∙ (λ k. (reads (sym (r.low r.a) k).what).ears + (reads (sym (r.high r.a) k).what).ears) in
    let s : sizes fs ≡ sizes es = ap sizes r.after ∙ sum_step (λ x. (reads x.what).size) es i j e r.a lo hi size in
    let t : ears fs ≡ ears es = ap ears r.after ∙ sum_step (λ x. (reads x.what).ears) es i j e r.a lo hi eared in
    (omega (arith, s, fit.0), omega (arith, t, fit.1))

-- ---- the ends
stands_wire : (es : List (Edge Model)) (k : ℕ) (a : Edge Model) → k < length es → Stands es k a → at (wires es) k ≡ a.wire
stands_wire es k a h s = get_or-map (λ e. e.wire) es k a nowhere h ∙ ap (λ e. e.wire) (s a)

same_ends_of : (c : Choice) (es : List (Edge Model)) (a b : Edge Model) → at (wires es) (chosen_pair c).low ≡ a.wire → at (wires es) (chosen_pair c).high ≡ b.wire → ends_after_join c a.wire b.wire ≡ ends_of (wires es) c
same_ends_of (Twins p) es a b x y = sym x
same_ends_of (Chain p n) es a b x y = λ k. record { from = far n (sym x k); to = far n (sym y k) }

-- ---- what a choice that is taken says of its pair
pub ordered : (c : Choice) (ws : List Wire) (port : Wire) → Takes ws port c → ((chosen_pair c).low < (chosen_pair c).high) × ((chosen_pair c).high < length ws)
ordered (Twins p) ws port t = (t.twins.order, t.twins.within)
ordered (Chain p n) ws port t = (t.1.chain.meet.order, t.1.chain.meet.within)

pub wires_edges : (bs : List Branch) → map (λ b. b.wire) bs ≡ wires (edges bs)
wires_edges [] = refl
wires_edges (b ∷ bs) = ap (λ ws. b.wire ∷ ws) (wires_edges bs)

-- ---- the steps
pub stepped : (port : Wire) (c : Choice) (es fs : List (Edge Model)) → Takes (wires es) port c → Replaced c es fs → Step Joins Refused port es fs
stepped port c es fs t r =
    let o = ordered c (wires es) port t in
    let n = length-map es (λ e. e.wire) in
    let hi : (chosen_pair c).high < length es = omega (arith, o.1) in
    let lo : (chosen_pair c).low < length es = omega (arith, o.0) in
    record {
      choice = c;
      a = r.a;
      b = r.b;
      chosen = record { takes = t; low = r.low; high = r.high };
      made = r.made;
      joins = r.joins;
      after = r.after ∙ ap (λ w. remove (set es (chosen_pair c).low (record { what = r.made; wire = w; place = r.a.place })) (chosen_pair c).high)
          (same_ends_of c es r.a r.b (stands_wire es (chosen_pair c).low r.a lo r.low) (stands_wire es (chosen_pair c).high r.b hi r.high));
    }

pub halts : (port : Wire) (c : Choice) (es fs : List (Edge Model)) (p : ℕ) → Steps Joins Refused port es fs → Takes (wires fs) port c → Halted c fs p → EndsOver Joins Refused port es p
halts port c es fs p came t h = record {
  last = fs;
  came = came;
  choice = c;
  a = h.a;
  b = h.b;
  chosen = record { takes = t; low = h.low; high = h.high };
  refused = h.refused;
  place = h.place;
}

-- ---- a join of two that were taken out
pub replaced : {xs ys zs ws : List Branch} {a b : Branch} (c : Choice) (p : Pair) (m : Branch) → p ≡ chosen_pair c → TakenOut xs ys zs (chosen_pair c).low (chosen_pair c).high a b
    → m.wire ≡ ends_after_join c a.wire b.wire → m.place ≡ a.place → Joins c (edge a).what (edge b).what (edge m).what → ws ≡ insert zs p.low m → Replaced c (edges xs) (edges ws)
replaced {xs} {ys} {zs} {ws} {a} {b} c p m e o wire place joins put = record {
  a = edge a;
  b = edge b;
  low = stands_low o;
  high = stands_high o;
  made = (edge m).what;
  joins = joins;
  after = after_put m o (put ∙ ap (λ q. insert zs q.low m) e) ∙ (λ k. remove (set (edges xs) (chosen_pair c).low (record { what = (edge m).what; wire = wire k; place = place k })) (chosen_pair c).high);
}

pub halted : {xs ys zs : List Branch} {a b : Branch} (c : Choice) → TakenOut xs ys zs (chosen_pair c).low (chosen_pair c).high a b → Refused c (edge a).what (edge b).what → Halted c (edges xs) a.place
halted {xs} {ys} {zs} {a} {b} c o refused = record { a = edge a; b = edge b; low = stands_low o; high = stands_high o; refused = refused; place = refl }

pub taken_fit : {xs ys zs : List Branch} {i j : ℕ} {a b : Branch} → TakenOut xs ys zs i j a b → Fit (edges xs) → ((reads (edge a).what).size + (reads (edge b).what).size ≤ largest_size) × ((reads (edge a).what).ears + (reads (edge b).what).ears ≤ 1)
taken_fit {xs} {ys} {zs} {i} {j} {a} {b} o fit =
    let n = length-map xs edge in
    two_fit (edges xs) i j (edge a) (edge b) fit o.order (omega (arith, o.within)) (stands_low o) (stands_high o)

-- what is left of the branches fits
fewer_fit : (es : List (Edge Model)) (k : ℕ) (d : Edge Model) → k < length es → Fit es → Fit (remove es k)
fewer_fit es k d h fit =
    let s = sum_by-remove (λ e. (reads e.what).size) es k d h in
    let t = sum_by-remove (λ e. (reads e.what).ears) es k d h in
    (omega (arith, s, fit.0), omega (arith, t, fit.1))

pub left_fit : {xs ys zs : List Branch} {i j : ℕ} {a b : Branch} → TakenOut xs ys zs i j a b → Fit (edges xs) → Fit (edges zs)
left_fit {xs} {ys} {zs} {i} {j} {a} {b} o fit =
    let y : edges ys ≡ remove (edges xs) j = ap edges o.less ∙ map_removed edge xs j in
    let z : edges zs ≡ remove (remove (edges xs) j) i = ap edges o.least ∙ map_removed edge ys i ∙ ap (λ l. remove l i) y in
    let n = length-map xs edge in
    let hi : j < length (edges xs) = omega (arith, n, o.within) in
    let m = length-remove (edges xs) j hi in
    let lo : i < length (remove (edges xs) j) = omega (arith, m, hi, o.order) in
    subst Fit (sym z) (fewer_fit (remove (edges xs) j) i (edge a) lo (fewer_fit (edges xs) j (edge b) hi fit))

-- ---- what is chosen of the branches in the code
pub taken_edges : (bs ys : List Branch) (port : Wire) (c : Choice) → ys ≡ bs → Takes (map (λ b. b.wire) ys) port c → Takes (wires (edges bs)) port c
taken_edges bs ys port c e t = subst (λ ws. Takes ws port c) (ap (λ l. map (λ b. b.wire) l) e ∙ wires_edges bs) t

pub stuck_edges : (bs ys : List Branch) (port : Wire) → ys ≡ bs → Stuck (map (λ b. b.wire) ys) port → Stuck (wires (edges bs)) port
stuck_edges bs ys port e t = subst (λ ws. Stuck ws port) (ap (λ l. map (λ b. b.wire) l) e ∙ wires_edges bs) t

pub pair_within : (bs : List Branch) (port : Wire) (c : Choice) → Takes (wires (edges bs)) port c → ((chosen_pair c).low < (chosen_pair c).high) × ((chosen_pair c).high < length bs)
pair_within bs port c t =
    let o = ordered c (wires (edges bs)) port t in
    let m = length-map (edges bs) (λ e. e.wire) in
    let n = length-map bs edge in
    (o.0, omega (arith, o.1))

pub step_fits_at : (bs : List Branch) (c : Choice) (fs : List (Edge Model)) → (chosen_pair c).low < (chosen_pair c).high → (chosen_pair c).high < length bs → Fit (edges bs) → Replaced c (edges bs) fs → Fit fs
step_fits_at bs c fs lo hi fit r = let n = length-map bs edge in step_fits c (edges bs) fs lo (omega (arith, hi, n)) fit r
