-- What is taken by a door line that the constructors made, step by step.
use Rattle.std.specs.Prelude.{◌≡◌, ℕ, ◌+◌, ◌*◌, ◌≤◌, Bool, true, cond, ℤ, pos, ◌+ℤ◌, unsigned_abs, refl}
use Rattle.std.proofs.Common.{ap, ap₂, ◌∙◌, subst, zero-add, add-zero}
use Rattle.std.proofs.Math.IntN.{+ℤ_idl}
use Rattle.wave.specs.Numbers.{largest_wave, sq, held, short, cut}
use Rattle.wave.specs.Terms.{Reduced}
use Rattle.wave.proofs.Losses.{held_same, short_most}
use Rattle.wave.proofs.Divided.{reduced_only}
use Rattle.port.specs.Elements.{raised, storage_reads, resistor_reads}
use Rattle.port.specs.declared.takings.Taken.{Taken}
use Rattle.port.specs.declared.elements.StorageKind.TheVariants.{Capacitor, Coil}
use Rattle.port.specs.Lawful.{storage_laws, resistor_laws}
use Rattle.port.proofs.Shown.{shown}
use Rattle.adaptor.specs.Ways.{rises, rises_over, falls, whole_num, whole_den}
use Rattle.adaptor.specs.Joints.{fits, rising_exact, rising_over, exact_left, exact_right}
use Rattle.adaptor.specs.Adapted.{fits_kept}
use Rattle.adaptor.specs.declared.ways.Way.{Way}
use Rattle.adaptor.specs.declared.ways.Way.TheVariants.{Series, Parallel}
use Rattle.worked.proofs.Euclid.{shunt_shares, shunt_ratio, line_shares, line_ratio}
use Rattle.worked.specs.Line.{States, at_rest, shunt_rising, rising, after, absorbed, shortened, heard, stored}
use Rattle.worked.specs.Door.{Shunt, shunt_reads, shunt_takes, Door, door_reads, door_takes, Built}

falls_at : {w w' : Way} {q q' p p' s s' : ℕ} {r r' t t' f f' : ℤ} → w ≡ w' → q ≡ q' → p ≡ p' → r ≡ r' → s ≡ s' → t ≡ t' → f ≡ f' →
    falls w q p r s t f ≡ falls w' q' p' r' s' t' f'
falls_at a b c d e g h = cc

rises_at : {w w' : Way} {p p' s s' : ℕ} {r r' t t' : ℤ} → w ≡ w' → p ≡ p' → r ≡ r' → s ≡ s' → t ≡ t' → rises w p r s t ≡ rises w' p' r' s' t'
rises_at a b c d e = cc

held_short : (z : ℤ) (d : ℕ) → held (short z d) ≡ short z d
held_short z d = held_same (short z d) (short_most z d)

-- ---- the shunt, whose capacitor has the state b
record ShuntIn (b : ℤ) (m : Shunt) : Type 0 where
  way : m.joint.way ≡ Parallel
  first : m.joint.shares.num ≡ 160
  second : m.joint.shares.den ≡ 83
  total : m.joint.total.value ≡ 243
  num : m.joint.ratio.num ≡ 486
  den : m.joint.ratio.den ≡ 1
  fit : fits m.joint (storage_reads m.left) (resistor_reads m.right) ≡ true
  kind : m.left.kind ≡ Capacitor
  weight : m.left.weight.value ≡ 320
  state : m.left.state.value ≡ b
  ohm : m.right.weight.value ≡ 166
  ear : m.right.ear ≡ true

abbrev to_capacitor : ℤ → ℤ → ℤ
to_capacitor b f = falls Parallel 243 160 b 83 (pos 0) f

abbrev to_resistor : ℤ → ℤ → ℤ
to_resistor b f = falls Parallel 243 83 (pos 0) 160 b f

abbrev up : ℤ → ℤ
up b = rises Parallel 160 b 83 (pos 0)

record ShuntTook (b f : ℤ) (t : Taken) (z : Shunt) : Type 0 where
  absorbed : t.absorbed ≡ 166 * sq (short (to_resistor b f) 243)
  shortened : t.shortened ≡ cut (up b) 243 + cut (to_capacitor b f) 243 + cut (to_resistor b f) 243
  heard : t.heard ≡ short (to_resistor b f) 243
  after : ShuntIn (short (to_capacitor b f) 243) z

module _ (b : ℤ) (m : Shunt) (F : ShuntIn b m) where
  raises : (storage_reads m.left).rising ≡ b
  raises = ap₂ raised F.kind F.state

  exact_up : rising_exact m.joint (storage_reads m.left).rising (pos 0) ≡ up b
  exact_up = rises_at F.way F.first raises F.second refl

  over : rising_over m.joint ≡ 243
  over = ap₂ rises_over F.way F.total

  shunt_rises : (shunt_reads m).rising ≡ short (up b) 243
  shunt_rises = ap (λ (x : Bool). cond x (short (rising_exact m.joint (storage_reads m.left).rising (pos 0)) (rising_over m.joint)) (pos 0)) F.fit
      ∙ ap₂ short exact_up over

  shunt_stores : (shunt_reads m).stored ≡ 320 * sq b
  shunt_stores = ap (λ (x : Bool). cond x (m.left.weight.value * sq m.left.state.value + 0) 0) F.fit
      ∙ add-zero (m.left.weight.value * sq m.left.state.value) ∙ ap₂ (λ w s. w * sq s) F.weight F.state

  shunt_took : (f : ℤ) (t : Taken) (z : Shunt) → unsigned_abs f ≤ largest_wave → shunt_takes m f t z → ShuntTook b f t z
  shunt_took f t z h T =
      let j = m.joint in
      let P = T.passes F.fit in
      let G = P.gathers in
      let l = P.left in
      let r = P.right in
      let hh = held_same f h in
      let zl = exact_left j (storage_reads m.left).rising (pos 0) (held f) in
      let zr = exact_right j (storage_reads m.left).rising (pos 0) (held f) in
      let el : zl ≡ to_capacitor b f = falls_at F.way F.total F.first raises F.second refl hh in
      let er : zr ≡ to_resistor b f = falls_at F.way F.total F.second refl F.first raises hh in
      let wl : held (short zl j.total.value) ≡ short (to_capacitor b f) 243 = held_short zl j.total.value ∙ ap₂ short el F.total in
      let wr : held (short zr j.total.value) ≡ short (to_resistor b f) 243 = held_short zr j.total.value ∙ ap₂ short er F.total in
      let cuts = ap₂ (λ x y. x + y) (ap₂ (λ x y. x + y) (ap₂ cut exact_up over) (ap₂ cut el F.total)) (ap₂ cut er F.total) in
      record {
        absorbed = G.absorbed ∙ ap₂ (λ x y. x + y) l.absorbed (r.absorbed ∙ ap₂ (λ w s. w * sq s) F.ohm wr) ∙ zero-add _;
        shortened = G.shortened ∙ ap₂ (λ x y. x + y) (ap₂ (λ x y. x + y) l.shortened r.shortened) cuts ∙ zero-add _;
        heard = G.heard ∙ ap₂ (λ x y. x +ℤ y) l.heard (r.heard ∙ ap₂ (λ (e : Bool) s. cond e s (pos 0)) F.ear wr) ∙ +ℤ_idl _;
        after = record {
          way = ap (λ i. i.way) T.joint ∙ F.way;
          first = ap (λ i. i.shares.num) T.joint ∙ F.first;
          second = ap (λ i. i.shares.den) T.joint ∙ F.second;
          total = ap (λ i. i.total.value) T.joint ∙ F.total;
          num = ap (λ i. i.ratio.num) T.joint ∙ F.num;
          den = ap (λ i. i.ratio.den) T.joint ∙ F.den;
          fit = ap (λ i. fits i (storage_reads z.left) (resistor_reads z.right)) T.joint
              ∙ fits_kept j (storage_reads m.left) (resistor_reads m.right) (storage_reads z.left) (resistor_reads z.right)
              (storage_laws.fall m.left _ P.x z.left l).keeps (resistor_laws.fall m.right _ P.y z.right r).keeps
              ∙ F.fit;
          kind = l.kind ∙ F.kind;
          weight = ap (λ w. w.value) l.weight ∙ F.weight;
          state = l.state ∙ wl;
          ohm = ap (λ x. x.weight.value) r.same ∙ F.ohm;
          ear = ap (λ x. x.ear) r.same ∙ F.ear;
        };
      }

-- ---- the line, in the states s
pub record DoorIn (s : States) (d : Door) : Type 0 where
  way : d.joint.way ≡ Series
  first : d.joint.shares.num ≡ 31
  second : d.joint.shares.den ≡ 486
  total : d.joint.total.value ≡ 517
  pub num : d.joint.ratio.num ≡ 15066
  pub den : d.joint.ratio.den ≡ 517
  fit : fits d.joint (storage_reads d.left) (shunt_reads d.right) ≡ true
  kind : d.left.kind ≡ Coil
  weight : d.left.weight.value ≡ 31
  state : d.left.state.value ≡ s.coil
  shunt : ShuntIn s.capacitor d.right

pub record DoorTook (s : States) (f : ℤ) (t : Taken) (z : Door) : Type 0 where
  pub absorbed : t.absorbed ≡ absorbed s f
  pub shortened : t.shortened ≡ shortened s f
  pub heard : t.heard ≡ heard s f
  pub after : DoorIn (after s f) z

module _ (s : States) (d : Door) (F : DoorIn s d) where
  door_raises : (storage_reads d.left).rising ≡ raised Coil s.coil
  door_raises = ap₂ raised F.kind F.state

  door_up : rising_exact d.joint (storage_reads d.left).rising (shunt_reads d.right).rising ≡ rises Series 31 (raised Coil s.coil) 486 (shunt_rising s)
  door_up = rises_at F.way F.first door_raises F.second (shunt_rises _ _ F.shunt)

  door_over : rising_over d.joint ≡ 1
  door_over = ap₂ rises_over F.way F.total

  pub door_rises : (door_reads d).rising ≡ rising s
  door_rises = ap (λ (x : Bool). cond x (short (rising_exact d.joint (storage_reads d.left).rising (shunt_reads d.right).rising) (rising_over d.joint)) (pos 0)) F.fit
      ∙ ap₂ short door_up door_over

  pub door_stores : (door_reads d).stored ≡ stored s
  door_stores = ap (λ (x : Bool). cond x (d.left.weight.value * sq d.left.state.value + (shunt_reads d.right).stored) 0) F.fit
      ∙ ap₂ (λ x y. x + y) (ap₂ (λ w z. w * sq z) F.weight F.state) (shunt_stores _ _ F.shunt)

  pub door_took : (f : ℤ) (t : Taken) (z : Door) → door_takes d f t z → DoorTook s (held f) t z
  door_took f t z T =
      let j = d.joint in
      let g = held f in
      let P = T.passes F.fit in
      let G = P.gathers in
      let l = P.left in
      let r2 = shunt_rises _ _ F.shunt in
      let zl = exact_left j (storage_reads d.left).rising (shunt_reads d.right).rising g in
      let zr = exact_right j (storage_reads d.left).rising (shunt_reads d.right).rising g in
      let el : zl ≡ falls Series 517 31 (raised Coil s.coil) 486 (shunt_rising s) g = falls_at F.way F.total F.first door_raises F.second r2 refl in
      let er : zr ≡ falls Series 517 486 (shunt_rising s) 31 (raised Coil s.coil) g = falls_at F.way F.total F.second r2 F.first door_raises refl in
      let wl : held (short zl j.total.value) ≡ short (falls Series 517 31 (raised Coil s.coil) 486 (shunt_rising s) g) 517 = held_short zl j.total.value ∙ ap₂ short el F.total in
      let R : ℤ → Type 0 = λ x. ShuntTook s.capacitor x P.y z.right in
      let r = subst R (ap₂ short er F.total) (shunt_took s.capacitor d.right F.shunt (short zr j.total.value) P.y z.right (short_most zr j.total.value) P.right) in
      let same = P.right.joint in
      let cuts = ap₂ (λ x y. x + y) (ap₂ (λ x y. x + y) (ap₂ cut door_up door_over) (ap₂ cut el F.total)) (ap₂ cut er F.total) in
      record {
        absorbed = G.absorbed ∙ ap₂ (λ x y. x + y) l.absorbed r.absorbed ∙ zero-add _;
        shortened = G.shortened ∙ ap₂ (λ x y. x + y) (ap₂ (λ x y. x + y) l.shortened r.shortened ∙ zero-add _) cuts;
        heard = G.heard ∙ ap₂ (λ x y. x +ℤ y) l.heard r.heard ∙ +ℤ_idl _;
        after = record {
          way = ap (λ i. i.way) T.joint ∙ F.way;
          first = ap (λ i. i.shares.num) T.joint ∙ F.first;
          second = ap (λ i. i.shares.den) T.joint ∙ F.second;
          total = ap (λ i. i.total.value) T.joint ∙ F.total;
          num = ap (λ i. i.ratio.num) T.joint ∙ F.num;
          den = ap (λ i. i.ratio.den) T.joint ∙ F.den;
          fit = ap (λ i. fits i (storage_reads z.left) (shunt_reads z.right)) T.joint
              ∙ fits_kept j (storage_reads d.left) (shunt_reads d.right) (storage_reads z.left) (shunt_reads z.right)
              (storage_laws.fall d.left _ P.x z.left l).keeps
              (record { num = ap (λ i. i.ratio.num) same; den = ap (λ i. i.ratio.den) same; size = ap (λ i. i.left.size + i.right.size) same; ears = ap (λ i. i.left.ears + i.right.ears) same })
              ∙ F.fit;
          kind = l.kind ∙ F.kind;
          weight = ap (λ w. w.value) l.weight ∙ F.weight;
          state = l.state ∙ wl;
          shunt = r.after;
        };
      }

-- ---- what the constructors make is at rest
reduced_at : {a a' b b' p q : ℕ} → a ≡ a' → b ≡ b' → Reduced a b p q → Reduced a' b' p q
reduced_at {a} {a'} {b} {b'} {p} {q} e h r = subst (λ (x : ℕ). Reduced x b' p q) e (subst (λ (y : ℕ). Reduced a y p q) h r)

shunt_made : (d : Door) → Built d → ShuntIn (pos 0) d.right
shunt_made d B =
    let j = d.right.joint in
    let J = B.shunt_joined in
    let M = J.made in
    let a = shown j.left (storage_reads d.right.left) J.left in let b = shown j.right (resistor_reads d.right.right) J.right in
    let n₁ : j.left.ratio.num ≡ 320 = a.num ∙ B.capacitor.weight in
    let n₂ : j.right.ratio.num ≡ 166 = b.num ∙ B.ohm in
    let p = reduced_only _ _ _ _ shunt_shares _ _ (reduced_at (ap₂ (λ x y. x * y) n₁ b.den) (ap₂ (λ x y. x * y) n₂ a.den) M.shares) in
    let num : whole_num Parallel j.left.ratio.num j.left.ratio.den j.right.ratio.num j.right.ratio.den ≡ 486 =
    ap₂ (λ x y. x + y) (ap₂ (λ x y. x * y) n₁ b.den) (ap₂ (λ x y. x * y) n₂ a.den) in
    let den : whole_den Parallel j.left.ratio.num j.left.ratio.den j.right.ratio.num j.right.ratio.den ≡ 1 = ap₂ (λ x y. x * y) a.den b.den in
    let q = reduced_only _ _ _ _ shunt_ratio _ _ (reduced_at num den M.ratio) in
    record {
      way = M.way;
      first = p.0;
      second = p.1;
      total = j.summed.0 ∙ ap₂ (λ x y. x + y) p.0 p.1;
      num = q.0;
      den = q.1;
      fit = simp (J.left, J.right) refl;
      kind = B.capacitor.kind;
      weight = B.capacitor.weight;
      state = B.capacitor.state;
      ohm = B.ohm;
      ear = B.ear;
    }

pub door_made : (d : Door) → Built d → DoorIn at_rest d
door_made d B =
    let j = d.joint in
    let S = shunt_made d B in
    let J = B.joined in
    let M = J.made in
    let a = shown j.left (storage_reads d.left) J.left in let b = shown j.right (shunt_reads d.right) J.right in
    let n₁ : j.left.ratio.num ≡ 31 = a.num ∙ B.coil.weight in
    let n₂ : j.right.ratio.num ≡ 486 = b.num ∙ S.num in
    let d₂ : j.right.ratio.den ≡ 1 = b.den ∙ S.den in
    let p = reduced_only _ _ _ _ line_shares _ _ (reduced_at (ap₂ (λ x y. x * y) n₁ d₂) (ap₂ (λ x y. x * y) n₂ a.den) M.shares) in
    let num : whole_num Series j.left.ratio.num j.left.ratio.den j.right.ratio.num j.right.ratio.den ≡ 15066 = ap₂ (λ x y. x * y) n₁ n₂ in
    let den : whole_den Series j.left.ratio.num j.left.ratio.den j.right.ratio.num j.right.ratio.den ≡ 517 =
    ap₂ (λ x y. x + y) (ap₂ (λ x y. x * y) n₁ d₂) (ap₂ (λ x y. x * y) n₂ a.den) in
    let q = reduced_only _ _ _ _ line_ratio _ _ (reduced_at num den M.ratio) in
    record {
      way = M.way;
      first = p.0;
      second = p.1;
      total = j.summed.0 ∙ ap₂ (λ x y. x + y) p.0 p.1;
      num = q.0;
      den = q.1;
      fit = simp (J.left, J.right) refl;
      kind = B.coil.kind;
      weight = B.coil.weight;
      state = B.coil.state;
      shunt = S;
    }
