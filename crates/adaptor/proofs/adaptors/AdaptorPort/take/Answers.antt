use Rattle.std.proofs.Common.{◌≡◌, ℕ, sym, refl, ◌∙◌, arith, w32, SFits}
use Rattle.std.proofs.lemmas.Int.{to_z-of_z}
use Rattle.adaptor.proofs.adaptors.AdaptorPort.take.Goals as goal

pub returns-then-fits : goal.returns-then-fits
returns-then-fits g c =
    let f : SFits w32 c.args.f = c.ranges.f in
    let x : SFits w32 c.get.result = record { sfits = c.get.type_inv } in
    let y : SFits w32 c.get-then-fits.result = record { sfits = c.get-then-fits.type_inv } in
    let L = g.met.P.Port.lawful in
    let M = g.met.Q.Port.lawful in
    let F = L.fall _ _ _ _ c.take-x.ensures in
    let G = M.fall _ _ _ _ c.take-y.ensures in
    let m = (L.sound c.args.self.now.left).sizes in
    let n = (M.sound c.args.self.now.right).sizes in
    let hold = simp to_z-of_z at c.hold-f.ensures in
    let r = c.round-round.ensures in
    let u = c.rising.ensures in
    let d = c.rising-then-fits.ensures in
    let up = simp (u, d) at r.rising in
    let left = simp (hold, u, d) at r.left in
    let right = simp (hold, u, d) at r.right in
    record {
      joint = refl;
      passes = λ _. record {
        x = c.take-x.result;
        y = c.take-y.result;
        left = simp left.wave at (simp c.get.ensures at (simp to_z-of_z at c.take-x.ensures));
        right = simp right.wave at (simp c.get-then-fits.ensures at (simp to_z-of_z at c.take-y.ensures));
        gathers = record {
          absorbed = c.gathered.ensures.absorbed (omega (arith, F.absorbs, G.absorbs));
          shortened = simp (up.cut, left.cut, right.cut) at (c.gathered.ensures.shortened (omega (arith, F.counts, G.counts)));
          heard = c.gathered.ensures.heard F.hears G.hears;
        };
      };
      idles = λ no-fit. absurd (let t : ◌≡◌ {A = ℕ} 0 1 = cc (sym c.if-fits.true ∙ c.fits.ensures ∙ no-fit) in omega arith);
    }
