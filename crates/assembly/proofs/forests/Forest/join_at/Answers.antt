use Rattle.std.proofs.Common.{◌≡◌, ◌≤◌, vec_items, vec_len, is_ok, IsOk, refl, ap, subst, arith, rules}
use Rattle.std.proofs.lemmas.Result.{err_from_is_err_and}
use Rattle.adaptor.specs.Joins.{Parted}
use Rattle.adaptor.specs.declared.ways.Way.{Way}
use Rattle.adaptor.specs.declared.joints.JoinRefusal.TheVariants.{Number}
use Rattle.tree.specs.Models.{reads}
use Rattle.tree.specs.Growth.{Grown}
use Rattle.assembly.specs.Branches.{edge}
use Rattle.assembly.specs.declared.branches.Branch.{Branch}
use Rattle.assembly.specs.declared.faults.AssemblyFault.TheVariants.{TooLarge}
use Rattle.assembly.proofs.Stepped.{taken_out, replaced, halted, taken_fit, left_fit, step_fits_at, only_number}
use Rattle.values.proofs.Passed.{kept_ok, kept_err}
use Rattle.assembly.proofs.Passed.{when_true}
use Rattle.assembly.proofs.forests.Forest.join_at.Goals as goal

pub invariant_of-self : goal.invariant_of-self
invariant_of-self c =
    let o = taken_out c.args.choice c.pair-pair.result c.pair-pair.ensures c.requires.order (omega (arith, c.requires.within, c.args.self.now.branches.ok.0)) c.remove-b.ensures.value c.remove-b.ensures.items c.remove-a.ensures.value c.remove-a.ensures.items in
    let k = kept_err _ _ _ c.join.result c.map_err.result _ c.in_err-tree.was c.map_err.ensures.cases c.join.ensures in
    let e = ap (λ r. vec_len r.boxes) k.1.2 in
    record { spare = omega (arith, c.args.self.now.spare, c.remove-a.ensures.len, c.remove-b.ensures.len, e); fit = left_fit o c.args.self.now.fit }

pub returns-in_err-tree-clause-joined : goal.returns-in_err-tree-clause-joined
returns-in_err-tree-clause-joined c =
    let o = taken_out c.args.choice c.pair-pair.result c.pair-pair.ensures c.requires.order (omega (arith, c.requires.within, c.args.self.now.branches.ok.0)) c.remove-b.ensures.value c.remove-b.ensures.items c.remove-a.ensures.value c.remove-a.ensures.items in
    let k = kept_err _ _ _ c.join.result c.map_err.result _ c.in_err-tree.was c.map_err.ensures.cases c.join.ensures in
    let p = err_from_is_err_and c.from_residual.result c.from_residual.ensures.1 in
    let a = c.remove-a.result in
    let b = c.remove-b.result in
    let fits = taken_fit o c.args.self.now.fit in
    let two : 2 ≤ vec_len c.args.self.now.room.boxes = omega (arith, c.args.self.now.spare, c.requires.order, c.requires.within) in
    let refused = only_number c.way_of.result (edge a).what (edge b).what (vec_len c.args.self.now.room.boxes) k.0.refusal two fits.0 fits.1 k.1.3 in
    let t : c.in_err-tree.field-0.0 ≡ TooLarge a.place = let h = k.2 in search rules in
    rw (p.1, p.2) (a.place, t, halted c.args.choice o (subst (λ (w : Way). Parted w (reads (edge a).what) (reads (edge b).what) Number) c.way_of.ensures refused))

pub invariant_of-self-2 : goal.invariant_of-self-2
invariant_of-self-2 c =
    let o = taken_out c.args.choice c.pair-pair.result c.pair-pair.ensures c.requires.order (omega (arith, c.requires.within, c.args.self.now.branches.ok.0)) c.remove-b.ensures.value c.remove-b.ensures.items c.remove-a.ensures.value c.remove-a.ensures.items in
    let k = kept_ok _ _ _ c.join.result c.map_err.result _ c.in_ok-tree.was c.map_err.ensures.cases c.join.ensures in
    let a = c.remove-a.result in
    let b = c.remove-b.result in
    let m : Branch = record { tree = c.in_ok-tree.tree; wire = c.joined_ends-wire.result; place = a.place } in
    let ok : IsOk c.insert.result = search rules in
    let put = when_true (is_ok c.insert.result) (vec_items c.insert.new.self) _ _ ok c.insert.ensures.items in
    let r = replaced c.args.choice c.pair-pair.result m c.pair-pair.ensures o c.joined_ends-wire.ensures refl (subst (λ (w : Way). Grown w (edge a).what (edge b).what (edge m).what) c.way_of.ensures k.0) put in
    let len = when_true (is_ok c.insert.result) (vec_len c.insert.new.self) _ _ ok c.insert.ensures.len in
    record {
      spare = omega (arith, c.args.self.now.spare, c.remove-a.ensures.len, c.remove-b.ensures.len, len, k.1);
      fit = step_fits_at (vec_items c.args.self.now.branches) c.args.choice _ c.requires.order (omega (arith, c.requires.within, c.args.self.now.branches.ok.0)) c.args.self.now.fit r;
    }

pub returns-clause-joined : goal.returns-clause-joined
returns-clause-joined c =
    let o = taken_out c.args.choice c.pair-pair.result c.pair-pair.ensures c.requires.order (omega (arith, c.requires.within, c.args.self.now.branches.ok.0)) c.remove-b.ensures.value c.remove-b.ensures.items c.remove-a.ensures.value c.remove-a.ensures.items in
    let k = kept_ok _ _ _ c.join.result c.map_err.result _ c.in_ok-tree.was c.map_err.ensures.cases c.join.ensures in
    let a = c.remove-a.result in
    let b = c.remove-b.result in
    let m : Branch = record { tree = c.in_ok-tree.tree; wire = c.joined_ends-wire.result; place = a.place } in
    let ok : IsOk c.insert.result = search rules in
    let put = when_true (is_ok c.insert.result) (vec_items c.insert.new.self) _ _ ok c.insert.ensures.items in
    let r = replaced c.args.choice c.pair-pair.result m c.pair-pair.ensures o c.joined_ends-wire.ensures refl (subst (λ (w : Way). Grown w (edge a).what (edge b).what (edge m).what) c.way_of.ensures k.0) put in
    r
