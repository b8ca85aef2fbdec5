use Rattle.std.proofs.Common.{◌≡◌, ℕ, Bool, length, get_or, vec_items, sym, refl, ap, ◌∙◌, subst, zero-le, arith, below_more}
use Rattle.std.proofs.lemmas.List.{length-map, get_or_default}
use Rattle.std.proofs.lemmas.Result.{err_from_is_err_and}
use Rattle.reader.specs.declared.Element.{Element}
use Rattle.assembly.specs.Branches.{edge}
use Rattle.assembly.specs.Beginnings.{BodyIs, hears, BeginsAs, Outside, weight_of_element}
use Rattle.assembly.specs.declared.branches.Branch.{Branch}
use Rattle.assembly.proofs.Begun.{is_hears, none_yet, more_begin, more_sums, passed_one}
use Rattle.assembly.proofs.Passed.{was_some, was_none}
use Rattle.assembly.proofs.forests.Forest.begin.Goals as goal

pub loop-index-init : goal.loop-index-init
loop-index-init c =
    let bs = c.args.space.branches in
    let n = none_yet (vec_items bs) (sym bs.ok.0 ∙ c.args.space.free) in
    (c.args.space.free, c.args.space.places, λ k e b h. absurd (let no : ⊥ = omega (arith, h) in no), n.0, omega (arith, n.1), λ k d lo h. absurd (let no : ⊥ = omega (arith, h) in no))

pub loop-index-preserved : goal.loop-index-preserved
loop-index-preserved c =
    let es = c.args.elements.now in
    let k = c.loop-index.index in
    let bs = vec_items c.loop-index.branches in
    let ws = vec_items c.push_reserved.new.self in
    let e = c.index-elements-index.result in
    let at : (d : Element) → e ≡ get_or es k d = λ d. c.index-elements-index.is ∙ get_or_default es k e d c.loop-index-test.true in
    let m : Branch = record { tree = c.leaf.result; wire = c.wire_of.result; place = e.name.place } in
    let rate = c.args.scale.rate in
    let unit = c.args.scale.unit in
    let is = was_some _ _ c.leaf_of.result _ c.ok_or.result c.in_ok-leaf.leaf c.in_ok-leaf.was c.ok_or.ensures.value c.leaf_of.ensures in
    let hear : c.eq.result ≡ hears c.args.ear k = c.eq.ensures ∙ is_hears c.args.ear k in
    let body : BodyIs e.kind (weight_of_element rate unit e) (hears c.args.ear k) c.in_ok-leaf.leaf.body = subst (λ (x : Bool). BodyIs e.kind (weight_of_element rate unit e) x c.in_ok-leaf.leaf.body) hear is.body in
    let here : BeginsAs rate unit c.args.ear k e (edge m) = record { element = c.in_ok-leaf.leaf; index = is.place; body = body; what = c.leaf.ensures.tree; from = ap (λ w. w.from) c.wire_of.ensures; to = ap (λ w. w.to) c.wire_of.ensures; place = refl } in
    let len : length bs ≡ k = sym c.loop-index.branches.ok.0 ∙ c.loop-index.invariant.0 in
    let sums = more_sums rate unit c.args.ear bs ws k e m c.push_reserved.ensures.items here c.loop-index.invariant.3 c.loop-index.invariant.4 in (
      omega (arith, c.push_reserved.ensures.len, c.loop-index.invariant.0),
      omega (arith, c.push_reserved.ensures.capacity, c.loop-index.invariant.1),
      more_begin rate unit c.args.ear es bs ws k e m c.loop-index-test.true c.index-elements-index.is len c.push_reserved.ensures.items c.loop-index.invariant.2 here,
      sums.0,
      sums.1,
      λ j d lo h. below_more (λ (j : ℕ). (d : Element) → Outside (weight_of_element rate unit (get_or es j d)) → ⊥) k (λ j h d. c.loop-index.invariant.5 j d zero-le h)
          (λ d o. is.inside (subst (λ (x : Element). Outside (weight_of_element rate unit x)) (sym (at d)) o)) j h d,
    )

pub returns-in_err-leaf : goal.returns-in_err-leaf
returns-in_err-leaf c =
    let es = c.args.elements.now in
    let k = c.loop-index.index in
    let e = c.index-elements-index.result in
    let at : (d : Element) → e ≡ get_or es k d = λ d. c.index-elements-index.is ∙ get_or_default es k e d c.loop-index-test.true in
    let rate = c.args.scale.rate in
    let unit = c.args.scale.unit in
    let p = err_from_is_err_and c.from_residual.result c.from_residual.ensures.1 in
    let n = was_none _ _ c.leaf_of.result _ c.ok_or.result c.in_err-leaf.field-0.0 c.in_err-leaf.was c.ok_or.ensures.value c.leaf_of.ensures in
    rw (p.1, p.2) (
      e.name.place,
      n.1,
      record {
        k = k;
        within = c.loop-index-test.true;
        outside = λ d. subst (λ (x : Element). Outside (weight_of_element rate unit x)) (at d) n.0;
        first = c.loop-index.invariant.5;
        place = λ d. ap (λ (x : Element). x.name.place) (at d);
      },
    )

pub invariant_of-result : goal.invariant_of-result
invariant_of-result c = record {
  spare = omega (arith, c.args.space.boxes, c.loop-index.invariant.0, c.loop-index.auto.index-end, c.requires);
  fit = (omega (arith, c.loop-index.invariant.3, c.loop-index.auto.index-end, c.requires), omega (arith, c.loop-index.invariant.4, passed_one c.args.ear c.loop-index.index));
}

pub returns : goal.returns
returns c =
    let bs = vec_items c.loop-index.branches in
    let n = length-map bs edge in
    record {
      long = omega (arith, n, c.loop-index.branches.ok.0, c.loop-index.invariant.0, c.loop-index-test.false, c.loop-index.auto.index-end);
      each = λ k e b h. c.loop-index.invariant.2 k e b (omega (arith, h, c.loop-index-test.false));
    }
