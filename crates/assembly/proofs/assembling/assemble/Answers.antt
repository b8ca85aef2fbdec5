use Rattle.std.proofs.Common.{not, refl, ap, ◌∙◌}
use Rattle.std.proofs.lemmas.Result.{err_from_is_err_and}
use Rattle.assembly.specs.Beginnings.{Earless}
use Rattle.assembly.proofs.Answered.{one_end, Ready, ready, heard, grown, refused, named, unnamed, no_ear, has_ear}
use Rattle.assembly.proofs.assembling.assemble.Goals as goal
use Rattle.assembly.proofs.assembling.assemble.Goals.{else-is_none-via-then-is_none+else-not-is_empty, else-is_none-via-else-is_none}

pub returns-in_err-listing-clause-only : goal.returns-in_err-listing-clause-only
returns-in_err-listing-clause-only c = one_end

pub returns-in_err-scale-clause-only : goal.returns-in_err-scale-clause-only
returns-in_err-scale-clause-only c = one_end

pub returns-in_err-tree : goal.returns-in_err-tree
returns-in_err-tree c =
    let p = err_from_is_err_and c.from_residual-in_err-tree.result c.from_residual-in_err-tree.ensures.1 in
    let k : Ready c.args.text.now c.args.ear.now c.args.rate c.args.unit c.in_ok-listing.listing c.ear_of-at.result c.in_ok-scale.scale c.as_slice-elements.result.now c.wire_of.result = ready c.new.result _ c.ok_or.result c.in_ok-scale.scale c.in_ok-scale.was c.ok_or.ensures.value c.new.ensures c.in_ok-listing.ensures.answer c.as_slice-elements.ensures.items c.wire_of.ensures c.ear_of-at.ensures in
    record { answer = rw (p.1, p.2) (refused c.in_err-tree.field-0.0 k c.in_err-tree.ensures, refl); only = one_end }

pub returns-then-not-is_empty : goal.returns-then-not-is_empty
returns-then-not-is_empty c =
    let k : Ready c.args.text.now c.args.ear.now c.args.rate c.args.unit c.in_ok-listing.listing c.ear_of-at.result c.in_ok-scale.scale c.as_slice-elements.result.now c.wire_of.result = ready c.new.result _ c.ok_or.result c.in_ok-scale.scale c.in_ok-scale.was c.ok_or.ensures.value c.new.ensures c.in_ok-listing.ensures.answer c.as_slice-elements.ensures.items c.wire_of.ensures c.ear_of-at.ensures in
    let m = c.in_ok-tree.tree.tree in
    let g = grown m k c.in_ok-tree.ensures in
    let d = c.in_ok-listing.listing in
    let some = named _ _ c.is_empty.ensures c.if-not-is_empty.true in
    record { answer = ((d, g.0, m, g.1, g.2, no_ear c.args.text.now d.elements c.args.ear.now c.ear_of-at.result (heard k) (c.is_none.ensures ∙ ap not c.if-is_none.true) some), refl); only = one_end }

pub returns : goal.returns
returns c =
    let k : Ready c.args.text.now c.args.ear.now c.args.rate c.args.unit c.in_ok-listing.listing c.ear_of-at.result c.in_ok-scale.scale c.as_slice-elements.result.now c.wire_of.result = ready c.new.result _ c.ok_or.result c.in_ok-scale.scale c.in_ok-scale.was c.ok_or.ensures.value c.new.ensures c.in_ok-listing.ensures.answer c.as_slice-elements.ensures.items c.wire_of.ensures c.ear_of-at.ensures in
    let g = grown c.in_ok-tree.tree.tree k c.in_ok-tree.ensures in
    let d = c.in_ok-listing.listing in
    let name = c.args.ear.now in
    let fits : Earless c.args.text.now d.elements name → ⊥ = elim c.else-is_none.branch [
      | else-is_none-via-then-is_none+else-not-is_empty w ↦ λ e. unnamed _ _ w.is_empty.ensures w.if-not-is_empty.false e.0
      | else-is_none-via-else-is_none w ↦ has_ear c.args.text.now d.elements name c.ear_of-at.result (heard k) (c.is_none.ensures ∙ ap not w.if-is_none.false)
    ] in
    record {
      answer = record {
        listing = d;
        branches = g.0;
        begun = g.1;
        down = g.2;
        ear = fits;
        num = c.num.ensures ∙ c.ratio-ratio.ensures.0;
        den = c.den.ensures ∙ c.ratio-ratio.ensures.1;
        elements = c.size.ensures;
      };
      only = one_end;
    }
