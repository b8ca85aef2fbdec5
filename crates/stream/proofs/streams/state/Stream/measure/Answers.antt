use Rattle.std.proofs.Common.{[], ◌++◌, get_or, take, ◌∙◌, ap, rules}
use Rattle.std.specs.Option.{option_to_list}
use Rattle.stream.specs.Pieces.{heard_of}
use Rattle.stream.proofs.Cuts.{no_piece}
use Rattle.stream.proofs.Piecewise.{byte_more, page_told, cut_at}
use Rattle.stream.proofs.streams.state.Stream.measure.Goals as goal

pub loop-i-init : goal.loop-i-init
loop-i-init g c = ([], no_piece _ _ _ _)

pub returns-in-Some-clause-what : goal.returns-in-Some-clause-what
returns-in-Some-clause-what g c =
    let I = c.loop-i.invariant in
    let page = page_told c.push.result c.and_then.result (search (rules, c.and_then.ensures)) ∙ ap option_to_list c.in-Some.is in
    record {
      front = take c.loop-i.i c.args.piece.now;
      last = get_or c.args.piece.now c.loop-i.i 0;
      cut = cut_at _ _ c.loop-i-test.true;
      rig = c.loop-i.self.session.rig;
      low = c.loop-i.self.low;
      out = I.0;
      before = I.1;
      more = heard_of c.push.result;
      fills = rw (← page) c.push.ensures.piece;
    }

pub loop-i-preserved : goal.loop-i-preserved
loop-i-preserved g c =
    let I = c.loop-i.invariant in
    let none = page_told c.push.result c.and_then.result (search (rules, c.and_then.ensures)) ∙ ap option_to_list c.in_default.is in
    (I.0 ++ heard_of c.push.result, rw (← none) (byte_more _ _ _ _ _ _ _ _ c.args.piece.now I.0 (heard_of c.push.result) c.loop-i.i [] _ c.loop-i-test.true I.1 c.push.ensures.piece))
