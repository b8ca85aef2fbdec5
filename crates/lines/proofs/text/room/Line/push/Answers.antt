use Rattle.std.proofs.Common.{refl, arith}
use Rattle.lines.proofs.Rooms.{one_text, still_blank}
use Rattle.lines.proofs.text.room.Line.push.Goals as goal

pub invariant_of-self-clause-blank : goal.invariant_of-self-clause-blank
invariant_of-self-clause-blank c =
    let l = c.args.self.now in
    still_blank l.bytes l.len l.within l.blank c.args.more.now _ _ _ c.copy_from_slice.ensures.after (omega arith) refl c.requires

pub returns-clause-text : goal.returns-clause-text
returns-clause-text c =
    let l = c.args.self.now in
    one_text l.bytes l.len l.within l.blank c.args.more.now _ _ _ c.copy_from_slice.ensures.after (omega arith) refl c.requires
