use Rattle.std.proofs.Common.{append_assoc}
use Rattle.lines.proofs.Rooms.{holds_of}
use Rattle.lines.proofs.pages.refusal_line.Goals as goal

pub returns : goal.returns
returns g c =
    holds_of _ _
    (rw (c.push_word-3.ensures.text, c.push_word-2.ensures.text, c.push_word.ensures.text, c.push.ensures.text, c.empty-line.ensures.0, ← c.told-told.ensures) (simp append_assoc))
