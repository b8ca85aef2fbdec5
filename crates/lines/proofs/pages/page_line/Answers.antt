use Rattle.std.proofs.Common.{append_assoc, w64, SFits, rules}
use Rattle.std.proofs.lemmas.Int.{to_z-of_z}
use Rattle.lines.proofs.Rooms.{holds_of}
use Rattle.lines.proofs.pages.page_line.Goals as goal

pub returns : goal.returns
returns c =
    let fits : SFits w64 c.args.page.swing = search rules in
    holds_of _ _
    (rw (
      c.push_word-9.ensures.text,
      c.push_word-8.ensures.text,
      c.push_word-7.ensures.text,
      c.push_word-6.ensures.text,
      c.push_word-5.ensures.text,
      c.push_word-4.ensures.text,
      c.push_word-3.ensures.text,
      c.push_word-2.ensures.text,
      c.push_word.ensures.text,
      c.empty-line.ensures.0,
    ) (simp (append_assoc, to_z-of_z)))
