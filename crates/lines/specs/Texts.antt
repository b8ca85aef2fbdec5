-- The text of a line, and a line by its words: one blank between, and a line feed behind.
use Rattle.std.specs.Prelude.{◌≡◌, ℕ, ◌-◌, List, [], ◌∷◌, ◌++◌, length, take, replicate}
use Rattle.lines.specs.Rooms.{line_room}
use Rattle.lines.specs.declared.text.room.Line.{Line}

abbrev pub text_of : Line → List ℕ
text_of l = take l.len l.bytes

-- the line is this text, with zeros behind
pub record Holds (text : List ℕ) (l : Line) : Type 0 where
  pub len : l.len ≡ length text
  pub bytes : l.bytes ≡ text ++ replicate (line_room - length text) 0

abbrev pub line_of : List (List ℕ) → List ℕ
line_of [] = 10 ∷ []
line_of (w ∷ []) = w ++ (10 ∷ [])
line_of (w ∷ (v ∷ ws)) = w ++ (32 ∷ line_of (v ∷ ws))
