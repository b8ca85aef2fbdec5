-- A piece of a recording: what it brings depends on its bytes and on the byte that waited for it, and not on where the recording was cut.
use Rattle.std.specs.Prelude.{◌≡◌, ℕ, List, [], ◌∷◌, ◌++◌, length, Some, None, Ok, Err, Option, IsSome}
use Rattle.std.specs.List.{flat_map}
use Rattle.std.specs.Option.{option_to_list}
use Rattle.port.specs.declared.meaning.Port.{Ghosts as PortOf}
use Rattle.closing.specs.declared.meaning.Closing.{Ghosts as ClosingOf}
use Rattle.rig.specs.Limits.{page_length}
use Rattle.rig.specs.Blocks.{waves_of, heard_bytes}
use Rattle.rig.specs.Runs.{Event, Run, All, Feeds}
use Rattle.rig.specs.Runs.Event.{feed, raise, answer, withdraw, clear, turn}
use Rattle.rig.specs.declared.pages.Page.{Page}
use Rattle.rig.specs.declared.pages.Round.{Round}
use Rattle.rig.specs.declared.parts.Rig.{Rig}
use Rattle.session.specs.Sessions.{fed, Plain}
use Rattle.stream.specs.declared.streams.state.Heard.{Heard}

-- the last byte of an odd number of bytes
abbrev pub left_over : List ℕ → List ℕ
left_over [] = []
left_over (b ∷ []) = b ∷ []
left_over (low ∷ (high ∷ rest)) = left_over rest

-- the round of a call, if it was one, and the page that a call turned
abbrev pub round_of : Event → List Round
round_of (feed e (Ok x)) = x ∷ []
round_of (feed e (Err y)) = []
round_of (raise o) = []
round_of (answer w f (Ok x)) = x ∷ []
round_of (answer w f (Err y)) = []
round_of (withdraw w o) = []
round_of (clear o) = []
round_of (turn o) = []

abbrev pub page_of : Event → List Page
page_of (feed e o) = []
page_of (raise o) = []
page_of (answer w f o) = []
page_of (withdraw w o) = []
page_of (clear o) = []
page_of (turn (Ok p)) = p ∷ []
page_of (turn (Err y)) = []

abbrev pub rounds : List Event → List Round
rounds = flat_map round_of

abbrev pub turned : List Event → List Page
turned = flat_map page_of

abbrev pub Full : List Page → Type 0
Full [] = Unit {0}
Full (p ∷ ps) = (p.entries ≡ page_length) × Full ps

-- what a byte brought: bytes to write, and pages
abbrev pub heard_of : Option Heard → List ℕ
heard_of None = []
heard_of (Some h) = h.bytes

abbrev pub pages_of : Option Heard → List Page
pages_of None = []
pages_of (Some h) = option_to_list h.page

-- a byte waits exactly if it is the first of a sample, and a sample has two
abbrev pub Halves : Option Heard → Option ℕ → Option ℕ → Type 0
Halves None l m = (l ≡ None) × IsSome m
Halves (Some h) l m = IsSome l × (m ≡ None) × (length h.bytes ≡ 2)

module _ {P C : Type 0} (ports : PortOf P) (closings : ClosingOf C) where
  -- the rig a, with a byte that waits or none, gets the bytes of a piece: each sample that is whole by then is fed, `out` is what was heard of them,
  -- `pages` are those that filled, and a lone last byte waits. What is no round may be called in between.
  pub record PieceFed (a : Rig P C) (low : Option ℕ) (piece : List ℕ) (out : List ℕ) (pages : List Page) (b : Rig P C) (low' : Option ℕ) : Type 0 where
    pub calls : List Event
    pub run : Run ports closings a calls b
    pub feeds : All (Feeds (λ e. Unit {0})) calls
    pub samples : fed calls ≡ waves_of (option_to_list low ++ piece)
    pub heard : out ≡ heard_bytes (rounds calls)
    pub turns : pages ≡ turned calls
    pub full : Full pages
    pub waits : option_to_list low' ≡ left_over (option_to_list low ++ piece)

  -- the same, and nothing else is done
  pub record Pieced (a : Rig P C) (low : Option ℕ) (piece : List ℕ) (out : List ℕ) (pages : List Page) (b : Rig P C) (low' : Option ℕ) : Type 0 where
    pub bytes : PieceFed a low piece out pages b low'
    pub plain : All Plain bytes.calls

  -- two pieces, one after the other, are one piece
  abbrev pub AreOne : (Rig P C → Option ℕ → List ℕ → List ℕ → List Page → Rig P C → Option ℕ → Type 0) → Type 0
  AreOne Piece = (a b c : Rig P C) (l m n : Option ℕ) (x y o q : List ℕ) (p r : List Page)
      → Piece a l x o p b m → Piece b m y q r c n → Piece a l (x ++ y) (o ++ q) (p ++ r) c n

  -- this is so of all pieces, and of those in which nothing else is done
  abbrev pub WhateverTheCuts : Type 0
  WhateverTheCuts = AreOne PieceFed × AreOne Pieced
