-- What the calls on whole pieces do.
use Rattle.std.specs.Prelude.{◌≡◌, ℕ, ◌<◌, ◌≤◌, List, [], ◌∷◌, ◌++◌, length, drop, Some, None, Option}
use Rattle.port.specs.declared.meaning.Port.{Ghosts as PortOf}
use Rattle.closing.specs.declared.meaning.Closing.{Ghosts as ClosingOf}
use Rattle.rig.specs.declared.pages.Page.{Page}
use Rattle.rig.specs.declared.parts.Rig.{Rig}
use Rattle.stream.specs.Pieces.{Pieced}
use Rattle.stream.specs.declared.streams.state.Stream.{Stream}

module _ {P C : Type 0} (ports : PortOf P) (closings : ClosingOf C) where
  -- the piece went through: n bytes were heard, and stand where the front of `before` stood
  pub record Filtered (s : Stream P C) (piece before : List ℕ) (n : ℕ) (t : Stream P C) (after : List ℕ) : Type 0 where
    pub out : List ℕ
    pub pages : List Page
    pub through : Pieced ports closings s.session.rig s.low piece out pages t.session.rig t.low
    pub count : n ≡ length out
    pub within : n ≤ length before
    pub written : after ≡ out ++ drop n before

  abbrev pub Filters : Stream P C → List ℕ → List ℕ → Option ℕ → Stream P C → List ℕ → Type 0
  Filters s piece before None t after = (length before ≤ length piece) × (t ≡ s) × (after ≡ before)
  Filters s piece before (Some n) t after = (length piece < length before) × Filtered s piece before n t after

  -- the whole piece went through, and filled no page
  pub record UsedUp (s : Stream P C) (piece : List ℕ) (t : Stream P C) : Type 0 where
    pub out : List ℕ
    pub through : Pieced ports closings s.session.rig s.low piece out [] t.session.rig t.low

  -- the piece was used up to the byte that filled p, and the bytes before it filled no page; by `WhateverTheCuts` what was used is one piece
  pub record Fills (s : Stream P C) (piece : List ℕ) (p : Page) (rest : List ℕ) (t : Stream P C) : Type 0 where
    pub front : List ℕ
    pub last : ℕ
    pub cut : piece ≡ front ++ (last ∷ rest)
    pub rig : Rig P C
    pub low : Option ℕ
    pub out : List ℕ
    pub before : Pieced ports closings s.session.rig s.low front out [] rig low
    pub more : List ℕ
    pub fills : Pieced ports closings rig low (last ∷ []) more (p ∷ []) t.session.rig t.low
