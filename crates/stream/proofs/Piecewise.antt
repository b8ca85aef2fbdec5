-- A piece, byte by byte.
use Rattle.std.proofs.Common.{◌≡◌, ℕ, suc, ◌+◌, ◌-◌, ◌<◌, ◌≤◌, List, [], ◌∷◌, ◌++◌, length, get_or, take, drop, MatchOption, Some, None, Option, sym, ap, ◌∙◌, subst, arith, rules, take-append-drop, drop-cons, take_all, length-drop, append_assoc, ap₂, drop-drop}
use Rattle.std.proofs.Math.Seq.{take-append_seam, drop-append_seam}
use borrow.Rule.Slice.PartMut.{put_mid}
use Rattle.std.specs.Option.{option_to_list}
use Rattle.std.proofs.lemmas.List.{take_more}
use Rattle.port.specs.declared.meaning.Port.{Ghosts as PortOf}
use Rattle.closing.specs.declared.meaning.Closing.{Ghosts as ClosingOf}
use Rattle.rig.specs.declared.pages.Page.{Page}
use Rattle.rig.specs.declared.parts.Rig.{Rig}
use Rattle.stream.specs.Pieces.{Halves, heard_of, pages_of, Pieced}
use Rattle.stream.specs.declared.streams.state.Heard.{Heard}
use Rattle.stream.proofs.Cuts.{pieces_joined}

-- every byte comes out again, but for the one that waits
pub halves_count : (x : Option Heard) (l m : Option ℕ) → Halves x l m → length (heard_of x) + length (option_to_list m) ≡ length (option_to_list l) + 1
halves_count None l None h = absurd (search (h.1, rules))
halves_count None l (Some m) h = ap (λ t. length (option_to_list t) + 1) (sym h.0)
halves_count (Some x) None m h = absurd (search (h.0, rules))
halves_count (Some x) (Some l) m h = omega (arith, h.2, ap (λ t. length (option_to_list t)) h.1)

pub waits_most : (l : Option ℕ) → length (option_to_list l) ≤ 1
waits_most None = omega arith
waits_most (Some b) = omega arith

-- the page of what a byte brought
pub page_told : (x : Option Heard) (p : Option Page) → MatchOption x (p ≡ None) (λ h. p ≡ h.page) → pages_of x ≡ option_to_list p
page_told None p h = ap option_to_list (sym h)
page_told (Some x) p h = ap option_to_list (sym h)

-- a piece at the byte i
pub cut_at : (piece : List ℕ) (i : ℕ) → i < length piece → piece ≡ take i piece ++ (get_or piece i 0 ∷ take (length piece - (i + 1)) (drop (i + 1) piece))
cut_at piece i h =
    let one : i + 1 ≡ suc i = omega arith in
    let rest : take (length piece - (i + 1)) (drop (i + 1) piece) ≡ drop (suc i) piece =
    take_all _ _ (omega (arith, length-drop (i + 1) piece)) ∙ ap (λ n. drop n piece) one in
    sym (take-append-drop i piece) ∙ ap (λ (t : List ℕ). take i piece ++ t) (drop-cons piece i 0 h ∙ ap (λ (t : List ℕ). get_or piece i 0 ∷ t) (sym rest))

-- some bytes written behind the text p, where s stood
pub written_more : (p s out ys bytes : List ℕ) (n k m : ℕ) → out ≡ p ++ drop n s → n ≡ length p → ys ≡ bytes → n + k ≡ m → put_mid n k out ys ≡ (p ++ bytes) ++ drop m s
written_more p s out ys bytes n k m e l y f =
    let front : take n out ≡ p = ap (take n) e ∙ ap (λ j. take j (p ++ drop n s)) l ∙ take-append_seam p (drop n s) in
    let behind : drop n out ≡ drop n s = ap (drop n) e ∙ ap (λ j. drop j (p ++ drop n s)) l ∙ drop-append_seam p (drop n s) in
    let back : drop k (drop n out) ≡ drop m s = ap (drop k) behind ∙ drop-drop k n s ∙ ap (λ j. drop j s) f in
    ap₂ (λ a b. a ++ (ys ++ b)) front back ∙ ap (λ t. p ++ (t ++ drop m s)) y ∙ sym (append_assoc p bytes (drop m s))

module _ {P C : Type 0} (ports : PortOf P) (closings : ClosingOf C) where
  -- one byte more of a piece
  pub byte_more : (a b c : Rig P C) (l m n : Option ℕ) (piece o q : List ℕ) (i : ℕ) (p r : List Page) → i < length piece
      → Pieced ports closings a l (take i piece) o p b m → Pieced ports closings b m (get_or piece i 0 ∷ []) q r c n
      → Pieced ports closings a l (take (i + 1) piece) (o ++ q) (p ++ r) c n
  byte_more a b c l m n piece o q i p r h A B =
      subst (λ (t : List ℕ). Pieced ports closings a l t (o ++ q) (p ++ r) c n) (sym (take_more piece i 0 h))
      (pieces_joined ports closings a b c l m n (take i piece) (get_or piece i 0 ∷ []) o q p r A B)
