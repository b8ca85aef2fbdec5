-- A line grows by what is written behind it.
use Rattle.std.proofs.Common.{◌≡◌, ℕ, ◌+◌, ◌-◌, ◌<◌, List, ◌++◌, length, take, drop, replicate, sym, ap, ◌∙◌, ap₂, arith, length-drop, take-append-drop, length-take}
use borrow.Rule.Slice.PartMut.{put_mid}
use Rattle.std.proofs.lemmas.List.{length-replicate, drop-drop, drop-replicate}
use Rattle.std.proofs.lemmas.Slice.{take-put_mid, drop-put_mid}
use Rattle.lines.specs.Rooms.{line_room}
use Rattle.lines.specs.Texts.{text_of, Holds}
use Rattle.lines.specs.declared.text.room.Line.{Line}

module _ (bs : List ℕ) (n : ℕ) (h : n < line_room) (e : drop n bs ≡ replicate (line_room - n) 0) where
  pub long : length bs ≡ line_room
  long = omega (arith, ap length e, length-drop n bs, length-replicate {A = ℕ} (line_room - n) 0)

  module _ (more ys : List ℕ) (k m : ℕ) (same : ys ≡ more) (count : k ≡ length more) (end : m ≡ n + length more) (l : m < line_room) where
    pub one_text : take m (put_mid n k bs ys) ≡ take n bs ++ more
    unfolding long
    one_text = take-put_mid n k bs ys m (omega (arith, ap length same)) (omega (arith, long)) ∙ ap (λ (t : List ℕ). take n bs ++ t) same

    pub still_blank : drop m (put_mid n k bs ys) ≡ replicate (line_room - m) 0
    unfolding long
    still_blank =
        let past : drop m (put_mid n k bs ys) ≡ drop m bs = drop-put_mid n k bs ys m (omega arith) (omega (arith, long)) (omega (arith, ap length same)) in
        let here : drop m bs ≡ drop k (drop n bs) = ap (λ j. drop j bs) (omega arith) ∙ sym (drop-drop k n bs) in
        let zeros : drop k (replicate (line_room - n) 0) ≡ replicate (line_room - m) 0 = drop-replicate k (line_room - n) 0 ∙ ap (λ j. replicate j 0) (omega arith) in
        past ∙ here ∙ ap (λ (t : List ℕ). drop k t) e ∙ zeros

-- a line of this text
pub holds_of : (l : Line) (t : List ℕ) → text_of l ≡ t → Holds t l
holds_of l t e =
    let n : length t ≡ l.len = sym (ap length e) ∙ length-take l.len l.bytes ∙ omega (arith, long l.bytes l.len l.within l.blank, l.within) in
    record {
      len = sym n;
      bytes = sym (take-append-drop l.len l.bytes) ∙ ap₂ (λ (a : List ℕ) (b : List ℕ). a ++ b) e (l.blank ∙ ap (λ m. replicate (line_room - m) 0) (sym n));
    }
