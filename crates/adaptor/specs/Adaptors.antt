-- Two ports of any kind behind one joint.
use Rattle.std.specs.Prelude.{◌≡◌, ℕ, zero, suc, ◌+◌, Bool, true, false, cond, ℤ, pos, negsuc}
use Rattle.wave.specs.Numbers.{held, short}
use Rattle.port.specs.Meaning.{Readings}
use Rattle.port.specs.declared.meaning.Port.{Ghosts}
use Rattle.port.specs.declared.takings.Taken.{Taken}
use Rattle.adaptor.specs.Joints.{fits, whole, exact_left, exact_right, Gathers}
use Rattle.adaptor.specs.declared.joints.joint.Joint.{Joint}

-- of the whole where the joint fits; where it does not, nothing rises and nothing is stored
abbrev pub reads_at : Bool → Joint → Readings → Readings → Readings
reads_at x j a b = record {
  num = j.ratio.num;
  den = j.ratio.den;
  size = j.left.size + j.right.size;
  ears = j.left.ears + j.right.ears;
  rising = cond x (whole j a b).rising (pos 0);
  stored = cond x (whole j a b).stored 0;
}

abbrev pub adaptor_reads : Joint → Readings → Readings → Readings
adaptor_reads j a b = reads_at (fits j a b) j a b

abbrev pub nonzero : ℤ → ℕ
nonzero (pos zero) = 0
nonzero (pos (suc n)) = 1
nonzero (negsuc n) = 1

module _ {P Q : Type 0} (P+ : Ghosts P) (Q+ : Ghosts Q) where
  -- both take their waves
  pub record Passes (j : Joint) (p : P) (q : Q) (f : ℤ) (t : Taken) (p' : P) (q' : Q) : Type 0 where
    pub x : Taken
    pub y : Taken
    pub left : P+.takes p (short (exact_left j (P+.reads p).rising (Q+.reads q).rising (held f)) j.total.value) x p'
    pub right : Q+.takes q (short (exact_right j (P+.reads p).rising (Q+.reads q).rising (held f)) j.total.value) y q'
    pub gathers : Gathers j (P+.reads p) (Q+.reads q) f x y t

  -- nothing goes through
  pub record Idles (p : P) (q : Q) (f : ℤ) (t : Taken) (p' : P) (q' : Q) : Type 0 where
    pub left : p' ≡ p
    pub right : q' ≡ q
    pub absorbed : t.absorbed ≡ 0
    pub shortened : t.shortened ≡ nonzero (held f)
    pub heard : t.heard ≡ pos 0

  pub record Takes (j : Joint) (p : P) (q : Q) (f : ℤ) (t : Taken) (j' : Joint) (p' : P) (q' : Q) : Type 0 where
    pub joint : j' ≡ j
    pub passes : fits j (P+.reads p) (Q+.reads q) ≡ true → Passes j p q f t p' q'
    pub idles : fits j (P+.reads p) (Q+.reads q) ≡ false → Idles p q f t p' q'

  -- both are cleared
  pub record Empties (p : P) (q : Q) (e : ℕ) (p' : P) (q' : Q) : Type 0 where
    pub x : ℕ
    pub y : ℕ
    pub left : P+.clears p x p'
    pub right : Q+.clears q y q'
    pub dropped : e ≡ x + y

  pub record Clears (j : Joint) (p : P) (q : Q) (e : ℕ) (j' : Joint) (p' : P) (q' : Q) : Type 0 where
    pub joint : j' ≡ j
    pub empties : fits j (P+.reads p) (Q+.reads q) ≡ true → Empties p q e p' q'
    pub idles : fits j (P+.reads p) (Q+.reads q) ≡ false → (p' ≡ p) × (q' ≡ q) × (e ≡ 0)
