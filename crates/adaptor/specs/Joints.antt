-- A joint: the numbers by which two parts are joined. What it is made from, when it is refused, and the readings of two ports that it joins.
-- The shares of the parts say how a wave is divided between them.
use Rattle.std.specs.Prelude.{◌≡◌, ℕ, ◌+◌, ◌*◌, ◌<◌, ◌≤◌, Bool, ◌&&◌, ◌⊎◌, ℤ, ◌+ℤ◌}
use Rattle.told.specs.declared.Told.{Told}
use Rattle.wave.specs.Numbers.{held, short, cut}
use Rattle.wave.specs.Terms.{Reduced, largest_number}
use Rattle.wave.specs.Refusals.{Past}
use Rattle.port.specs.Meaning.{Readings, largest_size}
use Rattle.port.specs.Parts.{shows}
use Rattle.port.specs.declared.parts.fixed.Part.{Part}
use Rattle.port.specs.declared.takings.Taken.{Taken}
use Rattle.adaptor.specs.Ways.{whole_num, whole_den, rises, rises_over, falls}
use Rattle.adaptor.specs.declared.ways.Way.{Way}
use Rattle.adaptor.specs.declared.joints.JoinRefusal.{JoinRefusal}
use Rattle.adaptor.specs.declared.joints.JoinRefusal.TheVariants.{Number, Size, Ears}
use Rattle.adaptor.specs.declared.joints.joint.Joint.{Joint}

-- ---- making
-- p₁ and p₂ are the shares, n₁ d₂ and n₂ d₁ divided by their greatest common divisor
abbrev pub Shares : Part → Part → ℕ → ℕ → Type 0
Shares a b p₁ p₂ = Reduced (a.ratio.num * b.ratio.den) (b.ratio.num * a.ratio.den) p₁ p₂

abbrev pub num_of : Way → Part → Part → ℕ
num_of w a b = whole_num w a.ratio.num a.ratio.den b.ratio.num b.ratio.den

abbrev pub den_of : Way → Part → Part → ℕ
den_of w a b = whole_den w a.ratio.num a.ratio.den b.ratio.num b.ratio.den

pub record Made (w : Way) (a b : Part) (j : Joint) : Type 0 where
  pub way : j.way ≡ w
  pub left : j.left ≡ a
  pub right : j.right ≡ b
  pub shares : Shares a b j.shares.num j.shares.den
  pub ratio : Reduced (num_of w a b) (den_of w a b) j.ratio.num j.ratio.den

-- the shares come to more than the largest number
pub record Heavy (a b : Part) : Type 0 where
  pub p₁ : ℕ
  pub p₂ : ℕ
  pub shares : Shares a b p₁ p₂
  pub past : largest_number < p₁ + p₂

-- no number is over the largest
pub record Fair (w : Way) (a b : Part) : Type 0 where
  pub p₁ : ℕ
  pub p₂ : ℕ
  pub num : ℕ
  pub den : ℕ
  pub shares : Shares a b p₁ p₂
  pub ratio : Reduced (num_of w a b) (den_of w a b) num den
  pub small : (p₁ + p₂ ≤ largest_number) × (num ≤ largest_number) × (den ≤ largest_number)

abbrev pub Refuses : Way → Part → Part → JoinRefusal → Type 0
Refuses w a b Number = Heavy a b ⊎ Past (num_of w a b) (den_of w a b)
Refuses w a b Size = Fair w a b × (largest_size < a.size + b.size)
Refuses w a b Ears = Fair w a b × (a.size + b.size ≤ largest_size) × (1 < a.ears + b.ears)

abbrev pub join_row : JoinRefusal → Told
join_row Number = record { layer = 2; number = 14; place = 0 }
join_row Size = record { layer = 2; number = 16; place = 0 }
join_row Ears = record { layer = 2; number = 16; place = 0 }

-- ---- exact waves, where r₁ and r₂ rise from the two and f falls on the whole
abbrev pub rising_exact : Joint → ℤ → ℤ → ℤ
rising_exact j r₁ r₂ = rises j.way j.shares.num r₁ j.shares.den r₂

abbrev pub rising_over : Joint → ℕ
rising_over j = rises_over j.way j.total.value

abbrev pub exact_left : Joint → ℤ → ℤ → ℤ → ℤ
exact_left j r₁ r₂ f = falls j.way j.total.value j.shares.num r₁ j.shares.den r₂ f

abbrev pub exact_right : Joint → ℤ → ℤ → ℤ → ℤ
exact_right j r₁ r₂ f = falls j.way j.total.value j.shares.den r₂ j.shares.num r₁ f

-- ---- readings
-- the joint was made for parts that read so
abbrev pub fits : Joint → Readings → Readings → Bool
fits j a b = shows j.left a && shows j.right b

-- what is then read off the whole
abbrev pub whole : Joint → Readings → Readings → Readings
whole j a b = record {
  num = j.ratio.num;
  den = j.ratio.den;
  size = j.left.size + j.right.size;
  ears = j.left.ears + j.right.ears;
  rising = short (rising_exact j a.rising b.rising) (rising_over j);
  stored = a.stored + b.stored;
}

-- what the whole answers to f where the parts answer x and y
pub record Gathers (j : Joint) (a b : Readings) (f : ℤ) (x y t : Taken) : Type 0 where
  pub absorbed : t.absorbed ≡ x.absorbed + y.absorbed
  pub shortened : t.shortened ≡ x.shortened + y.shortened
      + (cut (rising_exact j a.rising b.rising) (rising_over j)
      + cut (exact_left j a.rising b.rising (held f)) j.total.value
      + cut (exact_right j a.rising b.rising (held f)) j.total.value)
  pub heard : t.heard ≡ x.heard +ℤ y.heard
