-- What joining two ports answers: the adaptor, or both ports back and why.
use Rattle.std.specs.Prelude.{◌≡◌, true, Ok, Err, Result}
use Rattle.port.specs.Meaning.{Readings}
use Rattle.port.specs.Parts.{shows}
use Rattle.port.specs.declared.meaning.Port.{Ghosts}
use Rattle.port.specs.declared.parts.fixed.Part.{Part}
use Rattle.adaptor.specs.Joints.{Made, Refuses}
use Rattle.adaptor.specs.declared.adaptors.Adaptor.{Adaptor}
use Rattle.adaptor.specs.declared.adaptors.Apart.{Apart}
use Rattle.adaptor.specs.declared.ways.Way.{Way}
use Rattle.adaptor.specs.declared.joints.JoinRefusal.{JoinRefusal}
use Rattle.adaptor.specs.declared.joints.joint.Joint.{Joint}

-- j is the joint of the parts that show what is read off the ports, a and b
pub record Joined (w : Way) (a b : Readings) (j : Joint) : Type 0 where
  pub left : shows j.left a ≡ true
  pub right : shows j.right b ≡ true
  pub made : Made w j.left j.right j

-- parts that show a and b are not joined
pub record Parted (w : Way) (a b : Readings) (r : JoinRefusal) : Type 0 where
  pub x : Part
  pub y : Part
  pub left : shows x a ≡ true
  pub right : shows y b ≡ true
  pub refused : Refuses w x y r

abbrev pub Joins : {P Q : Type 0} → Way → Ghosts P → Ghosts Q → P → Q → Result (Adaptor P Q) (Apart P Q) → Type 0
Joins w P+ Q+ p q (Ok s) = (s.left ≡ p) × (s.right ≡ q) × Joined w (P+.reads p) (Q+.reads q) s.joint
Joins w P+ Q+ p q (Err a) = (a.left ≡ p) × (a.right ≡ q) × Parted w (P+.reads p) (Q+.reads q) a.refusal
