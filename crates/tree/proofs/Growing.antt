-- A joint made for two parts that show what two trees read fits those trees.
use Rattle.std.proofs.Common.{◌≡◌, true, sym, subst, subst₂}
use Rattle.port.specs.Meaning.{Readings}
use Rattle.port.specs.Parts.{shows}
use Rattle.port.specs.declared.parts.fixed.Part.{Part}
use Rattle.adaptor.specs.Joints.{Made}
use Rattle.adaptor.specs.Joins.{Joined}
use Rattle.adaptor.specs.declared.ways.Way.{Way}
use Rattle.adaptor.specs.declared.joints.joint.Joint.{Joint}

pub joined_of : (w : Way) (a b : Readings) (x y : Part) (j : Joint) → shows x a ≡ true → shows y b ≡ true → Made w x y j → Joined w a b j
joined_of w a b x y j hx hy M =
    let R : Part → Part → Type 0 = λ p q. Made w p q j in
    record {
      left = subst (λ p. shows p a ≡ true) (sym M.left) hx;
      right = subst (λ p. shows p b ≡ true) (sym M.right) hy;
      made = subst₂ R (sym M.left) (sym M.right) M;
    }
