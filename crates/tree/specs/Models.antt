-- A tree without its pointers and without the waves that its joints keep at hand, and what it does with waves.
use Rattle.std.specs.Prelude.{◌≡◌, ℕ, ◌+◌, Bool, true, ◌&&◌, ℤ, ◌+ℤ◌}
use Rattle.wave.specs.Numbers.{held, short, cut}
use Rattle.port.specs.Meaning.{Readings}
use Rattle.port.specs.declared.takings.Taken.{Taken}
use Rattle.adaptor.specs.Joints as joints
use Rattle.adaptor.specs.Joints.{whole, rising_exact, rising_over, exact_left, exact_right}
use Rattle.adaptor.specs.declared.joints.joint.Joint.{Joint}
use Rattle.tree.specs.Elements.{element_reads, element_after, element_answer, element_cleared}
use Rattle.tree.specs.declared.elements.Element.{Element}

pub data Model : Type 0 where
  leaf : Element → Model
  join : Joint → Model → Model → Model

-- how many joints there are
abbrev pub joined : Model → ℕ
joined (leaf e) = 0
joined (join j a b) = joined a + joined b + 1

abbrev pub reads : Model → Readings
reads (leaf e) = element_reads e
reads (join j a b) = whole j (reads a) (reads b)

-- each joint was made for its parts
abbrev pub fitted : Model → Bool
fitted (leaf e) = true
fitted (join j a b) = joints.fits j (reads a) (reads b) && (fitted a && fitted b)

-- ---- what falls on the parts of a joint where f falls on the whole
abbrev pub to_left : Joint → Readings → Readings → ℤ → ℤ
to_left j a b f = short (exact_left j a.rising b.rising (held f)) j.total.value

abbrev pub to_right : Joint → Readings → Readings → ℤ → ℤ
to_right j a b f = short (exact_right j a.rising b.rising (held f)) j.total.value

-- how many of the three waves of the round are cut
abbrev pub cuts : Joint → Readings → Readings → ℤ → ℕ
cuts j a b f = cut (rising_exact j a.rising b.rising) (rising_over j)
    + cut (exact_left j a.rising b.rising (held f)) j.total.value
    + cut (exact_right j a.rising b.rising (held f)) j.total.value

-- ---- the tree after the falling wave f, and its answer
abbrev pub taken : Model → ℤ → Model
taken (leaf e) f = leaf (element_after e f)
taken (join j a b) f = join j (taken a (to_left j (reads a) (reads b) f)) (taken b (to_right j (reads a) (reads b) f))

-- both answers and the cuts of the round
abbrev pub summed : Taken → Taken → ℕ → Taken
summed x y c = record { absorbed = x.absorbed + y.absorbed; shortened = x.shortened + y.shortened + c; heard = x.heard +ℤ y.heard }

abbrev pub answer : Model → ℤ → Taken
answer (leaf e) f = element_answer e f
answer (join j a b) f = summed (answer a (to_left j (reads a) (reads b) f)) (answer b (to_right j (reads a) (reads b) f)) (cuts j (reads a) (reads b) f)

-- m takes f, answers t and is then n
pub record Took (m : Model) (f : ℤ) (t : Taken) (n : Model) : Type 0 where
  pub after : n ≡ taken m f
  pub answer : t ≡ answer m f

-- ---- clearing
abbrev pub cleared : Model → Model
cleared (leaf e) = leaf (element_cleared e)
cleared (join j a b) = join j (cleared a) (cleared b)

-- m drops the energy e and is then n
pub record Emptied (m : Model) (e : ℕ) (n : Model) : Type 0 where
  pub after : n ≡ cleared m
  pub dropped : e ≡ (reads m).stored
