-- A tree told by numbers, no two trees by the same: a proof tells them apart so.
use Rattle.std.specs.Prelude.{◌≡◌}
use Rattle.std.specs.Coded.{Coded}
use Rattle.std.proofs.Common.{sym, ap, subst}
use base.Stored.{Gv, gnil, gnum, gcons}
use Rattle.adaptor.specs.contracts.joints.joint.Joint as joints
use Rattle.tree.specs.contracts.elements.Element as elements
use Rattle.tree.specs.Models.{Model, leaf, join}

abbrev pub code : Model → Gv
code (leaf e) = gcons gnil (elements.the_row.coded.code e)
code (join j a b) = gcons (gcons (code a) (code b)) (joints.the_row.coded.code j)

abbrev first : Gv → Gv
first gnil = gnil
first (gnum n) = gnil
first (gcons a b) = a

abbrev second : Gv → Gv
second gnil = gnil
second (gnum n) = gnil
second (gcons a b) = b

abbrev IsPair : Gv → Type 0
IsPair gnil = ⊥
IsPair (gnum n) = ⊥
IsPair (gcons a b) = Unit {0}

pub code_inj : (m n : Model) → code m ≡ code n → m ≡ n
code_inj (leaf e) (leaf e') p = ap leaf (elements.the_row.coded.inj e e' (ap second p))
code_inj (leaf e) (join j a b) p = absurd (subst IsPair (sym (ap first p)) tt)
code_inj (join j a b) (leaf e) p = absurd (subst IsPair (ap first p) tt)
code_inj (join j a b) (join j' a' b') p =
    let parts = ap first p in
    let l = code_inj a a' (ap first parts) in
    let r = code_inj b b' (ap second parts) in
    let k = joints.the_row.coded.inj j j' (ap second p) in
    λ i. join (k i) (l i) (r i)

abbrev pub model_code : Coded Model
model_code = record { code = code; inj = code_inj }
