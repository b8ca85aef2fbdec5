-- A listing's element keeps the laws of a port; two values with the same numbers are the same.
use Rattle.std.specs.Prelude.{◌≡◌, ℕ, ◌≤◌, ℤ, pos, unsigned_abs, refl}
use Rattle.std.proofs.Common.{sym, subst₂}
use mathlib.Core.HLevel.{is_prop→PathP}
use Rattle.std.proofs.Math.Bridge.{le_prop}
use Rattle.wave.specs.Numbers.{largest_wave}
use Rattle.wave.specs.declared.waves.Wave.{Wave}
use Rattle.port.specs.Meaning.{Sound, Fall, Cleared, Laws}
use Rattle.port.specs.Lawful.{storage_laws, resistor_laws}
use Rattle.port.specs.declared.takings.Taken.{Taken}
use Rattle.port.specs.declared.elements.Storage.{Storage}
use Rattle.tree.specs.Elements.{wave_of, keeping, body_reads, body_after, body_answer, body_cleared, element_reads, element_after, element_answer, element_cleared, ElementTakes, ElementClears}
use Rattle.tree.specs.declared.elements.Body.{Body}
use Rattle.tree.specs.declared.elements.Body.TheVariants.{Store, Resist}
use Rattle.tree.specs.declared.elements.Element.{Element}

pub same_wave : (a b : Wave) → a.value ≡ b.value → a ≡ b
same_wave a b p = λ i. record { value = p i; within = is_prop→PathP (λ j. unsigned_abs (p j) ≤ largest_wave) (λ j. le_prop) a.within b.within i }

pub same_storage : (c d : Storage) (s : Wave) → d.kind ≡ c.kind → d.weight ≡ c.weight → d.state.value ≡ s.value → d ≡ keeping c s
same_storage c d s k w v = λ i. record { kind = k i; weight = w i; state = same_wave d.state s v i }

pub same_taken : (t u : Taken) → t.absorbed ≡ u.absorbed → t.shortened ≡ u.shortened → t.heard ≡ u.heard → t ≡ u
same_taken t u a s h = λ i. record { absorbed = a i; shortened = s i; heard = h i }

body_sound : (b : Body) → Sound (body_reads b)
body_sound (Store c) = storage_laws.sound c
body_sound (Resist r) = resistor_laws.sound r

body_fall : (b : Body) (f : ℤ) → Fall (body_reads b) f (body_answer b f) (body_reads (body_after b f))
body_fall (Store c) f = storage_laws.fall c f (body_answer (Store c) f) (keeping c (wave_of f))
    (record { kind = refl; weight = refl; state = refl; absorbed = refl; shortened = refl; heard = refl })
body_fall (Resist r) f = resistor_laws.fall r f (body_answer (Resist r) f) r (record { same = refl; absorbed = refl; shortened = refl; heard = refl })

body_empty : (b : Body) → Cleared (body_reads b) (body_reads b).stored (body_reads (body_cleared b))
body_empty (Store c) = storage_laws.cleared c _ (keeping c (wave_of (pos 0))) (record { kind = refl; weight = refl; state = refl; dropped = refl })
body_empty (Resist r) = resistor_laws.cleared r _ r (refl, refl)

pub element_sound : (e : Element) → Sound (element_reads e)
element_sound e = body_sound e.body

pub element_fall : (e : Element) (f : ℤ) → Fall (element_reads e) f (element_answer e f) (element_reads (element_after e f))
element_fall e f = body_fall e.body f

pub element_empty : (e : Element) → Cleared (element_reads e) (element_reads e).stored (element_reads (element_cleared e))
element_empty e = body_empty e.body

pub element_laws : Laws element_reads ElementTakes ElementClears
element_laws = record {
  sound = element_sound;
  fall = λ e f t z h.
      let R : Taken → Element → Type 0 = λ u k. Fall (element_reads e) f u (element_reads k) in
      subst₂ R (sym h.answer) (sym h.after) (element_fall e f);
  cleared = λ e x z h.
      let R : ℕ → Element → Type 0 = λ n k. Cleared (element_reads e) n (element_reads k) in
      subst₂ R (sym h.dropped) (sym h.after) (element_empty e);
}
