-- Each element keeps the laws of a port.
use Rattle.std.proofs.Common.{arith, mul-zero, ap, ◌∙◌}
use Rattle.std.specs.Prelude.{◌≡◌, ℕ, ◌*◌, ◌≤◌, Bool, true, false, cond, ℤ, pos, unsigned_abs, refl}
use Rattle.lemmas.proofs.Integers.{nat_abs_neg_ℤ}
use Rattle.wave.proofs.Divided.{coprime_one}
use Rattle.wave.proofs.Losses.{energy_most, held_most}
use Rattle.wave.specs.Numbers.{sq, held, largest_wave}
use Rattle.port.specs.Meaning.{Laws}
use Rattle.port.specs.Elements.{raised, storage_reads, Stores, Drops, resistor_reads, Absorbs, resistor_clears}
use Rattle.port.specs.declared.elements.StorageKind.{StorageKind}
use Rattle.port.specs.declared.elements.StorageKind.TheVariants.{Capacitor, Coil}

-- an element's rising wave is as large as its state
raised_square : (k : StorageKind) (s : ℤ) → sq (raised k s) ≡ sq s
raised_square Capacitor s = refl
raised_square Coil s = ap (λ n. n * n) (nat_abs_neg_ℤ s)

pub storage_laws : Laws storage_reads Stores Drops
storage_laws = record {
  sound = λ c. record {
    nums = (c.weight.within.0, omega (arith, c.weight.within));
    dens = omega arith;
    lowest = coprime_one _;
    sizes = omega arith;
    eared = omega arith;
    full = energy_most _ _ c.weight.within.1 c.state.within;
    paid = simp (raised_square c.kind c.state.value) (omega arith);
  };
  fall = λ c f t c' h.
      let w : c'.weight.value ≡ c.weight.value = ap (λ x. x.value) h.weight in
      let r = raised_square c.kind c.state.value in
      record {
        least = simp (r, w, h.state, h.absorbed) (omega arith);
        exact = λ _. simp (r, w, h.state, h.absorbed) (omega arith);
        only = λ _. h.shortened;
        absorbs = omega (arith, h.absorbed);
        counts = omega (arith, h.shortened);
        hears = simp h.heard (omega arith);
        deaf = λ _. h.heard;
        keeps = record { num = w; den = refl; size = refl; ears = refl };
      };
  cleared = λ c e c' h. record {
    dropped = h.dropped;
    empty = simp (h.state, mul-zero) refl;
    keeps = record { num = ap (λ x. x.value) h.weight; den = refl; size = refl; ears = refl };
  };
}

ears_most : (b : Bool) → cond b 1 0 ≤ 1
ears_most true = omega arith
ears_most false = omega arith

heard_most : (b : Bool) (f : ℤ) → unsigned_abs (cond b (held f) (pos 0)) ≤ largest_wave
heard_most true f = held_most f
heard_most false f = omega arith

deaf : (b : Bool) (f : ℤ) → ◌≡◌ {A = ℕ} (cond b 1 0) 0 → cond b f (pos 0) ≡ pos 0
deaf true f e = absurd (omega arith)
deaf false f e = refl

pub resistor_laws : Laws resistor_reads Absorbs resistor_clears
resistor_laws = record {
  sound = λ s. record {
    nums = (s.weight.within.0, omega (arith, s.weight.within));
    dens = omega arith;
    lowest = coprime_one _;
    sizes = omega arith;
    eared = ears_most s.ear;
    full = omega arith;
    paid = simp mul-zero (omega arith);
  };
  fall = λ s f t s' h. record {
    least = simp (h.absorbed, mul-zero) (omega arith);
    exact = λ _. simp (h.absorbed, mul-zero) (omega arith);
    only = λ _. h.shortened;
    absorbs = simp h.absorbed (energy_most _ _ s.weight.within.1 (held_most f));
    counts = omega (arith, h.shortened);
    hears = simp h.heard (heard_most s.ear f);
    deaf = λ e. h.heard ∙ deaf s.ear (held f) e;
    keeps = record { num = ap (λ x. x.weight.value) h.same; den = refl; size = refl; ears = ap (λ x. cond x.ear 1 0) h.same };
  };
  cleared = λ s e s' h. record {
    dropped = h.1;
    empty = refl;
    keeps = record { num = ap (λ x. x.weight.value) h.0; den = refl; size = refl; ears = ap (λ x. cond x.ear 1 0) h.0 };
  };
}
