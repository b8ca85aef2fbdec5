-- The wide resistor keeps the laws of a port.
use Rattle.std.proofs.Common.{arith}
use Rattle.std.specs.Prelude.{refl}
use Rattle.port.specs.Meaning.{Laws}
use Rattle.port.specs.Lawful.{resistor_laws}
use Rattle.refused.specs.Wide.{wide_reads, wide_takes, wide_clears}

pub wide_laws : Laws wide_reads wide_takes wide_clears
wide_laws = record {
  sound = λ s.
      let S = resistor_laws.sound s.resistor in
      record { nums = S.nums; dens = S.dens; lowest = S.lowest; sizes = omega arith; eared = S.eared; full = omega arith; paid = S.paid };
  fall = λ s f t s' h.
      let F = resistor_laws.fall s.resistor f t s'.resistor h in
      record {
        least = F.least;
        exact = F.exact;
        only = F.only;
        absorbs = omega (arith, F.absorbs);
        counts = omega (arith, F.counts);
        hears = F.hears;
        deaf = F.deaf;
        keeps = record { num = F.keeps.num; den = F.keeps.den; size = refl; ears = F.keeps.ears };
      };
  cleared = λ s e s' h.
      let C = resistor_laws.cleared s.resistor e s'.resistor h in
      record { dropped = C.dropped; empty = C.empty; keeps = record { num = C.keeps.num; den = C.keeps.den; size = refl; ears = C.keeps.ears } };
}
