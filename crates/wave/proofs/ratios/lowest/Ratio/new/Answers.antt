use Rattle.std.proofs.Common.{arith}
use Rattle.wave.proofs.Divided.{reduced, reduced_only, above, coprime}
use Rattle.wave.proofs.ratios.lowest.Ratio.new.Goals as goal

pub returns-then-num-gt-LARGEST_NUMBER : goal.returns-then-num-gt-LARGEST_NUMBER
returns-then-num-gt-LARGEST_NUMBER c = record {
  num = _;
  den = _;
  above = omega arith;
  reduced = reduced _ _ _ c.gcd-by.ensures;
  past = omega arith;
}

pub invariant_of-result : goal.invariant_of-result
invariant_of-result c =
    let a = above c.args.a c.args.b _ c.gcd-by.ensures (omega arith) (omega arith) in
    record { above = (a.0, a.1); within = (omega arith, omega arith); lowest = coprime _ _ _ c.gcd-by.ensures }

pub returns : goal.returns
returns c = let r = reduced _ _ _ c.gcd-by.ensures in (r, reduced_only _ _ _ _ r)
