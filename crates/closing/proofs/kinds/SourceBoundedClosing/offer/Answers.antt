use Rattle.std.proofs.Common.{w32, SFits}
use Rattle.std.proofs.lemmas.Int.{to_z-of_z}
use Rattle.closing.specs.Sources.{source_within}
use Rattle.closing.proofs.kinds.SourceBoundedClosing.offer.Goals as goal

pub returns : goal.returns
returns c =
    let f : SFits w32 c.args.e = c.ranges.e in
    let h = simp to_z-of_z at c.hold.ensures in
    let v = simp h at c.energy.ensures in
    record { value = v; bound = λ r q. simp v (source_within c.args.self.now r c.args.e q) }
