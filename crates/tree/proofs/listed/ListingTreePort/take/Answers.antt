use Rattle.std.proofs.Common.{ap, ◌∙◌}
use Rattle.tree.specs.Models.{fitted}
use Rattle.tree.specs.Law.{fits_taken}
use Rattle.tree.proofs.listed.ListingTreePort.take.Goals as goal

pub invariant_of-self : goal.invariant_of-self
invariant_of-self c =
    let e = c.take.ensures in
    record { fits = ap fitted e.after ∙ fits_taken c.args.self.now.tree _ ∙ c.args.self.now.fits }
