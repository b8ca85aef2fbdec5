use Rattle.std.proofs.Common.{ap, ◌∙◌}
use Rattle.tree.specs.Models.{fitted}
use Rattle.tree.specs.Law.{fits_cleared}
use Rattle.tree.proofs.listed.ListingTreePort.clear.Goals as goal

pub invariant_of-self : goal.invariant_of-self
invariant_of-self c =
    let e = c.clear.ensures in
    record { fits = ap fitted e.after ∙ fits_cleared c.args.self.now.tree ∙ c.args.self.now.fits }
