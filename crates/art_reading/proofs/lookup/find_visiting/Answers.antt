use Rattle.std.proofs.Common.{ap, sym}
use Rattle.art_model.specs.Prelude.{first_of}
use Rattle.art_reading.proofs.lookup.find_visiting.Goals as goal

pub returns-in_err-found-clause-leaf : goal.returns-in_err-found-clause-leaf
returns-in_err-found-clause-leaf g c pairs layout by =
    rw c.from_residual.ensures (sym (ap first_of (c.in_err-found.ensures.leaf pairs layout by)))

pub returns-clause-leaf : goal.returns-clause-leaf
returns-clause-leaf g c pairs layout by = rw (c.in_ok-found.ensures.leaf pairs layout by).only
