use Rattle.art_model.specs.Prelude.{of_key, pair_of}
use Rattle.art_reading.proofs.Found.{has_found}
use Rattle.art_reading.proofs.lookup.find_leaf.Goals as goal

pub returns-in_err-last-clause-found : goal.returns-in_err-last-clause-found
returns-in_err-last-clause-found g c =
    rw c.from_residual.ensures (has_found (of_key g.K.AsBytes.bytes) g.row.P c.requires.root (λ pairs layout by. c.in_err-last.ensures.leaf pairs layout by))

pub returns-clause-found : goal.returns-clause-found
returns-clause-found g c =
    has_found (of_key g.K.AsBytes.bytes) g.row.P c.requires.root
    (λ pairs layout by. let found = c.in_ok-last.ensures.leaf pairs layout by in (pair_of c.in_ok-last.last.node.now, found.only, found.is_leaf))
