use Rattle.std.proofs.Common.{ap}
use Rattle.art_model.specs.Prelude.{first_of, of_key}
use Rattle.art_writing.proofs.DeletePoints.{has_key_point, leads_to, point_there}
use Rattle.art_writing.proofs.delete.search_from.Goals as goal

pub returns-in_err-last-clause-point : goal.returns-in_err-last-clause-point
returns-in_err-last-clause-point g c =
    has_key_point (of_key g.K.AsBytes.bytes) g.row.P c.requires.root
    (λ pairs layout by. rw (c.from_residual.ensures, c.in_err-last.ensures.leaf pairs layout by) tt)

pub returns-clause-point : goal.returns-clause-point
returns-clause-point g c =
    has_key_point (of_key g.K.AsBytes.bytes) g.row.P c.requires.root
    (λ pairs layout by.
    let last = c.in_ok-last.ensures.leaf pairs layout by in
    point_there (ap first_of last.only) (leads_to last.is_leaf last.path_is))
