use Rattle.art_model.specs.Prelude.{of_key}
use Rattle.art_model.proofs.stores.Canonical.{tree_radix}
use Rattle.art_writing.proofs.DeletePoints.{has_delete_point, point_there}
use Rattle.art_writing.proofs.PointsBelow.{first_gone, first_there}
use Rattle.art_writing.proofs.delete.below.search_for_first_delete_point_below.Goals as goal

pub returns-in_err-first : goal.returns-in_err-first
returns-in_err-first g c =
    has_delete_point (of_key g.K.AsBytes.bytes) g.row.P c.requires (λ pairs layout by.
    rw (c.from_residual.ensures, first_gone _ (g.B.KeyBytes.key c.args.prefix) layout (tree_radix by).1 (c.in_err-first.ensures pairs layout by)) tt)

pub returns : goal.returns
returns g c =
    has_delete_point (of_key g.K.AsBytes.bytes) g.row.P c.requires (λ pairs layout by.
    let (x, is, leads) = first_there _ (g.B.KeyBytes.key c.args.prefix) layout (tree_radix by).1 (c.in_ok-first.ensures pairs layout by) in
    point_there is leads)
