use Rattle.std.proofs.Common.{rules, sym}
use Rattle.art_model.specs.Prelude.{of_key}
use Rattle.art_model.proofs.stores.Canonical.{tree_radix}
use Rattle.art_model.proofs.stores.StoreLaws.{has_children}
use Rattle.art_writing.proofs.DeletePoints.{has_delete_point, point_at_end, point_there}
use Rattle.art_writing.proofs.delete.find_end_to_delete.Goals as goal

pub walk_to_end-path-requires : goal.walk_to_end-path-requires
walk_to_end-path-requires g c = let (pairs, layout, by) = c.requires in (search rules, (layout, has_children _ _ _ _ _ layout by))

pub returns : goal.returns
returns g c =
    has_delete_point (of_key g.K.AsBytes.bytes) g.row.P c.requires (λ pairs layout by.
    let (x, pair_is, leads) = point_at_end c.args.end (sym (tree_radix by).1) (c.walk_to_end-path.ensures layout (has_children _ _ _ _ _ layout by)) in
    point_there pair_is leads)
