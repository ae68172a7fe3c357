use Rattle.std.proofs.Common.{arith, rules}
use Rattle.art_model.specs.Prelude.{of_key}
use Rattle.art_writing.proofs.DeletePoints.{has_key_point}
use Rattle.art_writing.proofs.EqualBelow.{longer, no_longer, none_starts, there}
use Rattle.art_writing.proofs.delete.below.search_for_delete_point_by.Goals as goal

pub returns-in_err-point-clause-point : goal.returns-in_err-point-clause-point
returns-in_err-point-clause-point g c =
    has_key_point (of_key g.K.AsBytes.bytes) g.row.P c.requires (λ pairs layout by.
    rw (c.from_residual.ensures, none_starts by c.again.ensures (c.in_err-point.ensures.point pairs layout by)) tt)

pub leaf_at-requires : goal.leaf_at-requires
leaf_at-requires g c =
    let (pairs, layout, by) = c.requires in
    (search rules, there by c.again.ensures c.in_ok-point.point (c.in_ok-point.ensures.point pairs layout by))

pub returns-then-shared_after-bytes-clause-point : goal.returns-then-shared_after-bytes-clause-point
returns-then-shared_after-bytes-clause-point g c =
    has_key_point (of_key g.K.AsBytes.bytes) g.row.P c.requires (λ pairs layout by.
    let none = longer by c.again.ensures c.in_ok-point.point (c.in_ok-point.ensures.point pairs layout by) c.leaf_at.ensures c.as_bytes-bytes.ensures
    c.shared_after.ensures.shared c.if-shared_after-bytes.true in
    rw none tt)

pub returns-clause-point : goal.returns-clause-point
returns-clause-point g c =
    has_key_point (of_key g.K.AsBytes.bytes) g.row.P c.requires (λ pairs layout by.
    no_longer by c.again.ensures c.in_ok-point.point (c.in_ok-point.ensures.point pairs layout by) c.leaf_at.ensures c.as_bytes-bytes.ensures
    c.shared_after.ensures.shared (let all = c.if-shared_after-bytes.false in omega arith))
