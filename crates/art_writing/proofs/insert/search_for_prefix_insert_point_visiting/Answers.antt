use Rattle.std.proofs.Common.{refl}
use Rattle.art_writing.proofs.Points.{has_prefix_point, insert_point, overwrite_point}
use Rattle.art_writing.proofs.insert.search_for_prefix_insert_point_visiting.Goals as goal

pub returns-in-Some-clause-point : goal.returns-in-Some-clause-point
returns-in-Some-clause-point g c =
    has_prefix_point c.requires refl (λ pairs layout by. insert_point by c.in-Some.is (c.walk_to_end_node_visiting-end.ensures.end pairs layout by))

pub returns-in-None-clause-point : goal.returns-in-None-clause-point
returns-in-None-clause-point g c =
    has_prefix_point c.requires refl (λ pairs layout by. overwrite_point by c.in-None.is (c.walk_to_end_node_visiting-end.ensures.end pairs layout by))
