use Rattle.std.proofs.Common.{rules, [], ◌∷◌, refl}
use Rattle.art_node_tests.proofs.tests.sort.is_refused.Goals as goal

pub sort_leaves-requires : goal.sort_leaves-requires
sort_leaves-requires g c =
    let row = c.in_ok-first.first ∷ c.in_ok-second.second ∷ c.in_ok-third.third ∷ [] in
    (search rules, (row, c.are_in_row.ensures c.if-not-are_in_row.false, refl))
