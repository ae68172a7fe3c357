use Rattle.art_writing.proofs.Standing.{tree_stays}
use Rattle.art_test_support.proofs.trees.promise.Goals as goal

pub returns : goal.returns
returns g c =
    let (pairs, layout, by) = c.requires.canonical in
    (pairs, layout, tree_stays (c.reserve.ensures.leaves, c.reserve.ensures.inners) by)
