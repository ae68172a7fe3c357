use Rattle.art_writing.proofs.Standing.{tree_stays}
use Rattle.art_test_support.proofs.points.put_over.Goals as goal

pub returns-in-Err : goal.returns-in-Err
returns-in-Err g c =
    let (pairs, layout, by) = c.requires in
    (pairs, layout, tree_stays {mid = c.apply.new.store} (c.in-Err.ensures.memory.leaves, c.in-Err.ensures.memory.inners) by)
