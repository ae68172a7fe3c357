use Rattle.std.proofs.Common.{rules}
use Rattle.art_model.proofs.stores.StoreLaws.{has_children}
use Rattle.art_write_tests.proofs.tests.two_trees.left_alone.Goals as goal

pub deallocate_tree-freed-requires : goal.deallocate_tree-freed-requires
deallocate_tree-freed-requires c =
    let (pairs, layout, by, leaves, inners, few) = c.in-Some-checked.ensures in
    (search rules, (layout, has_children _ _ _ _ _ layout by))
