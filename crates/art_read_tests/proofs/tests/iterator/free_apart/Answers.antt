use Rattle.std.proofs.Common.{rules}
use Rattle.art_model.specs.Layouts.{shape_of}
use Rattle.art_model.proofs.stores.StoreLaws.{has_children}
use Rattle.art_operations.proofs.FreedTrees.{all_can}
use Rattle.art_read_tests.proofs.Freeing.{inners_stay, leaves_stay}
use Rattle.art_read_tests.proofs.tests.iterator.free_apart.Goals as goal

-- the inner nodes after the leaves
pub deallocate_tree_non_leaves-requires : goal.deallocate_tree_non_leaves-requires
deallocate_tree_non_leaves-requires g c =
    let (pairs, layout, is) = c.requires in
    let full = has_children (λ pair. pair.0.items) g.row.P c.args.store.now c.args.root pairs layout is in
    let (names, of) = c.whole-leaves.ensures in
    (search rules, (shape_of layout, inners_stay of (all_can {s = c.args.store.now} full.0).layout (c.deallocate_leaves.ensures.freed names of)))

-- the inner nodes before them
pub deallocate_tree_non_leaves-requires-else-leaves_first : goal.deallocate_tree_non_leaves-requires-else-leaves_first
deallocate_tree_non_leaves-requires-else-leaves_first g c =
    let (pairs, layout, is) = c.requires in
    let full = has_children (λ pair. pair.0.items) g.row.P c.args.store.now c.args.root pairs layout is in
    (search rules, (shape_of layout, (all_can {s = c.args.store.now} full.0).layout))

pub deallocate_leaves-requires-else-leaves_first : goal.deallocate_leaves-requires-else-leaves_first
deallocate_leaves-requires-else-leaves_first g c =
    let (pairs, layout, is) = c.requires in
    let full = has_children (λ pair. pair.0.items) g.row.P c.args.store.now c.args.root pairs layout is in
    let can = all_can {s = c.args.store.now} full.0 in
    let (names, of) = c.whole-leaves.ensures in
    let freed = c.deallocate_tree_non_leaves-else-leaves_first.ensures.freed (shape_of layout) can.layout in
    (search rules, (names, leaves_stay of can.layout freed))
