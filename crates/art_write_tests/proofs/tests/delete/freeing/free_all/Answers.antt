use Rattle.std.proofs.Common.{rules}
use Rattle.art_model.proofs.stores.StoreLaws.{has_children}
use Rattle.art_write_tests.proofs.tests.delete.freeing.free_all.Goals as goal

pub deallocate_tree-count-requires : goal.deallocate_tree-count-requires
deallocate_tree-count-requires g c = let (pairs, layout, by) = c.requires in (search rules, (layout, has_children _ _ _ _ _ layout by))
