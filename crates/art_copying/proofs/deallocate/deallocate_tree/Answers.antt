use Rattle.std.proofs.Common.{rules, [], Some, None, refl}
use Rattle.art_model.specs.Prelude.{shape_of, of_key}
use Rattle.art_model.proofs.stores.Apart.{tree_apart}
use Rattle.art_copying.proofs.FreedTrees.{all_can, all_counted, all_go}
use Rattle.art_copying.proofs.deallocate.deallocate_tree.Goals as goal

pub free_nodes-requires : goal.free_nodes-requires
free_nodes-requires g c =
    let (layout, full) = c.requires in
    (search rules, (shape_of layout, all_can full.0))

pub returns-clause-freed : goal.returns-clause-freed
returns-clause-freed g c layout full = all_go layout (c.free_nodes.ensures.freed (shape_of layout) (all_can full.0))

pub returns-clause-apart : goal.returns-clause-apart
returns-clause-apart g c (pairs, layout, is) =
    tree_apart (of_key g.K.AsBytes.bytes) g.row.P c.args.store.now c.free_nodes.new.store (Some c.args.root) None pairs [] (Some layout) None
    is refl (all_go layout (c.free_nodes.ensures.freed (shape_of layout) (all_can is.stands.0)))

pub returns-clause-count : goal.returns-clause-count
returns-clause-count g c layout full = all_counted layout c.free_nodes.result (c.free_nodes.ensures.count (shape_of layout) (all_can full.0))
