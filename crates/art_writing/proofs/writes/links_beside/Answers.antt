use Rattle.std.proofs.Common.{rules}
use Rattle.art_reading.proofs.PartNodes.{leaf_is_there}
use Rattle.art_writing.proofs.writes.links_beside.Goals as goal

pub leaf_at-leaf-requires : goal.leaf_at-leaf-requires
leaf_at-leaf-requires g c =
    let (tree, full) = c.requires in
    let found = c.minimum_unchecked-first.ensures tree full in
    (search rules, leaf_is_there c.args.store.now full.0.holds found.has)

pub leaf_at-leaf-requires-in-After : goal.leaf_at-leaf-requires-in-After
leaf_at-leaf-requires-in-After g c =
    let (tree, full) = c.requires in
    let found = c.maximum_unchecked-last.ensures tree full in
    (search rules, leaf_is_there c.args.store.now full.0.holds found.has)
