use Rattle.art_parts.specs.declared.names.NodeType.TheVariants.{Node4, Node16, Node48, Node256}
use Rattle.art_nodes.proofs.StoreLemmas.{freed_of, removed_no_fuller, rooms_of, only4, only16, only48, only256}
use Rattle.art_nodes.proofs.store.InnerSlabs.drop_node.Goals as goal

pub returns-in-Node4-clause-nodes : goal.returns-in-Node4-clause-nodes
returns-in-Node4-clause-nodes g c = freed_of c.args.self.now _ c.args.name Node4 c.in-Node4.is (only4 c.args.self.now _) c.drop_from.ensures.updates

pub returns-in-Node16-clause-nodes : goal.returns-in-Node16-clause-nodes
returns-in-Node16-clause-nodes g c =
    freed_of c.args.self.now _ c.args.name Node16 c.in-Node16.is (only16 c.args.self.now _) c.drop_from-in-Node16.ensures.updates

pub returns-in-Node48-clause-nodes : goal.returns-in-Node48-clause-nodes
returns-in-Node48-clause-nodes g c =
    freed_of c.args.self.now _ c.args.name Node48 c.in-Node48.is (only48 c.args.self.now _) c.drop_from-in-Node48.ensures.updates

pub returns-in-Node256-clause-nodes : goal.returns-in-Node256-clause-nodes
returns-in-Node256-clause-nodes g c =
    freed_of c.args.self.now _ c.args.name Node256 c.in-Node256.is (only256 c.args.self.now _) c.drop_from-in-Node256.ensures.updates

pub returns-in-Node4-clause-rooms : goal.returns-in-Node4-clause-rooms
returns-in-Node4-clause-rooms g c =
    rooms_of c.args.self.now _ Node4 (only4 c.args.self.now _)
    (removed_no_fuller _ _ c.drop_from.ensures.fewer.len c.drop_from.ensures.fewer.capacity)

pub returns-in-Node16-clause-rooms : goal.returns-in-Node16-clause-rooms
returns-in-Node16-clause-rooms g c = rooms_of c.args.self.now _ Node16 (only16 c.args.self.now _)
    (removed_no_fuller _ _ c.drop_from-in-Node16.ensures.fewer.len c.drop_from-in-Node16.ensures.fewer.capacity)

pub returns-in-Node48-clause-rooms : goal.returns-in-Node48-clause-rooms
returns-in-Node48-clause-rooms g c = rooms_of c.args.self.now _ Node48 (only48 c.args.self.now _)
    (removed_no_fuller _ _ c.drop_from-in-Node48.ensures.fewer.len c.drop_from-in-Node48.ensures.fewer.capacity)

pub returns-in-Node256-clause-rooms : goal.returns-in-Node256-clause-rooms
returns-in-Node256-clause-rooms g c = rooms_of c.args.self.now _ Node256 (only256 c.args.self.now _)
    (removed_no_fuller _ _ c.drop_from-in-Node256.ensures.fewer.len c.drop_from-in-Node256.ensures.fewer.capacity)
