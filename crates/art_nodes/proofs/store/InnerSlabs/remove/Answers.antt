use Rattle.std.proofs.Common.{◌∙◌}
use Rattle.art_parts.specs.declared.names.NodeType.TheVariants.{Node4, Node16, Node48, Node256}
use Rattle.art_nodes.proofs.StoreLemmas.{freed_of, there_of, in_slot, removed_no_fuller, rooms_of, only4, only16, only48, only256}
use Rattle.art_nodes.proofs.store.InnerSlabs.remove.Goals as goal

pub returns-in-Node4-clause-nodes : goal.returns-in-Node4-clause-nodes
returns-in-Node4-clause-nodes g c = freed_of c.args.self.now _ c.args.name Node4 c.in-Node4.is (only4 c.args.self.now _) c.remove.ensures.updates

pub returns-in-Node16-clause-nodes : goal.returns-in-Node16-clause-nodes
returns-in-Node16-clause-nodes g c = freed_of c.args.self.now _ c.args.name Node16 c.in-Node16.is (only16 c.args.self.now _) c.remove-in-Node16.ensures.updates

pub returns-in-Node48-clause-nodes : goal.returns-in-Node48-clause-nodes
returns-in-Node48-clause-nodes g c = freed_of c.args.self.now _ c.args.name Node48 c.in-Node48.is (only48 c.args.self.now _) c.remove-in-Node48.ensures.updates

pub returns-in-Node256-clause-nodes : goal.returns-in-Node256-clause-nodes
returns-in-Node256-clause-nodes g c =
    freed_of c.args.self.now _ c.args.name Node256 c.in-Node256.is (only256 c.args.self.now _) c.remove-in-Node256.ensures.updates

pub remove-requires : goal.remove-requires
remove-requires g c = in_slot c.args.self.now c.args.name Node4 c.in-Node4.is c.requires

pub returns-in-Node4-clause-node : goal.returns-in-Node4-clause-node
returns-in-Node4-clause-node g c = there_of c.args.self.now c.args.name Node4 c.in-Node4.is ∙ c.remove.ensures.value

pub returns-in-Node4-clause-rooms : goal.returns-in-Node4-clause-rooms
returns-in-Node4-clause-rooms g c =
    rooms_of c.args.self.now _ Node4 (only4 c.args.self.now _) (removed_no_fuller _ _ c.remove.ensures.len c.remove.ensures.capacity)

pub remove-requires-in-Node16 : goal.remove-requires-in-Node16
remove-requires-in-Node16 g c = in_slot c.args.self.now c.args.name Node16 c.in-Node16.is c.requires

pub returns-in-Node16-clause-node : goal.returns-in-Node16-clause-node
returns-in-Node16-clause-node g c = there_of c.args.self.now c.args.name Node16 c.in-Node16.is ∙ c.remove-in-Node16.ensures.value

pub returns-in-Node16-clause-rooms : goal.returns-in-Node16-clause-rooms
returns-in-Node16-clause-rooms g c =
    rooms_of c.args.self.now _ Node16 (only16 c.args.self.now _)
    (removed_no_fuller _ _ c.remove-in-Node16.ensures.len c.remove-in-Node16.ensures.capacity)

pub remove-requires-in-Node48 : goal.remove-requires-in-Node48
remove-requires-in-Node48 g c = in_slot c.args.self.now c.args.name Node48 c.in-Node48.is c.requires

pub returns-in-Node48-clause-node : goal.returns-in-Node48-clause-node
returns-in-Node48-clause-node g c = there_of c.args.self.now c.args.name Node48 c.in-Node48.is ∙ c.remove-in-Node48.ensures.value

pub returns-in-Node48-clause-rooms : goal.returns-in-Node48-clause-rooms
returns-in-Node48-clause-rooms g c =
    rooms_of c.args.self.now _ Node48 (only48 c.args.self.now _)
    (removed_no_fuller _ _ c.remove-in-Node48.ensures.len c.remove-in-Node48.ensures.capacity)

pub remove-requires-in-Node256 : goal.remove-requires-in-Node256
remove-requires-in-Node256 g c = in_slot c.args.self.now c.args.name Node256 c.in-Node256.is c.requires

pub returns-in-Node256-clause-node : goal.returns-in-Node256-clause-node
returns-in-Node256-clause-node g c = there_of c.args.self.now c.args.name Node256 c.in-Node256.is ∙ c.remove-in-Node256.ensures.value

pub returns-in-Node256-clause-rooms : goal.returns-in-Node256-clause-rooms
returns-in-Node256-clause-rooms g c =
    rooms_of c.args.self.now _ Node256 (only256 c.args.self.now _)
    (removed_no_fuller _ _ c.remove-in-Node256.ensures.len c.remove-in-Node256.ensures.capacity)
