use Rattle.std.proofs.Common.{refl}
use Rattle.art_parts.specs.declared.names.NodeType.TheVariants.{Node4, Node16, Node48, Node256}
use Rattle.art_inner.specs.InnerChanges.{without_child}
use Rattle.art_nodes.proofs.StoreLemmas.{written_of, in_slot, rooms_written, only4, only16, only48, only256}
use Rattle.art_nodes.proofs.store.InnerSlabs.remove_child.Goals as goal

pub returns-in-Node4-clause-nodes : goal.returns-in-Node4-clause-nodes
returns-in-Node4-clause-nodes g c =
    written_of c.args.self.now _ c.args.name (without_child c.args.byte) _ _ Node4 c.in-Node4.is
    (only4 c.args.self.now _) c.index_mut.ensures.value refl c.remove_child.ensures.rest

pub returns-in-Node16-clause-nodes : goal.returns-in-Node16-clause-nodes
returns-in-Node16-clause-nodes g c =
    written_of c.args.self.now _ c.args.name (without_child c.args.byte) _ _ Node16 c.in-Node16.is
    (only16 c.args.self.now _) c.index_mut-in-Node16.ensures.value refl c.remove_child-in-Node16.ensures.rest

pub returns-in-Node48-clause-nodes : goal.returns-in-Node48-clause-nodes
returns-in-Node48-clause-nodes g c =
    written_of c.args.self.now _ c.args.name (without_child c.args.byte) _ _ Node48 c.in-Node48.is
    (only48 c.args.self.now _) c.index_mut-in-Node48.ensures.value refl c.remove_child-in-Node48.ensures.rest

pub returns-in-Node256-clause-nodes : goal.returns-in-Node256-clause-nodes
returns-in-Node256-clause-nodes g c =
    written_of c.args.self.now _ c.args.name (without_child c.args.byte) _ _ Node256 c.in-Node256.is
    (only256 c.args.self.now _) c.index_mut-in-Node256.ensures.value refl c.remove_child-in-Node256.ensures.rest

pub index_mut-requires : goal.index_mut-requires
index_mut-requires g c = in_slot c.args.self.now c.args.name Node4 c.in-Node4.is c.requires

pub returns-in-Node4-clause-rooms : goal.returns-in-Node4-clause-rooms
returns-in-Node4-clause-rooms g c = rooms_written c.args.self.now _ c.args.name _ _ Node4 (only4 c.args.self.now _) c.index_mut.ensures.value refl

pub index_mut-requires-in-Node16 : goal.index_mut-requires-in-Node16
index_mut-requires-in-Node16 g c = in_slot c.args.self.now c.args.name Node16 c.in-Node16.is c.requires

pub returns-in-Node16-clause-rooms : goal.returns-in-Node16-clause-rooms
returns-in-Node16-clause-rooms g c = rooms_written c.args.self.now _ c.args.name _ _ Node16 (only16 c.args.self.now _) c.index_mut-in-Node16.ensures.value refl

pub index_mut-requires-in-Node48 : goal.index_mut-requires-in-Node48
index_mut-requires-in-Node48 g c = in_slot c.args.self.now c.args.name Node48 c.in-Node48.is c.requires

pub returns-in-Node48-clause-rooms : goal.returns-in-Node48-clause-rooms
returns-in-Node48-clause-rooms g c = rooms_written c.args.self.now _ c.args.name _ _ Node48 (only48 c.args.self.now _) c.index_mut-in-Node48.ensures.value refl

pub index_mut-requires-in-Node256 : goal.index_mut-requires-in-Node256
index_mut-requires-in-Node256 g c = in_slot c.args.self.now c.args.name Node256 c.in-Node256.is c.requires

pub returns-in-Node256-clause-rooms : goal.returns-in-Node256-clause-rooms
returns-in-Node256-clause-rooms g c =
    rooms_written c.args.self.now _ c.args.name _ _ Node256 (only256 c.args.self.now _) c.index_mut-in-Node256.ensures.value refl
