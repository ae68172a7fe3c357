use Rattle.std.proofs.Common.{refl, rules}
use Rattle.art_parts.specs.declared.names.NodeType.TheVariants.{Node4, Node16, Node48, Node256}
use Rattle.art_inner.specs.InnerChanges.{with_child}
use Rattle.art_nodes.proofs.StoreLemmas.{written_of, place_of, is_there, known_of, rooms_written, only4, only16, only48, only256}
use Rattle.art_nodes.proofs.store.InnerSlabs.write_child.Goals as goal

pub returns-in-Node4-clause-nodes : goal.returns-in-Node4-clause-nodes
returns-in-Node4-clause-nodes g c =
    written_of c.args.self.now _ c.args.name (with_child c.args.byte c.args.child) _ _ Node4 c.in-Node4.is
    (only4 c.args.self.now _) c.index_mut.ensures.value refl c.write_child.ensures

pub returns-in-Node16-clause-nodes : goal.returns-in-Node16-clause-nodes
returns-in-Node16-clause-nodes g c =
    written_of c.args.self.now _ c.args.name (with_child c.args.byte c.args.child) _ _ Node16 c.in-Node16.is
    (only16 c.args.self.now _) c.index_mut-in-Node16.ensures.value refl c.write_child-in-Node16.ensures

pub returns-in-Node48-clause-nodes : goal.returns-in-Node48-clause-nodes
returns-in-Node48-clause-nodes g c =
    written_of c.args.self.now _ c.args.name (with_child c.args.byte c.args.child) _ _ Node48 c.in-Node48.is
    (only48 c.args.self.now _) c.index_mut-in-Node48.ensures.value refl c.write_child-in-Node48.ensures

pub returns-in-Node256-clause-nodes : goal.returns-in-Node256-clause-nodes
returns-in-Node256-clause-nodes g c =
    written_of c.args.self.now _ c.args.name (with_child c.args.byte c.args.child) _ _ Node256 c.in-Node256.is
    (only256 c.args.self.now _) c.index_mut-in-Node256.ensures.value refl c.write_child-in-Node256.ensures

pub returns-in-Node4-clause-rooms : goal.returns-in-Node4-clause-rooms
returns-in-Node4-clause-rooms g c = rooms_written c.args.self.now _ c.args.name _ _ Node4 (only4 c.args.self.now _) c.index_mut.ensures.value refl

pub returns-in-Node16-clause-rooms : goal.returns-in-Node16-clause-rooms
returns-in-Node16-clause-rooms g c = rooms_written c.args.self.now _ c.args.name _ _ Node16 (only16 c.args.self.now _) c.index_mut-in-Node16.ensures.value refl

pub returns-in-Node48-clause-rooms : goal.returns-in-Node48-clause-rooms
returns-in-Node48-clause-rooms g c = rooms_written c.args.self.now _ c.args.name _ _ Node48 (only48 c.args.self.now _) c.index_mut-in-Node48.ensures.value refl

pub returns-in-Node256-clause-rooms : goal.returns-in-Node256-clause-rooms
returns-in-Node256-clause-rooms g c =
    rooms_written c.args.self.now _ c.args.name _ _ Node256 (only256 c.args.self.now _) c.index_mut-in-Node256.ensures.value refl

pub index_mut-requires : goal.index_mut-requires
index_mut-requires g c = is_there _ _ (place_of c.args.self.now c.args.name Node4 c.in-Node4.is c.args.byte c.requires)

pub write_child-requires : goal.write_child-requires
write_child-requires g c =
    (search rules, known_of _ _ _ c.index_mut.ensures.value (place_of c.args.self.now c.args.name Node4 c.in-Node4.is c.args.byte c.requires))

pub index_mut-requires-in-Node16 : goal.index_mut-requires-in-Node16
index_mut-requires-in-Node16 g c = is_there _ _ (place_of c.args.self.now c.args.name Node16 c.in-Node16.is c.args.byte c.requires)

pub write_child-requires-in-Node16 : goal.write_child-requires-in-Node16
write_child-requires-in-Node16 g c =
    (search rules, known_of _ _ _ c.index_mut-in-Node16.ensures.value (place_of c.args.self.now c.args.name Node16 c.in-Node16.is c.args.byte c.requires))

pub index_mut-requires-in-Node48 : goal.index_mut-requires-in-Node48
index_mut-requires-in-Node48 g c = is_there _ _ (place_of c.args.self.now c.args.name Node48 c.in-Node48.is c.args.byte c.requires)

pub write_child-requires-in-Node48 : goal.write_child-requires-in-Node48
write_child-requires-in-Node48 g c =
    (search rules, known_of _ _ _ c.index_mut-in-Node48.ensures.value (place_of c.args.self.now c.args.name Node48 c.in-Node48.is c.args.byte c.requires))

pub index_mut-requires-in-Node256 : goal.index_mut-requires-in-Node256
index_mut-requires-in-Node256 g c = is_there _ _ (place_of c.args.self.now c.args.name Node256 c.in-Node256.is c.args.byte c.requires)

pub write_child-requires-in-Node256 : goal.write_child-requires-in-Node256
write_child-requires-in-Node256 g c =
    (search rules, known_of _ _ _ c.index_mut-in-Node256.ensures.value (place_of c.args.self.now c.args.name Node256 c.in-Node256.is c.args.byte c.requires))
