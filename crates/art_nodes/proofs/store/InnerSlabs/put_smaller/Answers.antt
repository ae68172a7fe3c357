use Rattle.std.proofs.Common.{arith}
use Rattle.art_inner.specs.InnerChanges.{without_child}
use Rattle.art_parts.specs.declared.names.NodeType.TheVariants.{Node16, Node48, Node256}
use Rattle.art_nodes.proofs.StoreLemmas.{gives_way, in_slot, is_there, one_there, only4, only16, only48, only256}
use Rattle.art_nodes.proofs.store.InnerSlabs.put_smaller.Goals as goal

pub returns-in-Node16-clause-nodes : goal.returns-in-Node16-clause-nodes
returns-in-Node16-clause-nodes g c =
    gives_way c.args.self.now _ _ c.args.name c.shrink.result (without_child c.args.byte) c.in-Node16.is c.shrink.ensures.kind (only16 _ _)
    (only4 _ _) c.shrink.ensures.gone c.shrink.ensures.put

pub returns-in-Node48-clause-nodes : goal.returns-in-Node48-clause-nodes
returns-in-Node48-clause-nodes g c =
    gives_way c.args.self.now _ _ c.args.name c.shrink-in-Node48.result (without_child c.args.byte) c.in-Node48.is c.shrink-in-Node48.ensures.kind
    (only48 _ _) (only16 _ _) c.shrink-in-Node48.ensures.gone c.shrink-in-Node48.ensures.put

pub returns-in-Node256-clause-nodes : goal.returns-in-Node256-clause-nodes
returns-in-Node256-clause-nodes g c =
    gives_way c.args.self.now _ _ c.args.name c.shrink-in-Node256.result (without_child c.args.byte) c.in-Node256.is c.shrink-in-Node256.ensures.kind
    (only256 _ _) (only48 _ _) c.shrink-in-Node256.ensures.gone c.shrink-in-Node256.ensures.put

pub shrink-requires-clause-room : goal.shrink-requires-clause-room
shrink-requires-clause-room g c =
    let some = one_there c.args.self.now.node16 c.args.name.slot (in_slot c.args.self.now c.args.name Node16 c.in-Node16.is (is_there _ _ c.requires.fit)) in
    omega (arith, some)

pub shrink-requires-in-Node48-clause-room : goal.shrink-requires-in-Node48-clause-room
shrink-requires-in-Node48-clause-room g c =
    let some = one_there c.args.self.now.node48 c.args.name.slot (in_slot c.args.self.now c.args.name Node48 c.in-Node48.is (is_there _ _ c.requires.fit)) in
    omega (arith, some)

pub shrink-requires-in-Node256-clause-room : goal.shrink-requires-in-Node256-clause-room
shrink-requires-in-Node256-clause-room g c =
    let some = one_there c.args.self.now.node256 c.args.name.slot (in_slot c.args.self.now c.args.name Node256 c.in-Node256.is (is_there _ _ c.requires.fit)) in
    omega (arith, some)
