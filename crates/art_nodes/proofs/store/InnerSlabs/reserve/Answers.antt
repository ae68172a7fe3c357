use Rattle.std.proofs.Common.{◌+◌, arith, refl}
use Rattle.slab.specs.Slab.{HasRoomFor}
use Rattle.art_parts.specs.declared.names.NodeType.TheVariants.{Node16, Node48}
use Rattle.art_nodes.proofs.StoreLemmas.{promised_from_node16, promised_from_node48, room_of, same_slots}
use Rattle.art_nodes.proofs.store.InnerSlabs.reserve.Goals as goal

pub returns-in_err-make_room_beside-clause-nodes : goal.returns-in_err-make_room_beside-clause-nodes
returns-in_err-make_room_beside-clause-nodes g c = same_slots c.args.self.now _ c.make_room_beside.ensures.wider.slots refl refl refl

pub returns-in-Node4-clause-nodes : goal.returns-in-Node4-clause-nodes
returns-in-Node4-clause-nodes g c = same_slots c.args.self.now _ c.make_room_beside.ensures.wider.slots refl refl refl

pub returns-in_err-make_room_beside-2-clause-nodes : goal.returns-in_err-make_room_beside-2-clause-nodes
returns-in_err-make_room_beside-2-clause-nodes g c =
    same_slots c.args.self.now _ c.make_room_beside.ensures.wider.slots c.make_room_beside-2.ensures.wider.slots refl refl

pub returns-in_err-make_room_beside-2-clause-succeeds : goal.returns-in_err-make_room_beside-2-clause-succeeds
returns-in_err-make_room_beside-2-clause-succeeds g c room =
    let more = promised_from_node16 c.args.kind c.in_default.not-Node4 in
    let free : HasRoomFor c.args.self.now.node16 (c.count_from-nodes.result.node48 + 1) = omega (arith, more, room.node16) in
    cc (c.in_err-make_room_beside-2.ensures.succeeds free)

pub returns-in-Node16-clause-nodes : goal.returns-in-Node16-clause-nodes
returns-in-Node16-clause-nodes g c = same_slots c.args.self.now _ c.make_room_beside.ensures.wider.slots c.make_room_beside-2.ensures.wider.slots refl refl

pub returns-in-Node16-clause-room : goal.returns-in-Node16-clause-room
returns-in-Node16-clause-room g c =
    room_of _ c.args.kind Node16 c.in-Node16.is (record {
      node4 = omega (arith, c.in_ok-make_room_beside.ensures.room);
      node16 = omega (arith, c.in_ok-make_room_beside-2.ensures.room);
      node48 = omega arith;
      node256 = omega arith;
      few4 = c.make_room_beside.ensures.few;
      few16 = c.make_room_beside-2.ensures.few;
      few48 = c.requires.room.few48;
      few256 = c.requires.room.few256;
    })

pub returns-in_err-make_room_beside-3-clause-nodes : goal.returns-in_err-make_room_beside-3-clause-nodes
returns-in_err-make_room_beside-3-clause-nodes g c =
    same_slots c.args.self.now _ c.make_room_beside.ensures.wider.slots c.make_room_beside-2.ensures.wider.slots
    c.make_room_beside-3.ensures.wider.slots refl

pub returns-in_err-make_room_beside-3-clause-succeeds : goal.returns-in_err-make_room_beside-3-clause-succeeds
returns-in_err-make_room_beside-3-clause-succeeds g c room =
    let more = promised_from_node48 c.args.kind c.in_default.not-Node4 c.in_default-kind.not-Node16 in
    let free : HasRoomFor c.args.self.now.node48 (c.count_from-nodes.result.node256 + 1) = omega (arith, more, room.node48) in
    cc (c.in_err-make_room_beside-3.ensures.succeeds free)

pub returns-in-Node48-clause-nodes : goal.returns-in-Node48-clause-nodes
returns-in-Node48-clause-nodes g c = same_slots c.args.self.now _ c.make_room_beside.ensures.wider.slots c.make_room_beside-2.ensures.wider.slots
    c.make_room_beside-3.ensures.wider.slots refl

pub returns-in-Node48-clause-room : goal.returns-in-Node48-clause-room
returns-in-Node48-clause-room g c =
    room_of _ c.args.kind Node48 c.in-Node48.is (record {
      node4 = omega (arith, c.in_ok-make_room_beside.ensures.room);
      node16 = omega (arith, c.in_ok-make_room_beside-2.ensures.room);
      node48 = omega (arith, c.in_ok-make_room_beside-3.ensures.room);
      node256 = omega arith;
      few4 = c.make_room_beside.ensures.few;
      few16 = c.make_room_beside-2.ensures.few;
      few48 = c.make_room_beside-3.ensures.few;
      few256 = c.requires.room.few256;
    })

pub returns-clause-nodes : goal.returns-clause-nodes
returns-clause-nodes g c = same_slots c.args.self.now _ c.make_room_beside.ensures.wider.slots c.make_room_beside-2.ensures.wider.slots
    c.make_room_beside-3.ensures.wider.slots c.make_room_beside-4.ensures.wider.slots
