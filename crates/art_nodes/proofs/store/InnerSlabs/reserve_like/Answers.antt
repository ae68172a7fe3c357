use Rattle.std.proofs.Common.{refl}
use Rattle.art_nodes.proofs.StoreLemmas.{same_slots}
use Rattle.art_nodes.proofs.store.InnerSlabs.reserve_like.Goals as goal

pub returns-in_err-make_room-clause-nodes : goal.returns-in_err-make_room-clause-nodes
returns-in_err-make_room-clause-nodes g c = same_slots c.args.self.now _ c.make_room.ensures.wider.slots refl refl refl

pub returns-in_err-make_room-2-clause-nodes : goal.returns-in_err-make_room-2-clause-nodes
returns-in_err-make_room-2-clause-nodes g c = same_slots c.args.self.now _ c.make_room.ensures.wider.slots
    c.make_room-2.ensures.wider.slots refl refl

pub returns-in_err-make_room-3-clause-nodes : goal.returns-in_err-make_room-3-clause-nodes
returns-in_err-make_room-3-clause-nodes g c = same_slots c.args.self.now _ c.make_room.ensures.wider.slots
    c.make_room-2.ensures.wider.slots c.make_room-3.ensures.wider.slots refl

pub returns-clause-nodes : goal.returns-clause-nodes
returns-clause-nodes g c = same_slots c.args.self.now _ c.make_room.ensures.wider.slots
    c.make_room-2.ensures.wider.slots c.make_room-3.ensures.wider.slots
    c.make_room-4.ensures.wider.slots
