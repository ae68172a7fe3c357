use Rattle.art_nodes.proofs.store.NodeStore.with_room_of.Goals as goal

pub invariant_of-store : goal.invariant_of-store
invariant_of-store g c = (c.store.invariant.0, c.reserve_like.ensures.rooms _ c.store.invariant.1)

pub invariant_of-store-2 : goal.invariant_of-store-2
invariant_of-store-2 g c = (c.store.invariant.0, c.reserve_like.ensures.rooms _ c.store.invariant.1)
