use Rattle.art_nodes.proofs.StoreLemmas.{no_inners, emptied_no_fuller, rooms_each}
use Rattle.art_nodes.proofs.store.InnerSlabs.clear.Goals as goal

pub returns-clause-nodes : goal.returns-clause-nodes
returns-clause-nodes g c = no_inners _ c.clear.ensures.empty c.clear-2.ensures.empty c.clear-3.ensures.empty c.clear-4.ensures.empty

pub returns-clause-rooms : goal.returns-clause-rooms
returns-clause-rooms g c = rooms_each c.args.self.now _
    (emptied_no_fuller _ _ c.clear.ensures.empty c.clear.ensures.capacity) (emptied_no_fuller _ _ c.clear-2.ensures.empty c.clear-2.ensures.capacity)
    (emptied_no_fuller _ _ c.clear-3.ensures.empty c.clear-3.ensures.capacity) (emptied_no_fuller _ _ c.clear-4.ensures.empty c.clear-4.ensures.capacity)
