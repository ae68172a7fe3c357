use Rattle.std.proofs.Common.{arith}
use Rattle.art_nodes.proofs.store.room.widen.Goals as goal

pub returns-clause-wider : goal.returns-clause-wider
returns-clause-wider g c =
    let copy = c.in_ok-slab.ensures in
    record {
      slots = copy.slots;
      len = copy.len;
      capacity = omega (arith, c.usual_growth.ensures c.requires.few, copy.len, copy.room);
    }
