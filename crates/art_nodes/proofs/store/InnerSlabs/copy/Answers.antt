use Rattle.std.proofs.Common.{arith}
use Rattle.art_nodes.proofs.StoreLemmas.{same_slots}
use Rattle.art_nodes.proofs.store.InnerSlabs.copy.Goals as goal

pub returns-clause-nodes : goal.returns-clause-nodes
returns-clause-nodes g c =
    same_slots _ _ c.in_ok-copy_beside.ensures.slots c.in_ok-copy_beside-2.ensures.slots c.in_ok-copy_beside-3.ensures.slots
    c.in_ok-copy_beside-4.ensures.slots

pub returns-clause-rooms : goal.returns-clause-rooms
returns-clause-rooms g c =
    let node4 = c.in_ok-copy_beside.ensures in
    let node16 = c.in_ok-copy_beside-2.ensures in
    let node48 = c.in_ok-copy_beside-3.ensures in
    let node256 = c.in_ok-copy_beside-4.ensures in
    record {
      node4 = omega (arith, node4.len, node16.len, node48.len, node256.len, node4.room);
      node16 = omega (arith, node16.len, node48.len, node256.len, node16.room);
      node48 = omega (arith, node48.len, node256.len, node48.room);
      node256 = omega (arith, node256.len, node256.room);
      few4 = node4.few;
      few16 = node16.few;
      few48 = node48.few;
      few256 = node256.few;
    }
