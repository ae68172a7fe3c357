use Rattle.std.proofs.Common.{arith, ap, is_some}
use Rattle.std.specs.Prelude.{count_by}
use Rattle.art_nodes.proofs.StoreLemmas.{no_inners}
use Rattle.art_nodes.proofs.store.InnerSlabs.new.Goals as goal

pub returns-clause-nodes : goal.returns-clause-nodes
returns-clause-nodes g c = no_inners _ c.new.ensures.empty c.new-2.ensures.empty c.new-3.ensures.empty c.new-4.ensures.empty

pub returns-clause-rooms : goal.returns-clause-rooms
returns-clause-rooms g c =
    let node4 = ap (count_by is_some) c.new.ensures.empty in
    let node16 = ap (count_by is_some) c.new-2.ensures.empty in
    let node48 = ap (count_by is_some) c.new-3.ensures.empty in
    let node256 = ap (count_by is_some) c.new-4.ensures.empty in
    record {
      node4 = omega arith;
      node16 = omega arith;
      node48 = omega arith;
      node256 = omega arith;
      few4 = omega (arith, c.new.ensures.capacity);
      few16 = omega (arith, c.new-2.ensures.capacity);
      few48 = omega (arith, c.new-3.ensures.capacity);
      few256 = omega (arith, c.new-4.ensures.capacity);
    }
