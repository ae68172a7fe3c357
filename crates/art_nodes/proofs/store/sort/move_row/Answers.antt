use Rattle.std.proofs.Common.{◌<◌, length, Some, subst, arith}
use Rattle.std.proofs.lemmas.List.{length-set}
use Rattle.slab.proofs.SlabLemmas.{ContainsKey-within}
use Rattle.art_nodes.proofs.SortLemmas.{AreMoving, next_moves, next_there, none_moved}
use Rattle.art_nodes.proofs.store.sort.move_row.Goals as goal

pub loop-next-init : goal.loop-next-init
loop-next-init g c = record {
  moving = λ row is first. none_moved c.args.from.now c.args.to.now c.args.table.now row (Some c.args.first) is first c.requires.empty;
  room = c.requires.room;
  few = c.requires.few;
  places = c.requires.places;
}

pub bounds-table-leaf : goal.bounds-table-leaf
bounds-table-leaf g c =
    let (row, is, first) = c.requires.row in
    let l = c.loop-next in
    let moving = subst (AreMoving c.args.from.now l.from l.to l.table row) c.in-Some.is (l.invariant.moving row is first) in
    let there = next_there c.args.from.now l.from l.to l.table row c.in-Some.leaf moving in
    omega (arith, ContainsKey-within c.args.from.now c.in-Some.leaf.slot there.1, l.invariant.places)

pub loop-next-preserved : goal.loop-next-preserved
loop-next-preserved g c =
    let l = c.loop-next in
    let name = c.in-Some.leaf in
    let put = c.insert_reserved in
    let as_long = length-set l.table name.slot put.result in record {
      moving = λ row is first.
          let moving = subst (AreMoving c.args.from.now l.from l.to l.table row) c.in-Some.is (l.invariant.moving row is first) in
          let there = next_there c.args.from.now l.from l.to l.table row name moving in
          let fits : name.slot < length l.table = omega (arith, ContainsKey-within c.args.from.now name.slot there.1, l.invariant.places) in
          next_moves c.args.from.now l.from c.remove-node.new.self l.to put.new.self l.table row name put.result c.remove-node.result is
          c.remove-node.ensures.value
          c.remove-node.ensures.updates put.ensures.was_vacant put.ensures.updates fits moving;
      room = omega (arith, l.invariant.room, c.remove-node.ensures.len, put.ensures.len, put.ensures.capacity);
      few = omega (arith, l.invariant.few, put.ensures.capacity);
      places = omega (arith, l.invariant.places, as_long);
    }
