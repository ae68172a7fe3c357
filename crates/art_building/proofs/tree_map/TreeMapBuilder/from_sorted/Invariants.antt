use Rattle.std.proofs.Common.{◌≡◌, length}
use Rattle.std.specs.Vec.Iter.{into_iter_items, into_iter_len}
use Rattle.art_building.proofs.Lasts.{IsBuiltUpTo}
use Rattle.art_building.proofs.tree_map.TreeMapBuilder.from_sorted.Given as goal

abbrev pub invariant-loop-next : goal.invariant-loop-next
invariant-loop-next g l = record {
  built : IsBuiltUpTo g.K.NoPrefixesBytes.is_key g.K.AsBytes.bytes l.fn.pairs.items l.builder l.last (into_iter_items l.next-iterator);
  len : into_iter_len l.next-iterator ≡ length (into_iter_items l.next-iterator);
}
