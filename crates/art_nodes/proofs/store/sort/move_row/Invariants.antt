use Rattle.std.proofs.Common.{◌≡◌, ◌≤◌, ◌^◌, List, length, Some, None}
use Rattle.slab.specs.Slab.{HasRoomFor, slab_len}
use Rattle.art_nodes.specs.Renamed.{IsRow}
use Rattle.art_parts.specs.Lists.{first_of}
use Rattle.art_nodes.specs.StoreView.{leaves_of}
use Rattle.art_nodes.proofs.SortLemmas.{AreMoving}
use Rattle.art_parts.specs.declared.names.LeafPtr.{LeafPtr}
use Rattle.art_nodes.proofs.store.sort.move_row.Given as goal

abbrev pub invariant-loop-next : goal.invariant-loop-next
invariant-loop-next g l = record {
  moving : (row : List LeafPtr) → IsRow (leaves_of l.fn.from.slots) None row → first_of row ≡ Some l.fn.first →
      AreMoving l.fn.from l.from l.to l.table row l.next;
  room : HasRoomFor l.to (slab_len l.from);
  few : l.to.capacity ≤ 2 ^ 32;
  places : length l.fn.from.slots ≤ length l.table;
}

abbrev pub decreases-loop-next : goal.decreases-loop-next
decreases-loop-next g l = slab_len l.from
