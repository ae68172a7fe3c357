use Rattle.std.proofs.Common.{◌≡◌, List}
use Rattle.std.specs.FinMap as map
use Rattle.art_model.specs.Prelude.{OpaqueNodePtr}
use Rattle.art_reading.specs.Iterators.{IsIteratorOf}
use Rattle.art_writing.proofs.FreedLeaves.{AreLeft}
use Rattle.art_writing.proofs.deallocate.deallocate_leaves.Given as goal

abbrev pub invariant-leaves : goal.invariant-leaves
invariant-leaves g l = record {
  left : (names : List OpaqueNodePtr) → IsIteratorOf l.fn.store l.fn.leaf_range names → AreLeft l.fn.store l.store names l.left;
  promise : l.store.promise ≡ l.fn.store.promise;
}

abbrev pub decreases-leaves : goal.decreases-leaves
decreases-leaves g l = map.len l.store.leaves
