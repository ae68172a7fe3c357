use Rattle.std.proofs.Common.{◌≡◌}
use Rattle.std.specs.FinMap as map
use Rattle.art_model.specs.Prelude.{InnerPtr, Leaf}
use Rattle.art_copying.specs.Freed.{CanBothGo}
use Rattle.art_copying.proofs.FreedTrees.{Shape, count_at}
use Rattle.art_copying.proofs.OneTree.{AreMoved}
use Rattle.art_copying.proofs.deallocate.hang.Given as goal

abbrev pub invariant-down : goal.invariant-down
invariant-down g l = record {
  moved : (upper lower : Shape) → CanBothGo l.fn.store l.fn.leaves_too l.fn.left l.fn.child upper lower →
      AreMoved l.fn.store l.store l.fn.leaves_too upper lower l.left l.child;
  promise : l.store.promise ≡ l.fn.store.promise;
  improper : (name : InnerPtr) → name.kind ≡ Leaf → map.get l.store.inners name ≡ map.get l.fn.store.inners name;
  leaves : l.store.leaves ≡ l.fn.store.leaves;
}

abbrev pub decreases-down : goal.decreases-down
decreases-down g l = count_at l.store l.child
