use Rattle.std.proofs.Common.{◌≡◌, ◌+◌, ◌<◌, ◌^◌}
use Rattle.std.specs.FinMap as map
use Rattle.art_model.specs.Prelude.{InnerPtr, Leaf}
use Rattle.art_copying.specs.Freed.{CanGo}
use Rattle.art_copying.proofs.FreedTrees.{Shape, count_at}
use Rattle.art_copying.proofs.OneTree.{IsLeft}
use Rattle.art_copying.proofs.deallocate.free_nodes.Given as goal

abbrev pub invariant-left : goal.invariant-left
invariant-left g l = record {
  left : (shape : Shape) → CanGo l.fn.store l.fn.leaves_too l.fn.root shape → IsLeft l.fn.store l.store l.fn.leaves_too l.left shape l.count;
  promise : l.store.promise ≡ l.fn.store.promise;
  improper : (name : InnerPtr) → name.kind ≡ Leaf → map.get l.store.inners name ≡ map.get l.fn.store.inners name;
  total : l.count + map.len l.store.leaves ≡ map.len l.fn.store.leaves;
  few : 0 < l.count → map.len l.fn.store.leaves < 2 ^ 64;
}

abbrev pub decreases-left : goal.decreases-left
decreases-left g l = count_at l.store l.left
