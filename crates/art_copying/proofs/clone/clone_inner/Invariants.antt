use Rattle.std.proofs.Common.{◌+◌, ◌*◌, length, reverse}
use Rattle.art_model.specs.Prelude.{IsPairClone, inner_name, OpaqueNodePtr, IsLessened, IsFullTree, Tree}
use Rattle.art_copying.proofs.Cloning.{first_leaf, last_leaf}
use Rattle.art_copying.proofs.Copying.{IsCopying, IsRefusedAt, left_above, sizes_at}
use Rattle.art_copying.proofs.clone.clone_inner.Given as goal

abbrev pub invariant-children : goal.invariant-children
invariant-children g l = record {
  copying : (tree : Tree OpaqueNodePtr (g.row.K.Denot × g.row.V.Denot)) → IsFullTree l.store (inner_name l.fn.root) tree →
      IsCopying (IsPairClone g.K.Clone.is_clone g.V.Clone.is_clone) l.store l.fn.into tree (reverse l.above.items) l.into l.copy l.children
      (first_leaf l.ends) (last_leaf l.ends);
  lessened : IsLessened l.fn.into.promise l.into.promise;
}

abbrev pub decreases-children : goal.decreases-children
decreases-children g l = 2 * sizes_at l.store l.children + left_above l.store l.above.items

abbrev pub invariant-back : goal.invariant-back
invariant-back g l = record {
  refused : (tree : Tree OpaqueNodePtr (g.row.K.Denot × g.row.V.Denot)) → IsFullTree l.store (inner_name l.fn.root) tree →
      IsRefusedAt (IsPairClone g.K.Clone.is_clone g.V.Clone.is_clone) l.store l.fn.into tree (reverse l.above.items) l.into l.copy;
  lessened : IsLessened l.fn.into.promise l.into.promise;
}

abbrev pub decreases-back : goal.decreases-back
decreases-back g l = length l.above.items
