-- What an applied delete point returns, as one definition, and what the private functions do that remove its leaf alone, or remove it from its parent before.
use Rattle.std.specs.Prelude.{◌≡◌, ℕ, List, Option, Some, IsSome, IsSomeAnd, IfSome}
use Rattle.std.specs.FinMap as map
use Rattle.art_nodes.specs.Nodes.{Nodes}
use Rattle.art_parts.specs.declared.names.OpaqueNodePtr.{OpaqueNodePtr}
use Rattle.art_model.specs.Apart.{KeepsApart}
use Rattle.art_model.specs.Canonical.{IsCanonical}
use Rattle.art_model.specs.Kept.{ChangesInPlace}
use Rattle.art_model.specs.Pairs.{first_of, last_of, remove_key, remove_reply, without_first, without_last}
use Rattle.art_model.specs.Promises.{promise_after}
use Rattle.art_model.specs.Roots.{ForRoot, ForTree, IsCanonicalRoot}
use Rattle.art_model.specs.Stores.{pair_of}
use Rattle.art_model.specs.Writes.{without_leaf}
use Rattle.art_writing.specs.declared.delete.DeletePoint.{DeletePoint}
use Rattle.art_writing.specs.declared.delete.DeleteResult.{DeleteResult}
use Rattle.art_writing.specs.Deleted.{IsRootAfter, TouchesFor, pair_at, parent_change, placed_for_deletion}
use Rattle.art_writing.specs.Inserted.{unlinked_leaf}
use Rattle.art_writing.specs.ParentWrites.{LinksAreThere}

-- The point's leaf is removed from between its neighbours, and is returned alone, with this root; inner nodes and the promise stay.
pub record IsLeafTaken {K V : Type 0} (s t : Nodes K V) (point : DeletePoint) (root : Option OpaqueNodePtr)
    (done : DeleteResult K V) : Type 0 where
  pub leaf : IsSomeAnd (map.get s.leaves point.leaf_node_ptr) (λ leaf. done.deleted_leaf ≡ unlinked_leaf (pair_of leaf))
  pub leaves : IsSomeAnd (map.get s.leaves point.leaf_node_ptr) (λ leaf.
      t.leaves ≡ without_leaf s.leaves point.leaf_node_ptr leaf)
  pub inners : t.inners ≡ s.inners
  pub promise : t.promise ≡ s.promise
  pub root_is : done.new_root ≡ root

-- A delete point is applied.
pub record IsTakenOut {K V : Type 0} (bytes : K × V → List ℕ) (P : ℕ) (s t : Nodes K V) (root : OpaqueNodePtr)
    (point : DeletePoint) (done : DeleteResult K V) : Type 0 where
  pub canonical : ForTree bytes P s root (λ pairs layout.
      IsCanonical bytes P t done.new_root (remove_key bytes (bytes (pair_of done.deleted_leaf)) pairs))
  pub left : IfSome done.new_root (IsCanonicalRoot bytes P t)
  pub deleted : IfSome (map.get s.leaves point.leaf_node_ptr) (λ leaf.
      done.deleted_leaf ≡ unlinked_leaf (pair_of leaf))
  pub pair : pair_at s (Some point) ≡ Some (pair_of done.deleted_leaf)
  pub sought : ForTree bytes P s root (λ pairs _. (key : List ℕ) →
      pair_at s (Some point) ≡ remove_reply bytes key pairs → IsCanonical bytes P t done.new_root (remove_key bytes key pairs))
  pub first : ForTree bytes P s root (λ pairs _.
      pair_at s (Some point) ≡ first_of pairs → IsCanonical bytes P t done.new_root (without_first pairs))
  pub last : ForTree bytes P s root (λ pairs _.
      pair_at s (Some point) ≡ last_of pairs → IsCanonical bytes P t done.new_root (without_last pairs))
  pub root_is : IsRootAfter (parent_change s point.path) point.path root done.new_root
  pub kept : ForTree bytes P s root (λ pairs old. ForRoot bytes P t done.new_root (λ after new.
      ChangesInPlace bytes s t (Some old) new))
  pub apart : KeepsApart bytes P s t (Some root) done.new_root
  pub touches : TouchesFor (parent_change s point.path) s t
  pub promise : t.promise ≡ promise_after (placed_for_deletion s point.path) s.promise

-- The point's leaf is still in the store, and all else is done: once it is removed, and this root returned, the point is applied.
pub record IsLetGo {K V : Type 0} (bytes : K × V → List ℕ) (P : ℕ) (s u : Nodes K V) (root : OpaqueNodePtr)
    (point : DeletePoint) (new_root : Option OpaqueNodePtr) : Type 0 where
  pub leaf : IsSome (map.get u.leaves point.leaf_node_ptr)
  pub beside : LinksAreThere u.leaves point.leaf_node_ptr
  pub taken : (t : Nodes K V) → (done : DeleteResult K V) → IsLeafTaken u t point new_root done →
      IsTakenOut bytes P s t root point done
