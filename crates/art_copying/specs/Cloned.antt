-- What is stated of a tree that was copied into another store. No public clause cites this module.
use Rattle.std.specs.Prelude.{◌≡◌, ◌≤◌, length, Some, None, Result, IfOk, OnErr}
use Rattle.std.specs.FinMap as map
use Rattle.art_inner.specs.Inner.{Inner, Children, IsRising, childless}
use Rattle.art_parts.specs.Kinds.{kind_capacity}
use Rattle.art_parts.specs.Names.{leaf_name}
use Rattle.art_nodes.specs.Nodes.{Nodes, take_inner}
use Rattle.art_parts.specs.declared.names.InnerPtr.{InnerPtr}
use Rattle.art_parts.specs.declared.names.OpaqueNodePtr.{OpaqueNodePtr}
use Rattle.art_model.specs.Trees.{Tree}
use Rattle.art_model.specs.Layouts.{name_of, leaf_names, first_or, last_or}
use Rattle.art_model.specs.Clones.{IsCopy}
use Rattle.art_model.specs.Gains.{Gains}
use Rattle.art_model.specs.Promises.{IsLessened, tree_taken}
use Rattle.art_model.specs.Roots.{IsFullTree}
use Rattle.art_copying.specs.declared.clone.CloneResult.{CloneResult}

-- The store gained a tree of the same form with clones of the pairs, which is taken from its promise; the root and the ends of the leaves are returned.
pub record IsCopied {K V : Type 0} (IsClone : K × V → K × V → Type 0) (tree : Tree OpaqueNodePtr (K × V))
    (old new : Nodes K V) (done : CloneResult) : Type 0 where
  pub copy : Tree OpaqueNodePtr (K × V)
  pub named : name_of copy ≡ done.root
  pub same : IsCopy IsClone tree copy
  pub gains : Gains old new copy
  pub promise : new.promise ≡ tree_taken tree old.promise
  pub first : first_or (leaf_names copy) None ≡ Some (leaf_name done.min_leaf)
  pub last : last_or (leaf_names copy) None ≡ Some (leaf_name done.max_leaf)

-- The tree of a name is copied into another store; or that store has its old nodes. It promises no more than it did.
pub record IsCloned {K V E : Type 0} (IsClone : K × V → K × V → Type 0) (s : Nodes K V) (root : OpaqueNodePtr)
    (old new : Nodes K V) (result : Result CloneResult E) : Type 0 where
  pub copied : (tree : Tree OpaqueNodePtr (K × V)) → IsFullTree s root tree →
      IfOk result (IsCopied IsClone tree old new)
  pub leaves : OnErr result (new.leaves ≡ old.leaves)
  pub inners : OnErr result (new.inners ≡ old.inners)
  pub lessened : IsLessened old.promise new.promise

-- A copy of an inner node was placed, with its header and without a child, and these children are to be copied.
pub record IsBegun {K V : Type 0} (old new : Nodes K V) (name : InnerPtr) (node : Inner) (copy : InnerPtr) (children : Children) : Type 0 where
  pub kind : copy.kind ≡ name.kind
  pub fresh : map.get old.inners copy ≡ None
  pub placed : new.inners ≡ map.insert old.inners copy (childless node.prefix)
  pub leaves : new.leaves ≡ old.leaves
  pub promise : new.promise ≡ take_inner name.kind old.promise
  pub all : children ≡ node.children
  pub rising : IsRising node.children
  pub bound : length node.children ≤ kind_capacity name.kind
