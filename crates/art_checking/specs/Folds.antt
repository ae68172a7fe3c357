-- A fold of a visitor over a tree, children in the order of their bytes.
use Rattle.std.specs.Prelude.{◌≡◌, Some}
use Rattle.art_inner.specs.Inner.{Inner}
use Rattle.art_nodes.specs.Nodes.{Nodes}
use Rattle.art_parts.specs.declared.leaf.LeafNode.{LeafNode}
use Rattle.art_parts.specs.declared.names.NodeType.{NodeType}
use Rattle.art_parts.specs.declared.names.OpaqueNodePtr.{OpaqueNodePtr}
use Rattle.art_model.specs.Stores.{content_at, held_leaf, held_inner}
use Rattle.art_model.specs.Trees.{Tree, leaf, inner, Subtrees, child, no_child}

-- T is the visitor and Out its output. Each hook has a relation: what it may return, and which state it may leave.
module _ {K V T Out : Type 0} (OfLeaf : T → LeafNode K V → Out → T → Type 0)
    (OfInner : T → NodeType → Inner → Out → Out → T → Type 0) (Combines : T → Out → Out → Out → Type 0)
    (s : Nodes K V) where
  abbrev mutual
    -- A leaf is passed to its hook. An inner node's children are joined, and the node is passed to its hook with their output.
    pub Folds : Tree OpaqueNodePtr (K × V) → T → Out → T → Type 0
    Folds (leaf n x) old out new = (node : LeafNode K V) × (content_at s n ≡ Some (held_leaf node)) × OfLeaf old node out new
    Folds (inner n h cs) old out new =
        (node : Inner) × (mid : T) × (joined : Out) × (content_at s n ≡ Some (held_inner node)) ×
        JoinsAll cs old joined mid × OfInner mid h.kind node joined out new

    -- the first child's output, and then the others
    pub JoinsAll : Subtrees OpaqueNodePtr (K × V) → T → Out → T → Type 0
    JoinsAll no_child old out new = ⊥
    JoinsAll (child b t cs) old out new = (mid : T) × (first : Out) × Folds t old first mid × Joins cs mid first out new

    -- the output so far is combined with that of each further child
    pub Joins : Subtrees OpaqueNodePtr (K × V) → T → Out → Out → T → Type 0
    Joins no_child old so_far out new = (out ≡ so_far) × (new ≡ old)
    Joins (child b t cs) old so_far out new =
        (mid : T) × (own next : Out) × Folds t old own mid × Combines mid so_far own next × Joins cs mid next out new
