-- For callers: what a fold returns, in terms of the tree's pairs. Three steps are to be shown: for a leaf's pair, for the hook of an inner node, and for two adjacent lists whose outputs are joined.
use Rattle.std.proofs.Common.{◌≡◌, List, [], ◌∷◌, ◌++◌, sym, ap, ◌∙◌, subst, append-nil, append_assoc, Option, Some, option_map}
use Rattle.art_model.specs.Prelude.{Inner, Nodes, LeafNode, NodeType, OpaqueNodePtr, Node, leaf_node, Holds, HoldsBelow, pairs_of, pairs_below, node_at, pair_of, tree_node, Tree, leaf, inner, Subtrees, child, no_child}
use Rattle.art_checking.specs.Folds.{Folds, JoinsAll, Joins}

module _ {K V T Out : Type 0} (OfLeaf : T → LeafNode K V → Out → T → Type 0) (OfInner : T → NodeType → Inner → Out → Out → T → Type 0)
    (Combines : T → Out → Out → Out → Type 0) (s : Nodes K V)
    (IsOf : List (K × V) → Out → Type 0)
    (in_leaf : (old new : T) (node : LeafNode K V) (out : Out) → OfLeaf old node out new → IsOf (pair_of node ∷ []) out)
    (in_inner : (old new : T) (kind : NodeType) (node : Inner) (joined out : Out) (xs : List (K × V)) →
    OfInner old kind node joined out new → IsOf xs joined → IsOf xs out)
    (in_both : (now : T) (first second out : Out) (xs ys : List (K × V)) → Combines now first second out → IsOf xs first → IsOf ys second →
    IsOf (xs ++ ys) out) where
  mutual
    -- of a tree
    pub folds_to : (t : Tree OpaqueNodePtr (K × V)) (old new : T) (out : Out) → Holds (node_at s) t →
        Folds OfLeaf OfInner Combines s t old out new → IsOf (pairs_of t) out
    folds_to (leaf n x) old new out holds (node, there, answers) =
        let same : ◌≡◌ {A = Option (Node OpaqueNodePtr (K × V))} (Some (leaf_node (pair_of node))) (Some (leaf_node x)) =
        sym (ap (option_map (tree_node n.kind)) there) ∙ holds in
        let is : pair_of node ≡ x = cc in
        subst (λ y. IsOf (y ∷ []) out) is (in_leaf old new node out answers)
    folds_to (inner n h cs) old new out holds (node, mid, joined, there, joins, answers) =
        in_inner mid new h.kind node joined out (pairs_below cs) answers (joins_all_to cs old mid joined holds.1 joins)

    -- of all children
    joins_all_to : (cs : Subtrees OpaqueNodePtr (K × V)) (old new : T) (out : Out) → HoldsBelow (node_at s) cs →
        JoinsAll OfLeaf OfInner Combines s cs old out new → IsOf (pairs_below cs) out
    joins_all_to no_child old new out holds joins = absurd joins
    joins_all_to (child b t cs) old new out holds (mid, first, folds, joins) =
        joins_to cs mid new first out (pairs_of t) holds.1 (folds_to t old mid first holds.0 folds) joins

    -- of the remaining children, with the output so far
    joins_to : (cs : Subtrees OpaqueNodePtr (K × V)) (old new : T) (so_far out : Out) (xs : List (K × V)) → HoldsBelow (node_at s) cs →
        IsOf xs so_far → Joins OfLeaf OfInner Combines s cs old so_far out new → IsOf (xs ++ pairs_below cs) out
    joins_to no_child old new so_far out xs holds of (e, f) = subst (λ ys. IsOf ys out) (sym (append-nil xs)) (subst (IsOf xs) (sym e) of)
    joins_to (child b t cs) old new so_far out xs holds of (mid, own, next, folds, combines, joins) =
        let both = in_both mid so_far own next xs (pairs_of t) combines of (folds_to t old mid own holds.0 folds) in
        subst (λ ys. IsOf ys out) (append_assoc xs (pairs_of t) (pairs_below cs)) (joins_to cs mid new next out (xs ++ pairs_of t) holds.1 both joins)
