-- Deletions from store to store: a leaf is removed from a node that keeps two or more children, or of which one child is left.
use Rattle.std.proofs.Common.{◌≡◌, ℕ, ◌+◌, ◌≤◌, List, [], ◌∷◌, ◌++◌, length, length-append, arith, refl, ap, sym, ◌∙◌, subst, append-nil, Option, Some, None, ◌⊎◌, inl, inr}
use Rattle.art_model.specs.Prelude.{Tree, leaf, inner, Subtrees, child, no_child, NodeHeader, canonical_header, kind_of, IsRadix, bytes_of, join, pairs_of, remove_key, Frame, plug, leaves_before, leaves_after, inner_nodes, Node, inner_node, name_of, slots_of, names_of, leaf_names, leaf_names_below, Holds, Links, entries_of, entries_below, IsIn}
use Rattle.art_model.proofs.lists.Lists.{in_around}
use Rattle.art_model.proofs.pairs.Between.{remove_key-between}
use Rattle.art_model.proofs.places.Paths.{IsHole, root_with, leaf_names_below-three, entries_below-three, entries_below-join, same_pairs_of, same_leaf_names}
use Rattle.art_model.proofs.changes.Changes.{child_removed, child_left, merged, raised}
use Rattle.art_model.proofs.leaves.LeafChild.{leaf_below}
use Rattle.art_model.proofs.places.Wholes.{KeepNames, kept}
use Rattle.art_model.proofs.changes.Kept.{KeepLeaves, kept_leaves, kept_leaves_fewer, kept_children, kept_lifted, inner_nodes-leaf, inner_nodes-moved}
use Rattle.art_model.proofs.stores.Stores.{SameBut, ParentHas}
use Rattle.art_model.proofs.leaves.Links.{Relinked}
use Rattle.art_model.proofs.stores.Canonical.{IsLaidOut}
use Rattle.art_model.proofs.changes.Regrown.{children_regrown, lifted_regrown, left_child_holds, left_child_below, lifted_in}
use Rattle.art_model.proofs.changes.Replaced.{replaced, linked_in_hole}

module _ {N A : Type 0} (bytes : A → List ℕ) (P : ℕ) (at to : N → Option (Node N A)) (before links : N → Option (Links N))
    (fs : List (Frame N A)) (place : List ℕ) where
  -- The node in the hole loses a leaf and keeps two or more children: it stays, or a smaller node replaces it.
  pub record ChildRemoved (m node n : N) (h : NodeHeader) (l r : Subtrees N A) (b : ℕ) (x : A) : Type 0 where
    pub hole : IsHole bytes P fs place (inner m h (join l (child b (leaf n x) r))) (bytes x)
    pub two : 2 ≤ length (bytes_of (join l r))
    pub named : (node ≡ m) ⊎ (at node ≡ None)
    pub same_kind : h.kind ≡ kind_of (length (bytes_of (join l r))) → m ≡ node
    pub there : to node ≡ Some (inner_node (canonical_header P hole.radix.0 (length (bytes_of (join l r)))) (slots_of (join l r)))
    pub parent : ParentHas to fs node
    pub same : SameBut at to fs (m ∷ n ∷ [])
    pub relinked : Relinked before links (leaves_before fs ++ leaf_names_below l) [] (leaf_names_below r ++ leaves_after fs)

  -- The node in the hole loses a leaf, and `v` is its one child that is left: `u`, which has the names of `v`, replaces the node.
  pub record NodeRemoved (m n : N) (h : NodeHeader) (l r : Subtrees N A) (b c : ℕ) (x : A) (v u : Tree N A) : Type 0 where
    pub hole : IsHole bytes P fs place (inner m h (join l (child b (leaf n x) r))) (bytes x)
    pub one : join l r ≡ child c v no_child
    pub radix : IsRadix bytes P place u
    pub same_entries : entries_of u ≡ entries_of v
    pub same_names : names_of u ≡ names_of v
    pub same_inners : inner_nodes bytes (length place) u ≡ inner_nodes bytes (length place + h.length_of + 1) v
    pub below : Holds to u
    pub parent : ParentHas to fs (name_of u)
    pub same : SameBut at to fs (names_of (inner m h (join l (child b (leaf n x) r))))
    pub relinked : Relinked before links (leaves_before fs ++ leaf_names_below l) [] (leaf_names_below r ++ leaves_after fs)

-- the leaves that are left are among the old ones
fewer : {N A : Type 0} (l r : Subtrees N A) (b : ℕ) (n : N) (x : A) (e : A × N) → IsIn e (entries_below (join l r)) →
    IsIn e (entries_below (join l (child b (leaf n x) r)))
fewer l r b n x e i =
    subst (IsIn e) (sym (entries_below-three l (child b (leaf n x) no_child) r))
    (in_around e (entries_below l) ((x, n) ∷ []) (entries_below r) (subst (IsIn e) (entries_below-join l r) i))

module _ {N A : Type 0} {bytes : A → List ℕ} {P : ℕ} {at to : N → Option (Node N A)} {before links : N → Option (Links N)} {fs : List (Frame N A)}
    {place : List ℕ} {root : N} {pairs : List A} {m n : N} {h : NodeHeader} {l r : Subtrees N A} {b : ℕ} {x : A}
    (old : IsLaidOut bytes P at before root pairs (plug fs (inner m h (join l (child b (leaf n x) r))))) where
  module _ {node : N} (is : ChildRemoved bytes P at to before links fs place m node n h l r b x) where
    abbrev less : Tree N A
    less = inner node (canonical_header P is.hole.radix.0 (length (bytes_of (join l r)))) (join l r)

    without_leaf : IsRadix bytes P place less × (pairs_of less ≡ remove_key bytes (bytes x) (pairs_of (inner m h (join l (child b (leaf n x) r)))))
    without_leaf = child_removed bytes P place is.hole.radix.0 l r b node n x is.hole.radix.3 is.hole.radix.4 is.two

    -- the root is canonical for the pairs without the key
    pub child_removed_from : IsLaidOut bytes P to links (root_with fs root node) (remove_key bytes (bytes x) pairs)
        (plug fs (inner node (canonical_header P is.hole.radix.0 (length (bytes_of (join l r)))) (join l r)))
    child_removed_from = replaced old (record {
      path = is.hole.path;
      radix = without_leaf.0;
      parent = is.parent;
      regrown = children_regrown at to fs m h l (child b (leaf n x) no_child) r old.holds old.distinct node
          (canonical_header P is.hole.radix.0 (length (bytes_of (join l r)))) no_child
          (record { named = is.named; were_free = tt; distinct = tt; apart = tt; there = is.there; below = tt }) is.same;
      same = λ k up out used. is.same k up (λ i. elim i [
        | inl e ↦ out
            (inl e)
        | inr j ↦ elim j [ inl e ↦ out (inr (leaf_below l r b n x k e)) | inr j ↦ j ]
      ]) used;
      linked = linked_in_hole fs before links (inner m h (join l (child b (leaf n x) r))) less (leaf_names_below l) (n ∷ []) [] (leaf_names_below r)
          old.distinct old.linked (leaf_names_below-three l (child b (leaf n x) no_child) r) (leaf_names_below-three l no_child r) is.relinked;
    }) (bytes x) (remove_key bytes (bytes x)) (remove_key-between bytes (bytes x)) is.hole.front without_leaf.1

    -- inner nodes that stay keep their names
    pub child_removed_keeps : KeepNames (inner_nodes bytes 0 (plug fs (inner m h (join l (child b (leaf n x) r)))))
        (inner_nodes bytes 0 (plug fs (inner node (canonical_header P is.hole.radix.0 (length (bytes_of (join l r)))) (join l r))))
    unfolding without_leaf child_removed
    child_removed_keeps = kept bytes P fs place (inner m h (join l (child b (leaf n x) r))) less is.hole.path is.hole.radix without_leaf.0
        (kept_children bytes P place m node h (canonical_header P is.hole.radix.0 (length (bytes_of (join l r)))) (join l (child b (leaf n x) r)) (join l r)
        is.hole.radix without_leaf.0 refl (λ d. sym (inner_nodes-leaf bytes P d l r b n x)) is.same_kind)

    -- keys that stay keep their leaves' names
    pub child_removed_keeps_leaves : KeepLeaves bytes P (entries_of (plug fs (inner m h (join l (child b (leaf n x) r)))))
        (entries_of (plug fs (inner node (canonical_header P is.hole.radix.0 (length (bytes_of (join l r)))) (join l r))))
    child_removed_keeps_leaves =
        kept_leaves bytes P fs (inner m h (join l (child b (leaf n x) r))) less old.radix child_removed_from.radix
        (kept_leaves_fewer bytes P (inner m h (join l (child b (leaf n x) r))) less place is.hole.radix (λ e i. fewer l r b n x e i))

  module _ {c : ℕ} {v u : Tree N A} (is : NodeRemoved bytes P at to before links fs place m n h l r b c x v u) where
    lifted_leaves : leaf_names u ≡ leaf_names_below l ++ [] ++ leaf_names_below r
    lifted_leaves =
        same_leaf_names v u is.same_entries ∙ sym (append-nil (leaf_names v)) ∙ ap leaf_names_below (sym is.one)
        ∙ leaf_names_below-three l no_child r

    -- the root is canonical for the pairs without the key
    pub node_removed : IsLaidOut bytes P to links (root_with fs root (name_of u)) (remove_key bytes (bytes x) pairs) (plug fs u)
    node_removed = replaced old (record {
      path = is.hole.path;
      radix = is.radix;
      parent = is.parent;
      regrown = lifted_regrown at to fs m h l (child b (leaf n x) no_child) r old.holds old.distinct c v u is.one is.same_names is.below;
      same = is.same;
      linked = linked_in_hole fs before links (inner m h (join l (child b (leaf n x) r))) u (leaf_names_below l) (n ∷ []) [] (leaf_names_below r)
          old.distinct old.linked (leaf_names_below-three l (child b (leaf n x) no_child) r) lifted_leaves is.relinked;
    }) (bytes x) (remove_key bytes (bytes x)) (remove_key-between bytes (bytes x)) is.hole.front
        (same_pairs_of v u is.same_entries ∙ (child_left bytes P place is.hole.radix.0 l r b c n x v is.hole.radix.3 is.hole.radix.4 is.one).1)

    -- inner nodes that stay keep their names
    pub node_removed_keeps : KeepNames (inner_nodes bytes 0 (plug fs (inner m h (join l (child b (leaf n x) r))))) (inner_nodes bytes 0 (plug fs u))
    node_removed_keeps =
        kept bytes P fs place (inner m h (join l (child b (leaf n x) r))) u is.hole.path is.hole.radix is.radix
        (kept_lifted bytes P place m n h l r b c x v u is.hole.radix is.one is.same_inners)

    -- keys that stay keep their leaves' names
    pub node_removed_keeps_leaves : KeepLeaves bytes P (entries_of (plug fs (inner m h (join l (child b (leaf n x) r))))) (entries_of (plug fs u))
    node_removed_keeps_leaves =
        kept_leaves bytes P fs (inner m h (join l (child b (leaf n x) r))) u old.radix node_removed.radix
        (kept_leaves_fewer bytes P (inner m h (join l (child b (leaf n x) r))) u place is.hole.radix
        (λ e i. fewer l r b n x e (subst (IsIn e) (sym (ap entries_below is.one ∙ append-nil (entries_of v) ∙ sym is.same_entries)) i)))

  -- ---- which child is left: a leaf, which is raised, or an inner node, which gets its parent's prefix and its own byte prepended

  module _ (hole : IsHole bytes P fs place (inner m h (join l (child b (leaf n x) r))) (bytes x))
      (relinked : Relinked before links (leaves_before fs ++ leaf_names_below l) [] (leaf_names_below r ++ leaves_after fs)) where
    -- the child that is left is a leaf
    pub raised_leaf : (c : ℕ) (k : N) (y : A) → join l r ≡ child c (leaf k y) no_child → ParentHas to fs k → SameBut at to fs (m ∷ n ∷ []) →
        NodeRemoved bytes P at to before links fs place m n h l r b c x (leaf k y) (leaf k y)
    raised_leaf c k y one parent same = record {
      hole = hole;
      one = one;
      radix = raised bytes P place hole.radix.0 c k y (child_left bytes P place hole.radix.0 l r b c n x (leaf k y) hole.radix.3 hole.radix.4 one).0;
      same_entries = refl;
      same_names = refl;
      same_inners = refl;
      below = left_child_holds at to fs m h l (child b (leaf n x) no_child) r old.holds old.distinct c (leaf k y) one same;
      parent = parent;
      same =
          λ j up out used. same j up (λ i. elim i [
            | inl e ↦ out
                (inl e)
            | inr i ↦ elim i [ inl e ↦ out (inr (leaf_below l r b n x j e)) | inr i ↦ i ]
          ]) used;
      relinked = relinked;
    }

    -- the child that is left is an inner node
    pub merged_node : (c : ℕ) (k : N) (head : NodeHeader) (cs : Subtrees N A) → join l r ≡ child c (inner k head cs) no_child →
        (radix : IsRadix bytes P ((place ++ hole.radix.0) ++ c ∷ []) (inner k head cs)) →
        let merged_head = canonical_header P (hole.radix.0 ++ c ∷ radix.0) (length (bytes_of cs)) in
        to k ≡ Some (inner_node merged_head (slots_of cs)) → ParentHas to fs k → SameBut at to fs (k ∷ m ∷ n ∷ []) →
        NodeRemoved bytes P at to before links fs place m n h l r b c x (inner k head cs) (inner k merged_head cs)
    merged_node c k head cs one (q, e, two, up, below) there parent same =
        let part = hole.radix.0 in
        let merged_head = canonical_header P (part ++ c ∷ q) (length (bytes_of cs)) in
        let longer = length-append part (c ∷ q) in
        let own : h.length_of ≡ length part = ap (λ z. z.length_of) hole.radix.1 in
        let its : head.length_of ≡ length q = ap (λ z. z.length_of) e in
        record {
          hole = hole;
          one = one;
          radix = merged bytes P place part c q k cs two up below;
          same_entries = refl;
          same_names = refl;
          same_inners = inner_nodes-moved bytes (length place + h.length_of + 1) (length place) k head merged_head cs (sym (ap (λ z. z.kind) e)) (omega arith);
          below = (there, left_child_below at to fs m h l (child b (leaf n x) no_child) r old.holds old.distinct c k head cs one same);
          parent = parent;
          same = λ j up out used. same j up (λ i.
              elim i [
                | inl e ↦ out (child_in j e)
                | inr i ↦ elim i [
                  | inl e ↦ out
                      (inl e)
                  | inr i ↦ elim i [ inl e ↦ out (inr (leaf_below l r b n x j e)) | inr i ↦ i ]
                ]
              ]) used;
          relinked = relinked;
        }
      where
        child_in : (j : N) → k ≡ j → IsIn j (names_of (inner m h (join l (child b (leaf n x) r))))
        child_in j e = lifted_in at to fs m h l (child b (leaf n x) no_child) r old.holds old.distinct c (inner k head cs) one j (inl e)
