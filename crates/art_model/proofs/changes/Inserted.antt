-- Insertions from store to store: a branch replaces a subtree, or a node has one more child.
use Rattle.std.proofs.Common.{◌≡◌, ◌≢◌, ℕ, suc, ◌+◌, ◌<◌, List, [], ◌∷◌, ◌++◌, length, refl, ap, sym, ◌∙◌, subst, length-append, arith, append-nil, Option, Some, None, true, false, Bool, cond, ltb, ◌⊎◌, inl, inr}
use Rattle.std.specs.List.{AllByRecursion as Each}
use Rattle.art_model.specs.Prelude.{IsFront, Tree, leaf, inner, Subtrees, child, no_child, NodeHeader, canonical_header, kind_of, IsRadix, AreRadix, bytes_of, join, pairs_of, replace_key, Frame, plug, leaves_before, leaves_after, inner_nodes, Node, leaf_node, inner_node, slots_of, names_of, leaf_names, leaf_names_below, entries_of, entries_below, names_below, HoldsBelow, AreDistinct, Links, IsIn}
use Rattle.art_model.proofs.lists.Lists.{each_in, each_from, in_left, in_around}
use Rattle.art_model.proofs.pairs.Between.{replace_key-between}
use Rattle.art_model.proofs.places.Paths.{IsHole, root_with, leaf_names_below-three, entries_below-three, entries_below-join, same_pairs_of, same_leaf_names}
use Rattle.art_model.proofs.changes.Changes.{two_children, branch, with_child, trimmed}
use Rattle.art_model.proofs.places.Wholes.{KeepNames, kept}
use Rattle.art_model.proofs.changes.Kept.{kept_branch, kept_children, inner_nodes-leaf, inner_nodes-moved, KeepLeaves, kept_leaves, kept_leaves_more}
use Rattle.art_model.proofs.stores.Stores.{SameBut, ParentHas, path_holds, hole_distinct, stays, frame_below}
use Rattle.art_model.proofs.leaves.Links.{Relinked}
use Rattle.art_model.proofs.stores.Canonical.{IsLaidOut}
use Rattle.art_model.proofs.changes.Regrown.{IsBranch, branch_regrown, children_regrown}
use Rattle.art_model.proofs.changes.Replaced.{replaced, linked_in_hole}

-- The key continues from the node in the hole with a byte, and the children are on both sides of it.
pub record IsGap {N A : Type 0} (bytes : A → List ℕ) (P : ℕ) (fs : List (Frame N A)) (place : List ℕ) (m : N) (h : NodeHeader)
    (l r : Subtrees N A) (b : ℕ) (key : List ℕ) : Type 0 where
  pub hole : IsHole bytes P fs place (inner m h (join l r)) key
  pub front : IsFront ((place ++ hole.radix.0) ++ b ∷ []) key
  pub low : Each (λ c. c < b) (bytes_of l)
  pub high : Each (λ c. b < c) (bytes_of r)

module _ {N A : Type 0} (bytes : A → List ℕ) (P : ℕ) (at to : N → Option (Node N A)) (before links : N → Option (Links N))
    (fs : List (Frame N A)) (place : List ℕ) where
  -- The tree `t` in the hole became `u`, below a new node whose other child is a new leaf: a leaf is split, or a prefix.
  pub record BranchInserted (t u : Tree N A) (m n : N) (part : List ℕ) (b c : ℕ) (new : A) : Type 0 where
    pub hole : IsHole bytes P fs place t (bytes new)
    pub radix : IsRadix bytes P ((place ++ part) ++ b ∷ []) u
    pub front : IsFront ((place ++ part) ++ c ∷ []) (bytes new)
    pub apart : b ≢ c
    pub same_entries : entries_of u ≡ entries_of t
    pub same_inners : inner_nodes bytes (length place) t ≡ inner_nodes bytes (length place + length part + 1) u
    pub branch : IsBranch at to t u m n (canonical_header P part 2) b c new
    pub parent : ParentHas to fs m
    pub same : SameBut at to fs (names_of t)
    pub relinked : Relinked before links (leaves_before fs ++ cond (ltb b c) (leaf_names t) []) (n ∷ []) (cond (ltb b c) [] (leaf_names t) ++ leaves_after fs)

  -- a new node and a new leaf are placed, and the parent names the node
  pub record BranchPlaced (t : Tree N A) (u : Tree N A) (m n : N) (part : List ℕ) (b c : ℕ) (new : A) : Type 0 where
    pub front : IsFront ((place ++ part) ++ c ∷ []) (bytes new)
    pub apart : b ≢ c
    pub node_was_free : at m ≡ None
    pub leaf_was_free : at n ≡ None
    pub differ : m ≢ n
    pub node : to m ≡ Some (inner_node (canonical_header P part 2) (slots_of (two_children b u c (leaf n new))))
    pub new_leaf : to n ≡ Some (leaf_node new)
    pub parent : ParentHas to fs m
    pub relinked : Relinked before links (leaves_before fs ++ cond (ltb b c) (leaf_names t) []) (n ∷ []) (cond (ltb b c) [] (leaf_names t) ++ leaves_after fs)

  -- The node in the hole has one more child, a new leaf: it has room, or a larger node replaces it.
  pub record ChildInserted (m node n : N) (h : NodeHeader) (l r : Subtrees N A) (b : ℕ) (new : A) : Type 0 where
    pub gap : IsGap bytes P fs place m h l r b (bytes new)
    pub named : (node ≡ m) ⊎ (at node ≡ None)
    pub same_kind : h.kind ≡ kind_of (suc (length (bytes_of (join l r)))) → m ≡ node
    pub leaf_was_free : at n ≡ None
    pub differ : node ≢ n
    pub there : to node ≡ Some (inner_node (canonical_header P gap.hole.radix.0 (suc (length (bytes_of (join l r)))))
        (slots_of (join l (child b (leaf n new) r))))
    pub new_leaf : to n ≡ Some (leaf_node new)
    pub parent : ParentHas to fs node
    pub same : SameBut at to fs (m ∷ [])
    pub relinked : Relinked before links (leaves_before fs ++ leaf_names_below l) (n ∷ []) (leaf_names_below r ++ leaves_after fs)

module _ {N A : Type 0} {bytes : A → List ℕ} {P : ℕ} {at to : N → Option (Node N A)} {before links : N → Option (Links N)}
    {fs : List (Frame N A)} {place : List ℕ} {root : N} {pairs : List A} where
  module _ {t u : Tree N A} {m n : N} {part : List ℕ} {b c : ℕ} {new : A} (old : IsLaidOut bytes P at before root pairs (plug fs t))
      (is : BranchInserted bytes P at to before links fs place t u m n part b c new) where
    abbrev grown : Tree N A
    grown = inner m (canonical_header P part 2) (two_children b u c (leaf n new))

    branched : IsRadix bytes P place grown × (pairs_of grown ≡ replace_key bytes new (pairs_of u))
    branched = branch bytes P place part b c u m n new is.radix is.front is.apart

    old_leaves : leaf_names t ≡ cond (ltb b c) (leaf_names t) [] ++ [] ++ cond (ltb b c) [] (leaf_names t)
    old_leaves = go (ltb b c)
      where
        go : (first : Bool) → leaf_names t ≡ cond first (leaf_names t) [] ++ [] ++ cond first [] (leaf_names t)
        go true = sym (append-nil (leaf_names t ++ []) ∙ append-nil (leaf_names t))
        go false = refl

    new_leaves : leaf_names grown ≡ cond (ltb b c) (leaf_names t) [] ++ (n ∷ []) ++ cond (ltb b c) [] (leaf_names t)
    new_leaves = go (ltb b c)
      where
        go : (first : Bool) → leaf_names_below (cond first (child b u (child c (leaf n new) no_child)) (child c (leaf n new) (child b u no_child))) ≡
            cond first (leaf_names t) [] ++ (n ∷ []) ++ cond first [] (leaf_names t)
        go true = ap (λ z. z ++ n ∷ []) (same_leaf_names t u is.same_entries) ∙ sym (append-nil (leaf_names t ++ n ∷ []))
        go false = ap (λ z. n ∷ z) (append-nil (leaf_names u) ∙ same_leaf_names t u is.same_entries)

    -- the root is canonical for the pairs with the new one
    pub branch_inserted : IsLaidOut bytes P to links (root_with fs root m) (replace_key bytes new pairs)
        (plug fs (inner m (canonical_header P part 2) (two_children b u c (leaf n new))))
    branch_inserted = replaced old (record {
      path = is.hole.path;
      radix = branched.0;
      parent = is.parent;
      regrown = branch_regrown at to t u m n (canonical_header P part 2) b c new (path_holds at fs t old.holds).1
          (hole_distinct at to fs t old.holds old.distinct) is.branch;
      same = is.same;
      linked = linked_in_hole fs before links t grown (cond (ltb b c) (leaf_names t) []) [] (n ∷ [])
          (cond (ltb b c) [] (leaf_names t)) old.distinct old.linked old_leaves new_leaves is.relinked;
    }) (bytes new) (replace_key bytes new) (replace_key-between bytes new) is.hole.front
        (branched.1 ∙ ap (replace_key bytes new) (same_pairs_of t u is.same_entries))

    -- inner nodes that stay keep their names
    pub branch_keeps : KeepNames (inner_nodes bytes 0 (plug fs t))
        (inner_nodes bytes 0 (plug fs (inner m (canonical_header P part 2) (two_children b u c (leaf n new)))))
    branch_keeps = kept bytes P fs place t grown is.hole.path is.hole.radix branched.0
        (kept_branch bytes P place t u m n (canonical_header P part 2) b c new branched.0 is.same_inners)

    -- keys that stay keep their leaves' names
    pub branch_keeps_leaves : KeepLeaves bytes P (entries_of (plug fs t))
        (entries_of (plug fs (inner m (canonical_header P part 2) (two_children b u c (leaf n new)))))
    branch_keeps_leaves =
        kept_leaves bytes P fs t grown old.radix branch_inserted.radix
        (kept_leaves_more bytes P t grown place branched.0 (λ e i. among e (ltb b c) (subst (IsIn e) (sym is.same_entries) i)))
      where
        among : (e : A × N) (first : Bool) → IsIn e (entries_of u) →
            IsIn e (entries_below (cond first (child b u (child c (leaf n new) no_child)) (child c (leaf n new) (child b u no_child))))
        among e true i = in_left e (entries_of u) ((new, n) ∷ []) i
        among e false i = inr (in_left e (entries_of u) [] i)

  module _ {m node n : N} {h : NodeHeader} {l r : Subtrees N A} {b : ℕ} {new : A}
      (old : IsLaidOut bytes P at before root pairs (plug fs (inner m h (join l r))))
      (is : ChildInserted bytes P at to before links fs place m node n h l r b new) where
    abbrev head : NodeHeader
    head = canonical_header P is.gap.hole.radix.0 (suc (length (bytes_of (join l r))))

    with_leaf : IsRadix bytes P place (inner node head (join l (child b (leaf n new) r))) ×
        (pairs_of (inner node head (join l (child b (leaf n new) r))) ≡ replace_key bytes new (pairs_of (inner m h (join l r))))
    with_leaf = let two = is.gap.hole.radix.2 in
        with_child bytes P place is.gap.hole.radix.0 l r b node n new is.gap.hole.radix.3 is.gap.low is.gap.high
        (omega arith) is.gap.hole.radix.4 is.gap.front

    -- the root is canonical for the pairs with the new one
    pub child_inserted : IsLaidOut bytes P to links (root_with fs root node) (replace_key bytes new pairs)
        (plug fs (inner node (canonical_header P is.gap.hole.radix.0 (suc (length (bytes_of (join l r))))) (join l (child b (leaf n new) r))))
    child_inserted = replaced old (record {
      path = is.gap.hole.path;
      radix = with_leaf.0;
      parent = is.parent;
      regrown = children_regrown at to fs m h l no_child r old.holds old.distinct node head (child b (leaf n new) no_child)
          (record {
            named = is.named;
            were_free = (is.leaf_was_free, tt);
            distinct = (tt, tt);
            apart = (is.differ, tt);
            there = is.there;
            below = (is.new_leaf, tt);
          }) is.same;
      same = λ k up out used. is.same k up (λ i. elim i [ inl e ↦ out (inl e) | inr j ↦ j ]) used;
      linked = linked_in_hole fs before links (inner m h (join l r)) (inner node head (join l (child b (leaf n new) r)))
          (leaf_names_below l) [] (n ∷ []) (leaf_names_below r) old.distinct old.linked
          (leaf_names_below-three l no_child r) (leaf_names_below-three l (child b (leaf n new) no_child) r) is.relinked;
    }) (bytes new) (replace_key bytes new) (replace_key-between bytes new) is.gap.hole.front with_leaf.1

    -- inner nodes that stay keep their names
    pub child_keeps : KeepNames (inner_nodes bytes 0 (plug fs (inner m h (join l r))))
        (inner_nodes bytes 0 (plug fs (inner node (canonical_header P is.gap.hole.radix.0 (suc (length (bytes_of (join l r)))))
        (join l (child b (leaf n new) r)))))
    unfolding with_leaf with_child
    child_keeps =
        kept bytes P fs place (inner m h (join l r))
        (inner node head (join l (child b (leaf n new) r))) is.gap.hole.path is.gap.hole.radix with_leaf.0
        (kept_children bytes P place m node h head (join l r) (join l (child b (leaf n new) r)) is.gap.hole.radix with_leaf.0 refl
        (λ d. inner_nodes-leaf bytes P d l r b n new) is.same_kind)

    -- keys that stay keep their leaves' names
    pub child_keeps_leaves : KeepLeaves bytes P (entries_of (plug fs (inner m h (join l r))))
        (entries_of (plug fs (inner node (canonical_header P is.gap.hole.radix.0 (suc (length (bytes_of (join l r))))) (join l (child b (leaf n new) r)))))
    child_keeps_leaves = kept_leaves bytes P fs (inner m h (join l r)) (inner node head (join l (child b (leaf n new) r))) old.radix child_inserted.radix
        (kept_leaves_more bytes P (inner m h (join l r)) (inner node head (join l (child b (leaf n new) r))) place with_leaf.0
        (λ e i. subst (IsIn e) (sym (entries_below-three l (child b (leaf n new) no_child) r))
        (in_around e (entries_below l) ((new, n) ∷ []) (entries_below r) (subst (IsIn e) (entries_below-join l r) i))))

  -- ---- what is split: a leaf, or an inner node's prefix

  module _ {m n : N} {part : List ℕ} {b c : ℕ} {new : A} where
    -- a leaf whose key continues after the part with another byte
    pub split_leaf : {k : N} {x : A} → IsLaidOut bytes P at before root pairs (plug fs (leaf k x)) → IsHole bytes P fs place (leaf k x) (bytes new) →
        IsFront ((place ++ part) ++ b ∷ []) (bytes x) → SameBut at to fs [] →
        BranchPlaced bytes P at to before links fs place (leaf k x) (leaf k x) m n part b c new →
        BranchInserted bytes P at to before links fs place (leaf k x) (leaf k x) m n part b c new
    split_leaf {k} {x} old hole front same placed = record {
      hole = hole;
      radix = front;
      front = placed.front;
      apart = placed.apart;
      same_entries = refl;
      same_inners = refl;
      branch = record {
        same_names = refl;
        node_was_free = placed.node_was_free;
        leaf_was_free = placed.leaf_was_free;
        differ = placed.differ;
        node
            = placed.node;
        new_leaf = placed.new_leaf;
        below = stays at to fs (leaf k x) old.holds old.distinct [] same k (inl refl) (λ i. i) ∙ (path_holds at fs (leaf k x) old.holds).1;
      };
      parent = placed.parent;
      same = λ j up out used. same j up (λ i. i) used;
      relinked = placed.relinked;
    }

    -- an inner node whose whole prefix is the part, a byte and a rest: the rest is its new prefix
    pub trimmed_node : {k : N} {h : NodeHeader} {cs : Subtrees N A} (rest : List ℕ) → IsLaidOut bytes P at before root pairs (plug fs (inner k h cs)) →
        (hole : IsHole bytes P fs place (inner k h cs) (bytes new)) → hole.radix.0 ≡ part ++ b ∷ rest → SameBut at to fs (k ∷ []) →
        let head = canonical_header P rest (length (bytes_of cs)) in
        to k ≡ Some (inner_node head (slots_of cs)) → BranchPlaced bytes P at to before links fs place (inner k h cs) (inner k head cs) m n part b c
        new → BranchInserted bytes P at to before links fs place (inner k h cs) (inner k head cs) m n part b c new
    trimmed_node {k} {h} {cs} rest old hole prefix same there placed =
        let head = canonical_header P rest (length (bytes_of cs)) in
        let kind : head.kind ≡ h.kind = sym (ap (λ z. z.kind) hole.radix.1) in
        let long : h.length_of ≡ length (part ++ b ∷ rest) = ap (λ z. z.length_of) hole.radix.1 ∙ ap length prefix in
        let sum = length-append part (b ∷ rest) in
        let own = hole_distinct at to fs (inner k h cs) old.holds old.distinct in
        record {
          hole = hole;
          radix = trimmed bytes P place part rest b k h cs hole.radix.2 hole.radix.3 (subst (λ z. AreRadix bytes P (place ++ z) cs) prefix hole.radix.4);
          front = placed.front;
          apart = placed.apart;
          same_entries = refl;
          same_inners = sym (inner_nodes-moved bytes (length place) (length place + length part + 1) k h head cs kind (omega arith));
          branch = record {
            same_names = refl;
            node_was_free = placed.node_was_free;
            leaf_was_free = placed.leaf_was_free;
            differ = placed.differ;
            node = placed.node;
            new_leaf = placed.new_leaf;
            below = (there, still own);
          };
          parent = placed.parent;
          same = λ j up out used. same j up (λ i. elim i [ inl e ↦ out (inl e) | inr i ↦ i ]) used;
          relinked = placed.relinked;
        }
      where
        still : AreDistinct (k ∷ names_below cs) → HoldsBelow to cs
        still own =
            frame_below at to cs (each_from (λ j. to j ≡ at j) (names_below cs)
            (λ j i. stays at to fs (inner k h cs) old.holds old.distinct (k ∷ []) same j (inr i)
            (λ a. elim a [ inl e ↦ each_in (λ z. k ≢ z) j (names_below cs) own.0 i e | inr a ↦ a ]))) (path_holds at fs (inner k h cs) old.holds).1.1
