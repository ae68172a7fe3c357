-- A branch is placed, from the equations of the store's maps: a leaf, and a node above it and the tree in the hole, which may be changed itself.
use Rattle.std.proofs.Common.{◌≡◌, ◌≢◌, ℕ, ◌+◌, ◌≤◌, List, [], ◌∷◌, ◌++◌, length, take, Option, Some, None, refl, ap, sym, ◌∙◌, subst, map, arith, cond, ltb, Bool, true, false, ◌⊎◌, inl, inr, option_map}
use Rattle.std.specs.List.{AllByRecursion as Each}
use Rattle.std.specs.FinMap.{get, insert}
use Rattle.art_model.specs.Prelude.{Inner, childless, put_child, Prefix, leaf_name, inner_name, Nodes, change, NodeType, Node4, Leaf, InnerPtr, LeafPtr, LeafNode, OpaqueNodePtr, IsFront, Tree, leaf, inner, Subtrees, child, no_child, NodeHeader, canonical_header, kind_of, bytes_of, Frame, plug, leaves_before, leaves_after, Node, inner_node, name_of, slots_of, names_of, leaf_names, node_at, links_at, pair_of, Inners, as_inner, parent_of, with_child_at, ChangesInPlace, IsIn, Footprint, TouchesAtMost}
use Rattle.art_inner.specs.InnerChanges.{with_header, with_child as child_put}
use Rattle.art_parts.proofs.NameLemmas.{inner_cmp_total, inner_cmp-IsAntisymmetric}
use Rattle.art_nodes.proofs.StoreChanges.{inner_here, inner_elsewhere, inner_changed_at}
use Rattle.art_model.proofs.lists.Lists.{each_in, in_map, in_left, in_right, in_either}
use Rattle.art_model.proofs.stores.Canonical.{IsLaidOut}
use Rattle.art_model.proofs.changes.Changes.{two_children}
use Rattle.art_model.proofs.places.Paths.{IsHole}
use Rattle.art_model.proofs.stores.Stores.{IsParent, SameBut, path_holds, parent_apart}
use Rattle.art_model.proofs.changes.Inserted.{BranchPlaced, BranchInserted, branch_keeps, branch_keeps_leaves, split_leaf, trimmed_node}
use Rattle.art_model.proofs.stores.Touches.{Touched, IsInner, both_names, footprint_of, touches_at_most, touched_none, then_placed, then_changed}
use Rattle.art_model.proofs.leaves.Leaves.{listed, length-beside}
use Rattle.art_model.proofs.leaves.Placed.{LeafPlaced, placed_was_free, placed_node, placed_pairs, placed_relinked, placed_beside, placed_touched}
use Rattle.art_model.proofs.changes.InPlace.{AreNames, in_place}
use Rattle.art_model.proofs.places.InHole.{both_in, names_around, parents_in}
use Rattle.art_model.proofs.stores.Slots.{put_child-two}
use Rattle.art_model.proofs.stores.Writes.{parents_inner, node_at-inner, inner_at, same_but, inner_name_one, with_child_at-elsewhere, parents, length-parents, then_parent, parent_there, parent_written}

-- A leaf and a Node4 above it and the tree are placed, and the parent has the Node4 in its hole. The inner nodes were those of `mid` then, where these of the tree were touched.
pub record BranchStored {K V : Type 0} (bytes : K × V → List ℕ) (P : ℕ) (s t : Nodes K V) (fs : List (Frame OpaqueNodePtr (K × V))) (place : List ℕ)
    (tree : Tree OpaqueNodePtr (K × V)) (m : InnerPtr) (n : LeafPtr) (part : List ℕ) (b c : ℕ) (x : LeafNode K V) (mid : Inners)
    (touched : List InnerPtr) : Type 0 where
  pub hole : IsHole bytes P fs place tree (bytes (pair_of x))
  pub front : IsFront ((place ++ part) ++ c ∷ []) (bytes (pair_of x))
  pub apart : b ≢ c
  pub placed : LeafPlaced s t (plug fs tree) (leaves_before fs ++ cond (ltb b c) (leaf_names tree) [])
      (cond (ltb b c) [] (leaf_names tree) ++ leaves_after fs) n x
  pub kind : m.kind ≡ Node4
  pub fresh : get s.inners m ≡ None
  pub touches : Touched s.inners mid [] [] touched
  pub are_inner : Each IsInner touched
  pub in_tree : (k : InnerPtr) → IsIn k touched → IsIn (inner_name k) (names_of tree)
  pub inners : t.inners ≡ with_child_at (parent_of fs) (inner_name m)
      (insert mid m (child_put c (leaf_name n) (child_put b (name_of tree) (childless (record { len = length part; stored = take P part })))))

module _ {K V : Type 0} {bytes : K × V → List ℕ} {P : ℕ} {s t : Nodes K V} {root : OpaqueNodePtr} {pairs : List (K × V)}
    {fs : List (Frame OpaqueNodePtr (K × V))} {place : List ℕ} {tree : Tree OpaqueNodePtr (K × V)} {m : InnerPtr} {n : LeafPtr} {part : List ℕ}
    {b c : ℕ} {x : LeafNode K V} {mid : Inners} {touched : List InnerPtr}
    (old : IsLaidOut bytes P (node_at s) (links_at s) root pairs (plug fs tree)) (is : BranchStored bytes P s t fs place tree m n part b c x mid touched) where
  abbrev node : Inner
  node = child_put c (leaf_name n) (child_put b (name_of tree) (childless (record { len = length part; stored = take P part })))

  off : m.kind ≢ Leaf
  off e = let f = sym is.kind ∙ e in absurd cc

  node_was_free : node_at s (inner_name m) ≡ None
  node_was_free = node_at-inner s (inner_name m) off None is.fresh

  mid_free : get mid m ≡ None
  mid_free = is.touches.others m (λ i. i) (λ i. i)
      (λ i. (each_in (λ k. (get s.inners k ≢ None) × (get mid k ≢ None)) m touched is.touches.are_changed i).0 is.fresh) ∙ is.fresh

  -- the parent is another node than the new one, and was not touched
  parent_used : (k : OpaqueNodePtr) → IsParent fs k → get s.inners (as_inner k) ≢ None
  parent_used k up = (parent_there bytes P s fs (name_of tree) (path_holds (node_at s) fs tree old.holds).0 k up).1

  not_new : (k : OpaqueNodePtr) → get s.inners (as_inner k) ≢ None → as_inner k ≢ m
  not_new k used e = used (ap (get s.inners) e ∙ is.fresh)

  parent_same : (k : OpaqueNodePtr) → IsParent fs k → get (insert mid m node) (as_inner k) ≡ get s.inners (as_inner k)
  parent_same k up =
      inner_elsewhere mid m (as_inner k) node (not_new k (parent_used k up)) ∙
      is.touches.others (as_inner k) (λ i. i) (λ i. i)
      (λ i. parent_apart (node_at s) (node_at t) fs tree old.holds old.distinct k up (is.in_tree (as_inner k) i))

  -- all nodes but the parent and those that were touched are the same
  branch_same : SameBut (node_at s) (node_at t) fs (map inner_name touched)
  branch_same = same_but s t fs (map inner_name touched) (λ p i used. placed_pairs old.holds old.distinct is.placed p used) (λ k kind up other used.
      ap (λ z. get z (as_inner k)) is.inners ∙ with_child_at-elsewhere fs (inner_name m) (insert mid m node) k up
      ∙ inner_elsewhere mid m (as_inner k) node (λ e. used (ap (node_at s) (inner_name_one k (inner_name m) e) ∙ node_was_free))
      ∙ is.touches.others (as_inner k) (λ i. i) (λ i. i) (λ i. other (in_map inner_name (as_inner k) touched i)))

  got : get t.inners m ≡ Some node
  got = ap (λ z. get z m) is.inners ∙ with_child_at-elsewhere fs (inner_name m) (insert mid m node) (inner_name m)
      (λ up. parent_used (inner_name m) up is.fresh) ∙ inner_here mid m node

  -- the new node, with the tree as it is now
  branch_placed : (u : Tree OpaqueNodePtr (K × V)) → name_of u ≡ name_of tree →
      BranchPlaced bytes P (node_at s) (node_at t) (links_at s) (links_at t) fs place tree u (inner_name m) (leaf_name n) part b c (pair_of x)
  branch_placed u named = record {
    front = is.front;
    apart = is.apart;
    node_was_free = node_was_free;
    leaf_was_free = placed_was_free old.holds old.distinct is.placed;
    differ = λ e. off (ap (λ (z : OpaqueNodePtr). z.kind) e);
    node = node_at-inner t (inner_name m) off (Some node) got ∙
        shown m.kind is.kind (put_child (put_child [] b (name_of tree)) c (leaf_name n))
        (ap (λ z. put_child (put_child [] b z) c (leaf_name n)) (sym named) ∙ put_child-two b c u (leaf (leaf_name n) (pair_of x)) is.apart);
    new_leaf = placed_node old.holds old.distinct is.placed;
    parent = parent_written bytes P s t (insert mid m node) fs place (name_of tree) (inner_name m) is.hole.path
        (path_holds (node_at s) fs tree old.holds).0 (λ k up. parent_same k up) (λ k up. ap (λ z. get z (as_inner k)) is.inners);
    relinked = placed_relinked old.holds old.distinct is.placed;
  }
    where
      shown : (kind : NodeType) → kind ≡ Node4 → (slots : List (ℕ × OpaqueNodePtr)) {rest : List (ℕ × OpaqueNodePtr)} → slots ≡ rest →
          ◌≡◌ {A = Option (Node OpaqueNodePtr (K × V))} (Some (inner_node (record { kind = kind; length_of = length part; stored = take P part }) slots))
          (Some (inner_node (canonical_header P part 2) rest))
      shown kind e slots f = cc

  touched_leaves : Touched s.leaves t.leaves (n ∷ []) [] (listed x.next ++ (listed x.previous ++ []))
  touched_leaves = placed_touched old.holds old.distinct is.placed

  touched_inners : Touched s.inners t.inners (m ∷ []) [] (parents fs ++ touched)
  touched_inners = subst (λ z. Touched s.inners z (m ∷ []) [] (parents fs ++ touched)) (sym is.inners)
      (then_parent (then_placed inner_cmp_total inner_cmp-IsAntisymmetric is.touches m node mid_free (λ i. i)) fs (inner_name m)
      (λ k up. parent_used k up) (λ k up e. parent_used k up (sym (parent_same k up) ∙ e)))

  are_inners : Each IsInner (parents fs ++ touched)
  are_inners = parents_inner bytes P s fs (name_of tree) (path_holds (node_at s) fs tree old.holds).0 touched is.are_inner

  -- what is placed, and what is changed
  branch_print : Footprint s t (both_names (n ∷ []) (m ∷ [])) (both_names [] [])
      (both_names (listed x.next ++ (listed x.previous ++ [])) (parents fs ++ touched))
  branch_print = footprint_of s t touched_leaves touched_inners (off, tt) tt are_inners

  -- a node of the tree that was touched is what it became then
  touched_is : (k : OpaqueNodePtr) → k.kind ≢ Leaf → IsIn (as_inner k) touched → get t.inners (as_inner k) ≡ get mid (as_inner k)
  touched_is k kind i =
      ap (λ z. get z (as_inner k)) is.inners ∙ with_child_at-elsewhere fs (inner_name m) (insert mid m node) k
      (λ up. parent_apart (node_at s) (node_at t) fs tree old.holds old.distinct k up (is.in_tree (as_inner k) i))
      ∙ inner_elsewhere mid m (as_inner k) node
      (not_new k (each_in (λ z. (get s.inners z ≢ None) × (get mid z ≢ None)) (as_inner k) touched is.touches.are_changed i).0)

  -- two names are placed, and three are changed in addition to those that were touched
  pub branch_touches : (most : ℕ) → 3 + length touched ≤ most → TouchesAtMost 2 0 most s t
  branch_touches most few =
      let beside = length-beside x.next x.previous in let above = length-parents fs touched in
      touches_at_most s t 2 0 most touched_leaves touched_inners (off, tt) tt are_inners (omega arith) (omega arith) (omega arith)

  changed_in : (k : OpaqueNodePtr) → IsIn k (both_names (listed x.next ++ (listed x.previous ++ [])) (parents fs ++ touched)) → IsIn k (names_of (plug fs tree))
  changed_in =
      both_in (names_of (plug fs tree)) (listed x.next ++ (listed x.previous ++ [])) (parents fs ++ touched)
      (placed_beside old.holds old.distinct is.placed) (parents_in fs tree touched is.in_tree)

  module _ {u : Tree OpaqueNodePtr (K × V)}
      (done : BranchInserted bytes P (node_at s) (node_at t) (links_at s) (links_at t) fs place tree u (inner_name m)
      (leaf_name n) part b c (pair_of x)) where
    abbrev grown : Tree OpaqueNodePtr (K × V)
    grown = inner (inner_name m) (canonical_header P part 2) (two_children b u c (leaf (leaf_name n) (pair_of x)))

    abbrev NamesOf : Bool → List OpaqueNodePtr
    NamesOf first =
        names_of (inner (inner_name m) (canonical_header P part 2) (cond first (child b u (child c (leaf (leaf_name n) (pair_of x)) no_child))
        (child c (leaf (leaf_name n) (pair_of x)) (child b u no_child))))

    new_in : (first : Bool) (k : OpaqueNodePtr) → IsIn k (leaf_name n ∷ inner_name m ∷ []) → IsIn k (NamesOf first)
    new_in first k (inr (inl e)) = inl e
    new_in first k (inr (inr i)) = absurd i
    new_in true k (inl e) = inr (in_right k (names_of u) (leaf_name n ∷ []) (inl e))
    new_in false k (inl e) = inr (inl e)

    old_in : (first : Bool) (k : OpaqueNodePtr) → IsIn k (names_of u) → IsIn k (NamesOf first)
    old_in true k i = inr (in_left k (names_of u) (leaf_name n ∷ []) i)
    old_in false k i = inr (inr (in_left k (names_of u) [] i))

    among : (first : Bool) (k : OpaqueNodePtr) → IsIn k (NamesOf first) → IsIn k (names_of u) ⊎ IsIn k (leaf_name n ∷ inner_name m ∷ [])
    among first k (inl e) = inr (inr (inl e))
    among true k (inr i) =
        elim (in_either k (names_of u) (leaf_name n ∷ [])
        i) [ inl own ↦ inl own | inr j ↦ elim j [ inl e ↦ inr (inl e) | inr none ↦ absurd none ] ]
    among false k (inr (inl e)) = inr (inl e)
    among false k (inr (inr i)) = elim (in_either k (names_of u) [] i) [ inl own ↦ inl own | inr none ↦ absurd none ]

    own_names : AreNames (names_of tree) (names_of grown) (leaf_name n ∷ inner_name m ∷ []) [] []
    own_names = record {
      placed_in = λ k i. new_in (ltb b c) k i;
      freed_in = λ k i. absurd i;
      changed_in = λ k i. absurd i;
      old_stays = λ k i. inl (old_in (ltb b c) k (subst (IsIn k) (sym done.branch.same_names) i));
      new_comes = λ k i. elim (among (ltb b c) k i) [ inl own ↦ inl (subst (IsIn k) done.branch.same_names own) | inr new ↦ inr new ];
    }

    -- the tree became another in place
    pub branch_in_place : ChangesInPlace bytes s t (Some (plug fs tree))
        (Some (plug fs (inner (inner_name m) (canonical_header P part 2) (two_children b u c (leaf (leaf_name n) (pair_of x))))))
    branch_in_place =
        in_place branch_print P (names_around fs tree grown (leaf_name n ∷ inner_name m ∷ []) []
        (both_names (listed x.next ++ (listed x.previous ++ [])) (parents fs ++ touched)) own_names changed_in)
        (branch_keeps_leaves old done) (branch_keeps old done)

-- ---- what is split: a leaf, or an inner node's prefix

-- a node's header is written
pub header_touches : {K V : Type 0} (s : Nodes K V) (k : OpaqueNodePtr) (h : NodeHeader) (slots : List (ℕ × OpaqueNodePtr)) (header : Prefix) →
    node_at s k ≡ Some (inner_node h slots) → Touched s.inners (change s.inners (as_inner k) (with_header header)) [] [] (as_inner k ∷ [])
header_touches s k h slots header held =
    let used : get s.inners (as_inner k) ≢ None = λ e. let (off, node, there, head, below) = inner_at s k h slots held in absurd (cc (there, e)) in
    then_changed inner_cmp_total inner_cmp-IsAntisymmetric (touched_none s.inners) (as_inner k) (with_header header) used used

module _ {K V : Type 0} {bytes : K × V → List ℕ} {P : ℕ} {s t : Nodes K V} {root : OpaqueNodePtr} {pairs : List (K × V)}
    {fs : List (Frame OpaqueNodePtr (K × V))} {place : List ℕ} {m : InnerPtr} {n : LeafPtr} {part : List ℕ} {b c : ℕ} {x : LeafNode K V} where
  -- a leaf, which is unchanged
  pub leaf_branched : {k : OpaqueNodePtr} {y : K × V} {mid : Inners} → IsLaidOut bytes P (node_at s) (links_at s) root pairs (plug fs (leaf k y)) →
      BranchStored bytes P s t fs place (leaf k y) m n part b c x mid [] → IsFront ((place ++ part) ++ b ∷ []) (bytes y) →
      BranchInserted bytes P (node_at s) (node_at t) (links_at s) (links_at t) fs place (leaf k y) (leaf k y) (inner_name m) (leaf_name n) part b c (pair_of x)
  leaf_branched {k} {y} old is front = split_leaf old is.hole front (branch_same old is) (branch_placed old is (leaf k y) refl)

  -- an inner node, whose prefix is the part, a byte and a rest: the rest stays its prefix
  pub prefix_branched : {k : OpaqueNodePtr} {h : NodeHeader} {cs : Subtrees OpaqueNodePtr (K × V)} {mid : Inners} (rest : List ℕ) →
      mid ≡ change s.inners (as_inner k) (with_header (record { len = length rest; stored = take P rest })) →
      IsLaidOut bytes P (node_at s) (links_at s) root pairs (plug fs (inner k h cs)) →
      (is : BranchStored bytes P s t fs place (inner k h cs) m n part b c x mid (as_inner k ∷ [])) → is.hole.radix.0 ≡ part ++ b ∷ rest →
      BranchInserted bytes P (node_at s) (node_at t) (links_at s) (links_at t) fs place (inner k h cs)
      (inner k (canonical_header P rest (length (bytes_of cs))) cs) (inner_name m) (leaf_name n) part b c (pair_of x)
  prefix_branched {k} {h} {cs} rest written old is prefix =
      trimmed_node rest old is.hole prefix (branch_same old is) there (branch_placed old is (inner k (canonical_header P rest (length (bytes_of cs))) cs) refl)
    where
      shown : (kind : NodeType) (slots : List (ℕ × OpaqueNodePtr)) → kind ≡ kind_of (length (bytes_of cs)) → slots ≡ slots_of cs →
          ◌≡◌ {A = Option (Node OpaqueNodePtr (K × V))} (Some
          (inner_node (record { kind = kind; length_of = length rest; stored = take P rest }) slots))
          (Some (inner_node (canonical_header P rest (length (bytes_of cs))) (slots_of cs)))
      shown kind slots e f = cc

      there : node_at t k ≡ Some (inner_node (canonical_header P rest (length (bytes_of cs))) (slots_of cs))
      there =
          let (off, node, found, head, below) = inner_at s k h (slots_of cs) (path_holds (node_at s) fs (inner k h cs) old.holds).1.0 in
          let f = with_header (record { len = length rest; stored = take P rest }) in
          node_at-inner t k off (Some (f node)) (touched_is old is k off (inl refl) ∙ ap (λ z. get z (as_inner k)) written
          ∙ inner_changed_at s.inners (as_inner k) f ∙ ap (option_map f) found)
          ∙ shown k.kind node.children (ap (λ z. z.kind) head ∙ ap (λ z. z.kind) is.hole.radix.1) below
