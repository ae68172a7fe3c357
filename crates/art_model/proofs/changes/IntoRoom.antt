-- An insertion into a node that has room, from the equations of the store's maps: the new layout, and what is touched.
use Rattle.std.proofs.Common.{◌≡◌, ◌≢◌, ℕ, suc, ◌<◌, List, [], ◌∷◌, ◌++◌, length, Some, None, refl, ap, sym, ◌∙◌, subst, arith, inl, inr, option_map}
use Rattle.std.specs.FinMap.{get}
use Rattle.art_model.specs.Prelude.{put_child, kind_capacity, with_child, leaf_name, inner_name, Nodes, change, Leaf, LeafPtr, LeafNode, OpaqueNodePtr, leaf, inner, Subtrees, NodeHeader, kind_of, bytes_of, join, Frame, plug, leaves_before, leaves_after, names_of, slots_of, leaf_names_below, node_at, links_at, pair_of, as_inner, IsIn, TouchesAtMost}
use Rattle.art_parts.proofs.NameLemmas.{inner_cmp_total, inner_cmp-IsAntisymmetric}
use Rattle.art_nodes.proofs.StoreChanges.{inner_changed_at, inner_changed_elsewhere}
use Rattle.art_model.proofs.stores.Canonical.{IsLaidOut}
use Rattle.art_model.proofs.stores.Stores.{path_holds, parent_apart}
use Rattle.art_model.proofs.changes.Inserted.{ChildInserted, IsGap}
use Rattle.art_model.proofs.stores.Touches.{Touched, both_names, touches_at_most, footprint_of, touched_none, then_changed}
use Rattle.art_model.proofs.changes.AddedChild.{ChildAdded, child_added}
use Rattle.art_model.proofs.places.InHole.{both_in, in_hole}
use Rattle.art_model.proofs.leaves.LeafChild.{names_with_leaf}
use Rattle.art_model.proofs.leaves.Leaves.{listed, length-beside}
use Rattle.art_model.proofs.leaves.Placed.{LeafPlaced, placed_was_free, placed_node, placed_pairs, placed_relinked, placed_beside, placed_touched}
use Rattle.art_model.proofs.stores.Slots.{put_child-new, kind_of-room}
use Rattle.art_model.proofs.stores.Writes.{inner_at, node_at-inner, same_but, same_inner, shown, parent_stays, parent_there, inner_name_one, header_with}

-- A leaf is placed, and the node in the hole, which has room, gets it as a child under a byte that had none.
pub record IntoRoom {K V : Type 0} (bytes : K × V → List ℕ) (P : ℕ) (s t : Nodes K V) (fs : List (Frame OpaqueNodePtr (K × V))) (place : List ℕ)
    (m : OpaqueNodePtr) (h : NodeHeader) (l r : Subtrees OpaqueNodePtr (K × V)) (b : ℕ) (n : LeafPtr) (x : LeafNode K V) : Type 0 where
  pub gap : IsGap bytes P fs place m h l r b (bytes (pair_of x))
  pub room : length (bytes_of (join l r)) < kind_capacity m.kind
  pub placed : LeafPlaced s t (plug fs (inner m h (join l r))) (leaves_before fs ++ leaf_names_below l) (leaf_names_below r ++ leaves_after fs) n x
  pub inners : t.inners ≡ change s.inners (as_inner m) (with_child b (leaf_name n))

module _ {K V : Type 0} {bytes : K × V → List ℕ} {P : ℕ} {s t : Nodes K V} {root : OpaqueNodePtr} {pairs : List (K × V)}
    {fs : List (Frame OpaqueNodePtr (K × V))} {place : List ℕ} {m : OpaqueNodePtr} {h : NodeHeader} {l r : Subtrees OpaqueNodePtr (K × V)}
    {b : ℕ} {n : LeafPtr} {x : LeafNode K V}
    (old : IsLaidOut bytes P (node_at s) (links_at s) root pairs (plug fs (inner m h (join l r)))) (into : IntoRoom bytes P s t fs place m h l r b n x) where
  others : (k : OpaqueNodePtr) → k ≢ m → get t.inners (as_inner k) ≡ get s.inners (as_inner k)
  others k off = ap (λ z. get z (as_inner k)) into.inners
      ∙ inner_changed_elsewhere s.inners (as_inner m) (as_inner k) (with_child b (leaf_name n)) (λ e. off (inner_name_one k m e))

  -- the node has one more child
  room_inserted : ChildInserted bytes P (node_at s) (node_at t) (links_at s) (links_at t) fs place m m (leaf_name n) h l r b (pair_of x)
  room_inserted =
      let held = path_holds (node_at s) fs (inner m h (join l r)) old.holds in
      let (off, node, got, head, kids) = inner_at s m h (slots_of (join l r)) held.1.0 in
      let is : get t.inners (as_inner m) ≡ Some (with_child b (leaf_name n) node) =
      ap (λ z. get z (as_inner m)) into.inners ∙ inner_changed_at s.inners (as_inner m) (with_child b (leaf_name n))
      ∙ ap (option_map (with_child b (leaf_name n))) got in
      let count = length (bytes_of (join l r)) in
      let kind : h.kind ≡ m.kind = sym (ap (λ z. z.kind) head) in
      let more : h.kind ≡ kind_of (suc count) = kind ∙ kind_of-room m.kind count (sym kind ∙ ap (λ z. z.kind) into.gap.hole.radix.1) into.room in
      record {
        gap = into.gap;
        named = inl refl;
        same_kind = λ e. refl;
        leaf_was_free = placed_was_free old.holds old.distinct into.placed;
        differ = λ e. off (ap (λ (z : OpaqueNodePtr). z.kind) e);
        there = node_at-inner t m off (Some (with_child b (leaf_name n) node)) is ∙
            shown (head ∙ header_with P into.gap.hole.radix.0 count (suc count) h into.gap.hole.radix.1 more)
            (ap (λ z. put_child z b (leaf_name n)) kids ∙ put_child-new l r b (leaf (leaf_name n) (pair_of x)) into.gap.low into.gap.high);
        new_leaf = placed_node old.holds old.distinct into.placed;
        parent = parent_stays (node_at s) (node_at t) fs m held.0 (λ k is. same_inner s t k (parent_there bytes P s fs m held.0 k is).0
            (others k (λ e. parent_apart (node_at s) (node_at t) fs (inner m h (join l r)) old.holds old.distinct k is (inl (sym e)))));
        same = same_but s t fs (m ∷ []) (λ p i used. placed_pairs old.holds old.distinct into.placed p used)
            (λ k inner_kind up i used. others k (λ e. i (inl (sym e))));
        relinked = placed_relinked old.holds old.distinct into.placed;
      }

  abbrev changed : List LeafPtr
  changed = listed x.next ++ (listed x.previous ++ [])

  room_leaves : Touched s.leaves t.leaves (n ∷ []) [] changed
  room_leaves = placed_touched old.holds old.distinct into.placed

  room_inners : Touched s.inners t.inners [] [] (as_inner m ∷ [])
  room_inners =
      let (off, node, got, head, kids) = inner_at s m h (slots_of (join l r)) (path_holds (node_at s) fs (inner m h (join l r)) old.holds).1.0 in
      let used : get s.inners (as_inner m) ≢ None = λ e. absurd (cc (got, e)) in
      subst (λ z. Touched s.inners z [] [] (as_inner m ∷ [])) (sym into.inners)
      (then_changed inner_cmp_total inner_cmp-IsAntisymmetric (touched_none s.inners) (as_inner m) (with_child b (leaf_name n)) used used)

  is_inner : m.kind ≢ Leaf
  is_inner = (inner_at s m h (slots_of (join l r)) (path_holds (node_at s) fs (inner m h (join l r)) old.holds).1.0).0

  -- one name is placed, and at most three are changed
  pub room_touches : TouchesAtMost 1 0 3 s t
  room_touches =
      let beside = length-beside x.next x.previous in
      touches_at_most s t 1 0 3 room_leaves room_inners tt tt (is_inner, tt) (omega arith) (omega arith) (omega arith)

  changed_in : (q : OpaqueNodePtr) → IsIn q (both_names changed (as_inner m ∷ [])) → IsIn q (names_of (plug fs (inner m h (join l r))))
  changed_in = both_in (names_of (plug fs (inner m h (join l r)))) changed (as_inner m ∷ []) (placed_beside old.holds old.distinct into.placed)
      (λ p i. elim i [ inl e ↦ in_hole fs (inner m h (join l r)) (inner_name p) (inl (ap inner_name e)) | inr j ↦ absurd j ])

  -- the root is canonical for the pairs with the new one, and all nodes that stay keep their names
  pub room_added : ChildAdded bytes P s t root pairs fs m m h l r b (leaf_name n) (pair_of x)
  room_added = child_added old room_inserted (footprint_of s t room_leaves room_inners tt tt (is_inner, tt))
      (names_with_leaf l r b (leaf_name n) (pair_of x) m h) changed_in
