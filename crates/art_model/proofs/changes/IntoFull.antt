-- An insertion into a full node, from the equations of the store's maps: a larger node replaces it; the new layout, and what is touched.
use Rattle.std.proofs.Common.{◌≡◌, ◌≢◌, ℕ, suc, ◌≤◌, List, [], ◌∷◌, ◌++◌, length, Some, None, ap, sym, ◌∙◌, subst, arith, inl, inr}
use Rattle.std.specs.List.{AllByRecursion as Each}
use Rattle.std.specs.FinMap.{get, insert, remove}
use Rattle.art_model.specs.Prelude.{Inner, put_child, kind_capacity, larger_kind, with_child, leaf_name, Nodes, Node256, Leaf, LeafPtr, LeafNode, OpaqueNodePtr, leaf, inner, Subtrees, NodeHeader, canonical_header, kind_of, bytes_of, join, Frame, plug, leaves_before, leaves_after, names_of, slots_of, leaf_names_below, header_at, node_at, links_at, pair_of, Inners, as_inner, parent_of, with_child_at, IsIn, TouchesAtMost}
use Rattle.art_parts.proofs.NameLemmas.{inner_cmp_total, inner_cmp-IsAntisymmetric}
use Rattle.art_nodes.proofs.StoreChanges.{inner_here, inner_elsewhere, inner_gone_elsewhere}
use Rattle.art_model.proofs.changes.AddedChild.{ChildAdded, child_added, kind_of-larger}
use Rattle.art_model.proofs.places.InHole.{both_in, parents_in}
use Rattle.art_model.proofs.leaves.LeafChild.{names_with_both}
use Rattle.art_model.proofs.stores.Canonical.{IsLaidOut}
use Rattle.art_model.proofs.changes.Inserted.{ChildInserted, IsGap}
use Rattle.art_model.proofs.leaves.Leaves.{listed, length-beside}
use Rattle.art_model.proofs.leaves.Placed.{LeafPlaced, placed_was_free, placed_node, placed_pairs, placed_relinked, placed_beside, placed_touched}
use Rattle.art_model.proofs.stores.Slots.{put_child-new, kind_of-full}
use Rattle.art_model.proofs.stores.Stores.{IsParent, path_holds, parent_apart}
use Rattle.art_model.proofs.stores.Touches.{Touched, IsInner, both_names, touches_at_most, footprint_of, touched_none, then_freed, then_placed}
use Rattle.art_model.proofs.stores.Writes.{shown, parents_inner, inner_at, node_at-inner, same_but, parents, length-parents, parent_there, parent_written, then_parent, with_child_at-elsewhere, inner_name_one}

-- A leaf is placed, and a larger node replaces the full one in the hole, with the leaf as a child under a byte that had none.
pub record IntoFull {K V : Type 0} (bytes : K × V → List ℕ) (P : ℕ) (s t : Nodes K V) (fs : List (Frame OpaqueNodePtr (K × V))) (place : List ℕ)
    (m k : OpaqueNodePtr) (h : NodeHeader) (l r : Subtrees OpaqueNodePtr (K × V)) (b : ℕ) (n : LeafPtr) (x : LeafNode K V) (full : Inner) : Type 0 where
  pub gap : IsGap bytes P fs place m h l r b (bytes (pair_of x))
  pub no_room : kind_capacity m.kind ≤ length (bytes_of (join l r))
  pub not_last : m.kind ≢ Node256
  pub kind : k.kind ≡ larger_kind m.kind
  pub is_inner : k.kind ≢ Leaf
  pub placed : LeafPlaced s t (plug fs (inner m h (join l r))) (leaves_before fs ++ leaf_names_below l) (leaf_names_below r ++ leaves_after fs) n x
  pub was_free : get s.inners (as_inner k) ≡ None
  pub here : get s.inners (as_inner m) ≡ Some full
  pub inners : t.inners ≡ with_child_at (parent_of fs) k (insert (remove s.inners (as_inner m)) (as_inner k) (with_child b (leaf_name n) full))

module _ {K V : Type 0} {bytes : K × V → List ℕ} {P : ℕ} {s t : Nodes K V} {root : OpaqueNodePtr} {pairs : List (K × V)}
    {fs : List (Frame OpaqueNodePtr (K × V))} {place : List ℕ} {m k : OpaqueNodePtr} {h : NodeHeader} {l r : Subtrees OpaqueNodePtr (K × V)}
    {b : ℕ} {n : LeafPtr} {x : LeafNode K V} {full : Inner}
    (old : IsLaidOut bytes P (node_at s) (links_at s) root pairs (plug fs (inner m h (join l r))))
    (into : IntoFull bytes P s t fs place m k h l r b n x full) where
  abbrev grown : Inner
  grown = with_child b (leaf_name n) full

  abbrev before_parent : Inners
  before_parent = insert (remove s.inners (as_inner m)) (as_inner k) grown

  -- the parent is another name than both
  up_there : (q : OpaqueNodePtr) → IsParent fs q → (q.kind ≢ Leaf) × (get s.inners (as_inner q) ≢ None)
  up_there = parent_there bytes P s fs m (path_holds (node_at s) fs (inner m h (join l r)) old.holds).0

  not_parent : IsParent fs k → ⊥
  not_parent is = (up_there k is).1 into.was_free

  parent_not_old : (q : OpaqueNodePtr) → IsParent fs q → q ≢ m
  parent_not_old q is e = parent_apart (node_at s) (node_at t) fs (inner m h (join l r)) old.holds old.distinct q is (inl (sym e))

  -- names in use except the old node's have what they had before the parent is written
  still : (q : OpaqueNodePtr) → q ≢ m → get s.inners (as_inner q) ≢ None → get before_parent (as_inner q) ≡ get s.inners (as_inner q)
  still q off used =
      inner_elsewhere (remove s.inners (as_inner m)) (as_inner k) (as_inner q) grown (λ e. used (ap (get s.inners) e ∙ into.was_free))
      ∙ inner_gone_elsewhere s.inners (as_inner m) (as_inner q) (λ e. off (inner_name_one q m e))

  others : (q : OpaqueNodePtr) → (IsParent fs q → ⊥) → q ≢ m → get s.inners (as_inner q) ≢ None → get t.inners (as_inner q) ≡ get s.inners (as_inner q)
  others q up off used = ap (λ z. get z (as_inner q)) into.inners ∙ with_child_at-elsewhere fs k before_parent q up ∙ still q off used

  own : (off : m.kind ≢ Leaf) × (node : Inner) × (get s.inners (as_inner m) ≡ Some node) × (header_at m.kind node ≡ h) × (node.children ≡ slots_of (join l r))
  own = inner_at s m h (slots_of (join l r)) (path_holds (node_at s) fs (inner m h (join l r)) old.holds).1.0

  own_head : header_at m.kind full ≡ h
  own_head = let (off, node, got, head, kids) =
      own in let same : node ≡ full = let e : Some node ≡ Some full = sym got ∙ into.here in cc in ap (header_at m.kind) (sym same) ∙ head

  own_slots : full.children ≡ slots_of (join l r)
  own_slots = let (off, node, got, head, kids) =
      own in let same : node ≡ full = let e : Some node ≡ Some full = sym got ∙ into.here in cc in ap (λ z. z.children) (sym same) ∙ kids

  new_there : get t.inners (as_inner k) ≡ Some grown
  new_there = ap (λ z. get z (as_inner k)) into.inners ∙ with_child_at-elsewhere fs k before_parent k not_parent
      ∙ inner_here (remove s.inners (as_inner m)) (as_inner k) grown

  k_was_free : node_at s k ≡ None
  k_was_free = node_at-inner s k into.is_inner None into.was_free

  -- the larger node has the place and one more child
  full_inserted : ChildInserted bytes P (node_at s) (node_at t) (links_at s) (links_at t) fs place m k (leaf_name n) h l r b (pair_of x)
  full_inserted =
      let held = path_holds (node_at s) fs (inner m h (join l r)) old.holds in
      let count = length (bytes_of (join l r)) in
      let kind : m.kind ≡ kind_of count = ap (λ z. z.kind) (own_head ∙ into.gap.hole.radix.1) in
      let more : k.kind ≡ kind_of (suc count) = into.kind ∙ kind_of-larger m.kind count kind into.not_last into.no_room in
      record {
        gap = into.gap;
        named = inr k_was_free;
        same_kind = λ e. absurd (kind_of-full m.kind count into.not_last into.no_room (ap (λ z. z.kind) own_head ∙ e));
        leaf_was_free = placed_was_free old.holds old.distinct into.placed;
        differ = λ e. into.is_inner (ap (λ (z : OpaqueNodePtr). z.kind) e);
        there = node_at-inner t k into.is_inner (Some grown) new_there ∙
            shown (grown_header into.gap.hole.radix.0 count (suc count) (own_head ∙ into.gap.hole.radix.1) more)
            (ap (λ z. put_child z b (leaf_name n)) own_slots ∙ put_child-new l r b (leaf (leaf_name n) (pair_of x)) into.gap.low into.gap.high);
        new_leaf = placed_node old.holds old.distinct into.placed;
        parent = parent_written bytes P s t before_parent fs place m k into.gap.hole.path held.0
            (λ q is. still q (parent_not_old q is) (up_there q is).1) (λ q is. ap (λ z. get z (as_inner q)) into.inners);
        same = same_but s t fs (m ∷ []) (λ p i used. placed_pairs old.holds old.distinct into.placed p used)
            (λ q inner_kind up i used. others q up (λ e. i (inl (sym e))) (λ e. used (node_at-inner s q inner_kind None e)));
        relinked = placed_relinked old.holds old.distinct into.placed;
      }
    where
      grown_header : (part : List ℕ) (count other : ℕ) → header_at m.kind full ≡ canonical_header P part count → k.kind ≡ kind_of other →
          header_at k.kind grown ≡ canonical_header P part other
      grown_header part count other e kind = λ i. record { kind = kind i; length_of = (e i).length_of; stored = (e i).stored }

  abbrev changed : List LeafPtr
  changed = listed x.next ++ (listed x.previous ++ [])

  full_leaves : Touched s.leaves t.leaves (n ∷ []) [] changed
  full_leaves = placed_touched old.holds old.distinct into.placed

  full_inners : Touched s.inners t.inners (as_inner k ∷ []) (as_inner m ∷ []) (parents fs ++ [])
  full_inners =
      let here : get s.inners (as_inner m) ≢ None = λ e. absurd (let g = into.here in cc) in
      let apart : as_inner k ≢ as_inner m = λ e. here (ap (get s.inners) (sym e) ∙ into.was_free) in
      let gone = then_freed inner_cmp_total inner_cmp-IsAntisymmetric (touched_none s.inners) (as_inner m) here (λ i. i) in
      let free : get (remove s.inners (as_inner m)) (as_inner k) ≡ None = inner_gone_elsewhere s.inners (as_inner m) (as_inner k) apart ∙ into.was_free in
      let there = then_placed inner_cmp_total inner_cmp-IsAntisymmetric gone (as_inner k) grown free (λ i. elim i [ inl e ↦ apart (sym e) | inr j ↦ j ]) in
      subst (λ z. Touched s.inners z (as_inner k ∷ []) (as_inner m ∷ []) (parents fs ++ [])) (sym into.inners)
      (then_parent there fs k (λ q is. (up_there q is).1) (λ q is e. (up_there q is).1 (sym (still q (parent_not_old q is) (up_there q is).1) ∙ e)))

  all_inner : Each IsInner (parents fs ++ [])
  all_inner = parents_inner bytes P s fs m (path_holds (node_at s) fs (inner m h (join l r)) old.holds).0 [] tt

  -- two names are placed, one is freed, and at most three are changed
  pub full_touches : TouchesAtMost 2 1 3 s t
  full_touches =
      let beside = length-beside x.next x.previous in let above = length-parents fs [] in
      touches_at_most s t 2 1 3 full_leaves full_inners (into.is_inner, tt) (own.0, tt) all_inner (omega arith) (omega arith) (omega arith)

  changed_in : (q : OpaqueNodePtr) → IsIn q (both_names changed (parents fs ++ [])) → IsIn q (names_of (plug fs (inner m h (join l r))))
  changed_in =
      both_in (names_of (plug fs (inner m h (join l r)))) changed (parents fs ++ []) (placed_beside old.holds old.distinct into.placed)
      (parents_in fs (inner m h (join l r)) [] (λ p i. absurd i))

  -- the root is canonical for the pairs with the new one, and all nodes that stay keep their names
  pub full_added : ChildAdded bytes P s t root pairs fs m k h l r b (leaf_name n) (pair_of x)
  full_added = child_added old full_inserted (footprint_of s t full_leaves full_inners (into.is_inner, tt) (own.0, tt) all_inner)
      (names_with_both l r b (leaf_name n) (pair_of x) m k h) changed_in
