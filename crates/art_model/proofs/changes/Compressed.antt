-- A deletion that leaves a node one child, from the equations of the store's maps: the child replaces the node, with a longer prefix where it is an inner node.
use Rattle.std.proofs.Common.{◌≡◌, ◌≢◌, ℕ, ◌≤◌, List, [], ◌∷◌, ◌++◌, length, take, map, Option, Some, None, refl, ap, sym, ◌∙◌, subst, arith, append-nil, ◌⊎◌, inl, inr, option_map}
use Rattle.std.specs.List.{AllByRecursion as Each}
use Rattle.std.specs.FinMap.{get, remove}
use Rattle.art_model.specs.Prelude.{with_header, leaf_name, inner_name, Nodes, change, NodeType, Leaf, LeafPtr, InnerPtr, LeafNode, OpaqueNodePtr, Tree, leaf, inner, Subtrees, child, no_child, NodeHeader, canonical_header, IsRadix, bytes_of, join, remove_key, Frame, plug, leaves_before, leaves_after, HoldsPath, Node, inner_node, name_of, slots_of, names_of, names_below, leaf_names_below, Holds, node_at, links_at, pair_of, Inners, as_inner, parent_of, with_child_at, ChangesInPlace, IsIn, TouchesAtMost}
use Rattle.art_parts.specs.Headers as headers
use Rattle.art_parts.proofs.NameLemmas.{inner_cmp_total, inner_cmp-IsAntisymmetric}
use Rattle.art_nodes.proofs.StoreChanges.{inner_changed_at, inner_changed_elsewhere, inner_gone_elsewhere}
use Rattle.art_model.proofs.stores.Canonical.{IsLaidOut}
use Rattle.art_model.proofs.changes.InPlace.{AreNames, in_place}
use Rattle.art_model.proofs.lists.Lists.{each_in, in_left, in_right}
use Rattle.art_model.proofs.stores.Names.{own_name}
use Rattle.art_model.proofs.places.Paths.{IsHole, root_with}
use Rattle.art_model.proofs.stores.Stores.{IsParent, ParentHas, SameBut, path_holds, parent_apart, hole_distinct}
use Rattle.art_model.proofs.changes.Regrown.{left_child_held}
use Rattle.art_model.proofs.leaves.Links.{Relinked}
use Rattle.art_model.proofs.changes.Removed.{NodeRemoved, node_removed, node_removed_keeps, node_removed_keeps_leaves, raised_leaf, merged_node}
use Rattle.art_model.proofs.stores.Touches.{Touched, IsInner, both_names, footprint_of, touches_at_most, touched_none, then_freed, then_changed}
use Rattle.art_model.proofs.leaves.Leaves.{listed, length-beside}
use Rattle.art_model.proofs.leaves.Placed.{LeafTaken, taken_pairs, taken_relinked, taken_touched}
use Rattle.art_model.proofs.leaves.Taken.{beside_in}
use Rattle.art_model.proofs.places.InHole.{both_in, names_around, parents_in}
use Rattle.art_model.proofs.leaves.LeafChild.{leaf_below, leaf_or_other, others_below}
use Rattle.art_model.proofs.stores.Writes.{parents_inner, inner_at, node_at-inner, same_but, parent_written, parent_there, parents, length-parents, then_parent, with_child_at-elsewhere, inner_name_one}

-- ---- a subtree with a longer prefix

module _ {A : Type 0} (P : ℕ) (prefix : List ℕ) where
  -- an inner node gets this prefix, a leaf has none
  abbrev pub with_prefix : Tree OpaqueNodePtr A → Tree OpaqueNodePtr A
  with_prefix (leaf k y) = leaf k y
  with_prefix (inner k head cs) = inner k (canonical_header P prefix (length (bytes_of cs))) cs

  -- the same in a store
  abbrev pub prefix_written : Tree OpaqueNodePtr A → Inners → Inners
  prefix_written (leaf k y) inners = inners
  prefix_written (inner k head cs) inners = change inners (as_inner k) (with_header (headers.header_of P prefix))

-- the node whose prefix is written
abbrev rewritten : {A : Type 0} → Tree OpaqueNodePtr A → List OpaqueNodePtr
rewritten (leaf k y) = []
rewritten (inner k head cs) = k ∷ []

-- the whole prefix of a node; a leaf has none
abbrev pub prefix_at : {A : Type 0} (bytes : A → List ℕ) (P : ℕ) (place : List ℕ) (t : Tree OpaqueNodePtr A) → IsRadix bytes P place t → List ℕ
prefix_at bytes P place (leaf k y) radix = []
prefix_at bytes P place (inner k head cs) radix = radix.0

-- A leaf is removed from a node that has one other child, `v`, which replaces the node, with the node's prefix and its own byte prepended to its own prefix.
pub record Compressed {K V : Type 0} (bytes : K × V → List ℕ) (P : ℕ) (s t : Nodes K V) (fs : List (Frame OpaqueNodePtr (K × V))) (place : List ℕ)
    (m : OpaqueNodePtr) (h : NodeHeader) (l r : Subtrees OpaqueNodePtr (K × V)) (b : ℕ) (n : LeafPtr) (x : LeafNode K V) (c : ℕ)
    (v : Tree OpaqueNodePtr (K × V)) : Type 0 where
  pub hole : IsHole bytes P fs place (inner m h (join l (child b (leaf (leaf_name n) (pair_of x)) r))) (bytes (pair_of x))
  pub one : join l r ≡ child c v no_child
  pub radix : IsRadix bytes P ((place ++ hole.radix.0) ++ c ∷ []) v
  pub taken : LeafTaken s t (plug fs (inner m h (join l (child b (leaf (leaf_name n) (pair_of x)) r))))
      (leaves_before fs ++ leaf_names_below l) (leaf_names_below r ++ leaves_after fs) n x
  pub inners : t.inners ≡ with_child_at (parent_of fs) (name_of v)
      (prefix_written P (hole.radix.0 ++ c ∷ prefix_at bytes P ((place ++ hole.radix.0) ++ c ∷ []) v radix) v (remove s.inners (as_inner m)))

module _ {A : Type 0} where
  -- the node that is written is one of the subtree
  rewritten_in : (w : Tree OpaqueNodePtr A) (k : OpaqueNodePtr) → IsIn k (rewritten w) → IsIn k (names_of w)
  rewritten_in (leaf j y) k i = absurd i
  rewritten_in (inner j head cs) k (inl e) = inl e
  rewritten_in (inner j head cs) k (inr i) = absurd i

  -- and there is at most one
  length-rewritten : (w : Tree OpaqueNodePtr A) → length (map as_inner (rewritten w)) ≤ 1
  length-rewritten (leaf j y) = omega arith
  length-rewritten (inner j head cs) = omega arith

  -- what holds of it
  rewritten_each : (Q : InnerPtr → Type 0) (w : Tree OpaqueNodePtr A) → ((k : OpaqueNodePtr) → IsIn k (rewritten w) → Q (as_inner k)) →
      Each Q (map as_inner (rewritten w))
  rewritten_each Q (leaf j y) h = tt
  rewritten_each Q (inner j head cs) h = (h j (inl refl), tt)

  -- a subtree keeps its name
  name_of-with_prefix : (P : ℕ) (prefix : List ℕ) (w : Tree OpaqueNodePtr A) → name_of (with_prefix P prefix w) ≡ name_of w
  name_of-with_prefix P prefix (leaf j y) = refl
  name_of-with_prefix P prefix (inner j head cs) = refl

module _ {K V : Type 0} {bytes : K × V → List ℕ} {P : ℕ} {s t : Nodes K V} {root : OpaqueNodePtr} {pairs : List (K × V)}
    {fs : List (Frame OpaqueNodePtr (K × V))} {place : List ℕ} {m : OpaqueNodePtr} {h : NodeHeader} {l r : Subtrees OpaqueNodePtr (K × V)} {b : ℕ}
    {n : LeafPtr} {x : LeafNode K V} {c : ℕ} {v : Tree OpaqueNodePtr (K × V)}
    (old : IsLaidOut bytes P (node_at s) (links_at s) root pairs (plug fs (inner m h (join l (child b (leaf (leaf_name n) (pair_of x)) r)))))
    (is : Compressed bytes P s t fs place m h l r b n x c v) where
  abbrev gone : Tree OpaqueNodePtr (K × V)
  gone = inner m h (join l (child b (leaf (leaf_name n) (pair_of x)) r))

  abbrev below : List OpaqueNodePtr
  below = names_below (join l (child b (leaf (leaf_name n) (pair_of x)) r))

  -- the inner nodes before the parent is written
  abbrev middle : Inners
  middle = prefix_written P (is.hole.radix.0 ++ c ∷ prefix_at bytes P ((place ++ is.hole.radix.0) ++ c ∷ []) v is.radix) v (remove s.inners (as_inner m))

  held : HoldsPath (node_at s) m fs × Holds (node_at s) gone
  held = path_holds (node_at s) fs gone old.holds

  -- the child that is left is held
  pub v_held : Holds (node_at s) v
  v_held = left_child_held (node_at s) (node_at t) fs m h l (child b (leaf (leaf_name n) (pair_of x)) no_child) r old.holds old.distinct c v is.one

  -- ---- the names

  left_names : names_of v ≡ names_below (join l r)
  left_names = sym (append-nil (names_of v)) ∙ sym (ap names_below is.one)

  -- a name of the child that is left is one below the node
  pub left_in : (k : OpaqueNodePtr) → IsIn k (names_of v) → IsIn k below
  left_in k i = others_below l r b (leaf_name n) (pair_of x) k (subst (IsIn k) left_names i)

  of_hole : (k : OpaqueNodePtr) → IsIn k (names_of gone) → IsIn k (names_of v) ⊎ IsIn k (leaf_name n ∷ m ∷ [])
  of_hole k (inl e) = inr (inr (inl e))
  of_hole k (inr i) = elim (leaf_or_other l r b (leaf_name n) (pair_of x) k i) [ inl j ↦ inl (subst (IsIn k) (sym left_names) j) | inr e ↦ inr (inl e) ]

  -- and not the node's
  pub off_node : (k : OpaqueNodePtr) → IsIn k (names_of v) → k ≢ m
  off_node k i e = each_in (λ z. m ≢ z) k below (hole_distinct (node_at s) (node_at t) fs gone old.holds old.distinct).0 (left_in k i) (sym e)

  off_parent : (k : OpaqueNodePtr) → IsIn k (names_of gone) → IsParent fs k → ⊥
  off_parent k i up = parent_apart (node_at s) (node_at t) fs gone old.holds old.distinct k up i

  -- ---- what the inner nodes are

  node_there : (m.kind ≢ Leaf) × (get s.inners (as_inner m) ≢ None)
  node_there = let (off, node, got, head, kids) =
      inner_at s m h (slots_of (join l (child b (leaf (leaf_name n) (pair_of x)) r))) held.1.0 in (off, λ e. absurd (cc (got, e)))

  rewritten_there : (k : OpaqueNodePtr) → IsIn k (rewritten v) → (k.kind ≢ Leaf) × (get s.inners (as_inner k) ≢ None)
  rewritten_there k i = go v v_held i
    where
      go : (w : Tree OpaqueNodePtr (K × V)) → Holds (node_at s) w → IsIn k (rewritten w) → (k.kind ≢ Leaf) × (get s.inners (as_inner k) ≢ None)
      go (leaf j y) e i = absurd i
      go (inner j head cs) holds (inl e) =
          let (off, node, got, head, kids) = inner_at s j head (slots_of cs) holds.0 in subst
          (λ (z : OpaqueNodePtr). (z.kind ≢ Leaf) × (get s.inners (as_inner z) ≢ None)) e (off, λ f. absurd (cc (got, f)))
      go (inner j head cs) holds (inr i) = absurd i

  middle_elsewhere : (k : OpaqueNodePtr) → k ≢ m → (IsIn k (rewritten v) → ⊥) → get middle (as_inner k) ≡ get s.inners (as_inner k)
  middle_elsewhere k off non = go v (is.hole.radix.0 ++ c ∷ prefix_at bytes P ((place ++ is.hole.radix.0) ++ c ∷ []) v is.radix) non
    where
      without : get (remove s.inners (as_inner m)) (as_inner k) ≡ get s.inners (as_inner k)
      without = inner_gone_elsewhere s.inners (as_inner m) (as_inner k) (λ e. off (inner_name_one k m e))

      go : (w : Tree OpaqueNodePtr (K × V)) (prefix : List ℕ) → (IsIn k (rewritten w) → ⊥) →
          get (prefix_written P prefix w (remove s.inners (as_inner m))) (as_inner k) ≡ get s.inners (as_inner k)
      go (leaf j y) prefix f = without
      go (inner j head cs) prefix f =
          inner_changed_elsewhere (remove s.inners (as_inner m)) (as_inner j) (as_inner k) (with_header (headers.header_of P prefix))
          (λ e. f (inl (sym (inner_name_one k j e)))) ∙ without

  -- the parent is still unchanged then
  pub above_same : (k : OpaqueNodePtr) → IsParent fs k → get middle (as_inner k) ≡ get s.inners (as_inner k)
  above_same k up = middle_elsewhere k (λ e. off_parent k (inl (sym e)) up) (λ i. off_parent k (inr (left_in k (rewritten_in v k i))) up)

  inners_elsewhere : (k : OpaqueNodePtr) → (IsParent fs k → ⊥) → get t.inners (as_inner k) ≡ get middle (as_inner k)
  inners_elsewhere k off = ap (λ z. get z (as_inner k)) is.inners ∙ with_child_at-elsewhere fs (name_of v) middle k off

  parent_has : ParentHas (node_at t) fs (name_of v)
  parent_has = parent_written bytes P s t middle fs place m (name_of v) is.hole.path held.0 above_same (λ k up. ap (λ z. get z (as_inner k)) is.inners)

  same : SameBut (node_at s) (node_at t) fs (rewritten v ++ m ∷ leaf_name n ∷ [])
  same = same_but s t fs (rewritten v ++ m ∷ leaf_name n ∷ [])
      (λ p i used. taken_pairs old.holds old.distinct old.linked is.taken p
      (λ e. i (in_right (leaf_name p) (rewritten v) (m ∷ leaf_name n ∷ []) (inr (inl (ap leaf_name (sym e)))))))
      (λ k kind up i used. inners_elsewhere k up ∙ middle_elsewhere k (λ e. i (in_right k (rewritten v) (m ∷ leaf_name n ∷ []) (inl (sym e))))
      (λ j. i (in_left k (rewritten v) (m ∷ leaf_name n ∷ []) j)))

  -- ---- the child that is left

  removed : NodeRemoved bytes P (node_at s) (node_at t) (links_at s) (links_at t) fs place m (leaf_name n) h l r b c (pair_of x) v
      (with_prefix P (is.hole.radix.0 ++ c ∷ prefix_at bytes P ((place ++ is.hole.radix.0) ++ c ∷ []) v is.radix) v)
  removed = go v is.one is.radix v_held (off_node (name_of v) (own_name v))
      (inners_elsewhere (name_of v) (off_parent (name_of v) (inr (left_in (name_of v) (own_name v))))) parent_has same
    where
      relinked : Relinked (links_at s) (links_at t) (leaves_before fs ++ leaf_names_below l) [] (leaf_names_below r ++ leaves_after fs)
      relinked = taken_relinked old.holds old.distinct old.linked is.taken

      shown : {kind other : NodeType} {slots rest : List (ℕ × OpaqueNodePtr)} (prefix : List ℕ) → kind ≡ other → slots ≡ rest →
          ◌≡◌ {A = Option (Node OpaqueNodePtr (K × V))} (Some
          (inner_node (record { kind = kind; length_of = length prefix; stored = take P prefix }) slots))
          (Some (inner_node (record { kind = other; length_of = length prefix; stored = take P prefix }) rest))
      shown prefix a e = cc

      go : (w : Tree OpaqueNodePtr (K × V)) (one : join l r ≡ child c w no_child)
          (radix : IsRadix bytes P ((place ++ is.hole.radix.0) ++ c ∷ []) w) → Holds (node_at s) w → name_of w ≢ m →
          get t.inners (as_inner (name_of w)) ≡ get (prefix_written P
          (is.hole.radix.0 ++ c ∷ prefix_at bytes P ((place ++ is.hole.radix.0) ++ c ∷ []) w radix) w (remove s.inners (as_inner m))) (as_inner (name_of w)) →
          ParentHas (node_at t) fs (name_of w) → SameBut (node_at s) (node_at t) fs (rewritten w ++ m ∷ leaf_name n ∷ []) →
          NodeRemoved bytes P (node_at s) (node_at t) (links_at s) (links_at t) fs place m (leaf_name n) h l r b c (pair_of x) w
          (with_prefix P (is.hole.radix.0 ++ c ∷ prefix_at bytes P ((place ++ is.hole.radix.0) ++ c ∷ []) w radix) w)
      go (leaf k y) one radix holds apart new has same = raised_leaf old is.hole relinked c k y one has same
      go (inner k head cs) one radix holds apart new has same =
          let prefix = is.hole.radix.0 ++ c ∷ radix.0 in
          let (off, node, got, head_is, kids) = inner_at s k head (slots_of cs) holds.0 in
          let there : get t.inners (as_inner k) ≡ Some (with_header (headers.header_of P prefix) node) =
          new ∙ inner_changed_at (remove s.inners (as_inner m)) (as_inner k) (with_header (headers.header_of P prefix))
          ∙ ap (option_map (with_header (headers.header_of P prefix)))
          (inner_gone_elsewhere s.inners (as_inner m) (as_inner k) (λ e. apart (inner_name_one k m e)) ∙ got) in
          merged_node old is.hole relinked c k head cs one radix (node_at-inner t k off (Some (with_header (headers.header_of P prefix) node)) there ∙
          shown prefix (ap (λ z. z.kind) (head_is ∙ radix.1)) kids) has same

  -- the root is canonical for the pairs without the key
  pub compressed : IsLaidOut bytes P (node_at t) (links_at t) (root_with fs root (name_of v)) (remove_key bytes (bytes (pair_of x)) pairs)
      (plug fs (with_prefix P (is.hole.radix.0 ++ c ∷ prefix_at bytes P ((place ++ is.hole.radix.0) ++ c ∷ []) v is.radix) v))
  compressed =
      subst (λ k. IsLaidOut bytes P (node_at t) (links_at t) (root_with fs root k) (remove_key bytes (bytes (pair_of x)) pairs)
      (plug fs (with_prefix P (is.hole.radix.0 ++ c ∷ prefix_at bytes P ((place ++ is.hole.radix.0) ++ c ∷ []) v is.radix) v)))
      (name_of-with_prefix P (is.hole.radix.0 ++ c ∷ prefix_at bytes P ((place ++ is.hole.radix.0) ++ c ∷ []) v is.radix) v) (node_removed old removed)

  -- ---- what is touched

  touched_middle : Touched s.inners middle [] (as_inner m ∷ []) (map as_inner (rewritten v))
  touched_middle = go v (is.hole.radix.0 ++ c ∷ prefix_at bytes P ((place ++ is.hole.radix.0) ++ c ∷ []) v is.radix)
      (λ k i. (rewritten_there k i).1) (λ k i. off_node k (rewritten_in v k i))
    where
      freed : Touched s.inners (remove s.inners (as_inner m)) [] (as_inner m ∷ []) []
      freed = then_freed inner_cmp_total inner_cmp-IsAntisymmetric (touched_none s.inners) (as_inner m) node_there.1 (λ i. i)

      go : (w : Tree OpaqueNodePtr (K × V)) (prefix : List ℕ) →
          ((k : OpaqueNodePtr) → IsIn k (rewritten w) → get s.inners (as_inner k) ≢ None) →
          ((k : OpaqueNodePtr) → IsIn k (rewritten w) → k ≢ m) →
          Touched s.inners (prefix_written P prefix w (remove s.inners (as_inner m))) [] (as_inner m ∷ []) (map as_inner (rewritten w))
      go (leaf j y) prefix there apart = freed
      go (inner j head cs) prefix there apart =
          then_changed inner_cmp_total inner_cmp-IsAntisymmetric freed (as_inner j) (with_header (headers.header_of P prefix))
          (there j (inl refl))
          (λ e. there j (inl refl) (sym (inner_gone_elsewhere s.inners (as_inner m) (as_inner j) (λ f. apart j (inl refl) (inner_name_one j m f))) ∙ e))

  touched_inners : Touched s.inners t.inners [] (as_inner m ∷ []) (parents fs ++ map as_inner (rewritten v))
  touched_inners = subst (λ z. Touched s.inners z [] (as_inner m ∷ []) (parents fs ++ map as_inner (rewritten v))) (sym is.inners)
      (then_parent touched_middle fs (name_of v) (λ k up. (parent_there bytes P s fs m held.0 k up).1)
      (λ k up e. (parent_there bytes P s fs m held.0 k up).1 (sym (above_same k up) ∙ e)))

  inner_kinds : Each IsInner (parents fs ++ map as_inner (rewritten v))
  inner_kinds = parents_inner bytes P s fs m held.0 (map as_inner (rewritten v)) (rewritten_each IsInner v (λ k i. (rewritten_there k i).0))

  -- two names are freed, and at most four are changed
  pub compressed_touches : TouchesAtMost 0 2 4 s t
  compressed_touches =
      let beside = length-beside x.next x.previous in let above = length-parents fs (map as_inner (rewritten v)) in let own = length-rewritten v in
      touches_at_most s t 0 2 4 (taken_touched old.holds old.distinct old.linked is.taken) touched_inners tt (node_there.0, tt) inner_kinds
      (omega arith) (omega arith) (omega arith)

  -- ---- what is kept

  names_are : AreNames (names_of (plug fs gone))
      (names_of (plug fs (with_prefix P (is.hole.radix.0 ++ c ∷ prefix_at bytes P ((place ++ is.hole.radix.0) ++ c ∷ []) v is.radix) v))) []
      (both_names (n ∷ []) (as_inner m ∷ [])) (both_names (listed x.next ++ (listed x.previous ++ [])) (parents fs ++ map as_inner (rewritten v)))
  names_are =
      names_around fs gone kept [] (leaf_name n ∷ m ∷ [])
      (both_names (listed x.next ++ (listed x.previous ++ [])) (parents fs ++ map as_inner (rewritten v)))
      (record {
        placed_in = λ k i. absurd i;
        freed_in = λ k i. elim i [ inl e ↦ inr (leaf_below l r b (leaf_name n) (pair_of x) k e) | inr (inl e) ↦ inl e | inr (inr j) ↦ absurd j ];
        changed_in = λ k i. absurd i;
        old_stays = λ k i. elim (of_hole k i) [ inl a ↦ inl (subst (IsIn k) (sym removed.same_names) a) | inr a ↦ inr a ];
        new_comes = λ k i. inl (inr (left_in k (subst (IsIn k) removed.same_names i)));
      })
      (both_in (names_of (plug fs gone)) (listed x.next ++ (listed x.previous ++ [])) (parents fs ++ map as_inner (rewritten v))
      (beside_in old.holds old.linked is.taken.among)
      (parents_in fs gone (map as_inner (rewritten v)) (λ p i. each_in (λ q. IsIn (inner_name q) (names_of gone)) p (map as_inner (rewritten v))
      (rewritten_each (λ q. IsIn (inner_name q) (names_of gone)) v (λ k j. inr (left_in k (rewritten_in v k j)))) i)))
    where
      kept : Tree OpaqueNodePtr (K × V)
      kept = with_prefix P (is.hole.radix.0 ++ c ∷ prefix_at bytes P ((place ++ is.hole.radix.0) ++ c ∷ []) v is.radix) v

  -- and the rest stays
  pub compressed_in_place : ChangesInPlace bytes s t (Some (plug fs (inner m h (join l (child b (leaf (leaf_name n) (pair_of x)) r)))))
      (Some (plug fs (with_prefix P (is.hole.radix.0 ++ c ∷ prefix_at bytes P ((place ++ is.hole.radix.0) ++ c ∷ []) v is.radix) v)))
  compressed_in_place =
      in_place (footprint_of s t (taken_touched old.holds old.distinct old.linked is.taken) touched_inners tt (node_there.0, tt) inner_kinds) P
      names_are (node_removed_keeps_leaves old removed) (node_removed_keeps old removed)
