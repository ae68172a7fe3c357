-- A deletion below a node that keeps two or more children, from the equations of the store's maps: the new layout, which names stay, and what is touched.
use Rattle.std.proofs.Common.{◌≡◌, ◌≢◌, ℕ, suc, ◌<◌, ◌≤◌, List, [], ◌∷◌, ◌++◌, length, Some, None, refl, ap, sym, ◌∙◌, subst, append_assoc, arith, length-append, eq-eqb, inl, inr, option_map}
use Rattle.std.specs.List.{AllByRecursion as Each}
use Rattle.std.specs.FinMap.{get, insert, remove}
use Rattle.std.proofs.lemmas.Bool.{ne_eqb}
use Rattle.art_model.specs.Prelude.{Inner, remove_child, kind_capacity, kind_least, larger_kind, smaller_kind, without_child, leaf_name, inner_name, Nodes, change, NodeType, Node4, Node16, Node48, Node256, Leaf, InnerPtr, LeafPtr, LeafNode, OpaqueNodePtr, Tree, leaf, inner, Subtrees, child, no_child, canonical_header, kind_of, bytes_of, join, pairs_below, BytesRise, remove_key, Frame, fill, plug, leaves_before, leaves_after, HoldsPath, name_of, slots_of, names_of, node_at, links_at, pair_of, header_at, Inners, as_inner, parent_of, with_child_at, without_leaf, IsThere, IsIn, TouchesAtMost, ChangesInPlace}
use Rattle.art_parts.proofs.NameLemmas.{inner_cmp_total, inner_cmp-IsAntisymmetric}
use Rattle.art_nodes.proofs.StoreChanges.{inner_here, inner_elsewhere, inner_gone_elsewhere, inner_changed_at, inner_changed_elsewhere}
use Rattle.art_model.proofs.places.InHole.{both_in, in_hole, names_around, parents_in}
use Rattle.art_model.proofs.stores.Canonical.{IsLaidOut}
use Rattle.art_model.proofs.changes.InPlace.{AreNames, in_place, names_back}
use Rattle.art_model.proofs.leaves.LeafChild.{names_with_both, names_with_leaf}
use Rattle.art_model.proofs.leaves.Leaves.{listed, length-beside}
use Rattle.art_model.proofs.lists.Lists.{in_right}
use Rattle.art_model.proofs.lists.Pairwises.{Pairwise-before, Pairwise-after}
use Rattle.art_model.proofs.places.Paths.{IsHole, hole_of, root_with, leaf_names-plug}
use Rattle.art_model.proofs.leaves.Placed.{LeafTaken, taken_pairs, taken_relinked, taken_touched}
use Rattle.art_model.proofs.radix.Radix.{bytes_of-join, pairs_below-join}
use Rattle.art_model.proofs.changes.Removed.{ChildRemoved, child_removed_from, child_removed_keeps, child_removed_keeps_leaves}
use Rattle.art_model.proofs.stores.Slots.{IsInRange, kind_of-range, range_of_kind, kind_of-spare, kind_of-least}
use Rattle.art_model.proofs.stores.Stores.{IsParent, path_holds, parent_apart}
use Rattle.art_model.proofs.leaves.Taken.{LeafAmong, before_there, after_there, beside_in}
use Rattle.art_model.proofs.stores.Touches.{Touched, IsInner, both_names, footprint_of, touches_at_most, touched_none, then_changed, then_placed, then_freed}
use Rattle.art_model.proofs.stores.Writes.{shown, same_inner, parents_inner, inner_at, node_at-inner, same_but, parent_stays, parent_there, parent_written, inner_name_one, parents, length-parents, then_parent, with_child_at-elsewhere}

-- ---- the node without the child, and its kind

module _ {A : Type 0} where
  remove_child-above : (cs : Subtrees OpaqueNodePtr A) (b : ℕ) → Each (λ c. b < c) (bytes_of cs) → remove_child (slots_of cs) b ≡ slots_of cs
  remove_child-above no_child b h = refl
  remove_child-above (child c t cs) b h = rw (ne_eqb c b (λ e. let l = h.0 in omega arith)) (ap (λ z. (c, name_of t) ∷ z) (remove_child-above cs b h.1))

  -- the others stay
  remove_child-there : (l r : Subtrees OpaqueNodePtr A) (b : ℕ) (t : Tree OpaqueNodePtr A) → Each (λ c. c < b) (bytes_of l) →
      Each (λ c. b < c) (bytes_of r) → remove_child (slots_of (join l (child b t r))) b ≡ slots_of (join l r)
  remove_child-there no_child r b t low high = rw (eq-eqb b b refl) (remove_child-above r b high)
  remove_child-there (child c u l) r b t low high =
      rw (ne_eqb c b (λ e. let h = low.0 in omega arith)) (ap (λ z. (c, name_of u) ∷ z) (remove_child-there l r b t low.1 high))

-- a node of an inner kind that has more children than the kind's minimum keeps two
pub two_of_spare : (kind : NodeType) (n : ℕ) → kind ≢ Leaf → kind_least kind ≤ n → 2 ≤ n
two_of_spare Node4 n off h = omega arith
two_of_spare Node16 n off h = omega arith
two_of_spare Node48 n off h = omega arith
two_of_spare Node256 n off h = omega arith
two_of_spare Leaf n off h = absurd (off refl)

-- and so does one that is larger than a Node4
two_of_larger : (kind : NodeType) (n : ℕ) → kind ≢ Node4 → IsInRange kind (suc n) → 2 ≤ n
two_of_larger Node4 n off h = absurd (off refl)
two_of_larger Node16 n off h = let a = h.0 in omega arith
two_of_larger Node48 n off h = let a = h.0 in omega arith
two_of_larger Node256 n off h = omega arith
two_of_larger Leaf n off h = absurd h

-- with one child fewer than its kind's minimum it has the smaller kind's number
pub kind_of-smaller : (kind : NodeType) (n : ℕ) → kind ≢ Node4 → kind ≡ kind_of (suc n) → n < kind_least kind → smaller_kind kind ≡ kind_of n
kind_of-smaller kind n off e least =
    sym (kind_of-range (smaller_kind kind) n (fewer kind off (subst (λ k. IsInRange k (suc n)) (sym e) (range_of_kind (suc n))) least))
  where
    fewer : (k : NodeType) → k ≢ Node4 → IsInRange k (suc n) → n < kind_least k → IsInRange (smaller_kind k) n
    fewer Node4 off h l = absurd (off refl)
    fewer Node16 off h l = omega arith
    fewer Node48 off h l = (let a = h.0 in omega arith, omega arith)
    fewer Node256 off h l = (omega arith, omega arith)
    fewer Leaf off h l = absurd h

-- and the smaller kind has room for them
pub room_in_smaller : (kind : NodeType) (n : ℕ) → kind ≢ Node4 → n < kind_least kind → n ≤ kind_capacity (smaller_kind kind)
room_in_smaller Node4 n off h = absurd (off refl)
room_in_smaller Node16 n off h = omega arith
room_in_smaller Node48 n off h = omega arith
room_in_smaller Node256 n off h = omega arith
room_in_smaller Leaf n off h = omega arith

-- a smaller kind is another one
smaller_other : (kind : NodeType) → kind ≢ Node4 → kind ≢ Leaf → smaller_kind kind ≢ kind
smaller_other Node4 first end e = first refl
smaller_other Node16 first end e = absurd cc
smaller_other Node48 first end e = absurd cc
smaller_other Node256 first end e = absurd cc
smaller_other Leaf first end e = end refl

-- the next kinds of an inner one are inner ones
resized_inner : (kind : NodeType) → kind ≢ Leaf → (smaller_kind kind ≢ Leaf) × (larger_kind kind ≢ Leaf)
resized_inner Node4 proper = ((λ e. absurd cc), (λ e. absurd cc))
resized_inner Node16 proper = ((λ e. absurd cc), (λ e. absurd cc))
resized_inner Node48 proper = ((λ e. absurd cc), (λ e. absurd cc))
resized_inner Node256 proper = ((λ e. absurd cc), (λ e. absurd cc))
resized_inner Leaf proper = (proper, proper)

smaller_inner : (kind : NodeType) → kind ≢ Leaf → smaller_kind kind ≢ Leaf
smaller_inner kind proper = (resized_inner kind proper).0

pub larger_inner : (kind : NodeType) → kind ≢ Leaf → larger_kind kind ≢ Leaf
larger_inner kind proper = (resized_inner kind proper).1

-- ---- the leaf at the end of a path is removed

-- the store's leaves without the one of a name
pub record LeafGoes {K V : Type 0} (s t : Nodes K V) (n : LeafPtr) (x : LeafNode K V) : Type 0 where
  pub here : get s.leaves n ≡ Some x
  pub leaves : t.leaves ≡ without_leaf s.leaves n x

-- The leaf is removed, and its parent, which has more children than its kind's minimum, stays.
pub record ParentStays {K V : Type 0} (s t : Nodes K V) (f : Frame OpaqueNodePtr (K × V)) (n : LeafPtr) (x : LeafNode K V) : Type 0 where
  pub goes : LeafGoes s t n x
  pub spare : kind_least f.mark.kind ≤ length (bytes_of (join f.left f.right))
  pub inners : t.inners ≡ change s.inners (as_inner f.mark) (without_child f.byte)

-- The leaf is removed, and a node of the next smaller kind replaces its parent, which has its kind's minimum of children.
pub record ParentShrinks {K V : Type 0} (s t : Nodes K V) (f : Frame OpaqueNodePtr (K × V)) (fs : List (Frame OpaqueNodePtr (K × V))) (n : LeafPtr)
    (x : LeafNode K V) (q : InnerPtr) (node : Inner) : Type 0 where
  pub goes : LeafGoes s t n x
  pub least : length (bytes_of (join f.left f.right)) < kind_least f.mark.kind
  pub larger : f.mark.kind ≢ Node4
  pub kind : q.kind ≡ smaller_kind f.mark.kind
  pub there : get s.inners (as_inner f.mark) ≡ Some node
  pub fresh : get (remove s.inners (as_inner f.mark)) q ≡ None
  pub inners : t.inners ≡ with_child_at (parent_of fs) (inner_name q) (insert (remove s.inners (as_inner f.mark)) q (without_child f.byte node))

-- the node of a frame with the leaf in its hole
abbrev pub with_leaf_in : {K V : Type 0} → Frame OpaqueNodePtr (K × V) → LeafPtr → LeafNode K V → Tree OpaqueNodePtr (K × V)
with_leaf_in f n x = fill f (leaf (leaf_name n) (pair_of x))

-- a leaf below another node, in a tree that is laid out
pub record HasLeafBelow {K V : Type 0} (bytes : K × V → List ℕ) (P : ℕ) (s : Nodes K V) (root : OpaqueNodePtr) (pairs : List (K × V))
    (f : Frame OpaqueNodePtr (K × V)) (fs : List (Frame OpaqueNodePtr (K × V))) (n : LeafPtr) (x : LeafNode K V) : Type 0 where
  pub laid : IsLaidOut bytes P (node_at s) (links_at s) root pairs (plug fs (with_leaf_in f n x))

module _ {K V : Type 0} {bytes : K × V → List ℕ} {P : ℕ} {s : Nodes K V} {root : OpaqueNodePtr} {pairs : List (K × V)}
    {f : Frame OpaqueNodePtr (K × V)} {fs : List (Frame OpaqueNodePtr (K × V))} {n : LeafPtr} {x : LeafNode K V}
    (old : HasLeafBelow bytes P s root pairs f fs n x) where
  pub above_holds : HoldsPath (node_at s) f.mark fs
  above_holds = (path_holds (node_at s) fs (with_leaf_in f n x) old.laid.holds).0

  -- the parent, in a hole at a place
  pub hole : (place : List ℕ) × IsHole bytes P fs place (with_leaf_in f n x) (bytes (pair_of x))
  hole = hole_of bytes P fs (with_leaf_in f n x) (pair_of x) old.laid.radix
      (subst (IsIn (pair_of x)) (sym (pairs_below-join f.left (child f.byte (leaf (leaf_name n) (pair_of x)) f.right)))
      (in_right (pair_of x) (pairs_below f.left) (pair_of x ∷ pairs_below f.right) (inl refl)))

  bytes_are : bytes_of (join f.left (child f.byte (leaf (leaf_name n) (pair_of x)) f.right)) ≡ bytes_of f.left ++ f.byte ∷ bytes_of f.right
  bytes_are = bytes_of-join f.left (child f.byte (leaf (leaf_name n) (pair_of x)) f.right)

  rising : BytesRise (bytes_of f.left ++ f.byte ∷ bytes_of f.right)
  rising = subst BytesRise bytes_are hole.1.radix.3

  -- the number of children without the leaf
  pub one_more : length (bytes_of (join f.left (child f.byte (leaf (leaf_name n) (pair_of x)) f.right))) ≡ suc (length (bytes_of (join f.left f.right)))
  one_more =
      let a = ap length bytes_are in let b = length-append (bytes_of f.left) (f.byte ∷ bytes_of f.right) in
      let c = ap length (bytes_of-join f.left f.right) in let d = length-append (bytes_of f.left) (bytes_of f.right) in omega arith

  -- the bytes on both sides of the leaf's
  pub low : Each (λ c. c < f.byte) (bytes_of f.left)
  low = Pairwise-before ◌<◌ (bytes_of f.left) (bytes_of f.right) f.byte rising

  pub high : Each (λ c. f.byte < c) (bytes_of f.right)
  high = Pairwise-after ◌<◌ (bytes_of f.left) (bytes_of f.right) f.byte rising

  pub slots_left : (slots : List (ℕ × OpaqueNodePtr)) → slots ≡ slots_of (join f.left (child f.byte (leaf (leaf_name n) (pair_of x)) f.right)) →
      remove_child slots f.byte ≡ slots_of (join f.left f.right)
  slots_left slots e = ap (λ z. remove_child z f.byte) e ∙ remove_child-there f.left f.right f.byte (leaf (leaf_name n) (pair_of x)) low high

  -- the parent as the store has it
  pub parent_is : (f.mark.kind ≢ Leaf) × (node : Inner) × (get s.inners (as_inner f.mark) ≡ Some node) × (header_at f.mark.kind node ≡ f.header) ×
      (node.children ≡ slots_of (join f.left (child f.byte (leaf (leaf_name n) (pair_of x)) f.right)))
  parent_is = inner_at s f.mark f.header (slots_of (join f.left (child f.byte (leaf (leaf_name n) (pair_of x)) f.right)))
      (path_holds (node_at s) fs (with_leaf_in f n x) old.laid.holds).1.0

  parent_used : get s.inners (as_inner f.mark) ≢ None
  parent_used e = let got = parent_is.2 in absurd (cc (got, e))

  -- it has the kind of its number of children
  kind_is : f.mark.kind ≡ kind_of (suc (length (bytes_of (join f.left f.right))))
  kind_is = ap (λ z. z.kind) parent_is.3 ∙ ap (λ z. z.kind) hole.1.radix.1 ∙ ap kind_of one_more

  -- the header with one child fewer
  header_is : (kind : NodeType) (node : Inner) → get s.inners (as_inner f.mark) ≡ Some node →
      kind ≡ kind_of (length (bytes_of (join f.left f.right))) →
      header_at kind (without_child f.byte node) ≡ canonical_header P hole.1.radix.0 (length (bytes_of (join f.left f.right)))
  header_is kind node there e =
      let same : node ≡ parent_is.1 = let both = parent_is.2 in cc in
      let head : header_at f.mark.kind node ≡ canonical_header P hole.1.radix.0 (suc (length (bytes_of (join f.left f.right)))) =
      ap (header_at f.mark.kind) same ∙ parent_is.3 ∙ hole.1.radix.1 ∙ ap (canonical_header P hole.1.radix.0) one_more in
      λ i. record { kind = e i; length_of = (head i).length_of; stored = (head i).stored }

  -- ---- the leaf

  -- it is among those of the tree
  pub leaf_among : get s.leaves n ≡ Some x → LeafAmong s (plug fs (with_leaf_in f n x)) (leaves_before (f ∷ fs)) (leaves_after (f ∷ fs)) n x
  leaf_among here = record {
    list = leaf_names-plug (f ∷ fs) (leaf (leaf_name n) (pair_of x))
        ∙ append_assoc (leaves_before (f ∷ fs)) (leaf_name n ∷ []) (leaves_after (f ∷ fs));
    here = here;
  }

  -- and its neighbours are in the store
  pub links_there : get s.leaves n ≡ Some x → IsThere s.leaves x.previous × IsThere s.leaves x.next
  links_there here = (before_there old.laid.holds old.laid.linked (leaf_among here), after_there old.laid.holds old.laid.linked (leaf_among here))

  module _ {t : Nodes K V} (goes : LeafGoes s t n x) where
    taken : LeafTaken s t (plug fs (with_leaf_in f n x)) (leaves_before (f ∷ fs)) (leaves_after (f ∷ fs)) n x
    taken = record { among = leaf_among goes.here; leaves = goes.leaves }

    -- other leaves keep their pairs
    pairs_stay : (p : LeafPtr) → (IsIn (leaf_name p) (f.mark ∷ leaf_name n ∷ []) → ⊥) →
        option_map pair_of (get t.leaves p) ≡ option_map pair_of (get s.leaves p)
    pairs_stay p off = taken_pairs old.laid.holds old.laid.distinct old.laid.linked taken p (λ e. off (inr (inl (ap leaf_name (sym e)))))

    beside_stay : (p : LeafPtr) → IsIn p (listed x.next ++ (listed x.previous ++ [])) → IsIn (leaf_name p) (names_of (plug fs (with_leaf_in f n x)))
    beside_stay = beside_in old.laid.holds old.laid.linked taken.among

    leaves_touched : Touched s.leaves t.leaves [] (n ∷ []) (listed x.next ++ (listed x.previous ++ []))
    leaves_touched = taken_touched old.laid.holds old.laid.distinct old.laid.linked taken

  -- ---- the parent stays

  module _ {t : Nodes K V} (stays : ParentStays s t f n x) where
    rest_stays : (k : OpaqueNodePtr) → k ≢ f.mark → get t.inners (as_inner k) ≡ get s.inners (as_inner k)
    rest_stays k off = ap (λ z. get z (as_inner k)) stays.inners
        ∙ inner_changed_elsewhere s.inners (as_inner f.mark) (as_inner k) (without_child f.byte) (λ e. off (inner_name_one k f.mark e))

    above_stays : (k : OpaqueNodePtr) → IsParent fs k → node_at t k ≡ node_at s k
    above_stays k is =
        same_inner s t k (parent_there bytes P s fs f.mark above_holds k is).0
        (rest_stays k (λ e. parent_apart (node_at s) (node_at t) fs (with_leaf_in f n x) old.laid.holds old.laid.distinct k is (inl (sym e))))

    -- the node has one child fewer
    child_out : ChildRemoved bytes P (node_at s) (node_at t) (links_at s) (links_at t) fs hole.0 f.mark f.mark
        (leaf_name n) f.header f.left f.right f.byte (pair_of x)
    child_out =
        let (off, node, got, head, kids) = parent_is in
        let is : get t.inners (as_inner f.mark) ≡ Some (without_child f.byte node) =
        ap (λ z. get z (as_inner f.mark)) stays.inners ∙ inner_changed_at s.inners (as_inner f.mark) (without_child f.byte)
        ∙ ap (option_map (without_child f.byte)) got in
        record {
          hole = hole.1;
          two = two_of_spare f.mark.kind (length (bytes_of (join f.left f.right))) off stays.spare;
          named = inl refl;
          same_kind = λ e. refl;
          there = node_at-inner t f.mark off (Some (without_child f.byte node)) is ∙
              shown (header_is f.mark.kind node got (kind_of-spare f.mark.kind
              (length (bytes_of (join f.left f.right))) kind_is stays.spare)) (slots_left node.children kids);
          parent = parent_stays (node_at s) (node_at t) fs f.mark above_holds above_stays;
          same = same_but s t fs (f.mark ∷ leaf_name n ∷ []) (λ p i used. pairs_stay stays.goes p i) (λ k kind up i used. rest_stays k (λ e. i (inl (sym e))));
          relinked = taken_relinked old.laid.holds old.laid.distinct old.laid.linked (taken stays.goes);
        }

  module _ {t : Nodes K V} (stays : ParentStays s t f n x) where
    -- the tree without the leaf
    abbrev pub left_out : Tree OpaqueNodePtr (K × V)
    left_out = inner f.mark (canonical_header P hole.1.radix.0 (length (bytes_of (join f.left f.right)))) (join f.left f.right)

    -- the root is canonical for the pairs without the one of the leaf
    pub stays_laid_out : IsLaidOut bytes P (node_at t) (links_at t) (root_with fs root f.mark) (remove_key bytes (bytes (pair_of x)) pairs) (plug fs left_out)
    unfolding child_out
    stays_laid_out = child_removed_from old.laid (child_out stays)

    inners_touched : Touched s.inners t.inners [] [] (as_inner f.mark ∷ [])
    inners_touched =
        subst (λ z. Touched s.inners z [] [] (as_inner f.mark ∷ [])) (sym stays.inners)
        (then_changed inner_cmp_total inner_cmp-IsAntisymmetric (touched_none s.inners) (as_inner f.mark) (without_child f.byte) parent_used parent_used)

    are_names : AreNames (names_of (plug fs (with_leaf_in f n x))) (names_of (plug fs left_out)) [] (leaf_name n ∷ [])
        (both_names (listed x.next ++ (listed x.previous ++ [])) (as_inner f.mark ∷ []))
    are_names =
        names_around fs (with_leaf_in f n x) left_out [] (leaf_name n ∷ [])
        (both_names (listed x.next ++ (listed x.previous ++ [])) (as_inner f.mark ∷ []))
        (names_back (names_with_leaf f.left f.right f.byte (leaf_name n) (pair_of x) f.mark
        (canonical_header P hole.1.radix.0 (length (bytes_of (join f.left f.right)))) f.header))
        (both_in (names_of (plug fs (with_leaf_in f n x))) (listed x.next ++ (listed x.previous ++ [])) (as_inner f.mark ∷ []) (beside_stay stays.goes)
        (λ p i. elim i [ inl e ↦ in_hole fs (with_leaf_in f n x) (inner_name p) (inl (ap inner_name e)) | inr j ↦ absurd j ]))

    -- in place
    pub stays_in_place : ChangesInPlace bytes s t (Some (plug fs (with_leaf_in f n x))) (Some (plug fs left_out))
    unfolding child_out
    stays_in_place =
        in_place (footprint_of s t (leaves_touched stays.goes) inners_touched tt tt (parent_is.0, tt)) P are_names
        (child_removed_keeps_leaves old.laid (child_out stays)) (child_removed_keeps old.laid (child_out stays))

    -- one name is freed, and at most three are changed
    pub stays_touches : TouchesAtMost 0 1 3 s t
    stays_touches =
        let beside = length-beside x.next x.previous in
        touches_at_most s t 0 1 3 (leaves_touched stays.goes) inners_touched tt tt (parent_is.0, tt) (omega arith) (omega arith) (omega arith)

  -- ---- a smaller node replaces the parent

  module _ {t : Nodes K V} {q : InnerPtr} {node : Inner} (shrinks : ParentShrinks s t f fs n x q node) where
    -- the inner nodes when the smaller node is placed
    abbrev pub placed : Inners
    placed = insert (remove s.inners (as_inner f.mark)) q (without_child f.byte node)

    off : q.kind ≢ Leaf
    off = subst (λ kind. kind ≢ Leaf) (sym shrinks.kind) (smaller_inner f.mark.kind parent_is.0)

    not_old : q ≢ as_inner f.mark
    not_old e = smaller_other f.mark.kind shrinks.larger parent_is.0 (sym shrinks.kind ∙ ap (λ z. z.kind) e)

    was_free : get s.inners q ≡ None
    was_free = sym (inner_gone_elsewhere s.inners (as_inner f.mark) q not_old) ∙ shrinks.fresh

    node_was_free : node_at s (inner_name q) ≡ None
    node_was_free = node_at-inner s (inner_name q) off None was_free

    -- names in use but the parent's
    placed_elsewhere : (k : OpaqueNodePtr) → k ≢ f.mark → get s.inners (as_inner k) ≢ None → get placed (as_inner k) ≡ get s.inners (as_inner k)
    placed_elsewhere k other used =
        inner_elsewhere (remove s.inners (as_inner f.mark)) q (as_inner k) (without_child f.byte node) (λ e. used (ap (get s.inners) e ∙ was_free))
        ∙ inner_gone_elsewhere s.inners (as_inner f.mark) (as_inner k) (λ e. other (inner_name_one k f.mark e))

    above_used : (k : OpaqueNodePtr) → IsParent fs k → get s.inners (as_inner k) ≢ None
    above_used k up = (parent_there bytes P s fs f.mark above_holds k up).1

    pub above_same : (k : OpaqueNodePtr) → IsParent fs k → get placed (as_inner k) ≡ get s.inners (as_inner k)
    above_same k up = placed_elsewhere k (λ e. parent_apart (node_at s) (node_at t) fs
        (with_leaf_in f n x) old.laid.holds old.laid.distinct k up (inl (sym e))) (above_used k up)

    all_inners : (k : OpaqueNodePtr) → get t.inners (as_inner k) ≡ get (with_child_at (parent_of fs) (inner_name q) placed) (as_inner k)
    all_inners k = ap (λ z. get z (as_inner k)) shrinks.inners

    got : get t.inners q ≡ Some (without_child f.byte node)
    got = all_inners (inner_name q) ∙ with_child_at-elsewhere fs (inner_name q) placed (inner_name q) (λ up. above_used (inner_name q) up was_free) ∙
        inner_here (remove s.inners (as_inner f.mark)) q (without_child f.byte node)

    rest_same : (k : OpaqueNodePtr) → k.kind ≢ Leaf → (IsParent fs k → ⊥) → k ≢ f.mark → node_at s k ≢ None →
        get t.inners (as_inner k) ≡ get s.inners (as_inner k)
    rest_same k kind up other used =
        all_inners k ∙ with_child_at-elsewhere fs (inner_name q) placed k up
        ∙ placed_elsewhere k other (λ e. used (node_at-inner s k kind None e))

    -- another node has one child fewer, in the old one's place
    child_out_of_smaller : ChildRemoved bytes P (node_at s) (node_at t) (links_at s) (links_at t) fs hole.0 f.mark (inner_name q)
        (leaf_name n) f.header f.left f.right f.byte (pair_of x)
    child_out_of_smaller =
        let (proper, own, is, head, kids) = parent_is in
        let same : node ≡ own = let there = shrinks.there in cc in
        let smaller : q.kind ≡ kind_of (length (bytes_of (join f.left f.right))) =
        shrinks.kind ∙ kind_of-smaller f.mark.kind (length (bytes_of (join f.left f.right))) shrinks.larger kind_is shrinks.least in
        record {
          hole = hole.1;
          two = two_of_larger f.mark.kind (length (bytes_of (join f.left f.right))) shrinks.larger
              (subst (λ k. IsInRange k (suc (length (bytes_of (join f.left f.right))))) (sym kind_is)
              (range_of_kind (suc (length (bytes_of (join f.left f.right))))));
          named = inr node_was_free;
          same_kind =
              λ e. absurd (kind_of-least f.mark.kind (length (bytes_of (join f.left f.right))) shrinks.larger shrinks.least
              (ap (λ z. z.kind) head ∙ e));
          there = node_at-inner t (inner_name q) off (Some (without_child f.byte node)) got ∙
              shown (header_is q.kind node shrinks.there smaller) (slots_left node.children (ap (λ z. z.children) same ∙ kids));
          parent = parent_written bytes P s t placed fs hole.0 f.mark (inner_name q) hole.1.path above_holds above_same (λ k up. all_inners k);
          same = same_but s t fs (f.mark ∷ leaf_name n ∷ []) (λ p i used. pairs_stay shrinks.goes p i)
              (λ k kind up i used. rest_same k kind up (λ e. i (inl (sym e))) used);
          relinked = taken_relinked old.laid.holds old.laid.distinct old.laid.linked (taken shrinks.goes);
        }

    -- the tree without the leaf
    abbrev pub shrunk : Tree OpaqueNodePtr (K × V)
    shrunk = inner (inner_name q) (canonical_header P hole.1.radix.0 (length (bytes_of (join f.left f.right)))) (join f.left f.right)

    -- the root is canonical for the pairs without the one of the leaf
    pub shrinks_laid_out : IsLaidOut bytes P (node_at t) (links_at t) (root_with fs root (inner_name q))
        (remove_key bytes (bytes (pair_of x)) pairs) (plug fs shrunk)
    unfolding child_out_of_smaller
    shrinks_laid_out = child_removed_from old.laid child_out_of_smaller

    parent_touched : Touched s.inners t.inners (q ∷ []) (as_inner f.mark ∷ []) (parents fs ++ [])
    parent_touched = subst (λ z. Touched s.inners z (q ∷ []) (as_inner f.mark ∷ []) (parents fs ++ [])) (sym shrinks.inners)
        (then_parent (then_placed inner_cmp_total inner_cmp-IsAntisymmetric
        (then_freed inner_cmp_total inner_cmp-IsAntisymmetric (touched_none s.inners) (as_inner f.mark) parent_used (λ i. i)) q
        (without_child f.byte node) shrinks.fresh
        (λ i. elim i [ inl e ↦ not_old (sym e) | inr j ↦ j ])) fs (inner_name q) above_used (λ k up e. above_used k up (sym (above_same k up) ∙ e)))

    above_inner : Each IsInner (parents fs ++ [])
    above_inner = parents_inner bytes P s fs f.mark above_holds [] tt

    smaller_names : AreNames (names_of (plug fs (with_leaf_in f n x))) (names_of (plug fs shrunk)) (inner_name q ∷ []) (leaf_name n ∷ f.mark ∷ [])
        (both_names (listed x.next ++ (listed x.previous ++ [])) (parents fs ++ []))
    smaller_names = names_around fs (with_leaf_in f n x) shrunk (inner_name q ∷ []) (leaf_name n ∷ f.mark ∷ [])
        (both_names (listed x.next ++ (listed x.previous ++ [])) (parents fs ++ []))
        (names_back (names_with_both f.left f.right f.byte (leaf_name n) (pair_of x) (inner_name q) f.mark
        (canonical_header P hole.1.radix.0 (length (bytes_of (join f.left f.right)))) f.header))
        (both_in (names_of (plug fs (with_leaf_in f n x))) (listed x.next ++ (listed x.previous ++ [])) (parents fs ++ []) (beside_stay shrinks.goes)
        (parents_in fs (with_leaf_in f n x) [] (λ p i. absurd i)))

    -- in place
    pub shrinks_in_place : ChangesInPlace bytes s t (Some (plug fs (with_leaf_in f n x))) (Some (plug fs shrunk))
    unfolding child_out_of_smaller
    shrinks_in_place =
        in_place (footprint_of s t (leaves_touched shrinks.goes) parent_touched (off, tt) (parent_is.0, tt) above_inner) P smaller_names
        (child_removed_keeps_leaves old.laid child_out_of_smaller) (child_removed_keeps old.laid child_out_of_smaller)

    -- one name is placed, two are freed, and at most three are changed
    pub shrinks_touches : TouchesAtMost 1 2 3 s t
    shrinks_touches =
        let beside = length-beside x.next x.previous in let above = length-parents fs [] in
        touches_at_most s t 1 2 3 (leaves_touched shrinks.goes) parent_touched (off, tt) (parent_is.0, tt) above_inner (omega arith) (omega arith) (omega arith)
