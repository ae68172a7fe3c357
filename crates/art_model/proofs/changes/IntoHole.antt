-- A leaf replaces all that is in the hole, which is freed, from the equations of the store's maps: the new layout, and what is touched.
use Rattle.std.proofs.Common.{◌≡◌, ◌≢◌, ℕ, List, [], ◌∷◌, ◌++◌, length, length-append, map, ◌+◌, ap₂, true, false, not, Some, None, refl, ap, sym, ◌∙◌, subst, arith, inl, inr, option_map}
use Rattle.std.specs.List.{AllByRecursion as Each}
use Rattle.std.specs.FinMap.{get}
use Rattle.std.proofs.lemmas.List.{length-map}
use Rattle.art_model.specs.Prelude.{leaf_name, inner_name, Nodes, Leaf, LeafPtr, InnerPtr, LeafNode, OpaqueNodePtr, are_related, are_same, first_of, only_or_count, with_key, related_to, overwrite, overwrite_reply, replace_related, add_in_order, Tree, leaf, Subtrees, pairs_of, Frame, plug, leaves_before, leaves_after, names_before, names_after, HoldsPath, leaf_node, names_of, names_below, leaf_names, leaf_names_below, entries_of, name_of, first_or, last_or, AreDistinct, AreLinked, Holds, content_at, node_at, tree_node, links_at, pair_of, IsUsed, as_inner, parent_of, with_child_at, with_leaf, IsThere, IsIn, Footprint, ChangesInPlace, Frees}
use Rattle.art_model.specs.Footprints.{PlacesOneFor}
use Rattle.art_model.proofs.pairs.Between.{replace_related-between}
use Rattle.art_model.proofs.stores.Canonical.{IsLaidOut}
use Rattle.art_model.proofs.places.InHole.{both_in, names_around, parents_in, with_key-hole}
use Rattle.art_model.proofs.changes.InPlace.{in_place}
use Rattle.art_model.proofs.changes.Kept.{KeepLeaves}
use Rattle.art_model.proofs.leaves.Chains.{AreThere, are_there, previous_there, next_there, leaf_comes, relinked_beside, beside_place}
use Rattle.art_model.proofs.lists.Filters.{filter_all}
use Rattle.art_model.proofs.leaves.Leaves.{listed, length-beside, with_leaf_here, with_leaf_pair, touched_with_leaf}
use Rattle.art_model.proofs.leaves.Links.{relink}
use Rattle.art_model.proofs.lists.Lists.{Each-left, Each-weaker, filter_none, each_in, each_from, in_left, in_right, in_either, in_around, in_map, each_map, Each-append}
use Rattle.art_model.proofs.stores.Names.{all_taken, among_below, free_apart, taken_distinct, taken_in, takes_leaves, IsTaken}
use Rattle.art_model.proofs.changes.Overwritten.{LeafAlone, leaf_alone, leaf_alone_keeps, leaf_alone_keeps_leaves}
use Rattle.art_model.proofs.places.Paths.{IsHole, leaf_names-plug, pairs_of-leaves, related_at, root_with}
use Rattle.art_model.proofs.lists.Pairwises.{Pairwise-left, Pairwise-right, Pairwise-across, Pairwise-append}
use Rattle.art_model.proofs.keys.Keys.{not_same}
use Rattle.art_model.proofs.pairs.Puts.{overwrite-new, overwrite_reply-new}
use Rattle.art_model.proofs.stores.Stores.{path_holds, IsParent, SameBut, before_apart, after_apart, parent_apart}
use Rattle.art_model.proofs.stores.Touches.{Touched, both_names, footprint_of, touched_none}
use Rattle.art_model.proofs.stores.Views.{held_in_inner, same_inner_held, same_leaf}
use Rattle.art_model.proofs.stores.Writes.{node_at-leaf, parents, parent_there, parents_inner, parent_written, then_parent, same_but, with_child_at-elsewhere, length-parents}

-- A leaf is placed between the leaves next to the hole, the parent names it, and then all names of the hole are freed. All keys in the hole are related to the new one.
pub record IntoHole {K V : Type 0} (bytes : K × V → List ℕ) (P : ℕ) (s u t : Nodes K V) (fs : List (Frame OpaqueNodePtr (K × V))) (place : List ℕ)
    (node : Tree OpaqueNodePtr (K × V)) (n : LeafPtr) (x : LeafNode K V) : Type 0 where
  pub hole : IsHole bytes P fs place node (bytes (pair_of x))
  pub related : Each (λ y. are_related (bytes (pair_of x)) (bytes y) ≡ true) (pairs_of node)
  pub unequal : Each (λ y. bytes y ≢ bytes (pair_of x)) (pairs_of node)
  pub last : option_map leaf_name x.previous ≡ last_or (leaves_before fs) None
  pub first : option_map leaf_name x.next ≡ first_or (leaves_after fs) None
  pub fresh : get s.leaves n ≡ None
  pub leaves : u.leaves ≡ with_leaf s.leaves n x
  pub inners : u.inners ≡ with_child_at (parent_of fs) (leaf_name n) s.inners
  pub freed : Frees (names_of node) u t

-- ---- the name of a leaf next to the hole is none of the hole's

module _ {N A : Type 0} where
  leaf_below_in : (cs : Subtrees N A) (k : N) → IsIn k (leaf_names_below cs) → IsIn k (names_below cs)
  leaf_below_in cs k i =
      each_in (λ n. IsIn n (names_below cs)) k (leaf_names_below cs)
      (among_below takes_leaves (λ n. IsIn n (names_below cs)) cs (each_from (λ n. IsIn n (names_below cs)) (names_below cs) (λ n j. j))) i

  pub leaves_before_in : (fs : List (Frame N A)) (k : N) → IsIn k (leaves_before fs) → IsIn k (names_before fs)
  leaves_before_in [] k i = i
  leaves_before_in (f ∷ fs) k i = elim (in_either k (leaves_before fs) (leaf_names_below f.left) i) [
    | inl j ↦ in_left k (names_before fs) (f.mark ∷ names_below f.left) (leaves_before_in fs k j)
    | inr j ↦ in_right k (names_before fs) (f.mark ∷ names_below f.left) (inr (leaf_below_in f.left k j))
  ]

  pub leaves_after_in : (fs : List (Frame N A)) (k : N) → IsIn k (leaves_after fs) → IsIn k (names_after fs)
  leaves_after_in [] k i = i
  leaves_after_in (f ∷ fs) k i = elim (in_either k (leaf_names_below f.right) (leaves_after fs) i) [
    | inl j ↦ in_left k (names_below f.right) (names_after fs) (leaf_below_in f.right k j)
    | inr j ↦ in_right k (names_below f.right) (names_after fs) (leaves_after_in fs k j)
  ]

-- ---- what was freed after a footprint

module _ {K V : Type 0} {s u t : Nodes K V} {placed changed : List OpaqueNodePtr} where
  then_freed : (freed : List OpaqueNodePtr) → Footprint s u placed [] changed → Frees freed u t → Each (IsUsed s) freed →
      ((k : OpaqueNodePtr) → IsIn k freed → IsIn k changed → ⊥) → Footprint s t placed freed changed
  then_freed freed print frees used apart = record {
    are_placed = each_from (λ k. (content_at s k ≡ None) × IsUsed t k) placed (λ k i.
        let was = each_in (λ k. (content_at s k ≡ None) × IsUsed u k) k placed print.are_placed i in
        (was.0, λ none. was.1 (sym (frees.beside k (λ j. each_in (IsUsed s) k freed used j was.0) (λ z. z)) ∙ none)));
    are_freed = each_from (λ k. IsUsed s k × (content_at t k ≡ None)) freed (λ k i. (each_in (IsUsed s) k freed used i, frees.gone k i (λ z. z)));
    are_changed = each_from (λ k. IsUsed s k × IsUsed t k) changed (λ k i.
        let was = each_in (λ k. IsUsed s k × IsUsed u k) k changed print.are_changed i in
        (was.0, λ none. was.1 (sym (frees.beside k (λ j. apart k j i) (λ z. z)) ∙ none)));
    others = λ k p f c. frees.beside k f (λ z. z) ∙ print.others k p (λ z. z) c;
  }

module _ {K V : Type 0} {bytes : K × V → List ℕ} {P : ℕ} {s u t : Nodes K V} {root : OpaqueNodePtr} {pairs : List (K × V)}
    {fs : List (Frame OpaqueNodePtr (K × V))} {place : List ℕ} {node : Tree OpaqueNodePtr (K × V)} {n : LeafPtr} {x : LeafNode K V}
    (old : IsLaidOut bytes P (node_at s) (links_at s) root pairs (plug fs node)) (into : IntoHole bytes P s u t fs place node n x) where
  abbrev new : K × V
  new = pair_of x

  abbrev before : List OpaqueNodePtr
  before = leaves_before fs

  abbrev after : List OpaqueNodePtr
  after = leaves_after fs

  whole_leaves : AreDistinct (before ++ leaf_names node ++ after)
  whole_leaves = subst AreDistinct (leaf_names-plug fs node) (taken_distinct takes_leaves (plug fs node) old.distinct)

  outer : AreDistinct (before ++ after)
  outer = Pairwise-append ◌≢◌ before after (Pairwise-left ◌≢◌ before (leaf_names node)
      (Pairwise-left ◌≢◌ (before ++ leaf_names node) after whole_leaves)) (Pairwise-right ◌≢◌ (before ++ leaf_names node) after whole_leaves)
      (Each-left (λ k. Each (λ y. k ≢ y) after) before (leaf_names node) (Pairwise-across ◌≢◌ (before ++ leaf_names node) after whole_leaves))

  others_there : AreThere s (before ++ after)
  others_there p i = are_there s (plug fs node) old.holds p
      (subst (IsIn (leaf_name p)) (sym (leaf_names-plug fs node)) (in_around (leaf_name p) before (leaf_names node) after i))

  -- the neighbours of the hole are in the store
  hole_previous : IsThere s.leaves x.previous
  hole_previous = previous_there s before after x.previous others_there into.last

  hole_next : IsThere s.leaves x.next
  hole_next = next_there s before after x.next others_there into.first

  was_free : node_at s (leaf_name n) ≡ None
  was_free = node_at-leaf s n ∙ ap (λ o. option_map leaf_node (option_map pair_of o)) into.fresh

  hole_held : Holds (node_at s) node
  hole_held = (path_holds (node_at s) fs node old.holds).1

  above : HoldsPath (node_at s) (name_of node) fs
  above = (path_holds (node_at s) fs node old.holds).0

  -- names that are none of the hole's
  new_apart : IsIn (leaf_name n) (names_of node) → ⊥
  new_apart i = each_in (λ k. k ≢ leaf_name n) (leaf_name n) (names_of node) (free_apart (node_at s) (leaf_name n) was_free node hole_held) i refl

  beside_apart : (k : OpaqueNodePtr) → IsIn k (before ++ after) → IsIn k (names_of node) → ⊥
  beside_apart k i j = elim (in_either k before after i) [
    | inl h ↦ before_apart (node_at s) (node_at t) fs node old.holds old.distinct k (leaves_before_in fs k h) j
    | inr h ↦ after_apart (node_at s) (node_at t) fs node old.holds old.distinct k j (leaves_after_in fs k h)
  ]

  up_apart : (k : OpaqueNodePtr) → IsParent fs k → IsIn k (names_of node) → ⊥
  up_apart k up i = parent_apart (node_at s) (node_at t) fs node old.holds old.distinct k up i

  -- they hold what they held before the hole's were freed
  kept_leaf_at : (p : LeafPtr) → (IsIn (leaf_name p) (names_of node) → ⊥) → get t.leaves p ≡ get u.leaves p
  kept_leaf_at p off = same_leaf (get t.leaves p) (get u.leaves p) (into.freed.beside (leaf_name p) off (λ z. z))

  kept_inner_at : (k : OpaqueNodePtr) → k.kind ≢ Leaf → (IsIn k (names_of node) → ⊥) → get t.inners (as_inner k) ≡ get u.inners (as_inner k)
  kept_inner_at k kind off =
      same_inner_held K V (get t.inners (as_inner k)) (get u.inners (as_inner k))
      (sym (held_in_inner t k.kind k.slot kind) ∙ into.freed.beside k off (λ z. z) ∙ held_in_inner u k.kind k.slot kind)

  -- what was placed and written before that
  placed_same : SameBut (node_at s) (node_at u) fs []
  placed_same = same_but s u fs [] (λ p off used. ap (λ z. option_map pair_of (get z p)) into.leaves
      ∙ with_leaf_pair s.leaves n x p (λ e. used (ap (get s.leaves) e ∙ into.fresh)))
      (λ k kind up off used. ap (λ z. get z (as_inner k)) into.inners ∙ with_child_at-elsewhere fs (leaf_name n) s.inners k up)

  hole_linked : AreLinked (links_at t) None (leaf_names (plug fs (leaf (leaf_name n) new))) None
  hole_linked =
      let comes =
      leaf_comes s t before after n x outer others_there into.fresh into.last into.first
      (λ p i. kept_leaf_at p (off p i) ∙ ap (λ z. get z p) into.leaves) in
      subst (λ ks. AreLinked (links_at t) None ks None) (sym (leaf_names-plug fs (leaf (leaf_name n) new)))
      (relink (links_at s) (links_at t) before (leaf_name n ∷ []) after outer (relinked_beside comes) (leaf_names node)
      (subst (λ ks. AreLinked (links_at s) None ks None) (leaf_names-plug fs node) old.linked))
    where
      off : (p : LeafPtr) → IsIn (leaf_name p) (before ++ leaf_name n ∷ after) → IsIn (leaf_name p) (names_of node) → ⊥
      off p i j = elim (in_either (leaf_name p) before (leaf_name n ∷ after) i) [
        | inl h ↦ beside_apart (leaf_name p) (in_left (leaf_name p) before after h) j
        | inr h ↦ elim h [
          | inl e ↦ new_apart (subst (λ k. IsIn k (names_of node)) (sym e) j)
          | inr l ↦ beside_apart (leaf_name p)
              (in_right (leaf_name p) before after l) j
        ]
      ]

  hole_alone : LeafAlone bytes P (node_at s) (node_at t) (links_at t) fs place node (leaf_name n) new
  hole_alone = record {
    hole = into.hole;
    named = inr was_free;
    there = node_at-leaf t n ∙ ap (λ o. option_map leaf_node (option_map pair_of o))
        (kept_leaf_at n new_apart ∙ ap (λ z. get z n) into.leaves
        ∙ with_leaf_here s.leaves n x (λ e. hole_previous n e into.fresh) (λ e. hole_next n e into.fresh));
    parent = parent_written bytes P s t s.inners fs place (name_of node) (leaf_name n) into.hole.path above (λ k up. refl)
        (λ k up. kept_inner_at k (parent_there bytes P s fs (name_of node) above k up).0 (up_apart k up) ∙ ap (λ z. get z (as_inner k)) into.inners);
    same = λ k up off used. ap (option_map (tree_node k.kind)) (into.freed.beside k off (λ z. z)) ∙ placed_same k up (λ z. z) used;
    linked = hole_linked;
  }

  -- ---- the pairs

  all_related : related_to bytes (bytes new) (pairs_of node) ≡ pairs_of node
  all_related = filter_all (λ y. are_related (bytes new) (bytes y)) (pairs_of node) into.related

  none_left : replace_related bytes new (pairs_of node) ≡ new ∷ []
  none_left =
      ap (add_in_order bytes new) (filter_none (λ y. not (are_related (bytes new) (bytes y))) (pairs_of node)
      (Each-weaker (λ y. are_related (bytes new) (bytes y) ≡ true) (λ y. not (are_related (bytes new) (bytes y)) ≡ false) (λ y e. ap not e)
      (pairs_of node) into.related))

  -- those in the hole are exactly the related ones
  pub hole_related : related_to bytes (bytes new) (pairs_of (plug fs node)) ≡ pairs_of node
  hole_related = related_at bytes P fs place (bytes new) node into.hole.path into.hole.front ∙ all_related

  -- no pair has the key
  none_stored : first_of (with_key bytes (bytes new) pairs) ≡ None
  none_stored = ap (λ xs. first_of (with_key bytes (bytes new) xs)) (sym old.pairs_are)
      ∙ ap first_of (with_key-hole bytes P fs place (bytes new) node into.hole.path into.hole.front
      ∙ filter_none (λ y. are_same (bytes new) (bytes y)) (pairs_of node)
      (Each-weaker (λ y. bytes y ≢ bytes new) (λ y. are_same (bytes new) (bytes y) ≡ false)
      (λ y off. not_same (bytes new) (bytes y) (λ e. off (sym e))) (pairs_of node) into.unequal))

  -- so those in the hole are the removed ones
  pub hole_reply : overwrite_reply bytes new pairs ≡ only_or_count (pairs_of node)
  hole_reply = overwrite_reply-new bytes new pairs none_stored
      ∙ ap (λ xs. only_or_count (related_to bytes (bytes new) xs)) (sym old.pairs_are) ∙ ap only_or_count hole_related

  -- the root is canonical for the pairs with the new one in their place
  pub hole_overwritten : IsLaidOut bytes P (node_at t) (links_at t) (root_with fs root (leaf_name n)) (overwrite bytes new pairs)
      (plug fs (leaf (leaf_name n) new))
  hole_overwritten = subst (λ ps. IsLaidOut bytes P (node_at t) (links_at t) (root_with fs root (leaf_name n)) ps
      (plug fs (leaf (leaf_name n) new))) (sym (overwrite-new bytes new pairs none_stored))
      (leaf_alone old hole_alone (replace_related bytes new) (replace_related-between bytes new) none_left)

  -- ---- what is touched, and what stays

  abbrev beside : List LeafPtr
  beside = listed x.next ++ (listed x.previous ++ [])

  parent_used : (k : OpaqueNodePtr) → IsParent fs k → get s.inners (as_inner k) ≢ None
  parent_used k up = (parent_there bytes P s fs (name_of node) above k up).1

  placed_print : Footprint s u (leaf_name n ∷ []) [] (both_names beside (parents fs ++ []))
  placed_print = footprint_of s u
      (subst (λ z. Touched s.leaves z (n ∷ []) [] beside) (sym into.leaves) (touched_with_leaf s.leaves n x hole_previous hole_next into.fresh))
      (subst (λ z. Touched s.inners z [] [] (parents fs ++ [])) (sym into.inners)
      (then_parent (touched_none s.inners) fs (leaf_name n) (λ k up. parent_used k up) (λ k up. parent_used k up)))
      tt tt (parents_inner bytes P s fs (name_of node) above [] tt)

  beside_changed : (p : LeafPtr) → IsIn p beside → IsIn (leaf_name p) (before ++ after)
  beside_changed p i = beside_place before after x.next x.previous into.first into.last p i

  parents_up : (p : InnerPtr) → IsIn p (parents fs ++ []) → (k : OpaqueNodePtr) × IsParent fs k × (inner_name p ≡ k)
  parents_up p i = go fs i
    where
      go : (gs : List (Frame OpaqueNodePtr (K × V))) → IsIn p (parents gs ++ []) → (k : OpaqueNodePtr) × IsParent gs k × (inner_name p ≡ k)
      go [] j = absurd j
      go (g ∷ gs) (inl e) = (g.mark, refl, ap inner_name (sym e))
      go (g ∷ gs) (inr j) = absurd j

  changed_apart : (k : OpaqueNodePtr) → IsIn k (names_of node) → IsIn k (both_names beside (parents fs ++ [])) → ⊥
  changed_apart k i j =
      each_in (λ q. IsIn q (names_of node) → ⊥) k (both_names beside (parents fs ++ []))
      (Each-append (λ q. IsIn q (names_of node) → ⊥) (map leaf_name beside) (map inner_name (parents fs ++ []))
      (each_map leaf_name (λ q. IsIn q (names_of node) → ⊥) beside
      (each_from (λ p. IsIn (leaf_name p) (names_of node) → ⊥) beside (λ p h. beside_apart (leaf_name p) (beside_changed p h))))
      (each_map inner_name (λ q. IsIn q (names_of node) → ⊥) (parents fs ++ [])
      (each_from (λ p. IsIn (inner_name p) (names_of node) → ⊥) (parents fs ++ [])
      (λ p h l. let (q, up, e) = parents_up p h in up_apart q up (subst (λ z. IsIn z (names_of node)) e l))))) j i

  hole_used : Each (IsUsed s) (names_of node)
  hole_used = Each-weaker (IsTaken (node_at s)) (IsUsed s) (λ k used e. used (ap (option_map (tree_node k.kind)) e)) (names_of node)
      (all_taken (node_at s) node hole_held)

  -- the leaf is placed, the names of the hole are freed
  hole_print : Footprint s t (leaf_name n ∷ []) (names_of node) (both_names beside (parents fs ++ []))
  hole_print = then_freed (names_of node) placed_print into.freed hole_used changed_apart

  -- and at most three others are changed
  pub hole_touches : PlacesOneFor (names_of node) 3 s t
  hole_touches =
      let few = length-beside x.next x.previous in
      let up = length-parents fs [] in
      let all : length (both_names beside (parents fs ++ [])) ≡ length beside + length (parents fs ++ []) =
      length-append (map leaf_name beside) (map inner_name (parents fs ++ []))
      ∙ ap₂ (λ a b. a + b) (length-map beside leaf_name) (length-map (parents fs ++ []) inner_name) in
      (leaf_name n, both_names beside (parents fs ++ []), hole_print, omega arith)

  -- no key of the hole stays
  none_stay : KeepLeaves bytes P (entries_of node) (entries_of (leaf (leaf_name n) new))
  none_stay e f i (inl j) alike same =
      let among : IsIn e.0 (pairs_of node) = subst (IsIn e.0) (pairs_of-leaves node) (in_map (λ z. z.0) e (entries_of node) i) in
      absurd (each_in (λ y. bytes y ≢ bytes new) e.0 (pairs_of node) into.unequal among (same ∙ ap (λ z. bytes z.0) (sym j)))
  none_stay e f i (inr j) alike same = absurd j

  in_before_whole : (k : OpaqueNodePtr) → IsIn k (before ++ after) → IsIn k (names_of (plug fs node))
  in_before_whole k i = taken_in takes_leaves (plug fs node) k (subst (IsIn k) (sym (leaf_names-plug fs node)) (in_around k before (leaf_names node) after i))

  -- nodes that stay keep their names, and nodes outside the tree are unchanged
  pub hole_kept : ChangesInPlace bytes s t (Some (plug fs node)) (Some (plug fs (leaf (leaf_name n) new)))
  hole_kept = in_place hole_print P
      (names_around fs node (leaf (leaf_name n) new) (leaf_name n ∷ []) (names_of node) (both_names beside (parents fs ++ []))
      (record { placed_in = λ k i. i; freed_in = λ k i. i; changed_in = λ k i. absurd i; old_stays = λ k i. inr i; new_comes = λ k i. inr i })
      (both_in (names_of (plug fs node)) beside (parents fs ++ []) (λ p i. in_before_whole (leaf_name p) (beside_changed p i))
      (parents_in fs node [] (λ p i. absurd i))))
      (leaf_alone_keeps_leaves old hole_alone (replace_related bytes new) (replace_related-between bytes new) none_left none_stay)
      (leaf_alone_keeps old hole_alone)
