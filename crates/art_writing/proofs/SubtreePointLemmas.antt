-- Subtree delete points: the node that one names, the tree with one leaf in its place, and the tree without it.
use Rattle.std.proofs.Common.{◌≡◌, ◌≢◌, ℕ, ◌+◌, ◌≤◌, ◌<◌, ◌^◌, zero, suc, List, [], ◌∷◌, ◌++◌, length, length-append, append-nil, take, option_map}
use Rattle.std.proofs.Common.{drop, take-append-drop, Option, Some, None, IsSome, IfSome}
use Rattle.std.proofs.Common.{true, false, not, refl, ap, ap₂, sym, ◌∙◌, subst, arith, ◌⊎◌, inl, inr}
use Rattle.std.specs.List.{AllByRecursion as Each}
use Rattle.std.specs.FinMap as map
use Rattle.std.proofs.lemmas.Bool.{true≢false}
use Rattle.std.proofs.lemmas.List.Elements.{filter-append}
use Rattle.art_model.specs.Prelude.{without_child, LeafNode, InnerPtr, LeafPtr, OpaqueNodePtr, leaf_cmp, leaf_name, Nodes, change, IsCanonical, IsCanonicalTree, IsIn, ChangesInPlace, Frees, IsFront, Precedes, is_front, Holds, IsLayout, entries_of, first_or, leaf_names, name_of, names_of, slots_of, first_of, remove_key, below, not_below, Frame, HoldsPath, IsPath, plug, pairs_before, pairs_after, leaves_before, leaves_after, inner_nodes, inner_nodes_below, least_key, least_below, AreRadix, IsRadix, bytes_of, pairs_of, pairs_below, ForRoot, ForTree, IsCanonicalRoot, IsFullTree, IsRootOf, node_at, links_at, pair_of, Tree, leaf, inner, Subtrees, child, no_child, Inners, IsThere, as_inner, with_links_around, parent_of, with_child_at}
use Rattle.art_nodes.proofs.StoreChanges.{inner_changed_elsewhere}
use Rattle.art_model.specs.Kept.{KeepsInners, KeepsLeaves, inners_in, leaves_in}
use Rattle.art_model.proofs.pairs.Between.{remove_key-between}
use Rattle.art_model.proofs.stores.Canonical.{IsLaidOut, canonical_from, laid_out, tree_radix}
use Rattle.art_model.proofs.leaves.Chains.{are_there}
use Rattle.art_model.proofs.changes.Changes as changes
use Rattle.art_model.proofs.lists.Filters.{filter_all}
use Rattle.art_model.proofs.keys.Keys.{front_related}
use Rattle.art_model.proofs.changes.Kept.{kept_leaf, kept_leaves}
use Rattle.art_model.proofs.leaves.Links.{first_in}
use Rattle.art_model.proofs.lists.Lists.{Each-append, Each-weaker, each_in, filter_none, front_trans, in_around, in_either, in_left, in_map, in_right, out_map}
use Rattle.art_model.proofs.changes.OutOf.{HasLeafBelow, parent_is, with_leaf_in}
use Rattle.art_model.proofs.places.Paths.{leaf_names-plug, pairs_of-leaves, pairs_of-plug, path_after, path_before, radix_plug, root_with}
use Rattle.art_model.proofs.radix.Rebuild.{radix_way}
use Rattle.art_model.proofs.stores.StoreLaws.{has_one_map}
use Rattle.art_model.proofs.stores.Stores.{IsParent, hole_distinct, parent_apart, path_holds}
use Rattle.art_model.proofs.radix.TreeLaws.{have_two_children, one_child}
use Rattle.art_model.proofs.stores.Views.{leaf_there}
use Rattle.art_model.proofs.places.Wholes.{Entry, inner_nodes-plug, kept, nodes_before, nodes_after, whole_way}
use Rattle.art_model.proofs.stores.Writes.{inner_at, inner_name_one, parent_ready}
use Rattle.art_reading.specs.PartEnds.{HasAllBelow}
use Rattle.art_reading.specs.PathSteps.{last_step, path_of}
use Rattle.art_reading.specs.Descents.{LeadsToEnd}
use Rattle.art_reading.specs.declared.path.TreePath.{TreePath}
use Rattle.art_reading.specs.declared.lookup.descent.End.TheVariants.{First}
use Rattle.art_reading.specs.declared.lookup.descent.LastNode.{LastNode}
use Rattle.art_writing.specs.Collapsed.{IsCollapsed, IsSubtreeTaken}
use Rattle.art_writing.specs.Deleted.{IsDeletePointIn, LeadsTo, change_of, parent_change, placed_by, placed_for_deletion}
use Rattle.art_writing.specs.Inserted.{unlinked_leaf}
use Rattle.art_writing.specs.SubtreePoints.{HasPrefixBelow, IsPrefixPoint, IsSubtreePointIn, LeadsToNode, pairs_beside}
use Rattle.art_writing.specs.ParentWrites.{HasChild, IsBeside}
use Rattle.art_writing.specs.declared.delete.DeletePoint.{DeletePoint}
use Rattle.art_writing.specs.declared.delete.DeleteResult.{DeleteResult}
use Rattle.art_writing.specs.declared.delete.subtree.Collapsed.{Collapsed}
use Rattle.art_writing.specs.declared.delete.subtree.SubtreeDeletePoint.{SubtreeDeletePoint}
use Rattle.art_copying.specs.declared.links.Direction.TheVariants.{After}
use Rattle.art_writing.proofs.RemovedLeaves.{change_seen, has_child}
use Rattle.art_writing.proofs.BranchReads.{beside_is}
use Rattle.art_writing.proofs.Collapses as collapses
use Rattle.art_writing.proofs.Deletions.{leaf_at, some_same}
use Rattle.art_writing.proofs.Ways.{last_step-path_of}

-- ---- inner nodes and the keys below them

module _ {N A : Type 0} (bytes : A → List ℕ) (P : ℕ) where
  mutual
    least_in : (t : Tree N A) (place : List ℕ) → IsRadix bytes P place t → (y : A) × IsIn y (pairs_of t) × (least_key bytes t ≡ bytes y)
    least_in (leaf n y) place h = (y, inl refl, refl)
    least_in (inner n h cs) place (part, e, two, up, below) = least_in_below cs (place ++ part) two below

    least_in_below : (cs : Subtrees N A) (front : List ℕ) → 2 ≤ length (bytes_of cs) → AreRadix bytes P front cs →
        (y : A) × IsIn y (pairs_below cs) × (least_below bytes cs ≡ bytes y)
    least_in_below no_child front two h = absurd (omega arith)
    least_in_below (child b t cs) front two h = let (y, i, e) = least_in t (front ++ b ∷ []) h.0 in (y, in_left y (pairs_of t) (pairs_below cs) i, e)

  -- the whole bytes of an inner node are a prefix of one of the keys
  abbrev HasKey : List A → Entry N → Type 0
  HasKey ys e = (y : A) × IsIn y ys × IsFront e.1 (bytes y)

  mutual
    whole_key : (t : Tree N A) (place : List ℕ) (d : ℕ) → IsRadix bytes P place t → Each (HasKey (pairs_of t)) (inner_nodes bytes d t)
    whole_key (leaf n y) place d h = tt
    whole_key (inner n h cs) place d (part, e, two, up, below) =
        let (y, i, same) = least_in_below cs (place ++ part) two below in (
          (
            y,
            i,
            (
              drop (d + h.length_of) (bytes y),
              sym (take-append-drop (d + h.length_of) (bytes y))
                  ∙ ap (λ z. take (d + h.length_of) z ++ drop (d + h.length_of) (bytes y)) (sym same),
            ),
          ),
          whole_key_below cs (place ++ part) (d + h.length_of + 1) below,
        )

    whole_key_below : (cs : Subtrees N A) (front : List ℕ) (d : ℕ) → AreRadix bytes P front cs → Each (HasKey (pairs_below cs)) (inner_nodes_below bytes d cs)
    whole_key_below no_child front d h = tt
    whole_key_below (child b t cs) front d h = Each-append (HasKey (pairs_of t ++ pairs_below cs)) (inner_nodes bytes d t) (inner_nodes_below bytes d cs)
        (Each-weaker (HasKey (pairs_of t)) (HasKey (pairs_of t ++ pairs_below cs))
        (λ e k. (k.0, in_left k.0 (pairs_of t) (pairs_below cs) k.1, k.2)) (inner_nodes bytes d t) (whole_key t (front ++ b ∷ []) d h.0))
        (Each-weaker (HasKey (pairs_below cs)) (HasKey (pairs_of t ++ pairs_below cs))
        (λ e k. (k.0, in_right k.0 (pairs_of t) (pairs_below cs) k.1, k.2)) (inner_nodes_below bytes d cs) (whole_key_below cs front d h.1))

  -- no pair outside a hole has a key that starts with the hole's place
  beside_off : (fs : List (Frame N A)) (place : List ℕ) → IsPath bytes P place fs → (y : A) → IsFront place (bytes y) →
      IsIn y (pairs_before fs ++ pairs_after fs) → ⊥
  beside_off fs place path y front i = elim (in_either y (pairs_before fs) (pairs_after fs) i) [
    | inl j ↦ itself (each_in (λ z. Precedes (bytes z) (bytes y)) y (pairs_before fs) (path_before bytes P fs place (bytes y) path front) j)
    | inr j ↦ itself (each_in (λ z. Precedes (bytes y) (bytes z)) y (pairs_after fs) (path_after bytes P fs place (bytes y) path front) j)
  ]
    where
      itself : Precedes (bytes y) (bytes y) → ⊥
      itself h = true≢false (sym (front_related (bytes y) (bytes y) ([], sym (append-nil (bytes y)))) ∙ h.1)

-- ---- two changes in place, one after the other

module _ {K V : Type 0} {bytes : K × V → List ℕ} (P : ℕ) {s u v : Nodes K V} (fs : List (Frame OpaqueNodePtr (K × V))) (place : List ℕ)
    (node : Tree OpaqueNodePtr (K × V))
    (n : OpaqueNodePtr) (x : K × V) (path : IsPath bytes P place fs) (radix : IsRadix bytes P place node) (among : IsIn x (pairs_of node))
    (root : Option OpaqueNodePtr) (new : Option (Tree OpaqueNodePtr (K × V))) (is : IsRootOf bytes P v root (pairs_before fs ++ pairs_after fs) new)
    (one : ChangesInPlace bytes s u (Some (plug fs node)) (Some (plug fs (leaf n x)))) (two : ChangesInPlace bytes u v (Some (plug fs (leaf n x))) new) where
  -- a pair that is left is one of the tree with the leaf
  left_in : (new : Option (Tree OpaqueNodePtr (K × V))) → IsRootOf bytes P v root (pairs_before fs ++ pairs_after fs) new →
      (y : K × V) (m : OpaqueNodePtr) → IsIn (y, m) (leaves_in new) →
      (j : OpaqueNodePtr) × IsIn (y, j) (entries_of (plug fs (leaf n x)))
  left_in None is y m i = absurd i
  left_in (Some tree) is y m i =
      let own : IsIn y (pairs_of tree) = subst (IsIn y) (pairs_of-leaves tree) (in_map (λ (e : (K × V) × OpaqueNodePtr). e.0) (y, m) (entries_of tree) i) in
      let left : IsIn y (pairs_before fs ++ pairs_after fs) = subst (IsIn y) (pairs_are root is) own in
      let whole : IsIn y (pairs_of (plug fs (leaf n x))) =
      subst (IsIn y) (sym (pairs_of-plug fs (leaf n x))) (in_around y (pairs_before fs) (x ∷ []) (pairs_after fs) left) in
      let (e, j, same) =
      out_map (λ (e : (K × V) × OpaqueNodePtr). e.0) y (entries_of (plug fs (leaf n x)))
      (subst (IsIn y) (sym (pairs_of-leaves (plug fs (leaf n x)))) whole) in
      (e.1, subst (λ z. IsIn (z, e.1) (entries_of (plug fs (leaf n x)))) same j)
    where
      pairs_are : (root : Option OpaqueNodePtr) → IsRootOf bytes P v root (pairs_before fs ++ pairs_after fs) (Some tree) →
          pairs_of tree ≡ pairs_before fs ++ pairs_after fs
      pairs_are None h = absurd h
      pairs_are (Some name) h = (tree_radix h).1

  keeps_leaves : KeepsLeaves bytes (Some (plug fs node)) new
  keeps_leaves a b k m i j same =
      let (z, h) = left_in new is b m j in
      two.leaves b b z m h j refl ∙ one.leaves a b k z i h same

  -- an inner node of the whole tree is one with the leaf, or is below the node
  inner_in : (e : Entry OpaqueNodePtr) → IsIn e (inner_nodes bytes 0 (plug fs node)) → IsIn e (inner_nodes bytes 0 (plug fs (leaf n x))) ⊎ IsFront place e.1
  inner_in e i = elim (in_either e (nodes_before bytes P fs place path ++ inner_nodes bytes (length place) node) (nodes_after bytes P fs place path)
      (subst (IsIn e) (inner_nodes-plug bytes P fs place node path radix) i)) [
        | inl j ↦ elim (in_either e (nodes_before bytes P fs place path) (inner_nodes bytes (length place) node) j) [
          | inl h ↦ inl (subst (IsIn e) (sym mid_nodes)
              (in_left e (nodes_before bytes P fs place path ++ []) (nodes_after bytes P fs place path) (in_left e (nodes_before bytes P fs place path) [] h)))
          | inr h ↦
              inr (each_in (λ (z : Entry OpaqueNodePtr). IsFront place z.1) e (inner_nodes bytes (length place) node)
              (whole_way bytes P node place radix) h)
        ]
        | inr j ↦ inl (subst (IsIn e) (sym mid_nodes) (in_right e (nodes_before bytes P fs place path ++ []) (nodes_after bytes P fs place path) j))
      ]
    where
      mid_nodes : inner_nodes bytes 0 (plug fs (leaf n x)) ≡ nodes_before bytes P fs place path ++ [] ++ nodes_after bytes P fs place path
      mid_nodes = inner_nodes-plug bytes P fs place (leaf n x) path
          (each_in (λ y. IsFront place (bytes y)) x (pairs_of node) (radix_way bytes P node place radix) among)

  -- and none that is left is below the node
  none_below : (new : Option (Tree OpaqueNodePtr (K × V))) → IsRootOf bytes P v root (pairs_before fs ++ pairs_after fs) new →
      (e : Entry OpaqueNodePtr) → IsIn e (inners_in bytes new) → IsFront place e.1 → ⊥
  none_below None is e i front = i
  none_below (Some tree) is e i front = go root is
    where
      go : (root : Option OpaqueNodePtr) → IsRootOf bytes P v root (pairs_before fs ++ pairs_after fs) (Some tree) → ⊥
      go None h = h
      go (Some name) h =
          let (y, j, way) = each_in (HasKey bytes P (pairs_of tree)) e (inner_nodes bytes 0 tree) (whole_key bytes P tree [] 0 (tree_radix h).0) i in
          beside_off bytes P fs place path y (front_trans place e.1 (bytes y) front way) (subst (IsIn y) (tree_radix h).1 j)

  keeps_inners : KeepsInners bytes (Some (plug fs node)) new
  keeps_inners kind whole k m i j = elim (inner_in (kind, whole, k) i) [
    | inl h ↦ two.inners kind whole k m h j
    | inr front ↦ absurd (none_below new is (kind, whole, m) j front)
  ]

  module _ (fewer : (name : OpaqueNodePtr) → IsIn name (names_of (plug fs (leaf n x))) → IsIn name (names_of (plug fs node)))
      (stays_or_goes : (name : OpaqueNodePtr) → IsIn name (names_of (plug fs node)) →
      IsIn name (names_of (plug fs (leaf n x))) ⊎ (IsIn name (names_of (plug fs (leaf n x))) → ⊥)) where
    both_in_place : ChangesInPlace bytes s v (Some (plug fs node)) new
    both_in_place = record {
      leaves = keeps_leaves;
      inners = keeps_inners;
      others = record {
        beside = λ k not_old not_new. two.others.beside k (λ i. not_old (fewer k i)) not_new ∙ one.others.beside k not_old (λ i. not_old (fewer k i));
        gone = λ k is_old not_new. elim (stays_or_goes k is_old) [
          | inl i ↦ two.others.gone k i not_new
          | inr off ↦ two.others.beside k off not_new ∙ one.others.gone k is_old off
        ];
        taken = λ k is_new not_old. sym (one.others.beside k not_old (λ i. not_old (fewer k i))) ∙ two.others.taken k is_new (λ i. not_old (fewer k i));
      };
    }

-- ---- what becomes of the parent is determined by its number of children

same_change : {K V : Type 0} (s t : Nodes K V) (fs : List (Frame OpaqueNodePtr (K × V))) (hole other : OpaqueNodePtr) →
    HoldsPath (node_at s) hole fs → HoldsPath (node_at t) other fs →
    parent_change t (path_of fs) ≡ parent_change s (path_of fs)
same_change s t [] hole other was is = refl
same_change s t (f ∷ fs) hole other was is =
    let (off, a, got, head, kids) = inner_at s f.mark f.header (slots_of f.left ++ (f.byte, hole) ∷ slots_of f.right) was.0 in
    let (now_off, b, now_got, now_head, now_kids) = inner_at t f.mark f.header (slots_of f.left ++ (f.byte, other) ∷ slots_of f.right) is.0 in
    let count : length b.children ≡ length a.children =
    ap length now_kids ∙ length-append (slots_of f.left) ((f.byte, other) ∷ slots_of f.right)
    ∙ sym (ap length kids ∙ length-append (slots_of f.left) ((f.byte, hole) ∷ slots_of f.right)) in
    change_seen t (path_of (f ∷ fs)) (last_step-path_of (f ∷ fs)) now_got refl ∙ ap (change_of f.mark.kind) count
    ∙ sym (change_seen s (path_of (f ∷ fs)) (last_step-path_of (f ∷ fs)) got refl)

-- ---- the node of a point

module _ {K V : Type 0} {bytes : K × V → List ℕ} {P : ℕ} {s : Nodes K V} {root : OpaqueNodePtr} {pairs : List (K × V)} {layout : Tree OpaqueNodePtr (K × V)}
    (by : IsCanonicalTree bytes P s root pairs layout) {point : SubtreeDeletePoint} (at : LeadsToNode layout point) where
  laid : IsLaidOut bytes P (node_at s) (links_at s) root pairs (plug at.path at.node)
  laid = subst (IsLaidOut bytes P (node_at s) (links_at s) root pairs) (sym at.whole) (laid_out by)

  hole : (place : List ℕ) × IsPath bytes P place at.path × IsRadix bytes P place at.node
  hole = radix_plug bytes P at.path at.node laid.radix

  pub above : HoldsPath (node_at s) (name_of at.node) at.path
  above = (path_holds (node_at s) at.path at.node laid.holds).0

  -- it stands for a full tree
  pub node_full : IsFullTree s point.node at.node
  node_full = (
    record {
      named = at.named;
      holds = (path_holds (node_at s) at.path at.node laid.holds).1;
      distinct = hole_distinct (node_at s) (node_at s) at.path at.node laid.holds laid.distinct;
    },
    one_child at.node (have_two_children bytes P hole.0 at.node hole.2),
  )

  -- the node above it has a child where it is, also where others changed
  pub above_ready : (inners : Inners) → ((k : OpaqueNodePtr) → IsParent at.path k → map.get inners (as_inner k) ≡ map.get s.inners (as_inner k)) →
      HasChild inners (last_step point.path)
  above_ready inners same = subst (HasChild inners) (sym (ap last_step at.path_is ∙ last_step-path_of at.path))
      (has_child s.inners inners (name_of at.node) at.path (parent_ready bytes P s at.path hole.0 (name_of at.node) hole.1 above) same)

  -- the leaf after all below it
  pub next_is : (last next : Option LeafPtr) → IsBeside s at.node After last next → option_map leaf_name next ≡ first_or (leaves_after at.path) None
  next_is last next beside = (beside_is s at.path at.node laid.linked true last next beside).1

  pub next_there : (next : Option LeafPtr) → option_map leaf_name next ≡ first_or (leaves_after at.path) None → IsThere s.leaves next
  next_there next is p e =
      let i = first_in (leaves_after at.path) (leaf_name p) (sym is ∙ ap (option_map leaf_name) e) in
      are_there s (plug at.path at.node) laid.holds p
      (subst (IsIn (leaf_name p)) (sym (leaf_names-plug at.path at.node))
      (in_right (leaf_name p) (leaves_before at.path ++ leaf_names at.node) (leaves_after at.path) i))

-- ---- the first leaf below it

-- The first leaf below the node is below another one, the parent.
pub record HasFirstBelow {K V : Type 0} (s : Nodes K V) (node : Tree OpaqueNodePtr (K × V)) (n : LeafPtr) (parent : InnerPtr) (byte : ℕ) : Type 0 where
  pub frame : Frame OpaqueNodePtr (K × V)
  pub above : List (Frame OpaqueNodePtr (K × V))
  pub y : LeafNode K V
  pub here : map.get s.leaves n ≡ Some y
  pub whole : plug (frame ∷ above) (leaf (leaf_name n) (pair_of y)) ≡ node
  pub parent_is : as_inner frame.mark ≡ parent
  pub byte_is : frame.byte ≡ byte
  pub name_is : first_of (leaf_names node) ≡ Some (leaf_name n)
  pub pair_is : first_of (pairs_of node) ≡ Some (pair_of y)

module _ {K V : Type 0} (s : Nodes K V) {node : Tree OpaqueNodePtr (K × V)} {n : LeafPtr} {path : TreePath} (holds : Holds (node_at s) node)
    (leads : LeadsToEnd node First path n) where
  -- the node is that leaf
  pub is_leaf : last_step path ≡ None → (x : K × V) × (leaf (leaf_name n) x ≡ node)
  is_leaf none = go leads.0.has.path leads.0.has.whole leads.1
    where
      go : (gs : List (Frame OpaqueNodePtr (K × V))) → plug gs (leaf (leaf_name n) leads.0.pair) ≡ node → path ≡ path_of gs →
          (x : K × V) × (leaf (leaf_name n) x ≡ node)
      go [] whole is = (leads.0.pair, whole)
      go (g ∷ gs) whole is = let e = sym none ∙ ap last_step is ∙ last_step-path_of (g ∷ gs) in absurd cc

  -- or it is an inner node above it
  pub first_below : {parent : InnerPtr} {byte : ℕ} → last_step path ≡ Some (parent, byte) → HasFirstBelow s node n parent byte
  first_below {parent} {byte} step = go leads.0.has.path leads.0.has.whole leads.1
    where
      go : (gs : List (Frame OpaqueNodePtr (K × V))) → plug gs (leaf (leaf_name n) leads.0.pair) ≡ node → path ≡ path_of gs → HasFirstBelow s node n parent byte
      go [] whole is = let e = sym step ∙ ap last_step is in absurd cc
      go (g ∷ gs) whole is =
          let (y, here, pair) =
          leaf_there s n leads.0.pair (path_holds (node_at s) (g ∷ gs) (leaf (leaf_name n) leads.0.pair)
          (subst (Holds (node_at s)) (sym whole) holds)).1 in
          let last : ◌≡◌ {A = InnerPtr × ℕ} (as_inner g.mark, g.byte) (parent, byte) =
          some_same (sym (last_step-path_of (g ∷ gs)) ∙ ap last_step (sym is) ∙ step) in
          record {
            frame = g;
            above = gs;
            y = y;
            here = here;
            whole = ap (λ z. plug (g ∷ gs) (leaf (leaf_name n) z)) pair ∙ whole;
            parent_is = ap (λ p. p.0) last;
            byte_is = ap (λ p. p.1) last;
            name_is = leads.0.name_is;
            pair_is = leads.0.pair_is ∙ ap Some (sym pair);
          }

-- ---- the tree with the one leaf

module _ {K V : Type 0} {bytes : K × V → List ℕ} {P : ℕ} {s : Nodes K V} {root : OpaqueNodePtr} {pairs : List (K × V)} {layout : Tree OpaqueNodePtr (K × V)}
    (by : IsCanonicalTree bytes P s root pairs layout) {point : SubtreeDeletePoint} (at : LeadsToNode layout point) {n : LeafPtr} where
  own_leaf : (x : K × V) → plug at.path (leaf (leaf_name n) x) ≡ layout → IsRadix bytes P (hole by at).0 (leaf (leaf_name n) x) →
      IsCollapsed bytes P s s root at.path (leaf (leaf_name n) x) (record { root = root; leaf = n; count = 1 })
  own_leaf x whole radix =
      let tree = plug at.path (leaf (leaf_name n) x) in
      let same : IsLaidOut bytes P (node_at s) (links_at s) root pairs tree =
      subst (IsLaidOut bytes P (node_at s) (links_at s) root pairs) (sym whole) (laid_out by) in
      let leaves_kept = kept_leaves bytes P at.path (leaf (leaf_name n) x) (leaf (leaf_name n) x) same.radix same.radix (kept_leaf bytes P (leaf_name n) x x) in
      let inners_kept = kept bytes P at.path (hole by at).0 (leaf (leaf_name n) x) (leaf (leaf_name n) x) (hole by at).1 radix radix (λ e f i j. absurd j) in
      record {
        first = x;
        first_is = refl;
        canonical = canonical_from (subst (λ ps. IsLaidOut bytes P (node_at s) (links_at s) root ps tree)
            (sym same.pairs_are ∙ pairs_of-plug at.path (leaf (leaf_name n) x)) same);
        kept = record {
          leaves = λ a b k m i j alike. sym (leaves_kept (a, k) (b, m) i j tt (sym alike));
          inners = λ kind whole k m i j. sym (inners_kept (kind, whole, k) (kind, whole, m) i j refl refl);
          others = record { beside = λ k off non. refl; gone = λ k i off. absurd (off i); taken = λ k i off. absurd (off i) };
        };
        fewer = λ k i. i;
        stays_or_goes = λ k i. inl i;
        count = refl;
        parent = refl;
      }

  -- where the node is the leaf it is the old tree
  pub collapsed_leaf : (x : K × V) → leaf (leaf_name n) x ≡ at.node → IsCollapsed bytes P s s root at.path at.node (record { root = root; leaf = n; count = 1 })
  collapsed_leaf x is = subst (λ z. IsCollapsed bytes P s s root at.path z (record { root = root; leaf = n; count = 1 })) is
      (own_leaf x (subst (λ z. plug at.path z ≡ layout) (sym is) at.whole) (subst (IsRadix bytes P (hole by at).0) (sym is) (hole by at).2))

  module _ {parent : InnerPtr} {byte : ℕ} (first : HasFirstBelow s at.node n parent byte) where
    abbrev own_node : Tree OpaqueNodePtr (K × V)
    own_node = plug (first.frame ∷ first.above) (leaf (leaf_name n) (pair_of first.y))

    pub old : IsLaidOut bytes P (node_at s) (links_at s) root pairs (plug at.path own_node)
    old = subst (λ z. IsLaidOut bytes P (node_at s) (links_at s) root pairs (plug at.path z)) (sym first.whole) (laid by at)

    pub among_all : HasLeafBelow bytes P s root pairs first.frame (first.above ++ at.path) n first.y
    among_all = record {
      laid = subst (IsLaidOut bytes P (node_at s) (links_at s) root pairs)
          (sym (collapses.plug-append first.above at.path (with_leaf_in first.frame n first.y))) old;
    }

    -- what is left below the node without that leaf
    abbrev pub rest : Tree OpaqueNodePtr (K × V)
    rest = collapses.rest at.path first.above among_all

    -- it is in the store, and so is its parent
    pub first_there : IsThere s.leaves (Some n)
    first_there p e none =
        let gone : ◌≡◌ {A = Option (LeafNode K V)} None (Some first.y) =
        sym none ∙ ap (map.get s.leaves) (sym (some_same e)) ∙ first.here in absurd cc

    pub parent_there : IsSome (map.get s.inners parent)
    parent_there =
        let (off, i, got, head, kids) = parent_is among_all in
        subst (λ o. IsSome o) (sym (ap (map.get s.inners) (sym first.parent_is) ∙ got)) refl

    -- the node above the subtree is another one
    pub up_same : (k : OpaqueNodePtr) → IsParent at.path k → map.get (change s.inners parent (without_child byte)) (as_inner k) ≡ map.get s.inners (as_inner k)
    up_same k up = inner_changed_elsewhere s.inners parent (as_inner k) (without_child byte) (λ e.
        parent_apart (node_at s) (node_at s) at.path own_node old.holds old.distinct k up
        (subst (λ z. IsIn z (names_of own_node)) (sym (inner_name_one k first.frame.mark (e ∙ sym first.parent_is)))
        (collapses.mark_in at.path first.above among_all)))

    module _ (w : Nodes K V) {name : OpaqueNodePtr} (last next : Option LeafPtr) (beside : IsBeside s at.node After last next)
        (leaves : w.leaves ≡ with_links_around s.leaves (Some n) next next (Some n))
        (inners : w.inners ≡ with_child_at (last_step point.path) name (change s.inners parent (without_child byte))) (name_is : name ≡ leaf_name n) where
      inners_are : w.inners ≡ with_child_at (parent_of at.path) (leaf_name n) (change s.inners (as_inner first.frame.mark) (without_child first.frame.byte))
      inners_are = inners ∙ ap (λ o. with_child_at o name (change s.inners parent (without_child byte))) (ap last_step at.path_is ∙ last_step-path_of at.path)
          ∙ ap (λ z. with_child_at (parent_of at.path) z (change s.inners parent (without_child byte))) name_is
          ∙ ap₂ (λ (q : InnerPtr) (b : ℕ). with_child_at (parent_of at.path) (leaf_name n) (change s.inners q (without_child b)))
          (sym first.parent_is) (sym first.byte_is)

      -- what is left below the node can be freed
      pub rest_there : IsLayout (node_at w) point.node rest
      rest_there = subst (λ z. IsLayout (node_at w) z rest) (ap name_of first.whole ∙ at.named)
          (collapses.rest_layout at.path first.above among_all w next leaves inners_are)

      module _ {t : Nodes K V} {new : OpaqueNodePtr} {others : ℕ} (freed : Frees (names_of rest) w t)
          (root_is : new ≡ root_with at.path root (leaf_name n)) (count : others ≡ length (leaf_names rest)) where
        name_first : first_of (leaf_names own_node) ≡ Some (leaf_name n)
        name_first = ap (λ z. first_of (leaf_names z)) first.whole ∙ first.name_is

        -- the one leaf is in its place
        pub collapsed_below : IsCollapsed bytes P s t root at.path at.node (record { root = new; leaf = n; count = others + 1 })
        collapsed_below =
            let follows = next_is by at last next beside in
            let laid_now = collapses.now_laid at.path first.above among_all w next leaves inners_are freed name_first follows in
            subst (λ z. IsCollapsed bytes P s t root at.path z (record { root = new; leaf = n; count = others + 1 })) first.whole (record {
              first = pair_of first.y;
              first_is = ap (λ z. first_of (pairs_of z)) first.whole ∙ first.pair_is;
              canonical = subst (λ r. IsCanonicalTree bytes P t r (pairs_before at.path ++ (pair_of first.y ∷ []) ++ pairs_after at.path)
                  (plug at.path (leaf (leaf_name n) (pair_of first.y))))
                  (sym root_is) (canonical_from laid_now);
              kept = collapses.now_kept at.path first.above among_all w next leaves inners_are freed name_first follows;
              fewer = collapses.now_fewer at.path first.above among_all w next leaves inners_are freed name_first follows;
              stays_or_goes = collapses.now_stays_or_goes at.path first.above among_all w next leaves inners_are freed name_first follows;
              count = ap (λ z. z + 1) count ∙ collapses.rest_leaves at.path first.above among_all;
              parent = same_change s t at.path (name_of at.node) (leaf_name n) (above by at)
                  (path_holds (node_at t) at.path (leaf (leaf_name n) (pair_of first.y)) laid_now.holds).0;
            })

-- ---- the tree without that leaf

first_among : {X : Type 0} (xs : List X) (x : X) → first_of xs ≡ Some x → IsIn x xs
first_among [] x e = absurd cc
first_among (y ∷ ys) x e = inl cc

module _ {K V : Type 0} {bytes : K × V → List ℕ} {P : ℕ} {s u : Nodes K V} {root : OpaqueNodePtr} {pairs : List (K × V)} {layout : Tree OpaqueNodePtr (K × V)}
    (by : IsCanonicalTree bytes P s root pairs layout) {point : SubtreeDeletePoint} (at : LeadsToNode layout point) {left : Collapsed}
    (c : IsCollapsed bytes P s u root at.path at.node left) where
  abbrev one_point : DeletePoint
  one_point = record { path = point.path; leaf_node_ptr = left.leaf }

  pub leads_to_one : LeadsTo (plug at.path (leaf (leaf_name left.leaf) c.first)) c.first one_point
  leads_to_one = record { path = at.path; whole = refl; path_is = at.path_is }

  -- the leaf can be deleted
  pub one_point_in : IsDeletePointIn bytes P u left.root one_point
  one_point_in = (_, _, c.first, c.canonical, leads_to_one)

  -- what is placed for it is what was to be placed for the node
  pub same_placed : placed_for_deletion u point.path ≡ placed_for_deletion s point.path
  same_placed = ap placed_by (ap (parent_change u) at.path_is ∙ c.parent ∙ ap (parent_change s) (sym at.path_is))

  among : IsIn c.first (pairs_of at.node)
  among = first_among (pairs_of at.node) c.first c.first_is

  first_goes : remove_key bytes (bytes c.first) (pairs_before at.path ++ (c.first ∷ []) ++ pairs_after at.path) ≡ pairs_before at.path ++ pairs_after at.path
  first_goes =
      let (place, path, radix) = hole by at in
      let front = each_in (λ y. IsFront place (bytes y)) c.first (pairs_of at.node) (radix_way bytes P at.node place radix) among in
      remove_key-between bytes (bytes c.first) (pairs_before at.path) (c.first ∷ []) (pairs_after at.path)
      (path_before bytes P at.path place (bytes c.first) path front) (path_after bytes P at.path place (bytes c.first) path front)
      ∙ ap (λ z. pairs_before at.path ++ z ++ pairs_after at.path) (changes.alone bytes c.first)
      ∙ ap (λ z. z ++ pairs_after at.path) (append-nil (pairs_before at.path))

  module _ (v : Nodes K V) (new_root : Option OpaqueNodePtr) (gone : LeafNode K V)
      (told : IfSome (map.get u.leaves left.leaf) (λ leaf. gone ≡ unlinked_leaf (pair_of leaf)))
      (canonical : ForTree bytes P u left.root (λ pairs layout. IsCanonical bytes P v new_root (remove_key bytes (bytes (pair_of gone)) pairs))) where
    -- the pairs outside the node are left
    others_left : IsCanonical bytes P v new_root (pairs_beside at)
    others_left =
        let (node, here, pair) = leaf_at c.canonical leads_to_one in
        let same : gone ≡ unlinked_leaf (pair_of node) = subst (λ o. IfSome o (λ leaf. gone ≡ unlinked_leaf (pair_of leaf))) here told in
        let own : pair_of gone ≡ c.first = ap pair_of same ∙ pair in
        subst (IsCanonical bytes P v new_root) (ap
        (λ z. remove_key bytes (bytes z) (pairs_before at.path ++ (c.first ∷ []) ++ pairs_after at.path)) own ∙ first_goes)
        (canonical _ _ c.canonical)

    others_kept : ForTree bytes P u left.root (λ pairs old. ForRoot bytes P v new_root (λ after new. ChangesInPlace bytes u v (Some old) new)) →
        (after : List (K × V)) (new : Option (Tree OpaqueNodePtr (K × V))) → IsRootOf bytes P v new_root after new → ChangesInPlace bytes s v (Some layout) new
    others_kept kept after new is =
        let (place, path, radix) = hole by at in
        subst (λ z. ChangesInPlace bytes s v (Some z) new) at.whole
        (both_in_place P at.path place at.node (leaf_name left.leaf) c.first path radix among new_root new
        (subst (λ ps. IsRootOf bytes P v new_root ps new) (same_after new_root new after is others_left) is)
        c.kept (kept _ _ c.canonical after new is) c.fewer c.stays_or_goes)
      where
        same_after : (r : Option OpaqueNodePtr) (new : Option (Tree OpaqueNodePtr (K × V))) (after : List (K × V)) → IsRootOf bytes P v r after new →
            IsCanonical bytes P v r (pairs_beside at) → after ≡ pairs_beside at
        same_after None None after is own = is ∙ sym own
        same_after None (Some tree) after is own = absurd is
        same_after (Some name) None after is own = absurd is
        same_after (Some name) (Some tree) after is own = (has_one_map bytes P v name (pairs_beside at) after own.0 tree own.1 is).0

module _ {K V : Type 0} {bytes : K × V → List ℕ} {P : ℕ} {s u v : Nodes K V} {root : OpaqueNodePtr} {point : SubtreeDeletePoint}
    {left : Collapsed} (done : DeleteResult K V) where
  -- so the node is removed from the tree
  pub subtree_taken : IsSubtreePointIn bytes P s root point →
      ForTree bytes P s root (λ pairs layout. (at : LeadsToNode layout point) → IsCollapsed bytes P s u root at.path at.node left) →
      IfSome (map.get u.leaves left.leaf) (λ leaf. done.deleted_leaf ≡ unlinked_leaf (pair_of leaf)) →
      ForTree bytes P u left.root (λ pairs layout. IsCanonical bytes P v done.new_root (remove_key bytes (bytes (pair_of done.deleted_leaf)) pairs)) →
      IfSome done.new_root (IsCanonicalRoot bytes P v) →
      ForTree bytes P u left.root (λ pairs old. ForRoot bytes P v done.new_root (λ after new. ChangesInPlace bytes u v (Some old) new)) →
      IsSubtreeTaken bytes P s v root point (record { new_root = done.new_root; leafs_removed = left.count })
  subtree_taken (pairs, layout, by, at) collapsed told canonical some kept = record {
    canonical = λ ps l b a. others_left b a (collapsed ps l b a) v done.new_root done.deleted_leaf told canonical;
    left = some;
    removed = λ ps l b a. (collapsed ps l b a).count;
    kept = λ ps l b. subst (λ z. ForRoot bytes P v done.new_root (λ after new. ChangesInPlace bytes s v (Some z) new))
        (sym (has_one_map bytes P s root pairs ps layout l by b).1)
        (others_kept by at (collapsed pairs layout by at) v done.new_root done.deleted_leaf told canonical kept);
  }

-- ---- how many leaves there are

-- one more than those removed is no more than there were
pub count_fits : {K V : Type 0} (t : Nodes K V) (n : LeafPtr) (y : LeafNode K V) (others all : ℕ) → map.get t.leaves n ≡ Some y →
    others + map.len t.leaves ≡ all → (0 < others → all < 2 ^ 64) → others + 1 < 2 ^ 64
count_fits {K} {V} t n y others all here total few = go others refl
  where
    some : map.len t.leaves ≢ 0
    some z = let e : ◌≡◌ {A = Option (LeafNode K V)} None (Some y) =
        sym (map.get-empty leaf_cmp n) ∙ ap (λ m. map.get m n) (sym (map.empty_of_len t.leaves z)) ∙ here in absurd cc

    go : (k : ℕ) → others ≡ k → others + 1 < 2 ^ 64
    go zero e = omega arith
    go (suc k) e = let f = few (omega arith) in let g = some in omega arith

-- ---- the point of a prefix

module _ {A : Type 0} (bytes : A → List ℕ) (prefix : List ℕ) (layout : Tree OpaqueNodePtr A) (end : LastNode)
    (all : HasAllBelow bytes prefix layout end.name) where
  -- the pairs are those before the node, below it and after it
  split : pairs_of layout ≡ pairs_before all.at.path ++ pairs_of all.at.node ++ pairs_after all.at.path
  split = ap pairs_of (sym all.at.whole) ∙ pairs_of-plug all.at.path all.at.node

  -- all below the node start with the prefix
  these : all.begin ≡ true → Each (λ x. is_front prefix (bytes x) ≡ true) (pairs_of all.at.node)
  these on = subst (λ t. Each (λ x. is_front prefix (bytes x) ≡ t) (pairs_of all.at.node)) on all.alike

  -- the pairs below the node are those whose keys start with the prefix
  pub these_are : all.begin ≡ true → pairs_of all.at.node ≡ below bytes prefix (pairs_of layout)
  these_are on =
      let test = λ (x : A). is_front prefix (bytes x) in
      sym (ap (below bytes prefix) split ∙ simp (
        filter-append,
        filter_none test (pairs_before all.at.path) all.at.before,
        filter_all test (pairs_of all.at.node) (these on),
        filter_none test (pairs_after all.at.path) all.at.after,
        append-nil,
      ) refl)

  -- so the node is that of the prefix
  pub these_go : end.path ≡ path_of all.at.path → all.begin ≡ true → HasPrefixBelow bytes prefix layout (record { path = end.path; node = end.name })
  these_go path_is on =
      let test = λ (x : A). is_front prefix (bytes x) in
      let stay = λ (xs : List A) (h : Each (λ x. test x ≡ false) xs).
      filter_all (λ x. not (test x)) xs (Each-weaker (λ x. test x ≡ false) (λ x. not (test x) ≡ true) (λ x e. ap not e) xs h) in
      record {
        at = record { path = all.at.path; node = all.at.node; whole = all.at.whole; path_is = path_is; named = all.at.named };
        gone = these_are on;
        left = sym (ap (not_below bytes prefix) split ∙ simp (
          filter-append,
          stay (pairs_before all.at.path) all.at.before,
          filter_none (λ x. not (test x)) (pairs_of all.at.node)
              (Each-weaker (λ x. test x ≡ true) (λ x. not (test x) ≡ false) (λ x e. ap not e) (pairs_of all.at.node) (these on)),
          stay (pairs_after all.at.path) all.at.after,
          append-nil,
        ) refl);
      }

  -- or none does
  pub none_go : all.begin ≡ false → IsPrefixPoint bytes prefix layout None
  none_go off =
      let test = λ (x : A). is_front prefix (bytes x) in
      let none : Each (λ x. test x ≡ false) (pairs_of all.at.node) = subst (λ t. Each (λ x. test x ≡ t) (pairs_of all.at.node)) off all.alike in
      ap (below bytes prefix) (ap pairs_of (sym all.at.whole) ∙ pairs_of-plug all.at.path all.at.node) ∙ simp (
        filter-append,
        filter_none test (pairs_before all.at.path) all.at.before,
        filter_none test (pairs_of all.at.node) none,
        filter_none test (pairs_after all.at.path) all.at.after,
      ) refl
