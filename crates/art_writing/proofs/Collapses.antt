-- A subtree is replaced by its first leaf: what the writes leave, from the equations of the store's maps.
use Rattle.std.proofs.Common.{◌≡◌, ◌≢◌, ℕ, ◌+◌, List, [], ◌∷◌, ◌++◌, length, length-append, append_assoc, append-nil, Option, Some, None, refl, ap, sym, ◌∙◌, subst, arith, ◌⊎◌, inl, inr, option_map}
use Rattle.std.specs.List.{AllByRecursion as Each}
use Rattle.std.specs.FinMap.{get}
use Rattle.art_model.specs.Prelude.{without_child, leaf_name, LeafNode, LeafPtr, Leaf, OpaqueNodePtr, Nodes, change, IsIn, IsFront, ChangesInPlace, Frees, KeepsOthers, leaf_node, inner_node, name_of, names_of, names_below, leaf_names, entries_of, slots_of, first_or, last_or, AreDistinct, AreLinked, Holds, IsLayout, first_of, Frame, plug, IsPath, HoldsPath, pairs_before, pairs_after, leaves_before, leaves_after, names_before, names_after, IsRadix, join, pairs_of, content_at, held_leaf, held_inner, node_at, links_at, pair_of, tree_node, Tree, leaf, inner, child, no_child, as_inner, parent_of, with_links_around, with_child_at}
use Rattle.art_nodes.proofs.StoreChanges.{inner_changed_here, inner_changed_elsewhere}
use Rattle.art_model.proofs.stores.Canonical.{IsLaidOut}
use Rattle.art_model.proofs.leaves.Chains.{AreBeside, relinked_beside}
use Rattle.art_model.proofs.changes.Kept.{kept_leaves, kept_leaves_fewer}
use Rattle.art_model.proofs.leaves.Leaves.{joined_elsewhere, joined_pair}
use Rattle.art_model.proofs.leaves.Links.{relink, last_or-push, first_in}
use Rattle.art_model.proofs.changes.IntoHole.{leaves_after_in, leaves_before_in}
use Rattle.art_model.proofs.lists.Lists.{Each-left, each_from, each_in, first_and_rest, in_around, in_either, in_left, in_right}
use Rattle.art_model.proofs.stores.Names.{apart_in, taken_distinct, takes_leaves}
use Rattle.art_model.proofs.changes.OutOf.{HasLeafBelow, parent_is, slots_left}
use Rattle.art_model.proofs.lists.Pairwises.{Pairwise-across, Pairwise-append, Pairwise-left, Pairwise-right}
use Rattle.art_model.proofs.places.Paths.{entries_before, entries_after, entries_of-plug, leaf_names-plug, leaf_names_below-join}
use Rattle.art_model.proofs.places.Paths.{length-leaf_names, name_of-plug, names_below-join, names_of-plug, pairs_of-plug, plug_radix}
use Rattle.art_model.proofs.places.Paths.{radix_plug, root_with}
use Rattle.art_model.proofs.radix.Rebuild.{radix_way}
use Rattle.art_model.proofs.changes.Regrown.{children_regrown, leaf_regrown}
use Rattle.art_model.proofs.stores.Stores.{IsParent, ParentHas, SameBut, after_apart, before_apart, frame, hole_distinct, parent_apart, parent_before, path_holds, replace}
use Rattle.art_model.proofs.stores.Views.{held_in_inner, leaf_or, same_inner_held, same_leaf}
use Rattle.art_model.proofs.places.Wholes.{kept}
use Rattle.art_model.proofs.stores.Writes.{inner_name_one, node_at-inner, node_at-leaf, parent_stays, parent_there, parent_written, same_but, same_inner, shown, with_child_at-elsewhere}

-- ---- paths, one after the other, and the neighbours of a hole

module _ {N A : Type 0} where
  pub plug-append : (gs fs : List (Frame N A)) (t : Tree N A) → plug (gs ++ fs) t ≡ plug fs (plug gs t)
  plug-append [] fs t = refl
  plug-append (g ∷ gs) fs t = plug-append gs fs (inner g.mark g.header (join g.left (child g.byte t g.right)))

  -- a tree whose hole has another tree of the same name has the same name
  same_name : (gs : List (Frame N A)) (t u : Tree N A) → name_of u ≡ name_of t → name_of (plug gs u) ≡ name_of (plug gs t)
  same_name [] t u e = e
  same_name (g ∷ gs) t u e =
      same_name gs (inner g.mark g.header (join g.left (child g.byte t g.right)))
      (inner g.mark g.header (join g.left (child g.byte u g.right))) refl

-- ---- a leaf below a node, the innermost of a path inside a subtree

module _ {K V : Type 0} {bytes : K × V → List ℕ} {P : ℕ} {s : Nodes K V} {root : OpaqueNodePtr} {pairs : List (K × V)}
    {f : Frame OpaqueNodePtr (K × V)} {n : LeafPtr} {y : LeafNode K V}
    (fs gs : List (Frame OpaqueNodePtr (K × V))) (below : HasLeafBelow bytes P s root pairs f (gs ++ fs) n y) where
  abbrev x : K × V
  x = pair_of y

  -- the subtree, with the leaf and without it
  abbrev node : Tree OpaqueNodePtr (K × V)
  node = plug (f ∷ gs) (leaf (leaf_name n) x)

  abbrev upper : Tree OpaqueNodePtr (K × V)
  upper = inner f.mark f.header (join f.left (child f.byte (leaf (leaf_name n) x) f.right))

  abbrev fewer : Tree OpaqueNodePtr (K × V)
  fewer = inner f.mark f.header (join f.left f.right)

  abbrev pub rest : Tree OpaqueNodePtr (K × V)
  rest = plug gs fewer

  old : IsLaidOut bytes P (node_at s) (links_at s) root pairs (plug fs node)
  old = subst (IsLaidOut bytes P (node_at s) (links_at s) root pairs) (plug-append gs fs upper) below.laid

  hole : (place : List ℕ) × IsPath bytes P place fs × IsRadix bytes P place node
  hole = radix_plug bytes P fs node old.radix

  above : HoldsPath (node_at s) (name_of node) fs
  above = (path_holds (node_at s) fs node old.holds).0

  node_holds : Holds (node_at s) node
  node_holds = (path_holds (node_at s) fs node old.holds).1

  node_distinct : AreDistinct (names_of node)
  node_distinct = hole_distinct (node_at s) (node_at s) fs node old.holds old.distinct

  -- ---- names

  node_names : names_of node ≡ names_before (f ∷ gs) ++ (leaf_name n ∷ []) ++ names_after (f ∷ gs)
  node_names = names_of-plug (f ∷ gs) (leaf (leaf_name n) x)

  rest_names : names_of rest ≡ names_before (f ∷ gs) ++ names_after (f ∷ gs)
  rest_names = names_of-plug gs fewer ∙ simp (names_below-join, append_assoc)

  apart : AreDistinct (names_before (f ∷ gs) ++ (leaf_name n ∷ []) ++ names_after (f ∷ gs))
  apart = subst AreDistinct node_names node_distinct

  rest_in : (k : OpaqueNodePtr) → IsIn k (names_of rest) → IsIn k (names_of node)
  rest_in k i = subst (IsIn k) (sym node_names) (in_around k (names_before (f ∷ gs)) (leaf_name n ∷ []) (names_after (f ∷ gs)) (subst (IsIn k) rest_names i))

  node_in : (k : OpaqueNodePtr) → IsIn k (names_of node) → IsIn k (names_of rest) ⊎ (k ≡ leaf_name n)
  node_in k i = elim (in_either k (names_before (f ∷ gs) ++ (leaf_name n ∷ [])) (names_after (f ∷ gs)) (subst (IsIn k) node_names i)) [
    | inl j ↦ elim (in_either k (names_before (f ∷ gs)) (leaf_name n ∷ []) j) [
      | inl h ↦ inl (subst (IsIn k) (sym rest_names) (in_left k (names_before (f ∷ gs)) (names_after (f ∷ gs)) h))
      | inr h ↦ elim h [ inl e ↦ inr (sym e) | inr z ↦ absurd z ]
    ]
    | inr j ↦ inl (subst (IsIn k) (sym rest_names) (in_right k (names_before (f ∷ gs)) (names_after (f ∷ gs)) j))
  ]

  leaf_off : IsIn (leaf_name n) (names_of rest) → ⊥
  leaf_off i = elim (in_either (leaf_name n) (names_before (f ∷ gs)) (names_after (f ∷ gs)) (subst (IsIn (leaf_name n)) rest_names i)) [
    | inl j ↦ apart_in (names_before (f ∷ gs)) (leaf_name n ∷ []) (leaf_name n)
        (Pairwise-left ◌≢◌ (names_before (f ∷ gs) ++ (leaf_name n ∷ [])) (names_after (f ∷ gs)) apart) j (inl refl)
    | inr j ↦ apart_in (names_before (f ∷ gs) ++ (leaf_name n ∷ [])) (names_after (f ∷ gs)) (leaf_name n) apart
        (in_right (leaf_name n) (names_before (f ∷ gs)) (leaf_name n ∷ []) (inl refl)) j
  ]

  leaf_in : IsIn (leaf_name n) (names_of node)
  leaf_in = subst (IsIn (leaf_name n)) (sym node_names) (in_left (leaf_name n) (names_before (f ∷ gs) ++ (leaf_name n ∷ [])) (names_after (f ∷ gs))
      (in_right (leaf_name n) (names_before (f ∷ gs)) (leaf_name n ∷ []) (inl refl)))

  pair_in : IsIn x (pairs_of node)
  pair_in = subst (IsIn x) (sym (pairs_of-plug (f ∷ gs) (leaf (leaf_name n) x))) (in_left x (pairs_before (f ∷ gs) ++ (x ∷ [])) (pairs_after (f ∷ gs))
      (in_right x (pairs_before (f ∷ gs)) (x ∷ []) (inl refl)))

  entry_in : (e : (K × V) × OpaqueNodePtr) → IsIn e (entries_of (leaf (leaf_name n) x)) → IsIn e (entries_of node)
  entry_in e i = subst (IsIn e) (sym (entries_of-plug (f ∷ gs) (leaf (leaf_name n) x)))
      (in_left e (entries_before (f ∷ gs) ++ ((x, leaf_name n) ∷ [])) (entries_after (f ∷ gs))
      (in_right e (entries_before (f ∷ gs)) ((x, leaf_name n) ∷ []) i))

  pub mark_in : IsIn f.mark (names_of node)
  mark_in = rest_in f.mark (subst (IsIn f.mark) (sym (names_of-plug gs fewer))
      (in_left f.mark (names_before gs ++ (f.mark ∷ names_below (join f.left f.right))) (names_after gs)
      (in_right f.mark (names_before gs) (f.mark ∷ names_below (join f.left f.right)) (inl refl))))

  -- one leaf fewer
  pub rest_leaves : length (leaf_names rest) + 1 ≡ length (pairs_of node)
  rest_leaves =
      let a : leaf_names rest ≡ leaves_before (f ∷ gs) ++ leaves_after (f ∷ gs) = leaf_names-plug gs fewer ∙ simp (leaf_names_below-join, append_assoc) in
      let b : leaf_names node ≡ leaves_before (f ∷ gs) ++ (leaf_name n ∷ []) ++ leaves_after (f ∷ gs) = leaf_names-plug (f ∷ gs) (leaf (leaf_name n) x) in
      let c = ap length a ∙ length-append (leaves_before (f ∷ gs)) (leaves_after (f ∷ gs)) in
      let d = ap length b ∙ length-append (leaves_before (f ∷ gs) ++ (leaf_name n ∷ [])) (leaves_after (f ∷ gs)) in
      let e = length-append (leaves_before (f ∷ gs)) (leaf_name n ∷ []) in
      let g = length-leaf_names node in
      omega arith

  -- ---- the leaf is removed from its parent

  abbrev mid : Nodes K V
  mid = record s { inners = change s.inners (as_inner f.mark) (without_child f.byte) }

  other_inner : (k : OpaqueNodePtr) → k ≢ f.mark → get mid.inners (as_inner k) ≡ get s.inners (as_inner k)
  other_inner k off = inner_changed_elsewhere s.inners (as_inner f.mark) (as_inner k) (without_child f.byte) (λ e. off (inner_name_one k f.mark e))

  up_other : (k : OpaqueNodePtr) → IsParent gs k → k ≢ f.mark
  up_other k up e = parent_apart (node_at s) (node_at s) gs upper node_holds node_distinct k up (inl (sym e))

  parent_same : (k : OpaqueNodePtr) → IsParent gs k → node_at mid k ≡ node_at s k
  parent_same k up =
      same_inner s mid k (parent_there bytes P s gs f.mark (path_holds (node_at s) gs upper node_holds).0 k up).0 (other_inner k (up_other k up))

  mid_same : (touched : List OpaqueNodePtr) → IsIn f.mark touched → SameBut (node_at s) (node_at mid) gs touched
  mid_same touched i = same_but s mid gs touched (λ p off used. refl) (λ k kind up off used. other_inner k (λ e. off (subst (λ z. IsIn z touched) (sym e) i)))

  mark_now : node_at mid f.mark ≡ Some (inner_node f.header (slots_of (join f.left f.right)))
  mark_now =
      let (off, i, got, head, kids) = parent_is below in
      node_at-inner mid f.mark off (Some (without_child f.byte i)) (inner_changed_here s.inners (as_inner f.mark) (without_child f.byte) i got)
      ∙ shown head (slots_left below i.children kids)

  mid_held : Holds (node_at mid) rest × AreDistinct (names_of rest)
  mid_held = replace (node_at s) (node_at mid) gs upper fewer node_holds node_distinct
      (parent_stays (node_at s) (node_at mid) gs f.mark (path_holds (node_at s) gs upper node_holds).0 parent_same)
      (children_regrown (node_at s) (node_at mid) gs f.mark f.header f.left
      (child f.byte (leaf (leaf_name n) x) no_child) f.right node_holds node_distinct f.mark f.header no_child
      (record { named = inl refl; were_free = tt; distinct = tt; apart = tt; there = mark_now; below = tt }) (mid_same (f.mark ∷ leaf_name n ∷ []) (inl refl)))
      (mid_same (names_of upper) (inl refl))

  -- ---- it is linked with the leaf after the subtree, and becomes a child of the node above

  module _ (w : Nodes K V) (next : Option LeafPtr) (leaves : w.leaves ≡ with_links_around s.leaves (Some n) next next (Some n))
      (inners : w.inners ≡ with_child_at (parent_of fs) (leaf_name n) (change s.inners (as_inner f.mark) (without_child f.byte))) where
    still : (k : OpaqueNodePtr) → IsIn k (names_of node) → node_at w k ≡ node_at mid k
    still k i = elim (leaf_or k) [
      | inl (p, e) ↦ subst (λ z. node_at w z ≡ node_at mid z) (sym e) (node_at-leaf w p ∙ ap (option_map leaf_node)
          (ap (λ m. option_map pair_of (get m p)) leaves ∙ joined_pair s.leaves (Some n) next next (Some n) p) ∙ sym (node_at-leaf mid p))
      | inr kind ↦ same_inner mid w k kind (ap (λ m. get m (as_inner k)) inners ∙ with_child_at-elsewhere fs (leaf_name n) mid.inners k
          (λ up. parent_apart (node_at s) (node_at s) fs node old.holds old.distinct k up i))
    ]

    -- what is left below the node is unchanged there
    pub rest_layout : IsLayout (node_at w) (name_of node) rest
    rest_layout = record {
      named = same_name gs upper fewer refl;
      holds = frame (node_at mid) (node_at w) rest (each_from (λ k. node_at w k ≡ node_at mid k) (names_of rest) (λ k i. still k (rest_in k i))) mid_held.0;
      distinct = mid_held.1;
    }

    -- nodes in use outside the subtree are unchanged, except for links and the parent
    other_held : (k : OpaqueNodePtr) → (IsIn k (names_of node) → ⊥) → (IsParent fs k → ⊥) →
        ((p : LeafPtr) → next ≡ Some p → k ≢ leaf_name p) → content_at w k ≡ content_at s k
    other_held k off up not_next = elim (leaf_or k) [
      | inl (p, e) ↦ subst (λ z. content_at w z ≡ content_at s z) (sym e) (ap (option_map held_leaf) (ap (λ m. get m p) leaves
          ∙ joined_elsewhere s.leaves (Some n) next next (Some n) p
          (λ g. off (subst (λ z. IsIn z (names_of node)) (sym (e ∙ ap leaf_name (sym (some_one g)))) leaf_in)) (λ g. not_next p g e)))
      | inr kind ↦ held_in_inner w k.kind k.slot kind
          ∙ ap (option_map held_inner) (ap (λ m. get m (as_inner k)) inners ∙ with_child_at-elsewhere fs (leaf_name n) mid.inners k up
          ∙ other_inner k (λ e. off (subst (λ z. IsIn z (names_of node)) (sym e) mark_in))) ∙ sym (held_in_inner s k.kind k.slot kind)
    ]
      where
        some_one : {p q : LeafPtr} → ◌≡◌ {A = Option LeafPtr} (Some p) (Some q) → p ≡ q
        some_one e = cc

    -- ---- what is left below the node is freed

    module _ {t : Nodes K V} (freed : Frees (names_of rest) w t) (first : first_of (leaf_names node) ≡ Some (leaf_name n))
        (next_is : option_map leaf_name next ≡ first_or (leaves_after fs) None) where
      abbrev before : List OpaqueNodePtr
      before = leaves_before fs

      abbrev after : List OpaqueNodePtr
      after = leaves_after fs

      kept_leaf_at : (p : LeafPtr) → (IsIn (leaf_name p) (names_of rest) → ⊥) → get t.leaves p ≡ get w.leaves p
      kept_leaf_at p off = same_leaf (get t.leaves p) (get w.leaves p) (freed.beside (leaf_name p) off (λ z. z))

      kept_inner_at : (k : OpaqueNodePtr) → k.kind ≢ Leaf → (IsIn k (names_of rest) → ⊥) → get t.inners (as_inner k) ≡ get w.inners (as_inner k)
      kept_inner_at k kind off =
          same_inner_held K V (get t.inners (as_inner k)) (get w.inners (as_inner k))
          (sym (held_in_inner t k.kind k.slot kind) ∙ freed.beside k off (λ z. z) ∙ held_in_inner w k.kind k.slot kind)

      kept_node_at : (k : OpaqueNodePtr) → (IsIn k (names_of rest) → ⊥) → node_at t k ≡ node_at w k
      kept_node_at k off = ap (option_map (tree_node k.kind)) (freed.beside k off (λ z. z))

      beside_apart : (k : OpaqueNodePtr) → IsIn k before ⊎ IsIn k after → IsIn k (names_of node) → ⊥
      beside_apart k (inl h) j = before_apart (node_at s) (node_at s) fs node old.holds old.distinct k (leaves_before_in fs k h) j
      beside_apart k (inr h) j = after_apart (node_at s) (node_at s) fs node old.holds old.distinct k j (leaves_after_in fs k h)

      up_apart : (k : OpaqueNodePtr) → IsParent fs k → IsIn k (names_of node) → ⊥
      up_apart k up i = parent_apart (node_at s) (node_at s) fs node old.holds old.distinct k up i

      -- the chain
      others : List OpaqueNodePtr
      others = (first_and_rest (leaf_name n) (leaf_names node) first).0

      all_leaves : leaf_names (plug fs node) ≡ (before ++ leaf_name n ∷ []) ++ others ++ after
      unfolding others
      all_leaves = leaf_names-plug fs node ∙ ap (λ z. before ++ z ++ after) (first_and_rest (leaf_name n) (leaf_names node) first).1
          ∙ ap (λ z. z ++ after) (sym (append_assoc before (leaf_name n ∷ []) others))

      whole_leaves : AreDistinct ((before ++ leaf_name n ∷ []) ++ others ++ after)
      whole_leaves = subst AreDistinct all_leaves (taken_distinct takes_leaves (plug fs node) old.distinct)

      outer : AreDistinct ((before ++ leaf_name n ∷ []) ++ after)
      outer = Pairwise-append ◌≢◌ (before ++ leaf_name n ∷ []) after (Pairwise-left ◌≢◌ (before ++ leaf_name n ∷ []) others
          (Pairwise-left ◌≢◌ ((before ++ leaf_name n ∷ []) ++ others) after whole_leaves))
          (Pairwise-right ◌≢◌ ((before ++ leaf_name n ∷ []) ++ others) after whole_leaves)
          (Each-left (λ k. Each (λ y. k ≢ y) after) (before ++ leaf_name n ∷ []) others
          (Pairwise-across ◌≢◌ ((before ++ leaf_name n ∷ []) ++ others) after whole_leaves))

      stays_off : (k : OpaqueNodePtr) → IsIn k ((before ++ leaf_name n ∷ []) ++ after) → IsIn k (names_of rest) → ⊥
      stays_off k i j = elim (in_either k (before ++ leaf_name n ∷ []) after i) [
        | inl h ↦ elim (in_either k before (leaf_name n ∷ []) h) [
          | inl l ↦ beside_apart k (inl l) (rest_in k j)
          | inr l ↦ elim l [ inl e ↦ leaf_off (subst (λ z. IsIn z (names_of rest)) (sym e) j) | inr z ↦ z ]
        ]
        | inr h ↦ beside_apart k (inr h) (rest_in k j)
      ]

      last_before : Some (leaf_name n) ≡ last_or (before ++ leaf_name n ∷ []) None
      last_before = sym (last_or-push before (leaf_name n) None)

      are_beside : AreBeside s t (before ++ leaf_name n ∷ []) [] after (Some n) next next (Some n)
      are_beside = record {
        distinct = outer;
        before_is = last_before;
        after_is = next_is;
        next_is = next_is;
        previous_is = last_before;
        inside = tt;
        leaves = λ p i. kept_leaf_at p (stays_off (leaf_name p) i) ∙ ap (λ m. get m p) leaves;
      }

      now_linked : AreLinked (links_at t) None (leaf_names (plug fs (leaf (leaf_name n) x))) None
      now_linked =
          let linked = relink (links_at s) (links_at t) (before ++ leaf_name n ∷ []) [] after outer (relinked_beside are_beside) others
          (subst (λ ks. AreLinked (links_at s) None ks None) all_leaves old.linked) in
          subst (λ ks. AreLinked (links_at t) None ks None)
          (ap (λ z. z ++ after) (append-nil (before ++ leaf_name n ∷ [])) ∙ sym (leaf_names-plug fs (leaf (leaf_name n) x))) linked

      -- the tree
      now_there : node_at t (leaf_name n) ≡ Some (leaf_node x)
      now_there = kept_node_at (leaf_name n) leaf_off ∙ still (leaf_name n) leaf_in ∙ (path_holds (node_at s) (f ∷ gs) (leaf (leaf_name n) x) node_holds).1

      now_parent : ParentHas (node_at t) fs (leaf_name n)
      now_parent = parent_written bytes P s t mid.inners fs hole.0 (name_of node) (leaf_name n) hole.1 above
          (λ k up. other_inner k (λ e. up_apart k up (subst (λ z. IsIn z (names_of node)) (sym e) mark_in)))
          (λ k up. kept_inner_at k (parent_there bytes P s fs (name_of node) above k up).0 (λ i. up_apart k up (rest_in k i))
          ∙ ap (λ m. get m (as_inner k)) inners)

      now_same : SameBut (node_at s) (node_at t) fs (names_of node)
      now_same k up off used = kept_node_at k (λ i. off (rest_in k i)) ∙ same_but s w fs (names_of node)
          (λ p off used. ap (λ m. option_map pair_of (get m p)) leaves ∙ joined_pair s.leaves (Some n) next next (Some n) p)
          (λ k kind up off used. ap (λ m. get m (as_inner k)) inners ∙ with_child_at-elsewhere fs (leaf_name n) mid.inners k up
          ∙ other_inner k (λ e. off (subst (λ z. IsIn z (names_of node)) (sym e) mark_in))) k up off used

      leaf_radix : IsRadix bytes P hole.0 (leaf (leaf_name n) x)
      leaf_radix = each_in (λ z. IsFront hole.0 (bytes z)) x (pairs_of node) (radix_way bytes P node hole.0 hole.2) pair_in

      pub now_laid : IsLaidOut bytes P (node_at t) (links_at t) (root_with fs root (leaf_name n))
          (pairs_before fs ++ (x ∷ []) ++ pairs_after fs) (plug fs (leaf (leaf_name n) x))
      now_laid =
          let (holds, distinct) =
          replace (node_at s) (node_at t) fs node (leaf (leaf_name n) x) old.holds old.distinct now_parent
          (leaf_regrown (node_at s) (node_at t) node (leaf_name n) x (inl leaf_in) now_there) now_same in
          record {
            named = name_of-plug fs node (leaf (leaf_name n) x) ∙ ap (λ r. root_with fs r (leaf_name n)) old.named;
            radix = plug_radix bytes P fs hole.0 (leaf (leaf_name n) x) hole.1 leaf_radix;
            pairs_are = pairs_of-plug fs (leaf (leaf_name n) x);
            holds = holds;
            distinct = distinct;
            linked = now_linked;
          }

      -- ---- what stays

      in_old : (k : OpaqueNodePtr) → IsIn k (names_before fs) ⊎ IsIn k (names_of node) ⊎ IsIn k (names_after fs) → IsIn k (names_of (plug fs node))
      in_old k i = subst (IsIn k) (sym (names_of-plug fs node)) (elim i [
        | inl j ↦ in_left k (names_before fs ++ names_of node) (names_after fs) (in_left k (names_before fs) (names_of node) j)
        | inr j ↦ elim j [
          | inl h ↦ in_left k (names_before fs ++ names_of node) (names_after fs) (in_right k (names_before fs) (names_of node) h)
          | inr h ↦ in_right k (names_before fs ++ names_of node) (names_after fs) h
        ]
      ])

      in_new : (k : OpaqueNodePtr) → IsIn k (names_before fs) ⊎ (k ≡ leaf_name n) ⊎ IsIn k (names_after fs) → IsIn k (names_of (plug fs (leaf (leaf_name n) x)))
      in_new k i = subst (IsIn k) (sym (names_of-plug fs (leaf (leaf_name n) x))) (elim i [
        | inl j ↦ in_left k (names_before fs ++ leaf_name n ∷ []) (names_after fs) (in_left k (names_before fs) (leaf_name n ∷ []) j)
        | inr j ↦ elim j [
          | inl e ↦ in_left k (names_before fs ++ leaf_name n ∷ []) (names_after fs) (in_right k (names_before fs) (leaf_name n ∷ []) (inl (sym e)))
          | inr h ↦ in_right k (names_before fs ++ leaf_name n ∷ []) (names_after fs) h
        ]
      ])

      pub now_fewer : (k : OpaqueNodePtr) → IsIn k (names_of (plug fs (leaf (leaf_name n) x))) → IsIn k (names_of (plug fs node))
      now_fewer k is_new =
          elim (in_either k (names_before fs ++ leaf_name n ∷ []) (names_after fs)
          (subst (IsIn k) (names_of-plug fs (leaf (leaf_name n) x)) is_new)) [
            | inl i ↦ elim (in_either k (names_before fs) (leaf_name n ∷ []) i) [
              | inl j ↦ in_old k (inl j)
              | inr j ↦ elim j [ inl e ↦ in_old k (inr (inl (subst (λ z. IsIn z (names_of node)) e leaf_in))) | inr z ↦ absurd z ]
            ]
            | inr i ↦ in_old k (inr (inr i))
          ]

      now_others : KeepsOthers s t (names_of (plug fs node)) (names_of (plug fs (leaf (leaf_name n) x)))
      now_others = record {
        beside = λ k not_old not_new. freed.beside k (λ i. not_old (in_old k (inr (inl (rest_in k i))))) (λ z. z) ∙
            other_held k (λ i. not_old (in_old k (inr (inl i)))) (λ up. not_old (in_old k (inl (parent_before fs k up))))
            (λ p e same. not_old (in_old k (inr (inr
            (leaves_after_in fs k (first_in after k (sym next_is ∙ ap (option_map leaf_name) e ∙ ap Some (sym same))))))));
        gone = λ k is_old not_new. elim (in_either k (names_before fs ++ names_of node) (names_after fs) (subst (IsIn k) (names_of-plug fs node) is_old)) [
          | inl i ↦ elim (in_either k (names_before fs) (names_of node) i) [
            | inl j ↦ absurd (not_new (in_new k (inl j)))
            | inr j ↦ elim (node_in k j) [ inl h ↦ freed.gone k h (λ z. z) | inr e ↦ absurd (not_new (in_new k (inr (inl e)))) ]
          ]
          | inr i ↦ absurd (not_new (in_new k (inr (inr i))))
        ];
        taken = λ k is_new not_old. absurd (not_old (now_fewer k is_new));
      }

      new_off : (k : OpaqueNodePtr) → IsIn k (names_of rest) → IsIn k (names_of (plug fs (leaf (leaf_name n) x))) → ⊥
      new_off k j is_new =
          elim (in_either k (names_before fs ++ leaf_name n ∷ []) (names_after fs)
          (subst (IsIn k) (names_of-plug fs (leaf (leaf_name n) x)) is_new)) [
            | inl i ↦ elim (in_either k (names_before fs) (leaf_name n ∷ []) i) [
              | inl h ↦ before_apart (node_at s) (node_at s) fs node old.holds old.distinct k h (rest_in k j)
              | inr h ↦ elim h [ inl e ↦ leaf_off (subst (λ z. IsIn z (names_of rest)) (sym e) j) | inr z ↦ z ]
            ]
            | inr i ↦ after_apart (node_at s) (node_at s) fs node old.holds old.distinct k (rest_in k j) i
          ]

      pub now_stays_or_goes : (k : OpaqueNodePtr) → IsIn k (names_of (plug fs node)) →
          IsIn k (names_of (plug fs (leaf (leaf_name n) x))) ⊎ (IsIn k (names_of (plug fs (leaf (leaf_name n) x))) → ⊥)
      now_stays_or_goes k is_old = elim (in_either k (names_before fs ++ names_of node) (names_after fs) (subst (IsIn k) (names_of-plug fs node) is_old)) [
        | inl i ↦ elim (in_either k (names_before fs) (names_of node) i) [
          | inl j ↦ inl (in_new k (inl j))
          | inr j ↦ elim (node_in k j) [ inl h ↦ inr (new_off k h) | inr e ↦ inl (in_new k (inr (inl e))) ]
        ]
        | inr i ↦ inl (in_new k (inr (inr i)))
      ]

      -- leaves and inner nodes keep their names
      pub now_kept : ChangesInPlace bytes s t (Some (plug fs node)) (Some (plug fs (leaf (leaf_name n) x)))
      now_kept =
          let leaves_kept = kept_leaves bytes P fs node (leaf (leaf_name n) x) old.radix now_laid.radix
          (kept_leaves_fewer bytes P node (leaf (leaf_name n) x) hole.0 hole.2 entry_in) in
          let inners_kept = kept bytes P fs hole.0 node (leaf (leaf_name n) x) hole.1 hole.2 leaf_radix (λ e f i j. absurd j) in
          record {
            leaves = λ a b k m i j same. sym (leaves_kept (a, k) (b, m) i j tt (sym same));
            inners = λ kind whole k m i j. sym (inners_kept (kind, whole, k) (kind, whole, m) i j refl refl);
            others = now_others;
          }
