-- Overwrite points, applied: a pair replaces a related one in its leaf.
use Rattle.std.proofs.Common.{◌≡◌, ◌≢◌, ℕ, ◌+◌, ◌<◌, ◌≤◌, List, [], ◌∷◌, ◌++◌, length, length-append, append_assoc, append-nil, drop, option_map}
use Rattle.std.proofs.Common.{Option, Some, None, true, false, is_some, IsSome, IfSome, IsSomeAnd, refl, ap, ap₂, sym, ◌∙◌, subst, arith}
use Rattle.std.specs.List.{AllByRecursion as Each}
use Rattle.std.specs.FinMap as map
use Rattle.art_model.specs.Prelude.{with_pair, Inner, child_at, leaf_name, Nodes, change, InnerPtr, NodeType, Node4, Node16, Node48, Node256, Leaf, LeafNode, LeafPtr, OpaqueNodePtr, IsCanonicalTree, IsFront, are_related, IsIn, ChangesInPlace, Frees, SameNodes, name_of, names_of, leaf_names, slots_of, first_or, last_or, Holds, overwrite, overwrite_reply, only_or_count, Frame, plug, leaves_before, leaves_after, depth_of, prefix_of, IsEndNode, AreRadix, bytes_of, pairs_of, pairs_below, ForTree, IsFullTree, node_at, links_at, pair_of, Tree, leaf, inner, Subtrees, child, no_child, as_inner, parent_of, with_child_at, with_leaf, IsThere}
use Rattle.art_model.specs.Footprints.{TouchesRelated}
use Rattle.art_model.proofs.stores.Canonical.{IsLaidOut, laid_out, canonical_from}
use Rattle.art_model.proofs.leaves.Chains.{AreThere, are_there, previous_there, next_there}
use Rattle.art_model.proofs.changes.IntoHole.{IntoHole, hole_kept, hole_overwritten, hole_related, hole_reply, hole_touches}
use Rattle.art_model.proofs.changes.IntoLeaf.{IntoLeaf, leaf_overwritten, leaf_overwrite_kept, leaf_overwrite_reply, leaf_touches}
use Rattle.art_model.proofs.places.Paths.{IsHole, leaf_names-plug, length-leaf_names}
use Rattle.art_model.proofs.places.Paths as paths
use Rattle.art_model.proofs.keys.Keys.{front_related}
use Rattle.art_model.proofs.leaves.Leaves.{with_leaf_pair}
use Rattle.art_model.proofs.lists.Lists.{each_from, in_around, Each-append, Each-weaker, after_front, front_cut, front_trans}
use Rattle.art_model.proofs.places.Places.{prefix_is}
use Rattle.art_model.proofs.radix.Rebuild.{radix_way, radix_some}
use Rattle.art_model.proofs.stores.Stores.{frame, hole_distinct, path_holds, stays}
use Rattle.art_model.proofs.radix.TreeLaws.{one_child, have_two_children}
use Rattle.art_model.proofs.stores.Views as views
use Rattle.art_model.proofs.stores.Writes.{parent_ready, same_but, with_child_at-elsewhere}
use Rattle.art_writing.specs.declared.insert.InsertParentNodeChange.TheVariants.{NoChange}
use Rattle.art_writing.specs.declared.insert.OverwritePoint.{OverwritePoint}
use Rattle.art_writing.specs.Inserted.{unlinked_leaf}
use Rattle.art_writing.specs.Overwritten.{IsOverwritePointIn, TouchesForNode, placed_for_overwrite}
use Rattle.art_reading.specs.EndNodes.{IsOverwrittenWith}
use Rattle.art_reading.specs.PathSteps.{last_step, path_of, root_with}
use Rattle.art_copying.specs.declared.links.Direction.TheVariants.{Before, After}
use Rattle.art_writing.specs.ParentWrites.{HasChild, IsBeside}
use Rattle.art_writing.proofs.LeftByPoints.{IsOverwritten}
use Rattle.art_writing.proofs.BranchReads.{beside_is}
use Rattle.art_writing.proofs.Answered.{IsEndLeaf, end_leaf, placed_end}
use Rattle.art_writing.proofs.Standing.{overwrite_answers_to}
use Rattle.art_writing.proofs.Ways.{last_step-path_of, root_with-path_of}

-- ---- the end node is a leaf

-- the leaf of a related key, at the end of a path of the layout
pub record IsRelatedLeaf {K V : Type 0} (bytes : K × V → List ℕ) (P : ℕ) (s : Nodes K V) (p : LeafPtr) (layout : Tree OpaqueNodePtr (K × V))
    (key : List ℕ) : Type 0 where
  pub at : IsEndLeaf bytes P s p layout key
  pub related : are_related key (bytes (pair_of at.shown)) ≡ true
  pub unequal : key ≢ bytes (pair_of at.shown)

module _ {K V : Type 0} {bytes : K × V → List ℕ} {P : ℕ} {s : Nodes K V} {point : OverwritePoint} {p : LeafPtr} {pairs : List (K × V)}
    {layout : Tree OpaqueNodePtr (K × V)} where
  -- it is in the store where a point names it
  pub related_leaf : {key : List ℕ} → IsOverwritePointIn bytes P s key point → leaf_name p ≡ point.overwrite_point →
      IsCanonicalTree bytes P s point.root pairs layout →
      IsRelatedLeaf bytes P s p layout key
  related_leaf {key} answers named by =
      let own = overwrite_answers_to answers by in
      go own.path own.node own.is_end (sym own.name_is ∙ sym named) point.key_bytes_used own.gives_way
    where
      go : (path : List (Frame OpaqueNodePtr (K × V))) (node : Tree OpaqueNodePtr (K × V)) → IsEndNode bytes layout key path node → name_of node ≡ leaf_name p →
          (used : ℕ) → IsOverwrittenWith bytes key (depth_of path) used node → IsRelatedLeaf bytes P s p layout key
      go path (inner n h cs) is_end is used gives =
          let held = (path_holds (node_at s) path (inner n h cs) (subst (Holds (node_at s)) (sym is_end.whole) by.stands.0.holds)).1.0 in
          absurd (views.leaf_name_is s p h (slots_of cs) (ap (node_at s) (sym is) ∙ held))
      go path (leaf n pair) is_end is used (used_is, related, unequal) =
          let (at, own) = end_leaf by is_end (ap (λ z. leaf z pair) is) in
          record { at = at; related = ap (λ z. are_related key (bytes z)) own ∙ related; unequal = λ e. unequal (e ∙ ap bytes own) }

module _ {K V : Type 0} {bytes : K × V → List ℕ} {P : ℕ} {s : Nodes K V} {point : OverwritePoint} {p : LeafPtr} (new : K × V)
    (answers : IsOverwritePointIn bytes P s (bytes new) point) (named : leaf_name p ≡ point.overwrite_point) where
  -- the leaf is in the store
  pub related_leaf_there : IsSome (map.get s.leaves p)
  related_leaf_there = let (pairs, layout, by, own) = answers in rw (related_leaf answers named by).at.there refl

  module _ (t : Nodes K V) (leaves : t.leaves ≡ change s.leaves p (with_pair new.0 new.1)) (inners : t.inners ≡ s.inners) where
    -- the pair is inserted, and the old one is returned
    pub leaf_pair_overwritten : (swapped : K × V) (existing : LeafNode K V) →
        IfSome (map.get s.leaves p) (λ leaf. swapped ≡ (leaf.key, leaf.value)) → existing ≡ unlinked_leaf swapped →
        ForTree bytes P s point.root (λ pairs layout. IsOverwritten bytes P s t point new pairs layout
        (record {
          insert_result = record {
            leaf_node_ptr = p;
            existing_leaf = Some existing;
            new_root = point.root;
            parent_node_change = NoChange;
          };
          leafs_removed = 0;
        }))
    leaf_pair_overwritten swapped existing pair is pairs layout by =
        let l = related_leaf answers named by in
        let into : IntoLeaf bytes P s t l.at.path l.at.place p l.at.shown new =
        record { hole = l.at.hole; here = l.at.there; write = with_pair new.0 new.1; written = refl; leaves = leaves; inners = inners } in
        let old = subst (IsLaidOut bytes P (node_at s) (links_at s) point.root pairs) (sym l.at.whole) (laid_out by) in
        let swapped_is : swapped ≡ pair_of l.at.shown = subst (λ o. IfSome o (λ leaf. swapped ≡ (leaf.key, leaf.value))) l.at.there pair in
        let reply = leaf_overwrite_reply old into l.related l.unequal in
        record {
          tree = plug l.at.path (leaf (leaf_name p) new);
          canonical = canonical_from (leaf_overwritten old into l.related l.unequal);
          leaf = record { has = record { path = l.at.path; whole = refl }; kept = λ kind. named; change = refl };
          existing = ap Some (is ∙ ap unlinked_leaf swapped_is) ∙ ap (λ z. option_map unlinked_leaf z.0) (sym reply);
          removed = ap (λ z. z.1) (sym reply);
          kept = subst (λ z. ChangesInPlace bytes s t (Some z) (Some (plug l.at.path (leaf (leaf_name p) new)))) l.at.whole
              (leaf_overwrite_kept old into l.related l.unequal);
          touches = subst (λ kind. TouchesForNode kind bytes (bytes new) s t layout) (ap (λ z. z.kind) named) (leaf_touches old into);
        }

-- ---- the end node is an inner node

-- The key is a proper prefix of all keys below the node, which are two or more.
pub record IsSubtreeAt {K V : Type 0} (bytes : K × V → List ℕ) (P : ℕ) (s : Nodes K V) (point : OverwritePoint)
    (layout : Tree OpaqueNodePtr (K × V)) (key : List ℕ) : Type 0 where
  pub path : List (Frame OpaqueNodePtr (K × V))
  pub place : List ℕ
  pub node : Tree OpaqueNodePtr (K × V)
  pub whole : plug path node ≡ layout
  pub hole : IsHole bytes P path place node key
  pub path_is : point.path ≡ path_of path
  pub full : IsFullTree s point.overwrite_point node
  pub related : Each (λ y. are_related key (bytes y) ≡ true) (pairs_of node)
  pub unequal : Each (λ y. bytes y ≢ key) (pairs_of node)
  pub two : 2 ≤ length (pairs_of node)

module _ {A : Type 0} (bytes : A → List ℕ) (P : ℕ) where
  -- what is below an inner node continues after its prefix
  goes_on : {N : Type 0} (key front : List ℕ) → IsFront key front → (cs : Subtrees N A) → AreRadix bytes P front cs →
      Each (λ y. IsFront key (bytes y) × (length key < length (bytes y))) (pairs_below cs)
  goes_on key front short no_child h = tt
  goes_on key front short (child b t cs) h = Each-append (λ y. IsFront key (bytes y) × (length key < length (bytes y))) (pairs_of t) (pairs_below cs)
      (Each-weaker (λ y. IsFront (front ++ b ∷ []) (bytes y)) (λ y. IsFront key (bytes y) × (length key < length (bytes y))) (λ y way. (
        front_trans key front (bytes y) short (front_cut front (b ∷ []) (bytes y) way),
        longer y way short,
      )) (pairs_of t) (radix_way bytes P t (front ++ b ∷ []) h.0))
      (goes_on key front short cs h.1)
    where
      longer : (y : A) → IsFront (front ++ b ∷ []) (bytes y) → IsFront key front → length key < length (bytes y)
      longer y (r, e) (q, f) =
          let l : length (bytes y) ≡ length (front ++ b ∷ []) + length r = ap length e ∙ length-append (front ++ b ∷ []) r in
          let m = length-append front (b ∷ []) in
          let k : length front ≡ length key + length q = ap length f ∙ length-append key q in
          omega arith

module _ {K V : Type 0} {bytes : K × V → List ℕ} {P : ℕ} {s : Nodes K V} {point : OverwritePoint} {pairs : List (K × V)}
    {layout : Tree OpaqueNodePtr (K × V)} where
  pub subtree_at : {key : List ℕ} → IsOverwritePointIn bytes P s key point → point.overwrite_point.kind ≢ Leaf →
      IsCanonicalTree bytes P s point.root pairs layout →
      IsSubtreeAt bytes P s point layout key
  subtree_at {key} answers off by =
      let own = overwrite_answers_to answers by in
      let a = placed_end by own.is_end in
      go own.path a.place own.node own.is_end.whole a.hole a.deep (sym own.name_is) own.path_is point.key_bytes_used own.gives_way
    where
      go : (path : List (Frame OpaqueNodePtr (K × V))) (place : List ℕ) (node : Tree OpaqueNodePtr (K × V)) → plug path node ≡ layout →
          IsHole bytes P path place node key → depth_of path ≡ length place → name_of node ≡ point.overwrite_point → point.path ≡ path_of path →
          (used : ℕ) → IsOverwrittenWith bytes key (depth_of path) used node → IsSubtreeAt bytes P s point layout key
      go path place (leaf n pair) whole hole deep named path_is used gives =
          let held = (path_holds (node_at s) path (leaf n pair) (subst (Holds (node_at s)) (sym whole) by.stands.0.holds)).1 in
          absurd (views.inner_name_is s (as_inner point.overwrite_point) pair off (ap (node_at s) (sym named) ∙ held))
      go path place (inner n h cs) whole hole deep named path_is used (used_is, short) =
          let laid = subst (IsLaidOut bytes P (node_at s) (links_at s) point.root pairs) (sym whole) (laid_out by) in
          let part = hole.radix.0 in
          let prefix : prefix_of bytes (depth_of path) (inner n h cs) ≡ part =
          ap (λ d. prefix_of bytes d (inner n h cs)) deep ∙ prefix_is bytes P n h cs place hole.radix in
          let (r, e) = hole.front in
          let rest : drop (depth_of path) key ≡ r = ap (λ d. drop d key) deep ∙ after_front place key r e in
          let (q, f) = short in
          let ends : IsFront key (place ++ part) =
          (q, ap (λ z. place ++ z) (sym prefix ∙ f ∙ ap (λ z. z ++ q) rest) ∙ sym (append_assoc place r q) ∙ ap (λ z. z ++ q) (sym e)) in
          let below = goes_on bytes P key (place ++ part) ends cs hole.radix.4 in
          record {
            path = path;
            place = place;
            node = inner n h cs;
            whole = whole;
            hole = hole;
            path_is = path_is;
            full = (
              record {
                named = named;
                holds = (path_holds (node_at s) path (inner n h cs) laid.holds).1;
                distinct = hole_distinct (node_at s)
                    (node_at s) path (inner n h cs) laid.holds laid.distinct;
              },
              one_child (inner n h cs) (have_two_children bytes P place (inner n h cs) hole.radix),
            );
            related =
                Each-weaker (λ y. IsFront key (bytes y) × (length key < length (bytes y))) (λ y. are_related key (bytes y) ≡ true)
                (λ y g. front_related key (bytes y) g.0) (pairs_below cs) below;
            unequal =
                Each-weaker (λ y. IsFront key (bytes y) × (length key < length (bytes y))) (λ y. bytes y ≢ key)
                (λ y g same. let l = ap length same in let m = g.1 in omega arith) (pairs_below cs) below;
            two = two_pairs cs hole.radix.2 hole.radix.4;
          }
        where
          two_pairs : (cs : Subtrees OpaqueNodePtr (K × V)) → 2 ≤ length (bytes_of cs) → AreRadix bytes P (place ++ hole.radix.0) cs →
              2 ≤ length (pairs_below cs)
          two_pairs no_child two h = absurd (omega arith)
          two_pairs (child b t no_child) two h = absurd (omega arith)
          two_pairs (child b t (child c u cs)) two h =
              let (x, xs, e) = radix_some bytes P t ((place ++ hole.radix.0) ++ b ∷ []) h.0 in
              let (y, ys, f) = radix_some bytes P u ((place ++ hole.radix.0) ++ c ∷ []) h.1.0 in
              rw (e, f) (let l = length-append xs (y ∷ (ys ++ pairs_below cs)) in omega arith)

-- more than one was removed
went_many : {X : Type 0} (xs : List X) → 2 ≤ length xs → only_or_count xs ≡ (None, length xs)
went_many [] two = absurd (omega arith)
went_many (x ∷ []) two = absurd (omega arith)
went_many (x ∷ y ∷ xs) two = refl

-- a leaf is placed for an inner node
pub placed_for_inner : (kind : NodeType) → kind ≢ Leaf → placed_for_overwrite kind ≡ record { leaves = 1; inner = None }
placed_for_inner Leaf off = absurd (off refl)
placed_for_inner Node4 off = refl
placed_for_inner Node16 off = refl
placed_for_inner Node48 off = refl
placed_for_inner Node256 off = refl

for_inner : {K V : Type 0} (kind : NodeType) {bytes : K × V → List ℕ} {key : List ℕ} {s t : Nodes K V} {layout : Tree OpaqueNodePtr (K × V)} →
    kind ≢ Leaf → TouchesRelated bytes key s t (Some layout) → TouchesForNode kind bytes key s t layout
for_inner Leaf off h = absurd (off refl)
for_inner Node4 off h = h
for_inner Node16 off h = h
for_inner Node48 off h = h
for_inner Node256 off h = h

-- A leaf is placed, and the parent at the end of the path has it.
pub record IsPutAt {K V : Type 0} (s u : Nodes K V) (point : OverwritePoint) (n : LeafPtr) (x : LeafNode K V) : Type 0 where
  pub fresh : map.get s.leaves n ≡ None
  pub leaves : u.leaves ≡ with_leaf s.leaves n x
  pub inners : u.inners ≡ with_child_at (last_step point.path) (leaf_name n) s.inners

-- it is where the nodes were the same before
pub put_at : {K V : Type 0} {s : Nodes K V} (r q u : Nodes K V) {point : OverwritePoint} (x : LeafNode K V) → SameNodes s r →
    {n : LeafPtr} {name : OpaqueNodePtr} →
    map.get r.leaves n ≡ None → q.leaves ≡ with_leaf r.leaves n x → q.inners ≡ r.inners → name ≡ leaf_name n → u.leaves ≡ q.leaves →
    u.inners ≡ with_child_at (last_step point.path) name q.inners → IsPutAt s u point n x
put_at r q u {point = point} x same {n = n} fresh leaves inners name_is after_leaves after_inners = record {
  fresh = ap (λ m. map.get m n) (sym same.0) ∙ fresh;
  leaves = after_leaves ∙ leaves ∙ ap (λ m. with_leaf m n x) same.0;
  inners = after_inners ∙ ap₂ (λ z m. with_child_at (last_step point.path) z m) name_is (inners ∙ same.1);
}

module _ {K V : Type 0} {bytes : K × V → List ℕ} {P : ℕ} {s : Nodes K V} {point : OverwritePoint} {key : List ℕ} {pairs : List (K × V)}
    {layout : Tree OpaqueNodePtr (K × V)} (by : IsCanonicalTree bytes P s point.root pairs layout) (at : IsSubtreeAt bytes P s point layout key) where
  old_laid : IsLaidOut bytes P (node_at s) (links_at s) point.root pairs (plug at.path at.node)
  old_laid = subst (IsLaidOut bytes P (node_at s) (links_at s) point.root pairs) (sym at.whole) (laid_out by)

  links_previous : (previous next : Option LeafPtr) → IsBeside s at.node Before previous next →
      option_map leaf_name previous ≡ last_or (leaves_before at.path) None
  links_previous previous next comes =
      (beside_is s at.path at.node old_laid.linked false previous next comes).0
      ∙ ap (λ ks. last_or ks None) (append-nil (leaves_before at.path))

  links_next : (previous next : Option LeafPtr) → IsBeside s at.node After previous next → option_map leaf_name next ≡ first_or (leaves_after at.path) None
  links_next previous next comes = (beside_is s at.path at.node old_laid.linked true previous next comes).1

  subtree_others : AreThere s (leaves_before at.path ++ leaves_after at.path)
  subtree_others p i =
      are_there s (plug at.path at.node) old_laid.holds p (subst (IsIn (leaf_name p)) (sym (leaf_names-plug at.path at.node))
      (in_around (leaf_name p) (leaves_before at.path) (leaf_names at.node) (leaves_after at.path) i))

  -- the neighbours of the subtree are in the store
  subtree_previous : {previous : Option LeafPtr} → option_map leaf_name previous ≡ last_or (leaves_before at.path) None → IsThere s.leaves previous
  subtree_previous {previous} e = previous_there s (leaves_before at.path) (leaves_after at.path) previous subtree_others e

  subtree_next : {next : Option LeafPtr} → option_map leaf_name next ≡ first_or (leaves_after at.path) None → IsThere s.leaves next
  subtree_next {next} e = next_there s (leaves_before at.path) (leaves_after at.path) next subtree_others e

  -- and so is the parent, with a child under its byte
  subtree_parent : HasChild s.inners (last_step point.path)
  subtree_parent =
      subst (HasChild s.inners) (sym (ap last_step at.path_is ∙ last_step-path_of at.path))
      (has (parent_of at.path) (parent_ready bytes P s at.path at.place (name_of at.node) at.hole.path
      (path_holds (node_at s) at.path at.node old_laid.holds).0))
    where
      some : (o : Option Inner) (b : ℕ) → IsSomeAnd o (λ node. child_at node.children b ≡ Some (name_of at.node)) →
          IsSomeAnd o (λ node. IsSome (child_at node.children b))
      some None b h = h
      some (Some node) b h = ap is_some h

      has : (o : Option (InnerPtr × ℕ)) → IfSome o
          (λ p. IsSomeAnd (map.get s.inners p.0) (λ node. child_at node.children p.1 ≡ Some (name_of at.node))) → HasChild s.inners o
      has None h = tt
      has (Some p) h = some (map.get s.inners p.0) p.1 h

  -- what is read of the neighbours
  pub read_previous : (previous : Option LeafPtr) →
      ((tree : Tree OpaqueNodePtr (K × V)) → IsFullTree s point.overwrite_point tree → (first : Option LeafPtr) × IsBeside s tree Before previous first) →
      option_map leaf_name previous ≡ last_or (leaves_before at.path) None
  read_previous previous told = let (first, beside) = told at.node at.full in links_previous previous first beside

  pub read_next : (next : Option LeafPtr) →
      ((tree : Tree OpaqueNodePtr (K × V)) → IsFullTree s point.overwrite_point tree → (last : Option LeafPtr) × IsBeside s tree After last next) →
      option_map leaf_name next ≡ first_or (leaves_after at.path) None
  read_next next told = let (last, beside) = told at.node at.full in links_next last next beside

  module _ {u : Nodes K V} {n : LeafPtr} {x : LeafNode K V} (put : IsPutAt s u point n x) where
    parent_inners : u.inners ≡ with_child_at (parent_of at.path) (leaf_name n) s.inners
    parent_inners = put.inners ∙ ap (λ o. with_child_at o (leaf_name n) s.inners) (ap last_step at.path_is ∙ last_step-path_of at.path)

    -- the subtree is unchanged when the leaf is placed and the parent names it
    pub subtree_still : IsFullTree u point.overwrite_point at.node
    subtree_still = (
      record {
        named = at.full.0.named;
        holds = frame (node_at s) (node_at u) at.node (each_from (λ k. node_at u k ≡ node_at s k) (names_of at.node) (λ k i.
            stays (node_at s) (node_at u) at.path at.node old_laid.holds old_laid.distinct []
            (same_but s u at.path [] (λ p off used. ap (λ z. option_map pair_of (map.get z p)) put.leaves
            ∙ with_leaf_pair s.leaves n x p (λ e. used (ap (map.get s.leaves) e ∙ put.fresh)))
            (λ q kind up off used. ap (λ z. map.get z (as_inner q)) parent_inners
            ∙ with_child_at-elsewhere at.path (leaf_name n) s.inners q up)) k i (λ z. z))) at.full.0.holds;
        distinct = at.full.0.distinct;
      },
      at.full.1,
    )

    module _ {t : Nodes K V} (new_key : bytes (pair_of x) ≡ key) (last : option_map leaf_name x.previous ≡ last_or (leaves_before at.path) None)
        (first : option_map leaf_name x.next ≡ first_or (leaves_after at.path) None) (freed : Frees (names_of at.node) u t) where
      into_hole : IntoHole bytes P s u t at.path at.place at.node n x
      into_hole = record {
        hole = subst (IsHole bytes P at.path at.place at.node) (sym new_key) at.hole;
        related = subst (λ k. Each (λ y. are_related k (bytes y) ≡ true) (pairs_of at.node)) (sym new_key) at.related;
        unequal = subst (λ k. Each (λ y. bytes y ≢ k) (pairs_of at.node)) (sym new_key) at.unequal;
        last = last;
        first = first;
        fresh = put.fresh;
        leaves = put.leaves;
        inners = parent_inners;
        freed = freed;
      }

      -- the leaf is inserted, and the number of removed leaves is returned
      pub subtree_overwritten : (after : OpaqueNodePtr) (count : ℕ) → after ≡ root_with point.path point.root (leaf_name n) →
          count ≡ length (leaf_names at.node) → point.overwrite_point.kind ≢ Leaf →
          IsOverwritten bytes P s t point (pair_of x) pairs layout
          (record {
            insert_result = record { leaf_node_ptr = n; existing_leaf = None; new_root = after; parent_node_change = NoChange };
            leafs_removed = count;
          })
      subtree_overwritten after count after_is count_is off =
          let into = into_hole in
          let reply : overwrite_reply bytes (pair_of x) pairs ≡ (None, length (pairs_of at.node)) =
          hole_reply old_laid into ∙ went_many (pairs_of at.node) at.two in
          let root : after ≡ paths.root_with at.path point.root (leaf_name n) =
          after_is ∙ ap (λ z. root_with z point.root (leaf_name n)) at.path_is ∙ root_with-path_of at.path point.root (leaf_name n) in
          record {
            tree = plug at.path (leaf (leaf_name n) (pair_of x));
            canonical =
                subst (λ z. IsCanonicalTree bytes P t z (overwrite bytes (pair_of x) pairs) (plug at.path (leaf (leaf_name n) (pair_of x))))
                (sym root) (canonical_from (hole_overwritten old_laid into));
            leaf = record { has = record { path = at.path; whole = refl }; kept = λ kind. absurd (off kind); change = refl };
            existing = ap (λ z. option_map unlinked_leaf z.0) (sym reply);
            removed = count_is ∙ length-leaf_names at.node ∙ ap (λ z. z.1) (sym reply);
            kept = subst (λ z. ChangesInPlace bytes s t (Some z) (Some (plug at.path (leaf (leaf_name n) (pair_of x))))) at.whole (hole_kept old_laid into);
            touches = for_inner point.overwrite_point.kind off (record {
              path = at.path;
              node = at.node;
              whole = ap Some (sym at.whole);
              pairs = sym (hole_related old_laid into);
              touches = hole_touches old_laid into;
            });
          }

-- ---- what is required of the store where the pair is inserted

module _ {K V : Type 0} {bytes : K × V → List ℕ} {P : ℕ} {s : Nodes K V} {point : OverwritePoint} {key : List ℕ}
    (answers : IsOverwritePointIn bytes P s key point)
    (off : point.overwrite_point.kind ≢ Leaf) where
  -- the end node stands for a full tree
  pub end_full : (tree : Tree OpaqueNodePtr (K × V)) × IsFullTree s point.overwrite_point tree
  end_full = let (pairs, layout, by, own) = answers in let at = subtree_at answers off by in (at.node, at.full)

module _ {K V : Type 0} {bytes : K × V → List ℕ} {P : ℕ} {s : Nodes K V} {point : OverwritePoint} {key : List ℕ}
    (answers : IsOverwritePointIn bytes P s key point)
    (off : point.overwrite_point.kind ≢ Leaf) (r : Nodes K V) (same : SameNodes s r) where
  -- its neighbours are in the store
  pub ends_there : (previous next : Option LeafPtr) →
      ((tree : Tree OpaqueNodePtr (K × V)) → IsFullTree s point.overwrite_point tree → (first : Option LeafPtr) × IsBeside s tree Before previous first) →
      ((tree : Tree OpaqueNodePtr (K × V)) → IsFullTree s point.overwrite_point tree → (last : Option LeafPtr) × IsBeside s tree After last next) →
      IsThere r.leaves previous × IsThere r.leaves next
  ends_there previous next told_before told_after =
      let (pairs, layout, by, own) = answers in
      let at = subtree_at answers off by in (
        subst (λ m. IsThere m previous) (sym same.0) (subtree_previous by at (read_previous by at previous told_before)),
        subst (λ m. IsThere m next) (sym same.0) (subtree_next by at (read_next by at next told_after)),
      )

  -- and the parent
  pub end_parent : (q : Nodes K V) → q.inners ≡ r.inners → HasChild q.inners (last_step point.path)
  end_parent q inners =
      let (pairs, layout, by, own) = answers in
      subst (λ m. HasChild m (last_step point.path)) (sym (inners ∙ same.1)) (subtree_parent by (subtree_at answers off by))

  -- the tree is unchanged when the leaf replaces it
  pub end_still : {u : Nodes K V} {n : LeafPtr} {x : LeafNode K V} → IsPutAt s u point n x →
      (tree : Tree OpaqueNodePtr (K × V)) × IsFullTree u point.overwrite_point tree
  end_still put = let (pairs, layout, by, own) = answers in let at = subtree_at answers off by in (at.node, subtree_still by at put)
