-- the descent along the first or the last children
use Rattle.std.proofs.Common.{◌≡◌, ◌≢◌, ℕ, suc, ◌-◌, ◌<◌, ◌≤◌, List, [], ◌∷◌, ◌++◌, length, slice_get, refl, ap, sym, ◌∙◌, arith, subst, append-nil, Some, None}
use Rattle.std.specs.FinMap as map
use Rattle.art_model.specs.Prelude.{Inner, leaf_name, inner_name, Nodes, Leaf, LeafPtr, InnerPtr, OpaqueNodePtr, Tree, leaf, inner, Subtrees, child, no_child, join, pairs_of, HaveChildren, HaveChildrenBelow, first_of, last_of, name_of, slots_of, leaf_names, Holds, node_at, header_at, Frame, plug, leaves_before, leaves_after, pairs_before, pairs_after, height, tree_height, height_below, IsFullTree}
use Rattle.art_model.proofs.stores.Stores.{HoldsBelow-right}
use Rattle.art_model.proofs.places.Paths.{leaf_names-plug, pairs_of-plug}
use Rattle.art_model.proofs.stores.Heights.{height_is, enough_steps}
use Rattle.art_model.proofs.stores.Slots.{length-slots_of}
use Rattle.art_model.proofs.stores.Shown.{IsShown, no_inner_gone, inner_shown, leaf_named}

-- ---- paths along an edge
module _ {N A : Type 0} where
  -- each frame's hole is under its first child
  abbrev pub AreFirst : List (Frame N A) → Type 0
  AreFirst [] = Unit {0}
  AreFirst (f ∷ fs) = (f.left ≡ no_child) × AreFirst fs

  -- each frame's hole is under its last child
  abbrev pub AreLast : List (Frame N A) → Type 0
  AreLast [] = Unit {0}
  AreLast (f ∷ fs) = (f.right ≡ no_child) × AreLast fs

  -- no leaf is before the hole, and no pair
  none_before : (fs : List (Frame N A)) → AreFirst fs → (leaves_before fs ≡ []) × (pairs_before fs ≡ [])
  none_before [] first = (refl, refl)
  none_before (f ∷ fs) first = let above = none_before fs first.1 in (rw (above.0, first.0) refl, rw (above.1, first.0) refl)

  -- none is after it
  none_after : (fs : List (Frame N A)) → AreLast fs → (leaves_after fs ≡ []) × (pairs_after fs ≡ [])
  none_after [] last = (refl, refl)
  none_after (f ∷ fs) last = let above = none_after fs last.1 in (rw (above.0, last.0) refl, rw (above.1, last.0) refl)

last_of-append : {X : Type 0} (xs : List X) (x : X) → last_of (xs ++ x ∷ []) ≡ Some x
last_of-append [] x = refl
last_of-append (y ∷ []) x = refl
last_of-append (y ∷ z ∷ xs) x = last_of-append (z ∷ xs) x

-- ---- the children at the edges
module _ {N A : Type 0} where
  pub first_child : (cs : Subtrees N A) (r : ℕ × N) → slice_get (slots_of cs) 0 ≡ Some r →
      (t : Tree N A) × (ds : Subtrees N A) × (cs ≡ join no_child (child r.0 t ds)) × (name_of t ≡ r.1)
  first_child no_child r e = absurd cc
  first_child (child b t cs) r e =
      let is : ◌≡◌ {A = ℕ × N} (b, name_of t) r = cc in
      (t, cs, ap (λ z. child z t cs) (ap (λ p. p.0) is), ap (λ p. p.1) is)

  pub last_child : (cs : Subtrees N A) (r : ℕ × N) → slice_get (slots_of cs) (length (slots_of cs) - 1) ≡ Some r → (ds : Subtrees N A) ×
      (t : Tree N A) × (cs ≡ join ds (child r.0 t no_child)) × (name_of t ≡ r.1)
  last_child no_child r e = absurd cc
  last_child (child b t no_child) r e =
      let is : ◌≡◌ {A = ℕ × N} (b, name_of t) r = cc in
      (no_child, t, ap (λ z. child z t no_child) (ap (λ p. p.0) is), ap (λ p. p.1) is)
  last_child (child b t (child c u cs)) r e =
      let at : suc (length (slots_of (child c u cs)) - 1) ≡ length (slots_of (child b t (child c u cs))) - 1 = omega arith in
      let (ds, v, whole, named) = last_child (child c u cs) r (ap (slice_get (slots_of (child b t (child c u cs)))) at ∙ e) in
      (child b t ds, v, ap (child b t) whole, named)

  -- the children on the right have as many as all do
  pub children_right : (least : ℕ) (cs ds : Subtrees N A) → HaveChildrenBelow least (join cs ds) → HaveChildrenBelow least ds
  children_right least no_child ds h = h
  children_right least (child b t cs) ds h = children_right least cs ds h.1

  -- a part of the children is no higher than all
  pub height_join : (cs ds : Subtrees N A) → height_below ds ≤ height_below (join cs ds)
  height_join no_child ds = omega arith
  height_join (child b t cs) ds = let l = height_join cs ds in omega arith

-- ---- a descent that keeps to an edge

-- a node of a full tree, where the frames above it keep to a side
pub record IsAtEdge {K V : Type 0} (side : List (Frame OpaqueNodePtr (K × V)) → Type 0) (s : Nodes K V) (tree : Tree OpaqueNodePtr (K × V))
    (name : OpaqueNodePtr) : Type 0 where
  pub path : List (Frame OpaqueNodePtr (K × V))
  pub node : Tree OpaqueNodePtr (K × V)
  pub whole : plug path node ≡ tree
  pub named : name_of node ≡ name
  pub holds : Holds (node_at s) node
  pub full : HaveChildren 1 node
  pub enough : tree_height node ≤ map.len s.inners
  pub along : side path

module _ {K V : Type 0} (side : List (Frame OpaqueNodePtr (K × V)) → Type 0) (s : Nodes K V) (tree : Tree OpaqueNodePtr (K × V)) where
  pub edge_start : {root : OpaqueNodePtr} → IsFullTree s root tree → side [] → IsAtEdge side s tree root
  edge_start (is, full) along = record {
    path = [];
    node = tree;
    whole = refl;
    named = is.named;
    holds = is.holds;
    full = full;
    enough = enough_steps s tree is.holds is.distinct;
    along = along;
  }

  module _ {name : OpaqueNodePtr} (d : IsAtEdge side s tree name) where
    pub edge_inner_there : {p : InnerPtr} → p.kind ≢ Leaf → inner_name p ≡ name → None ≡ map.get s.inners p → ⊥
    edge_inner_there {p} proper is gone = no_inner_gone s p proper d.node (d.named ∙ sym is) d.holds gone

    pub edge_shown : {p : InnerPtr} {shown : Inner} → p.kind ≢ Leaf → inner_name p ≡ name → Some shown ≡ map.get s.inners p → IsShown d.node p shown
    edge_shown {p} {shown} proper is there = inner_shown s p proper d.node (d.named ∙ sym is) d.holds shown there

    module _ {p : InnerPtr} {shown : Inner} (at : IsShown d.node p shown) where
      -- there is a child
      pub edge_some : 0 < length shown.children
      edge_some =
          let full = subst (HaveChildren 1) at.is d.full in
          let long = length-slots_of at.children in
          rw at.slots (let l = full.0 in omega arith)

      -- below one of the children, along any side that its frame keeps to
      pub edge_down : (next : List (Frame OpaqueNodePtr (K × V)) → Type 0) (l : Subtrees OpaqueNodePtr (K × V)) (b : ℕ)
          (t : Tree OpaqueNodePtr (K × V)) (r : Subtrees OpaqueNodePtr (K × V)) {to : OpaqueNodePtr} → at.children ≡ join l (child b t r) → name_of t ≡ to →
          next (record { mark = inner_name p; header = header_at p.kind shown; left = l; byte = b; right = r } ∷ d.path) →
          IsAtEdge next s tree to × (height (node_at s) (map.len s.inners) to < height (node_at s) (map.len s.inners) name)
      edge_down next l b t r {to} split named along =
          let is : d.node ≡ inner (inner_name p) (header_at p.kind shown) (join l (child b t r)) =
          at.is ∙ ap (inner (inner_name p) (header_at p.kind shown)) split in
          let held = subst (Holds (node_at s)) is d.holds in
          let below = HoldsBelow-right (node_at s) l (child b t r) held.1 in
          let full = subst (HaveChildren 1) is d.full in
          let tall : height (node_at s) (map.len s.inners) name ≡ tree_height d.node =
          ap (height (node_at s) (map.len s.inners)) (sym d.named) ∙ height_is (node_at s) d.node (map.len s.inners) d.holds d.enough in
          let node_tall = ap tree_height is in
          let child_tall = height_join l (child b t r) in
          let enough = d.enough in
          let short : height (node_at s) (map.len s.inners) to ≡ tree_height t =
          ap (height (node_at s) (map.len s.inners)) (sym named) ∙ height_is (node_at s) t (map.len s.inners) below.0 (omega arith) in (
            record {
              path = record { mark = inner_name p; header = header_at p.kind shown; left = l; byte = b; right = r } ∷ d.path;
              node = t;
              whole = ap (plug d.path) (sym is) ∙ d.whole;
              named = named;
              holds = below.0;
              full = (children_right 1 l (child b t r) full.1).0;
              enough = omega arith;
              along = along;
            },
            omega arith,
          )

-- at a leaf the path ends
module _ {K V : Type 0} {side : List (Frame OpaqueNodePtr (K × V)) → Type 0} {s : Nodes K V} {tree : Tree OpaqueNodePtr (K × V)}
    {name : OpaqueNodePtr} {p : LeafPtr} (is : leaf_name p ≡ name) (d : IsAtEdge side s tree name) where
  pub first_leaf : AreFirst d.path → (first_of (leaf_names tree) ≡ Some (leaf_name p)) ×
      ((x : K × V) × (first_of (pairs_of tree) ≡ Some x) × (plug d.path (leaf (leaf_name p) x) ≡ tree))
  first_leaf first =
      let (x, at) = leaf_named s p d.node (d.named ∙ sym is) d.holds in
      let whole = ap (plug d.path) (sym at) ∙ d.whole in (
        ap (λ t. first_of (leaf_names t)) (sym whole) ∙ ap first_of (leaf_names-plug d.path (leaf (leaf_name p) x)) ∙
            ap (λ ns. first_of (ns ++ leaf_name p ∷ [] ++ leaves_after d.path)) (none_before d.path first).0,
        (
          x,
          ap (λ t. first_of (pairs_of t)) (sym whole) ∙ ap first_of (pairs_of-plug d.path (leaf (leaf_name p) x)) ∙
              ap (λ xs. first_of (xs ++ x ∷ [] ++ pairs_after d.path)) (none_before d.path first).1,
          whole,
        ),
      )

  pub last_leaf : AreLast d.path → (last_of (leaf_names tree) ≡ Some (leaf_name p)) ×
      ((x : K × V) × (last_of (pairs_of tree) ≡ Some x) × (plug d.path (leaf (leaf_name p) x) ≡ tree))
  last_leaf last =
      let (x, at) = leaf_named s p d.node (d.named ∙ sym is) d.holds in
      let whole = ap (plug d.path) (sym at) ∙ d.whole in
      let names = ap leaf_names (sym whole) ∙ leaf_names-plug d.path (leaf (leaf_name p) x)
      ∙ ap (λ ns. leaves_before d.path ++ leaf_name p ∷ [] ++ ns) (none_after d.path last).0 in
      let pairs =
      ap pairs_of (sym whole) ∙ pairs_of-plug d.path (leaf (leaf_name p) x)
      ∙ ap (λ xs. pairs_before d.path ++ x ∷ [] ++ xs) (none_after d.path last).1 in (
        ap last_of names ∙ rw append-nil (last_of-append (leaves_before d.path) (leaf_name p)),
        (x, ap last_of pairs ∙ rw append-nil (last_of-append (pairs_before d.path) x), whole),
      )
