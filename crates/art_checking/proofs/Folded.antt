-- A fold proceeds child by child: some children of a node are joined, and the others are left.
use Rattle.std.proofs.Common.{◌≡◌, ◌≢◌, ℕ, ◌<◌, ◌≤◌, List, [], ◌∷◌, length, refl, ap, ap₂, sym, ◌∙◌, arith, subst, IsSome, Some, option_map}
use Rattle.std.specs.FinMap as map
use Rattle.art_model.specs.Prelude.{Inner, leaf_name, inner_name, Nodes, NodeType, Leaf, LeafPtr, InnerPtr, LeafNode, OpaqueNodePtr, Tree, inner, Subtrees, child, no_child, NodeHeader, join, bytes_of, HaveChildren, name_of, slots_of, names_of, names_below, AreDistinct, content_at, held_leaf, held_inner, node_at, header_at, height, tree_height, IsFullTree}
use Rattle.art_model.proofs.places.EdgeDescents.{children_right, height_join}
use Rattle.art_model.proofs.stores.Heights.{height_is, enough_steps}
use Rattle.art_model.proofs.lists.Pairwises.{Pairwise-left, Pairwise-right}
use Rattle.art_model.proofs.places.Paths.{names_below-join}
use Rattle.art_model.proofs.places.PlaceLaws.{join_none}
use Rattle.art_model.proofs.stores.Shown.{no_inner_gone, inner_shown, no_leaf_gone, leaf_shown}
use Rattle.art_model.proofs.stores.Stores.{HoldsBelow-right}
use Rattle.art_model.proofs.stores.Views.{held_in_inner}
use Rattle.art_reading.proofs.PartNodes.{some_there}
use Rattle.art_checking.specs.Folds.{Folds, JoinsAll, Joins}

module _ {N A : Type 0} where
  join_more : (cs : Subtrees N A) (b : ℕ) (t : Tree N A) (ds : Subtrees N A) → join (join cs (child b t no_child)) ds ≡ join cs (child b t ds)
  join_more no_child b t ds = refl
  join_more (child c u cs) b t ds = ap (child c u) (join_more cs b t ds)

-- ---- a child's tree
module _ {K V : Type 0} (s : Nodes K V) where
  -- what is held under a leaf's name, and under an inner node's
  held_at_leaf : (p : LeafPtr) (shown : LeafNode K V) → Some shown ≡ map.get s.leaves p → content_at s (leaf_name p) ≡ Some (held_leaf shown)
  held_at_leaf p shown there = ap (option_map held_leaf) (sym there)

  held_at_inner : (p : InnerPtr) → p.kind ≢ Leaf → (shown : Inner) → Some shown ≡ map.get s.inners p → content_at s (inner_name p) ≡ Some (held_inner shown)
  held_at_inner p proper shown there = held_in_inner s p.kind p.slot proper ∙ ap (option_map held_inner) (sym there)

  -- a child of a full tree has one too, a lower one
  module _ {name n : OpaqueNodePtr} {h : NodeHeader} (l : Subtrees OpaqueNodePtr (K × V)) (b : ℕ) (t : Tree OpaqueNodePtr (K × V))
      (r : Subtrees OpaqueNodePtr (K × V)) (full : IsFullTree s name (inner n h (join l (child b t r)))) where
    child_full : IsFullTree s (name_of t) t
    child_full =
        let below = subst AreDistinct (names_below-join l (child b t r)) full.0.distinct.1 in (
          record {
            named = refl;
            holds = (HoldsBelow-right (node_at s) l (child b t r) full.0.holds.1).0;
            distinct = Pairwise-left ◌≢◌ (names_of t) (names_below r) (Pairwise-right ◌≢◌ (names_below l) (names_below (child b t r)) below);
          },
          (children_right 1 l (child b t r) full.1.1).0,
        )

    child_lower : height (node_at s) (map.len s.inners) (name_of t) < height (node_at s) (map.len s.inners) name
    child_lower =
        let tall : height (node_at s) (map.len s.inners) name ≡ tree_height (inner n h (join l (child b t r))) =
        ap (height (node_at s) (map.len s.inners)) (sym full.0.named) ∙
        height_is (node_at s) (inner n h (join l (child b t r))) (map.len s.inners) full.0.holds
        (enough_steps s (inner n h (join l (child b t r))) full.0.holds full.0.distinct) in
        let short : height (node_at s) (map.len s.inners) (name_of t) ≡ tree_height t =
        height_is (node_at s) t (map.len s.inners) child_full.0.holds (enough_steps s t child_full.0.holds child_full.0.distinct) in
        let part = height_join l (child b t r) in
        omega arith

-- ---- the loop over the children
module _ {K V T Out : Type 0} (OfLeaf : T → LeafNode K V → Out → T → Type 0) (OfInner : T → NodeType → Inner → Out → Out → T → Type 0)
    (Combines : T → Out → Out → Out → Type 0) (s : Nodes K V) where
  abbrev FoldsIt : Tree OpaqueNodePtr (K × V) → T → Out → T → Type 0
  FoldsIt = Folds OfLeaf OfInner Combines s

  Joins-more : (cs : Subtrees OpaqueNodePtr (K × V)) (b : ℕ) (t : Tree OpaqueNodePtr (K × V)) (old mid new : T) (first joined own next : Out) →
      Joins OfLeaf OfInner Combines s cs old first joined mid → FoldsIt t mid own new → Combines new joined own next →
      Joins OfLeaf OfInner Combines s (join cs (child b t no_child)) old first next new
  Joins-more no_child b t old mid new first joined own next (e, f) folds combines =
      (new, own, next, subst (λ z. FoldsIt t z own new) f folds, subst (λ z. Combines new z own next) e combines, (refl, refl))
  Joins-more (child c u cs) b t old mid new first joined own next (m, o, n, of_u, step, rest) folds combines =
      (m, o, n, of_u, step, Joins-more cs b t m mid new n joined own next rest folds combines)

  -- Of the children of this node some are joined, and these are left.
  pub record HasJoined (layout : Tree OpaqueNodePtr (K × V)) (name : OpaqueNodePtr) (kind : NodeType) (shown : Inner)
      (left : List (ℕ × OpaqueNodePtr)) (old : T) (joined : Out) (now : T) : Type 0 where
    pub done : Subtrees OpaqueNodePtr (K × V)
    pub rest : Subtrees OpaqueNodePtr (K × V)
    pub is : layout ≡ inner name (header_at kind shown) (join done rest)
    pub slots : slots_of rest ≡ left
    pub joins : JoinsAll OfLeaf OfInner Combines s done old joined now

  module _ {name : OpaqueNodePtr} {layout : Tree OpaqueNodePtr (K × V)} (full : IsFullTree s name layout) (kind : NodeType) (shown : Inner) where
    -- The next child of a node has a tree of its own.
    record HasNext (done rest : Subtrees OpaqueNodePtr (K × V)) (next : ℕ × OpaqueNodePtr) (left : List (ℕ × OpaqueNodePtr)) : Type 0 where
      tree : Tree OpaqueNodePtr (K × V)
      others : Subtrees OpaqueNodePtr (K × V)
      is : rest ≡ child next.0 tree others
      slots : slots_of others ≡ left
      full_tree : IsFullTree s next.1 tree
      lower : height (node_at s) (map.len s.inners) next.1 < height (node_at s) (map.len s.inners) name

    has_next : (done rest : Subtrees OpaqueNodePtr (K × V)) (next : ℕ × OpaqueNodePtr) (left : List (ℕ × OpaqueNodePtr)) →
        layout ≡ inner name (header_at kind shown) (join done rest) → slots_of rest ≡ next ∷ left → HasNext done rest next left
    has_next done no_child next left is slots = absurd cc
    has_next done (child c t others) next left is slots =
        let first : ◌≡◌ {A = ℕ × OpaqueNodePtr} (c, name_of t) next = cc in
        let tail : slots_of others ≡ left = cc in
        let whole = subst (IsFullTree s name) is full in record {
          tree = t;
          others = others;
          is = ap (λ q. child q.0 t others) first;
          slots = tail;
          full_tree = subst (λ q. IsFullTree s q.1 t) first (child_full s done c t others whole);
          lower =
              subst (λ q. height (node_at s) (map.len s.inners) q.1 < height (node_at s) (map.len s.inners) name) first
              (child_lower s done c t others whole);
        }

    -- a child that has a tree, and is lower than the node
    abbrev IsBelow : OpaqueNodePtr → Type 0
    IsBelow n = ((t : Tree OpaqueNodePtr (K × V)) × IsFullTree s n t) × (height (node_at s) (map.len s.inners) n < height (node_at s) (map.len s.inners) name)

    module _ (cs : Subtrees OpaqueNodePtr (K × V)) (next : ℕ × OpaqueNodePtr) (left : List (ℕ × OpaqueNodePtr))
        (is : layout ≡ inner name (header_at kind shown) cs) (slots : slots_of cs ≡ next ∷ left) where
      pub first_child : IsBelow next.1
      first_child = let n = has_next no_child cs next left is slots in ((n.tree, n.full_tree), n.lower)

      -- it is joined first
      pub started : (old now : T) (out : Out) → ((t : Tree OpaqueNodePtr (K × V)) → IsFullTree s next.1 t → FoldsIt t old out now) →
          HasJoined layout name kind shown left old out now
      started old now out folds =
          let n = has_next no_child cs next left is slots in
          record {
            done = child next.0 n.tree no_child;
            rest = n.others;
            is = is ∙
                ap (inner name (header_at kind shown)) n.is;
            slots = n.slots;
            joins = (now, out, folds n.tree n.full_tree, (refl, refl));
          }

    module _ {next : ℕ × OpaqueNodePtr} {left : List (ℕ × OpaqueNodePtr)} {old now : T} {joined : Out}
        (has : HasJoined layout name kind shown (next ∷ left) old joined now) where
      -- there is a next child
      pub more_child : IsBelow next.1
      more_child = let n = has_next has.done has.rest next left has.is has.slots in ((n.tree, n.full_tree), n.lower)

      -- and then it is joined
      pub stepped : (new : T) (own out : Out) → ((t : Tree OpaqueNodePtr (K × V)) → IsFullTree s next.1 t → FoldsIt t now own new) →
          Combines new joined own out → HasJoined layout name kind shown left old out new
      stepped new own out folds combines =
          let n = has_next has.done has.rest next left has.is has.slots in record {
            done = join has.done (child next.0 n.tree no_child);
            rest = n.others;
            is = has.is ∙ ap (inner name (header_at kind shown)) (ap (join has.done) n.is ∙ sym (join_more has.done next.0 n.tree n.others));
            slots = n.slots;
            joins = go has.done n.tree n.full_tree has.joins;
          }
        where
          go : (done : Subtrees OpaqueNodePtr (K × V)) (t : Tree OpaqueNodePtr (K × V)) → IsFullTree s next.1 t →
              JoinsAll OfLeaf OfInner Combines s done old joined now → JoinsAll OfLeaf OfInner Combines s (join done (child next.0 t no_child)) old out new
          go no_child t below joins = absurd joins
          go (child c u cs) t below (mid, first, of_u, rest) =
              (mid, first, of_u, Joins-more cs next.0 t mid now new first joined own out rest (folds t below) combines)

  -- at the end the node is passed to its hook
  pub ended : {layout : Tree OpaqueNodePtr (K × V)} {name : OpaqueNodePtr} {kind : NodeType} {shown : Inner} (old now new : T) (joined out : Out) →
      HasJoined layout name kind shown [] old joined now → content_at s name ≡ Some (held_inner shown) →
      OfInner now kind shown joined out new → FoldsIt layout old out new
  ended {layout} {name} {kind} {shown} old now new joined out has there answers = go has.rest has.slots has.is
    where
      go : (rest : Subtrees OpaqueNodePtr (K × V)) → slots_of rest ≡ [] → layout ≡ inner name (header_at kind shown) (join has.done rest) →
          FoldsIt layout old out new
      go no_child none is = subst (λ z. FoldsIt z old out new) (sym (is ∙ ap (inner name (header_at kind shown)) (join_none has.done)))
          (shown, now, joined, there, has.joins, answers)
      go (child b t cs) some is = absurd cc

  -- a leaf is passed to its hook
  pub folds_leaf : {name : OpaqueNodePtr} (layout : Tree OpaqueNodePtr (K × V)) (p : LeafPtr) (shown : LeafNode K V) (old new : T) (out : Out) →
      IsFullTree s name layout → leaf_name p ≡ name → Some shown ≡ map.get s.leaves p → OfLeaf old shown out new → FoldsIt layout old out new
  folds_leaf layout p shown old new out full is there answers =
      subst (λ z. FoldsIt z old out new) (sym (leaf_shown s p layout (full.0.named ∙ sym is) full.0.holds shown there))
      (shown, held_at_leaf s p shown there, answers)

-- what has a leaf's name is a leaf of the store
pub full_leaf : {K V : Type 0} (s : Nodes K V) {name : OpaqueNodePtr} {layout : Tree OpaqueNodePtr (K × V)} → IsFullTree s name layout →
    (p : LeafPtr) → leaf_name p ≡ name → IsSome (map.get s.leaves p)
full_leaf s {name} {layout} full p is = some_there (map.get s.leaves p) (no_leaf_gone s p layout (full.0.named ∙ sym is) full.0.holds)

module _ {K V : Type 0} (s : Nodes K V) {name : OpaqueNodePtr} {layout : Tree OpaqueNodePtr (K × V)} (full : IsFullTree s name layout) (p : InnerPtr)
    (proper : p.kind ≢ Leaf) (is : inner_name p ≡ name) where
  -- an inner node is in the store
  pub full_inner : IsSome (map.get s.inners p)
  full_inner = some_there (map.get s.inners p) (no_inner_gone s p proper layout (full.0.named ∙ sym is) full.0.holds)

  module _ (kind : NodeType) (shown : Inner) (there : Some shown ≡ map.get s.inners p) (same : kind ≡ p.kind) where
    -- it is as the store shows it
    pub full_shown : (cs : Subtrees OpaqueNodePtr (K × V)) × (layout ≡ inner name (header_at kind shown) cs) × (shown.children ≡ slots_of cs)
    full_shown =
        let at = inner_shown s p proper layout (full.0.named ∙ sym is) full.0.holds shown there in
        (at.children, at.is ∙ ap₂ (λ n k. inner n (header_at k shown) at.children) is (sym same), at.slots)

    pub full_held : content_at s name ≡ Some (held_inner shown)
    full_held = ap (content_at s) (sym is) ∙ held_at_inner s p proper shown there

    -- and has a child
    pub full_some : shown.children ≡ [] → ⊥
    full_some none =
        let (cs, whole, slots) = full_shown in
        none_left cs (sym slots ∙ none) (subst (HaveChildren 1) whole full.1).0
      where
        none_left : (cs : Subtrees OpaqueNodePtr (K × V)) → slots_of cs ≡ [] → 1 ≤ length (bytes_of cs) → ⊥
        none_left no_child e some = absurd (omega arith)
        none_left (child b t cs) e some = absurd cc
