-- a tree whose leaves are not to be read
use Rattle.std.proofs.Common.{◌≡◌, ℕ, List, ◌∷◌, ◌++◌, refl, ap, ap₂, sym, ◌∙◌, subst, Option, Some, None, option_map}
use Rattle.std.specs.FinMap as map
use Rattle.art_model.specs.Prelude.{Inner, Nodes, NodeType, Node4, Node16, Node48, Node256, Leaf, OpaqueNodePtr, Tree, leaf, inner, Subtrees, child, no_child, NodeHeader, leaf_node, inner_node, name_of, slots_of, names_of, names_below, leaf_names, leaf_names_below, inner_names, inner_names_below, shape_of, Holds, HoldsBelow, AreDistinct, held_inner, content_in, tree_node, header_at, node_at, shape_at}
use Rattle.art_model.specs.Layouts.{shape_below}
use Rattle.art_model.specs.Stores.{inner_seen, shape_in}
use Rattle.art_model.specs.StoreLaws.{HasShape}
use Rattle.art_model.proofs.stores.Views.{seen_no_leaf, seen_no_inner}

module _ {N A : Type 0} where
  name_of-shape : (t : Tree N A) → name_of (shape_of t) ≡ name_of t
  name_of-shape (leaf n x) = refl
  name_of-shape (inner n h cs) = refl

  slots_of-shape : (cs : Subtrees N A) → slots_of (shape_below cs) ≡ slots_of cs
  slots_of-shape no_child = refl
  slots_of-shape (child b t cs) = ap₂ (λ n (l : List (ℕ × N)). (b, n) ∷ l) (name_of-shape t) (slots_of-shape cs)

  mutual
    pub names_of-shape : (t : Tree N A) → names_of (shape_of t) ≡ names_of t
    names_of-shape (leaf n x) = refl
    names_of-shape (inner n h cs) = ap (λ l. n ∷ l) (names_below-shape cs)

    names_below-shape : (cs : Subtrees N A) → names_below (shape_below cs) ≡ names_below cs
    names_below-shape no_child = refl
    names_below-shape (child b t cs) = ap₂ (λ (k l : List N). k ++ l) (names_of-shape t) (names_below-shape cs)

  mutual
    pub leaf_names-shape : (t : Tree N A) → leaf_names (shape_of t) ≡ leaf_names t
    leaf_names-shape (leaf n x) = refl
    leaf_names-shape (inner n h cs) = leaf_names_below-shape cs

    leaf_names_below-shape : (cs : Subtrees N A) → leaf_names_below (shape_below cs) ≡ leaf_names_below cs
    leaf_names_below-shape no_child = refl
    leaf_names_below-shape (child b t cs) = ap₂ (λ (k l : List N). k ++ l) (leaf_names-shape t) (leaf_names_below-shape cs)

  mutual
    inner_names-shape : (t : Tree N A) → inner_names (shape_of t) ≡ inner_names t
    inner_names-shape (leaf n x) = refl
    inner_names-shape (inner n h cs) = ap (λ l. n ∷ l) (inner_names_below-shape cs)

    inner_names_below-shape : (cs : Subtrees N A) → inner_names_below (shape_below cs) ≡ inner_names_below cs
    inner_names_below-shape no_child = refl
    inner_names_below-shape (child b t cs) = ap₂ (λ (k l : List N). k ++ l) (inner_names-shape t) (inner_names_below-shape cs)

module _ {K V : Type 0} where
  same_inner : (kind : NodeType) (o : Option Inner) (h : NodeHeader) (slots : List (ℕ × OpaqueNodePtr)) →
      option_map (tree_node {K = K} {V = V} kind) (option_map held_inner o) ≡ Some (inner_node h slots) →
      option_map (inner_seen {A = Unit {0}} kind) o ≡ Some (inner_node h slots)
  same_inner kind None h slots e = absurd cc
  same_inner kind (Some node) h slots e =
      let head : header_at kind node ≡ h = cc in
      let below : node.children ≡ slots = cc in
      ap₂ (λ g (l : List (ℕ × OpaqueNodePtr)). Some (inner_node g l)) head below

  module _ (s : Nodes K V) where
    -- where a tree sees a leaf, the shape has an end
    end_seen : (kind : NodeType) (slot : ℕ) (x : K × V) → option_map (tree_node kind) (content_in s kind slot) ≡ Some (leaf_node x) →
        shape_in s kind slot ≡ Some (leaf_node tt)
    end_seen Leaf slot x e = refl
    end_seen Node4 slot x e = absurd (seen_no_leaf Node4 (map.get s.inners (record { kind = Node4; slot = slot })) x e)
    end_seen Node16 slot x e = absurd (seen_no_leaf Node16 (map.get s.inners (record { kind = Node16; slot = slot })) x e)
    end_seen Node48 slot x e = absurd (seen_no_leaf Node48 (map.get s.inners (record { kind = Node48; slot = slot })) x e)
    end_seen Node256 slot x e = absurd (seen_no_leaf Node256 (map.get s.inners (record { kind = Node256; slot = slot })) x e)

    -- where a tree sees an inner node, so does the shape
    inner_is_seen : (kind : NodeType) (slot : ℕ) (h : NodeHeader) (slots : List (ℕ × OpaqueNodePtr)) →
        option_map (tree_node kind) (content_in s kind slot) ≡ Some (inner_node h slots) → shape_in s kind slot ≡ Some (inner_node h slots)
    inner_is_seen Leaf slot h slots e = absurd (seen_no_inner (map.get s.leaves (record { slot = slot })) h slots e)
    inner_is_seen Node4 slot h slots e = same_inner Node4 (map.get s.inners (record { kind = Node4; slot = slot })) h slots e
    inner_is_seen Node16 slot h slots e = same_inner Node16 (map.get s.inners (record { kind = Node16; slot = slot })) h slots e
    inner_is_seen Node48 slot h slots e = same_inner Node48 (map.get s.inners (record { kind = Node48; slot = slot })) h slots e
    inner_is_seen Node256 slot h slots e = same_inner Node256 (map.get s.inners (record { kind = Node256; slot = slot })) h slots e

    mutual
      shape_held : (t : Tree OpaqueNodePtr (K × V)) → Holds (node_at s) t → Holds (shape_at s) (shape_of t)
      shape_held (leaf n x) h = end_seen n.kind n.slot x h
      shape_held (inner n h cs) holds = (
        subst (λ slots. shape_at s n ≡ Some (inner_node h slots)) (sym (slots_of-shape cs)) (inner_is_seen n.kind n.slot h (slots_of cs) holds.0),
        shape_held_below cs holds.1,
      )

      shape_held_below : (cs : Subtrees OpaqueNodePtr (K × V)) → HoldsBelow (node_at s) cs → HoldsBelow (shape_at s) (shape_below cs)
      shape_held_below no_child h = tt
      shape_held_below (child b t cs) h = (shape_held t h.0, shape_held_below cs h.1)

  pub has_shape : HasShape K V
  has_shape s root layout is = (
    record {
      named = name_of-shape layout ∙ is.named;
      holds = shape_held s layout is.holds;
      distinct = subst AreDistinct (sym (names_of-shape layout)) is.distinct;
    },
    leaf_names-shape layout,
    inner_names-shape layout,
  )
