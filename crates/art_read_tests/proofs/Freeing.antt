-- What stays of a tree when its leaves or its inner nodes are freed.
use Rattle.std.proofs.Common.{◌≡◌, ◌≢◌, List, [], ◌∷◌, Option, Some, refl, ap, sym, ◌∙◌, subst, inl, inr}
use Rattle.std.specs.Option.{option_and_then}
use Rattle.std.specs.FinMap as map
use Rattle.art_nodes.specs.Nodes.{Nodes}
use Rattle.art_parts.specs.declared.names.NodeType.TheVariants.{Leaf}
use Rattle.art_parts.specs.declared.names.LeafPtr.{LeafPtr}
use Rattle.art_parts.specs.declared.names.OpaqueNodePtr.{OpaqueNodePtr}
use Rattle.art_model.specs.Footprints.{IsIn}
use Rattle.art_model.specs.Kept.{Frees}
use Rattle.art_model.specs.Layouts.{AreLinked, Holds, HoldsBelow, IsLayout, first_or, inner_names, inner_names_below, names_of, slots_of}
use Rattle.art_model.specs.Stores.{content_at, links_at, links_of, shape_at}
use Rattle.art_model.specs.Trees.{Tree, leaf, inner, Subtrees, child, no_child}
use Rattle.art_model.specs.Writes.{as_inner}
use Rattle.art_model.proofs.leaves.Chains.{links_inner}
use Rattle.art_model.proofs.lists.Lists.{each_from, in_either}
use Rattle.art_model.proofs.leaves.Segments.{segment-frame}
use Rattle.art_model.proofs.stores.Stores.{frame}
use Rattle.art_model.proofs.stores.Views.{held_in_inner, leaf_or, same_inner_held}
use Rattle.art_operations.specs.Iterators.{IsIteratorOf}
use Rattle.art_operations.proofs.FreedTrees.{shape_at-inner, shape_there}

module _ {K V : Type 0} (s : Nodes K V) where
  -- a linked name is that of a leaf
  linked_leaf : (names : List OpaqueNodePtr) (before after : Option OpaqueNodePtr) (k : OpaqueNodePtr) →
      AreLinked (links_at s) before names after → IsIn k names → k.kind ≢ Leaf → ⊥
  linked_leaf [] before after k linked i off = absurd i
  linked_leaf (x ∷ xs) before after k linked (inl e) off =
      let linked_here = subst (λ n. links_at s n ≡ Some (record { previous = before; next = first_or xs after })) e linked.0 in
      let none = sym (links_inner s k off) ∙ linked_here in
      absurd cc
  linked_leaf (x ∷ xs) before after k linked (inr i) off = linked_leaf xs (Some x) after k linked.1 i off

  mutual
    -- the name of an inner node is not that of a leaf
    inner_kind : (t : Tree OpaqueNodePtr (Unit {0})) → Holds (shape_at s) t → (k : OpaqueNodePtr) → IsIn k (inner_names t) → k.kind ≢ Leaf
    inner_kind (leaf n x) holds k i = absurd i
    inner_kind (inner n h cs) holds k (inl e) = subst (λ z. z.kind ≢ Leaf) e (shape_there s n h (slots_of cs) holds.0).off
    inner_kind (inner n h cs) holds k (inr i) = inner_kind_below cs holds.1 k i

    inner_kind_below : (cs : Subtrees OpaqueNodePtr (Unit {0})) → HoldsBelow (shape_at s) cs → (k : OpaqueNodePtr) →
        IsIn k (inner_names_below cs) → k.kind ≢ Leaf
    inner_kind_below no_child holds k i = absurd i
    inner_kind_below (child b t cs) holds k i = elim (in_either k (inner_names t) (inner_names_below cs) i) [
      | inl j ↦ inner_kind t holds.0 k j
      | inr j ↦ inner_kind_below cs holds.1 k j
    ]

module _ {K V : Type 0} where
  -- a name is seen unchanged if it is a leaf's, or holds what it held
  same_shape : (s t : Nodes K V) (k : OpaqueNodePtr) → (k.kind ≢ Leaf → content_at t k ≡ content_at s k) → shape_at t k ≡ shape_at s k
  same_shape s t k stays = elim (leaf_or k) [
    | inl (p, is) ↦ subst (λ z. shape_at t z ≡ shape_at s z) (sym is) refl
    | inr off ↦
        let same = same_inner_held K V (map.get t.inners (as_inner k)) (map.get s.inners (as_inner k))
        (sym (held_in_inner t k.kind k.slot off) ∙ stays off ∙ held_in_inner s k.kind k.slot off) in
        shape_at-inner t k off (map.get s.inners (as_inner k)) same ∙ sym (shape_at-inner s k off (map.get s.inners (as_inner k)) refl)
  ]

  module _ {s t : Nodes K V} {ends : Option (LeafPtr × LeafPtr)} {names : List OpaqueNodePtr} {root : OpaqueNodePtr}
      {shape : Tree OpaqueNodePtr (Unit {0})} (of : IsIteratorOf s ends names) (is : IsLayout (shape_at s) root shape) where
    -- the inner nodes stay when the leaves are freed
    pub inners_stay : Frees names s t → IsLayout (shape_at t) root shape
    inners_stay freed = record {
      named = is.named;
      holds = frame (shape_at s) (shape_at t) shape (each_from (λ n. shape_at t n ≡ shape_at s n) (names_of shape)
          (λ k i. same_shape s t k (λ off. freed.beside k
          (λ j. linked_leaf s names of.segment.before of.segment.after k of.segment.linked j off) (λ z. z)))) is.holds;
      distinct = is.distinct;
    }

    -- the leaves stay when the inner nodes are freed
    pub leaves_stay : Frees (inner_names shape) s t → IsIteratorOf t ends names
    leaves_stay freed = record {
      ends = of.ends;
      segment = segment-frame (links_at t) names (each_from (λ n. links_at t n ≡ links_at s n) names
          (λ k i. ap (option_and_then links_of) (freed.beside k
          (λ j. linked_leaf s names of.segment.before of.segment.after k of.segment.linked i (inner_kind s shape is.holds k j)) (λ z. z)))) of.segment;
    }
