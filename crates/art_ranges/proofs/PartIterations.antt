-- iterations over the leaves of a part of a tree
use Rattle.std.proofs.Common.{◌≡◌, ℕ, List, [], ◌++◌, ap, sym, ◌∙◌, subst, Some, None, true, false}
use Rattle.std.specs.List.{AllByRecursion as Each}
use Rattle.art_model.specs.Prelude.{Nodes, leaf_name, LeafPtr, OpaqueNodePtr, IsCanonicalTree, is_front, leaf_names, HasFirstLeaf, HasLastLeaf, below, leaves_where, leaves_before, leaves_after, pairs_of, IsSegment, links_at, Tree}
use Rattle.art_model.proofs.lists.Filters.{none_passes}
use Rattle.art_model.proofs.radix.Parts.{where_in_hole, where_all, where_none}
use Rattle.art_model.proofs.places.Paths.{leaf_names-plug}
use Rattle.art_model.proofs.leaves.Segments.{segment_front, segment_rest, tree_segment}
use Rattle.art_reading.specs.Iterators.{IsIteratorOf}
use Rattle.art_reading.specs.PartEnds.{HasAllBelow, StandsBetween}
use Rattle.art_reading.proofs.Iterators.{empty_iterator}

module _ {K V : Type 0} {s : Nodes K V} {bytes : K × V → List ℕ} {P : ℕ} {root : OpaqueNodePtr} {pairs : List (K × V)} {layout : Tree OpaqueNodePtr (K × V)}
    (by : IsCanonicalTree bytes P s root pairs layout) where
  module _ {Lower Upper : K × V → Type 0} {name : OpaqueNodePtr} (at : StandsBetween Lower Upper layout name) where
    -- its leaves are linked
    pub node_segment : IsSegment (links_at s) (leaf_names at.node)
    node_segment =
        let all = tree_segment layout by.stands.0.distinct by.linked in
        let split = subst (IsSegment (links_at s)) (ap leaf_names (sym at.whole) ∙ leaf_names-plug at.path at.node) all in
        segment_rest (leaves_before at.path) (leaf_names at.node) (segment_front (leaves_before at.path ++ leaf_names at.node) (leaves_after at.path) split)

  module _ (prefix : List ℕ) where
    -- no key starts with the prefix
    pub none_begins : below bytes prefix (pairs_of layout) ≡ [] → IsIteratorOf s None (leaves_where (λ x. is_front prefix (bytes x)) layout)
    none_begins none = subst (IsIteratorOf s None)
        (sym (where_none (λ x. is_front prefix (bytes x)) layout
        (none_passes (λ x. is_front prefix (bytes x)) (pairs_of layout) none))) empty_iterator

    module _ {name : OpaqueNodePtr} (at : HasAllBelow bytes prefix layout name) where
      at_node : leaves_where (λ x. is_front prefix (bytes x)) layout ≡ leaves_where (λ x. is_front prefix (bytes x)) at.at.node
      at_node = ap (leaves_where (λ x. is_front prefix (bytes x))) (sym at.at.whole)
          ∙ where_in_hole (λ x. is_front prefix (bytes x)) at.at.path at.at.node at.at.before at.at.after

      -- the keys below the node do not
      pub others_begin : at.begin ≡ false → IsIteratorOf s None (leaves_where (λ x. is_front prefix (bytes x)) layout)
      others_begin off =
          let none =
          where_none (λ x. is_front prefix (bytes x)) at.at.node
          (subst (λ t. Each (λ x. is_front prefix (bytes x) ≡ t) (pairs_of at.at.node)) off at.alike) in
          subst (IsIteratorOf s None) (sym (at_node ∙ none)) empty_iterator

      -- they do
      pub these_begin : at.begin ≡ true → {p q : LeafPtr} → HasFirstLeaf at.at.node (leaf_name p) → HasLastLeaf at.at.node (leaf_name q) →
          IsIteratorOf s (Some (p, q)) (leaves_where (λ x. is_front prefix (bytes x)) layout)
      these_begin on {p} {q} first last =
          let all =
          where_all (λ x. is_front prefix (bytes x)) at.at.node
          (subst (λ t. Each (λ x. is_front prefix (bytes x) ≡ t) (pairs_of at.at.node)) on at.alike) in
          subst (IsIteratorOf s (Some (p, q))) (sym (at_node ∙ all)) (record { ends = (first.name_is, last.name_is); segment = node_segment at.at })
