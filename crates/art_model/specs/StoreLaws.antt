-- Laws of names that stand for trees, of canonical roots and of footprints.
use Rattle.std.specs.Prelude.{◌≡◌, ℕ, List, [], Option, None}
use Rattle.art_nodes.specs.Nodes.{Nodes}
use Rattle.art_parts.specs.declared.names.OpaqueNodePtr.{OpaqueNodePtr}
use Rattle.art_model.specs.Trees.{Tree}
use Rattle.art_model.specs.Radix.{unmarked, pairs_of, HaveChildren, IsRadix}
use Rattle.art_model.specs.Layouts.{Node, names_of, leaf_names, inner_names, shape_of, IsLayout, StandsFor}
use Rattle.art_model.specs.ByCases.{Stands}
use Rattle.art_model.specs.Stores.{content_at, node_at, shape_at}
use Rattle.art_model.specs.Canonical.{IsCanonicalTree}
use Rattle.art_model.specs.Footprints.{IsIn, Footprint}

module _ (N A : Type 0) where
  -- where a name stands for a tree by cases, there is a layout with the same names
  abbrev pub CasesHaveLayout : Type 0
  CasesHaveLayout =
      (at : N → Option (Node N A)) (root : N) (tree : Tree (Unit {0}) A) (names leaves : List N) →
      Stands at root tree names leaves →
      (layout : Tree N A) × StandsFor at root tree layout × (names_of layout ≡ names) × (leaf_names layout ≡ leaves)

  -- where there is a layout, the name stands for its tree by cases, with its names
  abbrev pub LayoutsHaveCases : Type 0
  LayoutsHaveCases =
      (at : N → Option (Node N A)) (root : N) (tree : Tree (Unit {0}) A) (layout : Tree N A) →
      StandsFor at root tree layout → Stands at root tree (names_of layout) (leaf_names layout)

  -- what is held under the names decides the layout
  abbrev pub HasOneLayout : Type 0
  HasOneLayout =
      (at : N → Option (Node N A)) (root : N) (layout other : Tree N A) → IsLayout at root layout →
      IsLayout at root other → other ≡ layout

module _ (K V : Type 0) where
  -- a name that stands for a tree stands for it without leaves too, with the same names
  abbrev pub HasShape : Type 0
  HasShape =
      (s : Nodes K V) (root : OpaqueNodePtr) (layout : Tree OpaqueNodePtr (K × V)) → IsLayout (node_at s) root layout →
      IsLayout (shape_at s) root (shape_of layout) × (leaf_names (shape_of layout) ≡ leaf_names layout) ×
      (inner_names (shape_of layout) ≡ inner_names layout)

  -- a canonical root's layout is a radix tree, whose leaves have the pairs in order
  abbrev pub HasRadixLayout : Type 0
  HasRadixLayout =
      (bytes : K × V → List ℕ) (P : ℕ) (s : Nodes K V) (root : OpaqueNodePtr) (pairs : List (K × V))
      (layout : Tree OpaqueNodePtr (K × V)) →
      IsCanonicalTree bytes P s root pairs layout → IsRadix bytes P [] layout × (pairs_of layout ≡ pairs)

  -- the nodes below a canonical root are where its layout says, and its inner nodes all have children
  abbrev pub HasChildren : Type 0
  HasChildren =
      (bytes : K × V → List ℕ) (P : ℕ) (s : Nodes K V) (root : OpaqueNodePtr) (pairs : List (K × V))
      (layout : Tree OpaqueNodePtr (K × V)) →
      IsCanonicalTree bytes P s root pairs layout → IsLayout (node_at s) root layout × HaveChildren 1 layout

  -- a root is canonical for one list of pairs, with one layout
  abbrev pub HasOneMap : Type 0
  HasOneMap =
      (bytes : K × V → List ℕ) (P : ℕ) (s : Nodes K V) (root : OpaqueNodePtr) (pairs others : List (K × V))
      (layout other : Tree OpaqueNodePtr (K × V)) →
      IsCanonicalTree bytes P s root pairs layout → IsCanonicalTree bytes P s root others other →
      (others ≡ pairs) × (other ≡ layout)

  -- roots that are canonical for the same pairs stand for the same tree, in whatever stores
  abbrev pub HaveSameTree : Type 0
  HaveSameTree =
      (bytes : K × V → List ℕ) (P : ℕ) (s z : Nodes K V) (root other : OpaqueNodePtr) (pairs : List (K × V))
      (layout copy : Tree OpaqueNodePtr (K × V)) →
      IsCanonicalTree bytes P s root pairs layout → IsCanonicalTree bytes P z other pairs copy →
      unmarked copy ≡ unmarked layout

  -- a free name that is not placed stays free
  abbrev pub OthersStayFree : Type 0
  OthersStayFree =
      (old new : Nodes K V) (placed freed changed : List OpaqueNodePtr) →
      Footprint old new placed freed changed → (name : OpaqueNodePtr) →
      content_at old name ≡ None → (IsIn name placed → ⊥) → content_at new name ≡ None

  -- a name that is free afterwards, and is not freed, was free
  abbrev pub OthersWereFree : Type 0
  OthersWereFree =
      (old new : Nodes K V) (placed freed changed : List OpaqueNodePtr) →
      Footprint old new placed freed changed → (name : OpaqueNodePtr) →
      content_at new name ≡ None → (IsIn name freed → ⊥) → content_at old name ≡ None
