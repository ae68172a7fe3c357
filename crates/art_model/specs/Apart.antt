-- Trees that are disjoint in one store, so that a change of one leaves the others.
use Rattle.std.specs.Prelude.{ℕ, List, Option, Some, None}
use Rattle.art_nodes.specs.Nodes.{Nodes}
use Rattle.art_parts.specs.declared.names.OpaqueNodePtr.{OpaqueNodePtr}
use Rattle.art_model.specs.Canonical.{IsCanonical, IsCanonicalTree}
use Rattle.art_model.specs.Footprints.{IsIn}
use Rattle.art_model.specs.Layouts.{names_of}
use Rattle.art_model.specs.Trees.{Tree}

module _ {K V : Type 0} (bytes : K × V → List ℕ) (P : ℕ) where
  -- the name is of a node of the root's canonical tree; no root has no nodes
  abbrev pub IsNodeOf : Nodes K V → Option OpaqueNodePtr → OpaqueNodePtr → Type 0
  IsNodeOf s None name = ⊥
  IsNodeOf s (Some root) name =
      (pairs : List (K × V)) × (layout : Tree OpaqueNodePtr (K × V)) ×
      IsCanonicalTree bytes P s root pairs layout × IsIn name (names_of layout)

  -- The other root is canonical for these pairs, with this layout, and no node is of both trees; if there is no first root, it is only canonical.
  pub record StandsApart (s : Nodes K V) (root : Option OpaqueNodePtr) (other : OpaqueNodePtr)
      (others : List (K × V)) (layout : Tree OpaqueNodePtr (K × V)) : Type 0 where
    pub is : IsCanonicalTree bytes P s other others layout
    pub apart : (name : OpaqueNodePtr) → IsNodeOf s root name → IsNodeOf s (Some other) name → ⊥

  -- whatever was disjoint from one root in the old store is disjoint from another in the new one, with its pairs and layout
  abbrev pub KeepsApart : Nodes K V → Nodes K V → Option OpaqueNodePtr → Option OpaqueNodePtr → Type 0
  KeepsApart s t root new =
      (other : OpaqueNodePtr) (others : List (K × V)) (layout : Tree OpaqueNodePtr (K × V)) →
      StandsApart s root other others layout → StandsApart t new other others layout

  -- Each of the roots is canonical for its pairs, or is none and has no pairs, and no node is of both trees.
  pub record HasBoth (s : Nodes K V) (first second : Option OpaqueNodePtr) (pairs others : List (K × V)) : Type 0 where
    pub one : IsCanonical bytes P s first pairs
    pub two : IsCanonical bytes P s second others
    pub apart : (name : OpaqueNodePtr) → IsNodeOf s first name → IsNodeOf s second name → ⊥
