-- Preconditions and results of calls on a canonical root: the pairs it is canonical for, and the layout that says where their tree is.
use Rattle.std.specs.Prelude.{◌≡◌, ℕ, List, [], Option, Some, None}
use Rattle.art_nodes.specs.Nodes.{Nodes}
use Rattle.art_parts.specs.declared.names.OpaqueNodePtr.{OpaqueNodePtr}
use Rattle.art_model.specs.Trees.{Tree}
use Rattle.art_model.specs.Radix.{HaveChildren}
use Rattle.art_model.specs.Layouts.{IsLayout}
use Rattle.art_model.specs.Stores.{node_at}
use Rattle.art_model.specs.Canonical.{IsCanonicalTree}

module _ {K V : Type 0} (bytes : K × V → List ℕ) (P : ℕ) where
  -- the root is canonical for some pairs
  abbrev pub IsCanonicalRoot : Nodes K V → OpaqueNodePtr → Type 0
  IsCanonicalRoot s root =
      (pairs : List (K × V)) × (layout : Tree OpaqueNodePtr (K × V)) × IsCanonicalTree bytes P s root pairs layout

  -- this holds of the pairs that the root is canonical for, and of the layout
  abbrev pub ForTree : Nodes K V → OpaqueNodePtr → (List (K × V) → Tree OpaqueNodePtr (K × V) → Type 0) → Type 0
  ForTree s root Holds =
      (pairs : List (K × V)) (layout : Tree OpaqueNodePtr (K × V)) →
      IsCanonicalTree bytes P s root pairs layout → Holds pairs layout

  -- the root is canonical for the pairs with this tree; no root is for no pairs, with no tree
  abbrev pub IsRootOf : Nodes K V → Option OpaqueNodePtr → List (K × V) → Option (Tree OpaqueNodePtr (K × V)) → Type 0
  IsRootOf s None pairs None = pairs ≡ []
  IsRootOf s (Some root) pairs (Some layout) = IsCanonicalTree bytes P s root pairs layout
  IsRootOf s root pairs tree = ⊥

  -- this holds of the pairs that the root is canonical for, and of its tree, where there is one
  abbrev pub ForRoot : Nodes K V → Option OpaqueNodePtr →
      (List (K × V) → Option (Tree OpaqueNodePtr (K × V)) → Type 0) → Type 0
  ForRoot s root Holds =
      (pairs : List (K × V)) (tree : Option (Tree OpaqueNodePtr (K × V))) → IsRootOf s root pairs tree →
      Holds pairs tree

-- the name stands for a tree, this layout, whose inner nodes all have children
abbrev pub IsFullTree : {K V : Type 0} → Nodes K V → OpaqueNodePtr → Tree OpaqueNodePtr (K × V) → Type 0
IsFullTree s name layout = IsLayout (node_at s) name layout × HaveChildren 1 layout
