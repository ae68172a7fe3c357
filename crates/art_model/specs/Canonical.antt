-- A root that is the canonical tree of pairs.
use Rattle.std.specs.Prelude.{◌≡◌, ℕ, List, [], Option, Some, None}
use Rattle.art_nodes.specs.Nodes.{Nodes}
use Rattle.art_parts.specs.declared.names.OpaqueNodePtr.{OpaqueNodePtr}
use Rattle.art_model.specs.Trees.{Tree, tree_of}
use Rattle.art_model.specs.Pairs.{IsMap}
use Rattle.art_model.specs.Layouts.{StandsFor, AreLinked, leaf_names}
use Rattle.art_model.specs.Stores.{node_at, links_at}

-- the pairs are a map, the root stands for the tree of the map, the layout says where its nodes are, and its leaves are linked
pub record IsCanonicalTree {K V : Type 0} (bytes : K × V → List ℕ) (P : ℕ) (s : Nodes K V)
    (root : OpaqueNodePtr) (pairs : List (K × V)) (layout : Tree OpaqueNodePtr (K × V)) : Type 0 where
  pub is_map : IsMap bytes pairs
  pub tree : Tree (Unit {0}) (K × V)
  pub is_tree : tree_of bytes pairs P 0 ≡ Some tree
  pub stands : StandsFor (node_at s) root tree layout
  pub linked : AreLinked (links_at s) None (leaf_names layout) None

-- the root is canonical for the pairs; no root is canonical for no pairs
abbrev pub IsCanonical : {K V : Type 0} → (K × V → List ℕ) → ℕ → Nodes K V → Option OpaqueNodePtr →
    List (K × V) → Type 0
IsCanonical bytes P s None pairs = pairs ≡ []
IsCanonical {K} {V} bytes P s (Some root) pairs =
    (layout : Tree OpaqueNodePtr (K × V)) × IsCanonicalTree bytes P s root pairs layout
