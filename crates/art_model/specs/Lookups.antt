-- What a lookup finds, and the nodes on its path.
use Rattle.std.specs.Prelude.{◌≡◌, ℕ, List, [], ◌∷◌, Option, Some, None}
use Rattle.std.specs.FinMap as map
use Rattle.std.specs.Option.{option_map}
use Rattle.art_nodes.specs.Nodes.{Nodes}
use Rattle.art_parts.specs.Names.{leaf_name}
use Rattle.art_parts.specs.declared.names.LeafPtr.{LeafPtr}
use Rattle.art_parts.specs.declared.names.OpaqueNodePtr.{OpaqueNodePtr}
use Rattle.art_model.specs.Trees.{Tree, leaf}
use Rattle.art_model.specs.Radix.{pairs_of}
use Rattle.art_model.specs.Layouts.{leaf_names}
use Rattle.art_model.specs.Pairs.{first_of, last_of, match_of}
use Rattle.art_model.specs.Paths.{Frame, plug}
use Rattle.art_model.specs.Places.{places}
use Rattle.art_model.specs.Stores.{pair_of}

-- The tree has the leaf of this pair under this name.
pub record HasLeaf {N A : Type 0} (tree : Tree N A) (name : N) (x : A) : Type 0 where
  pub path : List (Frame N A)
  pub whole : plug path (leaf name x) ≡ tree

-- The tree's first leaf has this name, and the first pair.
pub record HasFirstLeaf {N A : Type 0} (tree : Tree N A) (name : N) : Type 0 where
  pub name_is : first_of (leaf_names tree) ≡ Some name
  pub pair : A
  pub pair_is : first_of (pairs_of tree) ≡ Some pair
  pub has : HasLeaf tree name pair

-- The tree's last leaf has this name, and the last pair.
pub record HasLastLeaf {N A : Type 0} (tree : Tree N A) (name : N) : Type 0 where
  pub name_is : last_of (leaf_names tree) ≡ Some name
  pub pair : A
  pub pair_is : last_of (pairs_of tree) ≡ Some pair
  pub has : HasLeaf tree name pair

-- the leaf of the only pair of the list is found, or none where there is no pair
abbrev pub FindsLeaf : {A : Type 0} → Tree OpaqueNodePtr A → List A → Option LeafPtr → Type 0
FindsLeaf tree pairs None = pairs ≡ []
FindsLeaf {A} tree pairs (Some name) = (x : A) × (pairs ≡ x ∷ []) × HasLeaf tree (leaf_name name) x

-- the leaf of the last pair of the list is found, or none where there is no pair
abbrev pub FindsLast : {A : Type 0} → Tree OpaqueNodePtr A → List A → Option LeafPtr → Type 0
FindsLast tree pairs None = pairs ≡ []
FindsLast {A} tree pairs (Some name) = (x : A) × (last_of pairs ≡ Some x) × HasLeaf tree (leaf_name name) x

-- the pair of the leaf that a lookup names, if it names one
abbrev pub pair_under : {K V : Type 0} → Nodes K V → Option LeafPtr → Option (K × V)
pair_under s None = None
pair_under s (Some name) = option_map pair_of (map.get s.leaves name)

-- the nodes whose place is a prefix of the key, each with its place
abbrev pub nodes_on_way : {N A : Type 0} → (A → List ℕ) → List ℕ → Tree N A → List (List ℕ × N)
nodes_on_way bytes key tree = match_of (λ node. node.0) key (places bytes 0 tree)
