-- The pairs that a store, a root and a length stand for.
use Rattle.std.specs.Prelude.{◌≡◌, ℕ, zero, suc, List, [], ◌∷◌, ◌++◌, length, Option, Some, None}
use Rattle.std.specs.FinMap as map
use Rattle.art_nodes.specs.Nodes.{Nodes}
use Rattle.art_parts.specs.declared.names.OpaqueNodePtr.{OpaqueNodePtr}
use Rattle.art_model.specs.Footprints.{IsIn}
use Rattle.art_model.specs.Kept.{names_in}
use Rattle.art_model.specs.Layouts.{Node, leaf_node, inner_node}
use Rattle.art_model.specs.Roots.{IsRootOf}
use Rattle.art_model.specs.Stores.{content_at, node_at}
use Rattle.art_model.specs.Trees.{Tree}

-- what the children of a list have, one after another
abbrev pub all_below : {N A : Type 0} → (N → List A) → List (ℕ × N) → List A
all_below f [] = []
all_below f (slot ∷ slots) = f slot.1 ++ all_below f slots

module _ {N A : Type 0} where
  -- the pairs of a node, from those below its children
  abbrev pub pairs_above : (N → List A) → Option (Node N A) → List A
  pairs_above f None = []
  pairs_above f (Some (leaf_node x)) = x ∷ []
  pairs_above f (Some (inner_node h slots)) = all_below f slots

  -- the pairs below a name, with at most so many inner nodes on each path
  unfoldable pub pairs_within : (N → Option (Node N A)) → ℕ → N → List A
  pairs_within at zero name = pairs_above (λ n. []) (at name)
  pairs_within at (suc steps) name = pairs_above (pairs_within at steps) (at name)

module _ {K V : Type 0} where
  -- the pairs below a root, in order
  unfoldable pub pairs_at : Nodes K V → Option OpaqueNodePtr → List (K × V)
  pairs_at s None = []
  pairs_at s (Some root) = pairs_within (node_at s) (map.len s.inners) root

-- The root is canonical for the pairs, the store has no names but the tree's, and the length is the number of pairs.
pub record HoldsPairs {K V : Type 0} (bytes : K × V → List ℕ) (P : ℕ) (s : Nodes K V)
    (root : Option OpaqueNodePtr) (len : ℕ) (pairs : List (K × V)) : Type 0 where
  pub tree : Option (Tree OpaqueNodePtr (K × V))
  pub canonical : IsRootOf bytes P s root pairs tree
  pub no_other : (name : OpaqueNodePtr) → (IsIn name (names_in tree) → ⊥) → content_at s name ≡ None
  pub len_is : len ≡ length pairs
