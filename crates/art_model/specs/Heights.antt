-- The height of a tree is the number of inner nodes on its longest descent; it can be read off a store within a number of steps.
use Rattle.std.specs.Prelude.{ℕ, zero, suc, max, List, [], ◌∷◌, Option, Some, None}
use Rattle.art_model.specs.Layouts.{Node, leaf_node, inner_node}
use Rattle.art_model.specs.Trees.{Tree, leaf, inner, Subtrees, child, no_child}

module _ {N A : Type 0} where
  -- the height of a tree
  abbrev mutual
    pub tree_height : Tree N A → ℕ
    tree_height (leaf n x) = 0
    tree_height (inner n h cs) = suc (height_below cs)

    pub height_below : Subtrees N A → ℕ
    height_below no_child = 0
    height_below (child b t cs) = max (tree_height t) (height_below cs)

-- the greatest height below the names of children
abbrev pub highest : {N : Type 0} → (N → ℕ) → List (ℕ × N) → ℕ
highest f [] = 0
highest f (slot ∷ slots) = max (f slot.1) (highest f slots)

module _ {N A : Type 0} where
  -- the height of a node from those below the names of its children
  abbrev pub height_above : (N → ℕ) → Option (Node N A) → ℕ
  height_above f None = 0
  height_above f (Some (leaf_node x)) = 0
  height_above f (Some (inner_node h slots)) = suc (highest f slots)

  -- the height below a name, where the inner nodes on a descent are bounded
  unfoldable pub height : (N → Option (Node N A)) → ℕ → N → ℕ
  height at zero name = 0
  height at (suc steps) name = height_above (height at steps) (at name)
