-- What a name stands for, by cases on a plain tree, with the names of its nodes and those of its leaves.
use Rattle.std.specs.Prelude.{◌≡◌, ◌≢◌, ℕ, List, [], ◌∷◌, ◌++◌, Option, Some}
use Rattle.std.specs.List.{AllByRecursion as Each}
use Rattle.art_model.specs.Trees.{Tree, leaf, inner, Subtrees, child, no_child}
use Rattle.art_model.specs.Layouts.{Node, leaf_node, inner_node}

module _ {N A : Type 0} where
  abbrev mutual
    -- A leaf has its own name. An inner node has its own name, which is none of those below it, and the names of its children's nodes.
    pub Stands : (N → Option (Node N A)) → N → Tree (Unit {0}) A → List N → List N → Type 0
    Stands at n (leaf u x) names leaves = (at n ≡ Some (leaf_node x)) × (names ≡ n ∷ []) × (leaves ≡ n ∷ [])
    Stands at n (inner u h cs) names leaves =
        (slots : List (ℕ × N)) × (below : List N) × (at n ≡ Some (inner_node h slots)) × (names ≡ n ∷ below) ×
        Each (λ k. n ≢ k) below × StandBelow at slots cs below leaves

    -- Each child's name stands for its tree, and no two children have a name in common.
    pub StandBelow : (N → Option (Node N A)) → List (ℕ × N) → Subtrees (Unit {0}) A → List N → List N → Type 0
    StandBelow at slots no_child names leaves = (slots ≡ []) × (names ≡ []) × (leaves ≡ [])
    StandBelow at slots (child b t cs) names leaves =
        (n : N) × (others : List (ℕ × N)) × (own rest : List N) × (own_leaves rest_leaves : List N) ×
        (slots ≡ (b, n) ∷ others) × (names ≡ own ++ rest) × (leaves ≡ own_leaves ++ rest_leaves)
        × Each (λ k. Each (λ m. k ≢ m) rest) own × Stands at n t own own_leaves ×
        StandBelow at others cs rest rest_leaves
