-- Laws of the tree of a map, whatever its keys.
use Rattle.std.specs.Prelude.{◌≡◌, ℕ, suc, ◌≤◌, List, [], ◌∷◌, length, drop, Some}
use Rattle.std.specs.List.{AllByRecursion as Each}
use Rattle.art_parts.specs.Keys.{IsFront}
use Rattle.art_model.specs.Pairs.{IsMap}
use Rattle.art_model.specs.Trees.{Tree, shared_part, node_of, tree_of}
use Rattle.art_model.specs.Radix.{pairs_of, HaveChildren, IsRadix}
use Rattle.art_model.specs.Layouts.{leaf_names, inner_names}

module _ {A : Type 0} (bytes : A → List ℕ) where
  -- the shared part is a prefix of what each key has from depth d on
  abbrev pub PartIsShared : Type 0
  PartIsShared = (d : ℕ) (pairs : List A) → Each (λ x. IsFront (shared_part bytes d pairs) (drop d (bytes x))) pairs

  -- no longer bytes are
  abbrev pub PartIsLongest : Type 0
  PartIsLongest =
      (d : ℕ) (x : A) (pairs : List A) (part : List ℕ) →
      Each (λ y. IsFront part (drop d (bytes y))) (x ∷ pairs) → IsFront part (shared_part bytes d (x ∷ pairs))

  module _ (P : ℕ) where
    -- two or more pairs of a map, whose keys start with a place, have an inner node there, over the trees of their groups
    abbrev pub IsBuiltByGrouping : Type 0
    IsBuiltByGrouping =
        (place : List ℕ) (x y : A) (rest : List A) → IsMap bytes (x ∷ y ∷ rest) →
        Each (λ z. IsFront place (bytes z)) (x ∷ y ∷ rest) →
        tree_of bytes (x ∷ y ∷ rest) P (length place) ≡ node_of bytes (λ d group.
        tree_of bytes group P d) P (length place) (x ∷ y ∷ rest)

    -- a map that has a pair has a tree, whose leaves have its pairs in order, and which is a radix tree
    abbrev pub HasTree : Type 0
    HasTree =
        (x : A) (pairs : List A) → IsMap bytes (x ∷ pairs) → (t : Tree (Unit {0}) A) ×
        (tree_of bytes (x ∷ pairs) P 0 ≡ Some t) × (pairs_of t ≡ x ∷ pairs) × IsRadix bytes P [] t

    -- the pairs of a radix tree are a map, and it is the tree of that map
    abbrev pub IsTreeOfItsPairs : Type 0
    IsTreeOfItsPairs =
        (t : Tree (Unit {0}) A) → IsRadix bytes P [] t → IsMap bytes (pairs_of t) ×
        (tree_of bytes (pairs_of t) P 0 ≡ Some t)

    -- radix trees with the same pairs are the same
    abbrev pub IsOneTree : Type 0
    IsOneTree =
        (t u : Tree (Unit {0}) A) → IsRadix bytes P [] t → IsRadix bytes P [] u → pairs_of t ≡ pairs_of u → t ≡ u

module _ (N A : Type 0) where
  -- the inner nodes of a radix tree have two or more children each
  abbrev pub HaveTwoChildren : Type 0
  HaveTwoChildren =
      (bytes : A → List ℕ) (P : ℕ) (place : List ℕ) (t : Tree N A) → IsRadix bytes P place t → HaveChildren 2 t

  -- a tree whose inner nodes have two or more children each has fewer inner nodes than leaves
  abbrev pub HasFewInnerNodes : Type 0
  HasFewInnerNodes = (t : Tree N A) → HaveChildren 2 t → suc (length (inner_names t)) ≤ length (leaf_names t)
