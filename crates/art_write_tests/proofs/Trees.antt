-- the trees of some tests, as the definition computes them
use Rattle.std.proofs.Common.{◌≡◌, [], ◌∷◌, Some, refl}
use Rattle.art_model.specs.Examples.{over_two, tree_of_keys}
use Rattle.art_model.specs.Trees.{leaf}

-- a prefix of which two bytes are stored, before a key parts from it and after that: the lower node stores what is left of it
whole_prefix : tree_of_keys ((7 ∷ 1 ∷ 1 ∷ 1 ∷ 1 ∷ 5 ∷ []) ∷ (7 ∷ 1 ∷ 1 ∷ 1 ∷ 1 ∷ 6 ∷ []) ∷ []) 2
    ≡ Some (over_two 5 (7 ∷ 1 ∷ []) 5 (leaf tt (7 ∷ 1 ∷ 1 ∷ 1 ∷ 1 ∷ 5 ∷ [])) 6 (leaf tt (7 ∷ 1 ∷ 1 ∷ 1 ∷ 1 ∷ 6 ∷ [])))
whole_prefix = refl

split_prefix : tree_of_keys ((7 ∷ 1 ∷ 1 ∷ 1 ∷ 1 ∷ 5 ∷ []) ∷ (7 ∷ 1 ∷ 1 ∷ 1 ∷ 1 ∷ 6 ∷ []) ∷ (7 ∷ 1 ∷ 1 ∷ 9 ∷ []) ∷ []) 2
    ≡ Some (over_two 3 (7 ∷ 1 ∷ [])
    1 (over_two 1 (1 ∷ []) 5 (leaf tt (7 ∷ 1 ∷ 1 ∷ 1 ∷ 1 ∷ 5 ∷ [])) 6 (leaf tt (7 ∷ 1 ∷ 1 ∷ 1 ∷ 1 ∷ 6 ∷ [])))
    9 (leaf tt (7 ∷ 1 ∷ 1 ∷ 9 ∷ [])))
split_prefix = refl

-- a prefix of which nothing is stored
nothing_stored : tree_of_keys ((5 ∷ 5 ∷ 1 ∷ []) ∷ (5 ∷ 5 ∷ 2 ∷ []) ∷ []) 0
    ≡ Some (over_two 2 [] 1 (leaf tt (5 ∷ 5 ∷ 1 ∷ [])) 2 (leaf tt (5 ∷ 5 ∷ 2 ∷ [])))
nothing_stored = refl
