-- Clones of pairs and of trees.
use Rattle.std.specs.Prelude.{◌≡◌, List, ⊤}
use Rattle.std.specs.List.{AllZip}
use Rattle.art_parts.specs.LeafClones.{IsPairClone}
use Rattle.art_model.specs.Trees.{Tree, leaf, inner, Subtrees, child, no_child}

-- each pair of the second list is a clone of the one at its position in the first
abbrev pub AreClones : {K V : Type 0} → (K → K → Type 0) → (V → V → Type 0) → List (K × V) → List (K × V) → Type 0
AreClones is_key_clone is_value_clone = AllZip (IsPairClone is_key_clone is_value_clone)

module _ {N A : Type 0} (IsClone : A → A → Type 0) where
  -- the second tree has the first one's form, and clones of its pairs
  abbrev mutual
    pub IsCopy : Tree N A → Tree N A → Type 0
    IsCopy (leaf n x) (leaf m y) = IsClone x y
    IsCopy (inner n h cs) (inner m g ds) = (g ≡ h) × AreCopies cs ds
    IsCopy tree other = ⊥

    pub AreCopies : Subtrees N A → Subtrees N A → Type 0
    AreCopies no_child no_child = ⊤
    AreCopies (child b t cs) (child c u ds) = (c ≡ b) × IsCopy t u × AreCopies cs ds
    AreCopies children others = ⊥
