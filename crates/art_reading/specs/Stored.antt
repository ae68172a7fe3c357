-- Trees of which each prefix is stored whole, and descents that compare each whole.
use Rattle.std.specs.Prelude.{◌≡◌, ℕ, ◌≤◌, ⊤}
use Rattle.art_model.specs.Trees.{Tree, leaf, inner, Subtrees, no_child, child}
use Rattle.art_reading.specs.declared.lookup.matching.PrefixMatchBehavior.{PrefixMatchBehavior}
use Rattle.art_reading.specs.declared.lookup.matching.PrefixMatchBehavior.TheVariants.{Pessimistic}

module _ {N A : Type 0} (P : ℕ) where
  -- no prefix has more than P bytes, so that each is stored whole
  abbrev mutual
    pub IsWholeStored : Tree N A → Type 0
    IsWholeStored (leaf n x) = ⊤
    IsWholeStored (inner n h cs) = (h.length_of ≤ P) × AreWholeStored cs

    pub AreWholeStored : Subtrees N A → Type 0
    AreWholeStored no_child = ⊤
    AreWholeStored (child b t cs) = IsWholeStored t × AreWholeStored cs

  -- such a descent of the tree compares each prefix whole
  abbrev pub ComparesAll : PrefixMatchBehavior → Tree N A → Type 0
  ComparesAll behavior tree = (behavior ≡ Pessimistic) × IsWholeStored tree
