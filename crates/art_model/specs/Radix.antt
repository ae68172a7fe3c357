-- The tree of a map by what holds at each node.
use Rattle.std.specs.Prelude.{◌≡◌, ℕ, ◌<◌, ◌≤◌, List, [], ◌∷◌, ◌++◌, length, ⊤}
use Rattle.art_parts.specs.Keys.{IsFront}
use Rattle.art_model.specs.Pairs.{Pairwise}
use Rattle.art_model.specs.Trees.{Tree, leaf, inner, Subtrees, no_child, child, canonical_header}

module _ {N A : Type 0} where
  -- the pairs of the leaves, in order
  abbrev mutual
    pub pairs_of : Tree N A → List A
    pairs_of (leaf n x) = x ∷ []
    pairs_of (inner n h cs) = pairs_below cs

    pub pairs_below : Subtrees N A → List A
    pairs_below no_child = []
    pairs_below (child b t cs) = pairs_of t ++ pairs_below cs

  -- the plain tree, without its marks
  abbrev mutual
    pub unmarked : Tree N A → Tree (Unit {0}) A
    unmarked (leaf n x) = leaf tt x
    unmarked (inner n h cs) = inner tt h (all_unmarked cs)

    pub all_unmarked : Subtrees N A → Subtrees (Unit {0}) A
    all_unmarked no_child = no_child
    all_unmarked (child b t cs) = child b (unmarked t) (all_unmarked cs)

  -- the bytes of children
  abbrev pub bytes_of : Subtrees N A → List ℕ
  bytes_of no_child = []
  bytes_of (child b t cs) = b ∷ bytes_of cs

  -- the first children, and after them the second
  abbrev pub join : Subtrees N A → Subtrees N A → Subtrees N A
  join no_child ds = ds
  join (child b t cs) ds = child b t (join cs ds)

  -- each inner node has at least so many children
  abbrev mutual
    pub HaveChildren : ℕ → Tree N A → Type 0
    HaveChildren least (leaf n x) = ⊤
    HaveChildren least (inner n h cs) = (least ≤ length (bytes_of cs)) × HaveChildrenBelow least cs

    pub HaveChildrenBelow : ℕ → Subtrees N A → Type 0
    HaveChildrenBelow least no_child = ⊤
    HaveChildrenBelow least (child b t cs) = HaveChildren least t × HaveChildrenBelow least cs

-- each byte is below all later ones
abbrev pub BytesRise : List ℕ → Type 0
BytesRise = Pairwise (λ b c. b < c)

module _ {N A : Type 0} (bytes : A → List ℕ) (P : ℕ) where
  -- The tree may be at a place, the bytes that lead to it. A leaf's key starts with the leaf's place; an inner node has two or more children under rising bytes,
  -- and the header of its prefix and their number.
  abbrev mutual
    pub IsRadix : List ℕ → Tree N A → Type 0
    IsRadix place (leaf n x) = IsFront place (bytes x)
    IsRadix place (inner n h cs) =
        (part : List ℕ) × (h ≡ canonical_header P part (length (bytes_of cs))) × (2 ≤ length (bytes_of cs)) ×
        BytesRise (bytes_of cs) × AreRadix (place ++ part) cs

    pub AreRadix : List ℕ → Subtrees N A → Type 0
    AreRadix front no_child = ⊤
    AreRadix front (child b t cs) = IsRadix (front ++ b ∷ []) t × AreRadix front cs
