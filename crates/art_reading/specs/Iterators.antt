-- The leaves that are left of an iterator, and their pairs.
use Rattle.std.specs.Prelude.{◌≡◌, ℕ, zero, suc, List, [], ◌∷◌, length, Option, Some, None}
use Rattle.std.specs.FinMap as nodes
use Rattle.std.specs.Option.{option_map}
use Rattle.art_parts.specs.Names.{leaf_name}
use Rattle.art_nodes.specs.Nodes.{Nodes}
use Rattle.art_parts.specs.declared.names.LeafPtr.{LeafPtr}
use Rattle.art_parts.specs.declared.names.OpaqueNodePtr.{OpaqueNodePtr}
use Rattle.art_model.specs.Canonical.{IsCanonicalTree}
use Rattle.art_model.specs.Footprints.{IsIn}
use Rattle.art_model.specs.Layouts.{leaf_names}
use Rattle.art_model.specs.Lookups.{HasFirstLeaf, HasLastLeaf}
use Rattle.art_model.specs.Pairs.{first_of, last_of, without_first, without_last}
use Rattle.art_model.specs.Segments.{IsSegment}
use Rattle.art_model.specs.Stores.{links_at, pair_of}
use Rattle.art_model.specs.Trees.{Tree}
use Rattle.art_reading.specs.declared.lookup.descent.End.{End}
use Rattle.art_reading.specs.declared.lookup.descent.End.TheVariants.{First, Last}

-- the list is from the first to the last of these leaves, and is empty where there are none
abbrev pub HasEnds : Option (LeafPtr × LeafPtr) → List OpaqueNodePtr → Type 0
HasEnds None names = names ≡ []
HasEnds (Some ends) names = (first_of names ≡ Some (leaf_name ends.0)) × (last_of names ≡ Some (leaf_name ends.1))

-- The iterator stands for a segment of a store's leaves, in order, or for the empty list.
pub record IsIteratorOf {K V : Type 0} (s : Nodes K V) (iterator : Option (LeafPtr × LeafPtr))
    (names : List OpaqueNodePtr) : Type 0 where
  pub ends : HasEnds iterator names
  pub segment : IsSegment (links_at s) names

-- the leaf at an end of these is removed, and the iterator stands for the others
abbrev pub TakesEnd : {K V : Type 0} → End → Nodes K V → List OpaqueNodePtr → Option LeafPtr → Option (LeafPtr × LeafPtr) → Type 0
TakesEnd First s names leaf left = (option_map leaf_name leaf ≡ first_of names) × IsIteratorOf s left (without_first names)
TakesEnd Last s names leaf left = (option_map leaf_name leaf ≡ last_of names) × IsIteratorOf s left (without_last names)

module _ {K V : Type 0} where
  -- the pairs of so many leaves from this one on
  unfoldable pub pairs_from : Nodes K V → ℕ → Option LeafPtr → List (K × V)
  pairs_from s zero leaf = []
  pairs_from s (suc n) None = []
  pairs_from s (suc n) (Some p) =
      elim (nodes.get s.leaves p) [ None ↦ [] | Some leaf ↦ pair_of leaf ∷ pairs_from s n leaf.next ]

  -- the pairs that an iterator over so many leaves has left
  abbrev pub pairs_left : Nodes K V → Option (LeafPtr × LeafPtr) → ℕ → List (K × V)
  pairs_left s walk n = pairs_from s n (option_map (λ ends. ends.0) walk)

-- The iterator is one over so many leaves of the store.
pub record IsWalk {K V : Type 0} (s : Nodes K V) (walk : Option (LeafPtr × LeafPtr)) (len : ℕ) : Type 0 where
  pub names : List OpaqueNodePtr
  pub is : IsIteratorOf s walk names
  pub len_is : len ≡ length names

-- ---- laws

module _ (K V : Type 0) where
  -- an iterator stands for the same leaves in every store in which they have the same links
  abbrev pub GoesOn : Type 0
  GoesOn =
      (s t : Nodes K V) (iterator : Option (LeafPtr × LeafPtr)) (names : List OpaqueNodePtr) →
      IsIteratorOf s iterator names →
      ((name : OpaqueNodePtr) → IsIn name names → links_at t name ≡ links_at s name) → IsIteratorOf t iterator names

  -- from the first leaf of a canonical root to the last one an iterator stands for all of its leaves
  abbrev pub WalksWhole : Type 0
  WalksWhole =
      (bytes : K × V → List ℕ) (P : ℕ) (s : Nodes K V) (root : OpaqueNodePtr) (pairs : List (K × V))
      (layout : Tree OpaqueNodePtr (K × V)) (first last : LeafPtr) →
      IsCanonicalTree bytes P s root pairs layout → HasFirstLeaf layout (leaf_name first) →
      HasLastLeaf layout (leaf_name last) → IsIteratorOf s (Some (first, last)) (leaf_names layout)
