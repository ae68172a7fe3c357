-- Laws of the places in a radix tree, and of the end nodes of keys.
use Rattle.std.specs.Prelude.{◌≡◌, ℕ, true, List, [], ◌++◌, length}
use Rattle.std.specs.List.{AllByRecursion as Each}
use Rattle.art_parts.specs.Keys.{IsFront, is_before}
use Rattle.art_model.specs.Pairs.{Pairwise}
use Rattle.art_model.specs.Trees.{Tree, inner, Subtrees, NodeHeader, canonical_header}
use Rattle.art_model.specs.Radix.{pairs_below, bytes_of, IsRadix}
use Rattle.art_model.specs.Layouts.{name_of}
use Rattle.art_model.specs.Paths.{Frame}
use Rattle.art_model.specs.Places.{depth_of, place_of, prefix_of, places, IsEndNode}

module _ (N A : Type 0) where
  -- the place of a tree is read off its least key
  abbrev pub PlacesAreReadOff : Type 0
  PlacesAreReadOff =
      (bytes : A → List ℕ) (P : ℕ) (place : List ℕ) (t : Tree N A) → IsRadix bytes P place t →
      place_of bytes (length place) t ≡ place

  -- what is read off as the prefix of an inner node is the whole prefix: its header is that of the prefix, and every key below has the prefix after the place
  abbrev pub PrefixesAreReadOff : Type 0
  PrefixesAreReadOff =
      (bytes : A → List ℕ) (P : ℕ) (place : List ℕ) (n : N) (h : NodeHeader) (cs : Subtrees N A) →
      IsRadix bytes P place (inner n h cs) →
      let part = prefix_of bytes (length place) (inner n h cs) in
      (h ≡ canonical_header P part (length (bytes_of cs))) ×
      Each (λ x. IsFront (place ++ part) (bytes x)) (pairs_below cs)

  -- places increase from node to node, so no two nodes have the same
  abbrev pub PlacesRise : Type 0
  PlacesRise =
      (bytes : A → List ℕ) (P : ℕ) (tree : Tree N A) → IsRadix bytes P [] tree →
      Pairwise (λ p q. is_before p.0 q.0 ≡ true) (places bytes 0 tree)

  -- each key has an end node
  abbrev pub HasEndNode : Type 0
  HasEndNode =
      (bytes : A → List ℕ) (P : ℕ) (tree : Tree N A) (key : List ℕ) → IsRadix bytes P [] tree →
      (path : List (Frame N A)) × (node : Tree N A) × IsEndNode bytes tree key path node

  -- and all its end nodes have the same place and name
  abbrev pub HasOneEnd : Type 0
  HasOneEnd =
      (bytes : A → List ℕ) (P : ℕ) (tree : Tree N A) (key : List ℕ) (path road : List (Frame N A))
      (node other : Tree N A) → IsRadix bytes P [] tree →
      IsEndNode bytes tree key path node → IsEndNode bytes tree key road other →
      (place_of bytes (depth_of road) other ≡ place_of bytes (depth_of path) node) × (name_of other ≡ name_of node)
