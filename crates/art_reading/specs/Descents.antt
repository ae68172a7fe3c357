-- Where the descents end, with a key and along an edge.
use Rattle.std.specs.Prelude.{◌≡◌, ℕ, ◌+◌, ◌-◌, ◌≤◌, List, [], ◌∷◌, length, slice_get, Option, Some, None}
use Rattle.art_parts.specs.Names.{leaf_name}
use Rattle.art_nodes.specs.Nodes.{Nodes}
use Rattle.art_parts.specs.declared.names.LeafPtr.{LeafPtr}
use Rattle.art_parts.specs.declared.names.OpaqueNodePtr.{OpaqueNodePtr}
use Rattle.art_parts.specs.Keys.{IsFront}
use Rattle.art_model.specs.Lookups.{HasLeaf, HasFirstLeaf, HasLastLeaf, nodes_on_way}
use Rattle.art_model.specs.Pairs.{match_of, with_key}
use Rattle.art_model.specs.Roots.{ForTree}
use Rattle.art_model.specs.Stores.{pair_of}
use Rattle.art_model.specs.Trees.{Tree}
use Rattle.art_reading.specs.declared.lookup.descent.FoundLeaf.{FoundLeaf}
use Rattle.art_reading.specs.declared.lookup.descent.LastLeaf.{LastLeaf}
use Rattle.art_reading.specs.declared.lookup.matching.PrefixMatchBehavior.{PrefixMatchBehavior}
use Rattle.art_reading.specs.declared.lookup.matching.PrefixMatchBehavior.TheVariants.{Pessimistic}
use Rattle.art_reading.specs.declared.lookup.matching.Asked.{Asked}
use Rattle.art_reading.specs.declared.lookup.matching.Asked.TheVariants.{Same, Front}
use Rattle.art_reading.specs.Matching.{MatchesLeafKey, LeafKeyIsPrefix}
use Rattle.art_reading.specs.declared.lookup.descent.End.{End}
use Rattle.art_reading.specs.declared.lookup.descent.End.TheVariants.{First, Last}
use Rattle.art_reading.specs.declared.path.TreePath.{TreePath}
use Rattle.art_reading.specs.PathSteps.{path_of}
use Rattle.art_reading.specs.Stored.{ComparesAll}

module _ {K V : Type 0} (bytes : K × V → List ℕ) (P : ℕ) (start : PrefixMatchBehavior) (key : List ℕ) (pairs : List (K × V))
    (layout : Tree OpaqueNodePtr (K × V)) (before after : ℕ) where
  -- the only leaf that can match the key, and what is left to compare of it: the bytes after its place, or all of them
  pub record IsLastLeaf (last : LastLeaf K V) : Type 0 where
    pub place : List ℕ
    pub is_leaf : HasLeaf layout (leaf_name last.leaf.name) (pair_of last.leaf.node.now)
    pub path_is : last.leaf.path ≡ path_of is_leaf.path
    pub leads_to : IsFront place (bytes (pair_of last.leaf.node.now))
    pub depth_is : length place ≡ last.depth
    pub is_short : last.depth ≤ length key
    pub compared : last.behavior ≡ Pessimistic → IsFront place key
    pub compares : ComparesAll P start layout → last.behavior ≡ Pessimistic
    pub only : match_of bytes key pairs ≡ match_of bytes key (pair_of last.leaf.node.now ∷ [])
    pub at_least : before + length (nodes_on_way bytes key layout) ≤ after
    pub exactly : IsFront place key → before + length (nodes_on_way bytes key layout) ≡ after

  -- the path ends at a leaf, or where no key can match
  abbrev pub WalkEnds : Option (LastLeaf K V) → Type 0
  WalkEnds None =
      (match_of bytes key pairs ≡ []) × (before + length (nodes_on_way bytes key layout) ≤ after)
      × (ComparesAll P start layout → before + length (nodes_on_way bytes key layout) ≡ after)
  WalkEnds (Some last) = IsLastLeaf last

-- what a descent counts that starts with this behavior: at least the nodes on the key's path, exactly these where a leaf is
-- found or each prefix is compared whole, and at most one more than the key has bytes
pub record CountsVisitsFrom (start : PrefixMatchBehavior) {K V : Type 0} (bytes : K × V → List ℕ) (P : ℕ) (s : Nodes K V) (root : OpaqueNodePtr)
    (key : List ℕ) (before after : ℕ) (IsFound : Type 0) : Type 0 where
  pub at_least : ForTree bytes P s root (λ pairs layout. before + length (nodes_on_way bytes key layout) ≤ after)
  pub exactly : ForTree bytes P s root (λ pairs layout.
      IsFound → before + length (nodes_on_way bytes key layout) ≡ after)
  pub if_whole : ForTree bytes P s root (λ pairs layout.
      ComparesAll P start layout → before + length (nodes_on_way bytes key layout) ≡ after)
  pub at_most : after ≤ before + length key + 1

-- what a lookup counts: at least the nodes on the key's path, exactly these where a leaf is found or each prefix is stored whole, and at most one more than the key has bytes
abbrev pub CountsVisits : {K V : Type 0} → (K × V → List ℕ) → ℕ → Nodes K V → OpaqueNodePtr → List ℕ → ℕ → ℕ → Type 0 → Type 0
CountsVisits bytes P s root key before after IsFound = CountsVisitsFrom Pessimistic bytes P s root key before after IsFound

-- the pairs that are asked for: those with the key, or with a prefix of it
abbrev pub asked_of : {A : Type 0} → Asked → (A → List ℕ) → List ℕ → List A → List A
asked_of Same bytes key pairs = with_key bytes key pairs
asked_of Front bytes key pairs = match_of bytes key pairs

-- what is compared of a leaf's key is as it is asked for
abbrev pub IsAskedFor : Asked → PrefixMatchBehavior → ℕ → List ℕ → List ℕ → Type 0
IsAskedFor Same behavior depth leaf query = MatchesLeafKey behavior depth leaf query
IsAskedFor Front behavior depth leaf query = LeafKeyIsPrefix behavior depth leaf query

-- The leaf has the only one of these pairs, and the path leads to it.
pub record IsOnlyLeaf {K V : Type 0} (asked : List (K × V)) (layout : Tree OpaqueNodePtr (K × V)) (leaf : FoundLeaf K V) : Type 0 where
  pub only : asked ≡ pair_of leaf.node.now ∷ []
  pub is_leaf : HasLeaf layout (leaf_name leaf.name) (pair_of leaf.node.now)
  pub path_is : leaf.path ≡ path_of is_leaf.path

-- the leaf of the only one of these pairs, with the path to it, or none where there is no such pair
abbrev pub IsKeysLeaf : {K V : Type 0} → List (K × V) → Tree OpaqueNodePtr (K × V) → Option (FoundLeaf K V) → Type 0
IsKeysLeaf asked layout None = asked ≡ []
IsKeysLeaf asked layout (Some leaf) = IsOnlyLeaf asked layout leaf

-- the first of two, or the last
abbrev pub of_two : {A : Type 0} → End → A × A → A
of_two First two = two.0
of_two Last two = two.1

-- the path leads to the tree's first leaf, or to the last one
abbrev pub LeadsToEnd : {A : Type 0} → Tree OpaqueNodePtr A → End → TreePath → LeafPtr → Type 0
LeadsToEnd tree First path leaf = (is : HasFirstLeaf tree (leaf_name leaf)) × (path ≡ path_of is.has.path)
LeadsToEnd tree Last path leaf = (is : HasLastLeaf tree (leaf_name leaf)) × (path ≡ path_of is.has.path)

-- a node's first child, with its byte, or the last one
abbrev pub IsEndChild : End → List (ℕ × OpaqueNodePtr) → ℕ × OpaqueNodePtr → Type 0
IsEndChild First children child = slice_get children 0 ≡ Some child
IsEndChild Last children child = slice_get children (length children - 1) ≡ Some child
