-- Where a descent ends that looks for the longest or the shortest text of at least so many bytes that is a prefix of a query.
use Rattle.std.specs.Prelude.{◌≡◌, ◌≢◌, ◌+◌, ◌<◌, ◌≤◌, ◌⊎◌, ℕ, List, get_or, length, take, Option, Some, None}
use Rattle.std.specs.Option.{option_map}
use Rattle.std.specs.List.{AllByRecursion as Each}
use Rattle.art_inner.specs.Inner.{Inner, child_at}
use Rattle.art_parts.specs.Names.{leaf_name}
use Rattle.art_parts.specs.declared.names.LeafPtr.{LeafPtr}
use Rattle.art_parts.specs.declared.names.NodeType.TheVariants.{Leaf}
use Rattle.art_parts.specs.declared.names.OpaqueNodePtr.{OpaqueNodePtr}
use Rattle.art_parts.specs.Keys.{IsFront}
use Rattle.art_model.specs.Lookups.{HasLeaf}
use Rattle.art_model.specs.Texts.{text_of}
use Rattle.art_model.specs.Trees.{Tree}
use Rattle.art_ranges.specs.ShortTexts.{IsSought}
use Rattle.art_reading.specs.declared.lookup.descent.End.{End}
use Rattle.art_reading.specs.declared.lookup.descent.End.TheVariants.{First, Last}
use Rattle.art_ranges.specs.declared.texts.TextEnd.{TextEnd}
use Rattle.art_ranges.specs.declared.texts.TextEnd.TheVariants.{Passed, Whole}

-- the text that is kept of two, one of which is a prefix of the other
abbrev pub IsKept : End → List ℕ → List ℕ → Type 0
IsKept First kept other = IsFront kept other
IsKept Last kept other = IsFront other kept

-- the bytes of a query along which a descent goes at least: so many to the first text, and all to the last
abbrev pub bytes_along : End → ℕ → List ℕ → List ℕ
bytes_along First at_least query = take at_least query
bytes_along Last at_least query = query

module _ {A : Type 0} (bytes : A → List ℕ) where
  -- A leaf whose text is the one that is kept, of it and each text that is searched for. If the query is a prefix of a
  -- stored key, the leaf's text is a prefix of the query.
  pub record IsCovering (query : List ℕ) (at_least : ℕ) (kept : End) (pairs : List A) (layout : Tree OpaqueNodePtr A) (name : LeafPtr) : Type 0 where
    pub pair : A
    pub has : HasLeaf layout (leaf_name name) pair
    pub covers : Each (λ x. IsSought bytes query at_least x → IsKept kept (text_of bytes pair) (text_of bytes x)) pairs
    pub along : Each (λ x. IsFront query (bytes x) → IsFront (text_of bytes pair) query) pairs
    pub short : length (text_of bytes pair) ≤ length query
    pub long : at_least ≤ length (text_of bytes pair)

  -- such a leaf, or none where no text is searched for
  abbrev pub EndsWalk : List ℕ → ℕ → End → List A → Tree OpaqueNodePtr A → Option LeafPtr → Type 0
  EndsWalk query at_least kept pairs layout None = Each (λ x. IsSought bytes query at_least x → ⊥) pairs
  EndsWalk query at_least kept pairs layout (Some name) = IsCovering query at_least kept pairs layout name

  -- the leaf at the end of a descent has a text that is a prefix of the query, or it may be another one
  abbrev pub EndsAt : List ℕ → ℕ → End → List A → Tree OpaqueNodePtr A → TextEnd → Type 0
  EndsAt query at_least kept pairs layout (Whole name) =
      (end : IsCovering query at_least kept pairs layout name) × IsFront (text_of bytes end.pair) query
  EndsAt query at_least kept pairs layout (Passed passed) = EndsWalk query at_least kept pairs layout passed

-- the leaf at the end of a descent, or the one that was passed
abbrev pub leaf_of_end : TextEnd → Option LeafPtr
leaf_of_end (Whole name) = Some name
leaf_of_end (Passed passed) = passed

-- the leaf of this name, or else another leaf
abbrev pub IsLeafOr : Option OpaqueNodePtr → Option LeafPtr → Option LeafPtr → Type 0
IsLeafOr None other result = result ≡ other
IsLeafOr (Some name) other result =
    ((leaf : LeafPtr) × (leaf_name leaf ≡ name) × (result ≡ Some leaf)) ⊎ ((name.kind ≢ Leaf) × (result ≡ other))

-- A step along a query at an inner node, to which so many of its bytes lead. If they and the node's prefix are not longer
-- than the query, the leaf under the end byte is passed, if they are enough, and the query's next byte leads to a child.
pub record IsTextStep (node : Inner) (query : List ℕ) (end at_least depth : ℕ) (before after : Option LeafPtr) (result : Option (OpaqueNodePtr × ℕ)) : Type 0 where
  pub short : length query < depth + node.prefix.len → (result ≡ None) × (after ≡ before)
  pub early : depth + node.prefix.len < at_least → after ≡ before
  pub passes : at_least ≤ depth + node.prefix.len → depth + node.prefix.len ≤ length query → IsLeafOr (child_at node.children end) before after
  pub last : length query ≡ depth + node.prefix.len → result ≡ None
  pub below : depth + node.prefix.len < length query →
      result ≡ option_map (λ child. (child, depth + node.prefix.len + 1)) (child_at node.children (get_or query (depth + node.prefix.len) 0))
