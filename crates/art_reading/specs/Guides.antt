-- Guide leaves of a key: the whole prefix of each node on the key's path can be read from one of them.
use Rattle.std.specs.Prelude.{◌≡◌, ℕ, List, Option, Some, None, ⊤}
use Rattle.std.specs.List.{AllByRecursion as Each}
use Rattle.art_parts.specs.Names.{leaf_name}
use Rattle.art_parts.specs.declared.names.LeafPtr.{LeafPtr}
use Rattle.art_parts.specs.declared.names.OpaqueNodePtr.{OpaqueNodePtr}
use Rattle.art_parts.specs.Keys.{IsFront}
use Rattle.art_model.specs.Layouts.{name_of}
use Rattle.art_model.specs.Lookups.{HasLeaf}
use Rattle.art_model.specs.Paths.{Frame, plug}
use Rattle.art_model.specs.Places.{places}
use Rattle.art_model.specs.Radix.{pairs_of}
use Rattle.art_model.specs.Trees.{Tree}

module _ {A : Type 0} (bytes : A → List ℕ) (key : List ℕ) (layout : Tree OpaqueNodePtr A) where
  -- another key that starts with the place of each node on the key's path
  abbrev pub GoesAlong : List ℕ → Type 0
  GoesAlong other = Each (λ node. IsFront node.0 key → IsFront node.0 other) (places bytes 0 layout)

  -- A leaf of the tree whose key starts with the place of each node on the key's path.
  pub record IsGuide (name : LeafPtr) : Type 0 where
    pub pair : A
    pub has : HasLeaf layout (leaf_name name) pair
    pub along : GoesAlong (bytes pair)

  -- such a leaf, if any
  abbrev pub MayGuide : Option LeafPtr → Type 0
  MayGuide None = ⊤
  MayGuide (Some name) = IsGuide name

  -- A node of the tree below which each leaf is such a leaf.
  pub record AllGuide (name : OpaqueNodePtr) : Type 0 where
    pub path : List (Frame OpaqueNodePtr A)
    pub node : Tree OpaqueNodePtr A
    pub whole : plug path node ≡ layout
    pub named : name_of node ≡ name
    pub all : Each (λ x. GoesAlong (bytes x)) (pairs_of node)
