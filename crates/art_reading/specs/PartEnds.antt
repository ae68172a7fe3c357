-- Where the descents to parts of a tree end.
use Rattle.std.specs.Prelude.{◌≡◌, ℕ, Bool, false, List, [], length, Option, Some, None}
use Rattle.std.specs.List.{AllByRecursion as Each}
use Rattle.art_parts.specs.declared.names.OpaqueNodePtr.{OpaqueNodePtr}
use Rattle.art_nodes.specs.Nodes.{Nodes}
use Rattle.art_parts.specs.Keys.{is_front}
use Rattle.art_model.specs.Layouts.{IsLayout, name_of}
use Rattle.art_model.specs.Parts.{below}
use Rattle.art_model.specs.Paths.{Frame, plug, pairs_before, pairs_after}
use Rattle.art_model.specs.Radix.{IsRadix, pairs_of}
use Rattle.art_model.specs.Stores.{node_at}
use Rattle.art_model.specs.Trees.{Tree}
use Rattle.art_reading.specs.declared.lookup.descent.LastNode.{LastNode}
use Rattle.art_reading.specs.PathSteps.{path_of}

module _ {A : Type 0} (Lower Upper : A → Type 0) (layout : Tree OpaqueNodePtr A) (name : OpaqueNodePtr) where
  -- A node of the tree, between pairs of which these hold.
  pub record StandsBetween : Type 0 where
    pub path : List (Frame OpaqueNodePtr A)
    pub node : Tree OpaqueNodePtr A
    pub whole : plug path node ≡ layout
    pub named : name_of node ≡ name
    pub before : Each Lower (pairs_before path)
    pub after : Each Upper (pairs_after path)

-- the key of the pair does not start with the prefix
abbrev pub IsNotBelow : {A : Type 0} → (A → List ℕ) → List ℕ → A → Type 0
IsNotBelow bytes prefix x = is_front prefix (bytes x) ≡ false

module _ {A : Type 0} (bytes : A → List ℕ) (prefix : List ℕ) (layout : Tree OpaqueNodePtr A) where
  -- A node below which all keys are that start with the prefix: all or none of its own do.
  pub record HasAllBelow (name : OpaqueNodePtr) : Type 0 where
    pub at : StandsBetween (IsNotBelow bytes prefix) (IsNotBelow bytes prefix) layout name
    pub begin : Bool
    pub alike : Each (λ x. is_front prefix (bytes x) ≡ begin) (pairs_of at.node)

  -- the path ends at such a node; or no key starts with the prefix
  abbrev pub EndsBelow : Option LastNode → Type 0
  EndsBelow None = below bytes prefix (pairs_of layout) ≡ []
  EndsBelow (Some end) = (all : HasAllBelow end.name) × (end.path ≡ path_of all.at.path)

-- The name stands for a part of a radix tree, to which so many bytes lead.
pub record IsPlaced {K V : Type 0} (bytes : K × V → List ℕ) (P : ℕ) (s : Nodes K V) (name : OpaqueNodePtr) (depth : ℕ)
    (tree : Tree OpaqueNodePtr (K × V)) : Type 0 where
  pub place : List ℕ
  pub depth_is : length place ≡ depth
  pub radix : IsRadix bytes P place tree
  pub layout : IsLayout (node_at s) name tree
