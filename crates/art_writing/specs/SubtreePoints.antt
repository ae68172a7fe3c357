-- The points at which a node is removed with its whole subtree.
use Rattle.std.specs.Prelude.{◌≡◌, ℕ, List, [], ◌++◌, Option, Some, None}
use Rattle.art_nodes.specs.Nodes.{Nodes}
use Rattle.art_parts.specs.declared.names.OpaqueNodePtr.{OpaqueNodePtr}
use Rattle.art_model.specs.Canonical.{IsCanonicalTree}
use Rattle.art_model.specs.Layouts.{name_of}
use Rattle.art_model.specs.Pairs.{first_of}
use Rattle.art_model.specs.Parts.{below, not_below}
use Rattle.art_model.specs.Paths.{Frame, plug, pairs_before, pairs_after}
use Rattle.art_model.specs.Radix.{pairs_of}
use Rattle.art_model.specs.Trees.{Tree}
use Rattle.art_reading.specs.PathSteps.{path_of, step_down}
use Rattle.art_reading.specs.declared.path.TreePath.{TreePath}
use Rattle.art_reading.specs.declared.path.TreePath.TheVariants.{Root, ChildOfRoot, Normal}
use Rattle.art_writing.specs.Deleted.{LeadsTo}
use Rattle.art_writing.specs.declared.delete.DeletePoint.{DeletePoint}
use Rattle.art_writing.specs.declared.delete.subtree.SubtreeDeletePoint.{SubtreeDeletePoint}

-- The point names a node of the tree, with its parent and grandparent and the bytes that lead down.
pub record LeadsToNode {A : Type 0} (tree : Tree OpaqueNodePtr A) (point : SubtreeDeletePoint) : Type 0 where
  pub path : List (Frame OpaqueNodePtr A)
  pub node : Tree OpaqueNodePtr A
  pub whole : plug path node ≡ tree
  pub path_is : point.path ≡ path_of path
  pub named : name_of node ≡ point.node

-- the pairs that are not below the point's node
abbrev pub pairs_beside : {A : Type 0} → {tree : Tree OpaqueNodePtr A} → {point : SubtreeDeletePoint} →
    LeadsToNode tree point → List A
pairs_beside at = pairs_before at.path ++ pairs_after at.path

module _ {A : Type 0} (bytes : A → List ℕ) (prefix : List ℕ) (tree : Tree OpaqueNodePtr A) where
  -- Below the point's node are the pairs whose keys start with the prefix, and no others.
  pub record HasPrefixBelow (point : SubtreeDeletePoint) : Type 0 where
    pub at : LeadsToNode tree point
    pub gone : pairs_of at.node ≡ below bytes prefix (pairs_of tree)
    pub left : pairs_beside at ≡ not_below bytes prefix (pairs_of tree)

  -- the point of a prefix, or none where no key starts with it
  abbrev pub IsPrefixPoint : Option SubtreeDeletePoint → Type 0
  IsPrefixPoint None = below bytes prefix (pairs_of tree) ≡ []
  IsPrefixPoint (Some point) = HasPrefixBelow point

  -- the point of a prefix, and that of the first pair whose key starts with it, or none where no key does
  abbrev pub ArePointsBelow : Option (SubtreeDeletePoint × DeletePoint) → Type 0
  ArePointsBelow None = below bytes prefix (pairs_of tree) ≡ []
  ArePointsBelow (Some points) =
      HasPrefixBelow points.0 × (x : A) × (first_of (below bytes prefix (pairs_of tree)) ≡ Some x) × LeadsTo tree x points.1

-- the point is a subtree point of the store and the root
abbrev pub IsSubtreePointIn : {K V : Type 0} → (K × V → List ℕ) → ℕ → Nodes K V → OpaqueNodePtr →
    SubtreeDeletePoint → Type 0
IsSubtreePointIn {K} {V} bytes P s root point =
    (pairs : List (K × V)) × (layout : Tree OpaqueNodePtr (K × V)) ×
    IsCanonicalTree bytes P s root pairs layout × LeadsToNode layout point

-- the path to a node, by the path to one above it and the path from there
abbrev pub joined : TreePath → TreePath → TreePath
joined above Root = above
joined above (ChildOfRoot parent byte) = step_down above parent byte
joined above (Normal parent byte grandparent b) = Normal parent byte grandparent b
