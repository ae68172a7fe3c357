-- What is to be done with a key at its end node, and the descent to it.
use Rattle.std.specs.Prelude.{◌≡◌, ◌≢◌, ℕ, ◌+◌, ◌-◌, ◌<◌, ◌≤◌, if◌then◌else◌, ◌==◌, true, false, List, length, drop, get_or, slice_get, Option, Some, None, is_none, Result, Ok, Err}
use Rattle.art_inner.specs.Inner.{child_at}
use Rattle.art_parts.specs.Names.{leaf_name, inner_name}
use Rattle.art_parts.specs.declared.names.InnerPtr.{InnerPtr}
use Rattle.art_parts.specs.declared.names.LeafPtr.{LeafPtr}
use Rattle.art_parts.specs.declared.names.OpaqueNodePtr.{OpaqueNodePtr}
use Rattle.art_parts.specs.Keys.{IsFront, are_related}
use Rattle.art_model.specs.Layouts.{name_of, slots_of}
use Rattle.art_model.specs.Lookups.{HasFirstLeaf}
use Rattle.art_model.specs.Pairs.{is_conflict}
use Rattle.art_model.specs.Paths.{Frame, IsPath, plug}
use Rattle.art_model.specs.Places.{depth_of, prefix_of, IsEndNode}
use Rattle.art_model.specs.Radix.{IsRadix}
use Rattle.art_model.specs.Trees.{Tree, leaf, inner, Subtrees, NodeHeader}
use Rattle.art_reading.specs.declared.end_node.EndNode.{EndNode}
use Rattle.art_reading.specs.declared.end_node.InsertKind.{InsertKind}
use Rattle.art_reading.specs.declared.end_node.InsertKind.TheVariants.{MismatchPrefix, SplitLeaf, Exact, IntoExisting}
use Rattle.art_reading.specs.declared.end_node.SearchStep.{SearchStep}
use Rattle.art_reading.specs.declared.end_node.SearchStep.TheVariants.{End, Down}
use Rattle.art_reading.specs.declared.path.TreePath.{TreePath}
use Rattle.art_reading.specs.declared.path.ExplicitMismatch.{ExplicitMismatch}
use Rattle.art_reading.specs.declared.path.PrefixMatch.{PrefixMatch}
use Rattle.art_reading.specs.Matching.{shared_len}
use Rattle.art_reading.specs.PathSteps.{path_of, step_down}
use Rattle.art_reading.specs.Readings.{left_on_way}

-- a key and a leaf's key differ after so many bytes, each with a byte of its own
abbrev pub PartAfter : ℕ → List ℕ → List ℕ → Type 0
PartAfter shared key other = (are_related key other ≡ false) × (shared ≡ shared_len key other)

-- what is to be done at a leaf: the keys differ, or are the same; nothing where they are related and unequal
abbrev pub IsKindFor : List ℕ → LeafPtr → List ℕ → Option InsertKind → Type 0
IsKindFor key name other None = (are_related key other ≡ true) × (key ≢ other)
IsKindFor key name other (Some (Exact p)) = (p ≡ name) × (other ≡ key)
IsKindFor key name other (Some (SplitLeaf p shared)) = (p ≡ name) × PartAfter shared key other
IsKindFor key name other (Some kind) = ⊥

-- the least leaf below a node, exactly if the node's prefix is longer than its stored bytes
abbrev pub IsLeafForPrefix : {A : Type 0} → ℕ → List ℕ → Tree OpaqueNodePtr A → Option LeafPtr → Type 0
IsLeafForPrefix P prefix node None = length prefix ≤ P
IsLeafForPrefix P prefix node (Some name) = (P < length prefix) × HasFirstLeaf node (leaf_name name)

-- how many bytes are used of a key that ends in an inner node's prefix: all but the last one, if any,
-- where it ends with the prefix, and else those that lead to the node
abbrev pub used_in_prefix : List ℕ → ℕ → List ℕ → ℕ
used_in_prefix key depth prefix = if length key == depth + length prefix then length key - 1 else depth

module _ {A : Type 0} (bytes : A → List ℕ) (key : List ℕ) (depth : ℕ) where
  -- all keys of the node are replaced by the key: it is a leaf whose key is related to the key and unequal,
  -- or an inner node in whose prefix, or with it, the key ends
  abbrev pub IsOverwrittenWith : ℕ → Tree OpaqueNodePtr A → Type 0
  IsOverwrittenWith used (leaf n pair) =
      (used ≡ depth) × (are_related key (bytes pair) ≡ true) × (key ≢ bytes pair)
  IsOverwrittenWith used (inner n h cs) =
      (used ≡ used_in_prefix key depth (prefix_of bytes depth (inner n h cs))) ×
      IsFront (drop depth key) (prefix_of bytes depth (inner n h cs))

module _ {A : Type 0} (bytes : A → List ℕ) (P : ℕ) (key : List ℕ) (node : Tree OpaqueNodePtr A) (depth : ℕ) where
  -- the node's prefix and the rest of the key are the same up to a byte of the prefix,
  -- at which the key differs or ends
  pub record IsMismatch (mismatch : ExplicitMismatch) : Type 0 where
    pub matched : mismatch.matched_bytes ≡ shared_len (prefix_of bytes depth node) (drop depth key)
    pub byte : slice_get (prefix_of bytes depth node) mismatch.matched_bytes ≡ Some mismatch.prefix_byte
    pub least_leaf : IsLeafForPrefix P (prefix_of bytes depth node) node mismatch.leaf_ptr

  -- the node's whole prefix, compared with the rest of the key
  abbrev pub IsCompared : Result PrefixMatch ExplicitMismatch → Type 0
  IsCompared (Ok match) =
      (match.matched_bytes ≡ length (prefix_of bytes depth node)) ×
      IsFront (prefix_of bytes depth node) (drop depth key)
  IsCompared (Err mismatch) = IsMismatch mismatch

  -- the node is the leaf of this name, with such a key
  abbrev pub IsLeafWith : LeafPtr → (List ℕ → Type 0) → Type 0
  IsLeafWith p IsSuch = (pair : A) × (node ≡ leaf (leaf_name p) pair) × IsSuch (bytes pair)

  -- the node is the inner node of this name, with such children
  abbrev pub IsInnerWith : InnerPtr → (Subtrees OpaqueNodePtr A → Type 0) → Type 0
  IsInnerWith p AreSuch =
      (header : NodeHeader) × (children : Subtrees OpaqueNodePtr A) ×
      (node ≡ inner (inner_name p) header children) × AreSuch children

  -- the key continues after the node's prefix, to whose end so many bytes lead
  abbrev pub GoesOnAfter : ℕ → Type 0
  GoesOnAfter used =
      IsFront (prefix_of bytes depth node) (drop depth key) ×
      (used ≡ depth + length (prefix_of bytes depth node)) × (used < length key)

  -- what the node is for each kind: the key's own leaf; a leaf whose key differs from the key; an inner node
  -- with no child for the byte after its prefix; one whose prefix the key differs from at a byte
  abbrev pub IsKindOf : ℕ → InsertKind → Type 0
  IsKindOf used (Exact p) = (used ≡ depth) × IsLeafWith p (λ other. other ≡ key)
  IsKindOf used (SplitLeaf p shared) = (used ≡ depth) × IsLeafWith p (PartAfter shared key)
  IsKindOf used (IntoExisting p) = GoesOnAfter used ×
      IsInnerWith p (λ children. child_at (slots_of children) (get_or key used 0) ≡ None)
  IsKindOf used (MismatchPrefix mismatch p) = (used ≡ depth) ×
      IsInnerWith p (λ children. IsMismatch mismatch × (depth + mismatch.matched_bytes < length key))

  -- what is to be done at the node: a kind that the node is of, or none where all its keys are replaced
  abbrev pub ComesTo : ℕ → Option InsertKind → Type 0
  ComesTo used (Some kind) = IsKindOf used kind
  ComesTo used None = IsOverwrittenWith bytes key depth used node

module _ {A : Type 0} (bytes : A → List ℕ) (P : ℕ) where
  -- The key's end node, with its parent and grandparent and the bytes that lead down.
  pub record HasEndNode (layout : Tree OpaqueNodePtr A) (key : List ℕ) (end : EndNode) : Type 0 where
    pub path : List (Frame OpaqueNodePtr A)
    pub node : Tree OpaqueNodePtr A
    pub is_end : IsEndNode bytes layout key path node
    pub path_is : end.path ≡ path_of path
    pub name_is : end.name ≡ name_of node
    pub kind_is : ComesTo bytes P key node (depth_of path) end.key_bytes_used end.insert_kind

  -- the key's end node, which has no kind exactly if an unequal stored key is related to the key
  abbrev pub IsEndFor : List ℕ → List A → Tree OpaqueNodePtr A → EndNode → Type 0
  IsEndFor key pairs layout end =
      (is_conflict bytes key pairs ≡ is_none end.insert_kind) × HasEndNode layout key end

  -- this path leads to the node of this name, at a place of so many bytes that is a prefix of the key
  pub record IsAt (key : List ℕ) (tree : Tree OpaqueNodePtr A) (path : TreePath) (name : OpaqueNodePtr) (depth : ℕ) : Type 0 where
    pub frames : List (Frame OpaqueNodePtr A)
    pub place : List ℕ
    pub node : Tree OpaqueNodePtr A
    pub whole : plug frames node ≡ tree
    pub leads : IsPath bytes P place frames
    pub radix : IsRadix bytes P place node
    pub on_way : IsFront place key
    pub named : name_of node ≡ name
    pub depth_is : length place ≡ depth
    pub path_is : path ≡ path_of frames

  -- a step from such a node ends there, at the key's end node and the last one on its path, or leads to the next one on it
  abbrev pub IsStepFrom : (key : List ℕ) → List A → (layout : Tree OpaqueNodePtr A) → (path : TreePath) →
      (name : OpaqueNodePtr) → (depth : ℕ) → IsAt key layout path name depth → SearchStep → Type 0
  IsStepFrom key pairs layout path name depth at (End kind used) =
      IsEndFor key pairs layout (record { path = path; name = name; insert_kind = kind; key_bytes_used = used })
      × (left_on_way bytes key depth at.node ≡ 1)
  IsStepFrom key pairs layout path name depth at (Down node byte child below) =
      (depth < below) × (next : IsAt key layout (step_down path node byte) child below)
      × (left_on_way bytes key depth at.node ≡ left_on_way bytes key below next.node + 1)
