-- The points at which keys are inserted: what a point says of its key's end node.
use Rattle.std.specs.Prelude.{◌≡◌, ℕ, Bool, true, false, List, ⊤}
use Rattle.std.specs.Box.{boxed_slice_items}
use Rattle.art_parts.specs.declared.names.OpaqueNodePtr.{OpaqueNodePtr}
use Rattle.art_model.specs.Layouts.{name_of}
use Rattle.art_model.specs.Pairs.{is_conflict}
use Rattle.art_model.specs.Paths.{Frame}
use Rattle.art_model.specs.Places.{depth_of, IsEndNode}
use Rattle.art_model.specs.Trees.{Tree}
use Rattle.art_writing.specs.declared.insert.InsertPoint.{InsertPoint}
use Rattle.art_writing.specs.declared.insert.InsertSearchError.{InsertSearchError}
use Rattle.art_writing.specs.declared.insert.InsertSearchError.TheVariants.{Prefix, Memory}
use Rattle.art_writing.specs.declared.insert.OverwritePoint.{OverwritePoint}
use Rattle.art_writing.specs.declared.insert.PrefixInsertPoint.{PrefixInsertPoint}
use Rattle.art_writing.specs.declared.insert.PrefixInsertPoint.TheVariants as points
use Rattle.art_reading.specs.EndNodes.{IsKindOf, IsOverwrittenWith}
use Rattle.art_reading.specs.PathSteps.{path_of}

-- whether the point is one to overwrite
abbrev pub overwrites : PrefixInsertPoint → Bool
overwrites (points.InsertPoint point) = false
overwrites (points.OverwritePoint point) = true

module _ {A : Type 0} (bytes : A → List ℕ) where
  -- The point names the tree's root and the key's end node, which is replaced, with its parent and grandparent and the bytes that lead down.
  pub record AnswersToOverwrite (layout : Tree OpaqueNodePtr A) (key : List ℕ) (point : OverwritePoint) : Type 0 where
    pub path : List (Frame OpaqueNodePtr A)
    pub node : Tree OpaqueNodePtr A
    pub is_end : IsEndNode bytes layout key path node
    pub root_is : point.root ≡ name_of layout
    pub path_is : point.path ≡ path_of path
    pub name_is : point.overwrite_point ≡ name_of node
    pub gives_way : IsOverwrittenWith bytes key (depth_of path) point.key_bytes_used node

module _ {A : Type 0} (bytes : A → List ℕ) (P : ℕ) where
  -- The point names the tree's root and the key's end node, with its parent and grandparent and the bytes that lead down.
  pub record AnswersTo (layout : Tree OpaqueNodePtr A) (key : List ℕ) (point : InsertPoint) : Type 0 where
    pub path : List (Frame OpaqueNodePtr A)
    pub node : Tree OpaqueNodePtr A
    pub is_end : IsEndNode bytes layout key path node
    pub root_is : point.root ≡ name_of layout
    pub path_is : point.path ≡ path_of path
    pub kind_is : IsKindOf bytes P key node (depth_of path) point.key_bytes_used point.insert_kind

  -- a point of either kind
  abbrev pub AnswersToPrefix : Tree OpaqueNodePtr A → List ℕ → PrefixInsertPoint → Type 0
  AnswersToPrefix layout key (points.InsertPoint point) = AnswersTo layout key point
  AnswersToPrefix layout key (points.OverwritePoint point) = AnswersToOverwrite bytes layout key point

  -- the point of the key, which is one to overwrite exactly if a stored key is related to it and unequal
  abbrev pub IsPointFor : List ℕ → List A → Tree OpaqueNodePtr A → PrefixInsertPoint → Type 0
  IsPointFor key pairs layout point =
      (is_conflict bytes key pairs ≡ overwrites point) × AnswersToPrefix layout key point

-- an error with the bytes of the key, or out of memory
abbrev pub IsRefusedFor : List ℕ → InsertSearchError → Type 0
IsRefusedFor key (Prefix error) = boxed_slice_items error.byte_repr ≡ key
IsRefusedFor key (Memory error) = ⊤
