-- Paths of code and of the model: the last step, the resulting roots, and the same one step up.
use Rattle.std.proofs.Common.{◌≡◌, ◌≢◌, ℕ, List, [], ◌∷◌, Some, refl}
use Rattle.art_model.specs.Prelude.{inner_name, InnerPtr, OpaqueNodePtr, Frame, as_inner, parent_of}
use Rattle.art_model.proofs.places.Paths as paths
use Rattle.art_writing.specs.Deleted.{IsRootAfter, IsTopAfter, ParentChange, no_parent, keeps, shrinks, is_compressed}
use Rattle.art_writing.specs.Inserted.{root_after}
use Rattle.art_reading.specs.PathSteps.{last_step, path_of, step_down, up, root_with}
use Rattle.art_writing.specs.declared.insert.InsertParentNodeChange.TheVariants.{NewParent}
use Rattle.art_writing.specs.declared.insert.InsertPoint.{InsertPoint}
use Rattle.art_reading.specs.declared.path.TreePath.{TreePath}
use Rattle.art_reading.specs.declared.path.TreePath.TheVariants.{Root, ChildOfRoot, Normal}

module _ {A : Type 0} where
  -- the last step descends from the innermost node
  pub last_step-path_of : (fs : List (Frame OpaqueNodePtr A)) → last_step (path_of fs) ≡ parent_of fs
  last_step-path_of [] = refl
  last_step-path_of (f ∷ fs) = down (path_of fs)
    where
      down : (path : TreePath) → last_step (step_down path (as_inner f.mark) f.byte) ≡ Some (as_inner f.mark, f.byte)
      down Root = refl
      down (ChildOfRoot parent b) = refl
      down (Normal parent b grandparent c) = refl

  -- the root, where another node is at the end of the path
  pub root_with-path_of : (fs : List (Frame OpaqueNodePtr A)) (root node : OpaqueNodePtr) → root_with (path_of fs) root node ≡ paths.root_with fs root node
  root_with-path_of [] root node = refl
  root_with-path_of (f ∷ fs) root node = down (path_of fs)
    where
      down : (path : TreePath) → root_with (step_down path (as_inner f.mark) f.byte) root node ≡ root
      down Root = refl
      down (ChildOfRoot parent b) = refl
      down (Normal parent b grandparent c) = refl

-- it is the root by what is reported of the parent
pub root_told : (point : InsertPoint) (path : TreePath) (node : InnerPtr) (byte : ℕ) →
    root_with path point.root (inner_name node) ≡ root_after (record point { path = path }) (NewParent node byte)
root_told point Root node byte = refl
root_told point (ChildOfRoot parent b) node byte = refl
root_told point (Normal parent b grandparent above) node byte = refl

-- ---- one step up from below a node

module _ {A : Type 0} (f : Frame OpaqueNodePtr A) where
  -- the path to the node, as far as its last step
  pub last_step-up : (fs : List (Frame OpaqueNodePtr A)) → last_step (up (path_of (f ∷ fs))) ≡ parent_of fs
  last_step-up [] = refl
  last_step-up (g ∷ gs) = above (path_of gs)
    where
      above : (path : TreePath) → last_step (up (step_down (step_down path (as_inner g.mark) g.byte) (as_inner f.mark) f.byte)) ≡ Some (as_inner g.mark, g.byte)
      above Root = refl
      above (ChildOfRoot parent b) = refl
      above (Normal parent b grandparent c) = refl

  -- the root is another one exactly if the node is the root
  pub root_with-up : (fs : List (Frame OpaqueNodePtr A)) (root node : OpaqueNodePtr) →
      root_with (up (path_of (f ∷ fs))) root node ≡ paths.root_with fs root node
  root_with-up [] root node = refl
  root_with-up (g ∷ gs) root node = above (path_of gs)
    where
      above : (path : TreePath) → root_with (up (step_down (step_down path (as_inner g.mark) g.byte) (as_inner f.mark) f.byte)) root node ≡ root
      above Root = refl
      above (ChildOfRoot parent b) = refl
      above (Normal parent b grandparent c) = refl

  above_root : (change : ParentChange) (g : Frame OpaqueNodePtr A) (root : OpaqueNodePtr) (path : TreePath) →
      IsRootAfter change (step_down (step_down path (as_inner g.mark) g.byte) (as_inner f.mark) f.byte) root (Some root)
  above_root change g root Root = refl
  above_root change g root (ChildOfRoot parent b) = refl
  above_root change g root (Normal parent b grandparent c) = refl

  -- and that is the one that a deletion returns where the parent is replaced
  pub root_after_at : (change : ParentChange) (fs : List (Frame OpaqueNodePtr A)) (root node : OpaqueNodePtr) → change ≢ keeps →
      IsRootAfter change (path_of (f ∷ fs)) root (Some (paths.root_with fs root node))
  root_after_at change [] root node gives_way = top change gives_way
    where
      top : (change : ParentChange) → change ≢ keeps → IsTopAfter change root (Some node)
      top keeps gives_way = absurd (gives_way refl)
      top no_parent gives_way = (node, refl)
      top (shrinks to) gives_way = (node, refl)
      top is_compressed gives_way = (node, refl)
  root_after_at change (g ∷ gs) root node gives_way = above_root change g root (path_of gs)

  -- where the parent stays it is the old one
  pub root_kept_at : (fs : List (Frame OpaqueNodePtr A)) (root : OpaqueNodePtr) → IsRootAfter keeps (path_of (f ∷ fs)) root (Some root)
  root_kept_at [] root = refl
  root_kept_at (g ∷ gs) root = above_root keeps g root (path_of gs)
