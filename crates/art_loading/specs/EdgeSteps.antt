-- The nodes above a tree's last leaf, as a list of steps: the root first.
use Rattle.std.specs.Prelude.{◌≡◌, ℕ, ◌<◌, ◌≤◌, List, [], ◌∷◌, ◌++◌}
use Rattle.std.specs.List.{AllByRecursion as Each}
use Rattle.art_loading.specs.declared.edge.Step.{Step}
use Rattle.art_model.specs.Paths.{Frame}
use Rattle.art_model.specs.Places.{depth_of}
use Rattle.art_model.specs.Trees.{no_child}
use Rattle.art_model.specs.Writes.{as_inner}
use Rattle.art_parts.specs.declared.names.OpaqueNodePtr.{OpaqueNodePtr}
use Rattle.art_reading.specs.PathSteps.{step_down}
use Rattle.art_reading.specs.declared.path.TreePath.{TreePath}

-- The step is the last one of the list whose place has at most so many bytes, and these are the steps above it.
pub record IsReach (shared : ℕ) (steps above : List Step) (step : Step) : Type 0 where
  pub rest : List Step
  pub whole : steps ≡ above ++ step ∷ rest
  pub within : step.depth ≤ shared
  pub beyond : Each (λ other. shared < other.depth) rest

-- the path down these steps, from the end of a path
abbrev pub path_by : TreePath → List Step → TreePath
path_by path [] = path
path_by path (step ∷ steps) = path_by (step_down path step.node step.byte) steps

module _ {A : Type 0} where
  -- the step from the node of a frame, to which a path leads
  abbrev pub step_of : Frame OpaqueNodePtr A → List (Frame OpaqueNodePtr A) → Step
  step_of f fs = record { node = as_inner f.mark; depth = depth_of fs; byte = f.byte }

  -- the steps down a path
  abbrev pub steps_of : List (Frame OpaqueNodePtr A) → List Step
  steps_of [] = []
  steps_of (f ∷ fs) = steps_of fs ++ step_of f fs ∷ []

  -- nothing is after the path
  abbrev pub IsRightmost : List (Frame OpaqueNodePtr A) → Type 0
  IsRightmost fs = Each (λ f. f.right ≡ no_child) fs
