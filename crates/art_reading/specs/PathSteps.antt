-- Paths of code: one step down and up, the last steps of a path of the model, the parent at the end of a path, and the root.
use Rattle.std.specs.Prelude.{ℕ, List, [], ◌∷◌, Option, Some, None}
use Rattle.art_parts.specs.declared.names.NodeType.{NodeType}
use Rattle.art_parts.specs.declared.names.NodeType.TheVariants as kinds
use Rattle.art_parts.specs.declared.names.InnerPtr.{InnerPtr}
use Rattle.art_parts.specs.declared.names.OpaqueNodePtr.{OpaqueNodePtr}
use Rattle.art_model.specs.Paths.{Frame}
use Rattle.art_model.specs.Writes.{as_inner}
use Rattle.art_reading.specs.declared.path.TreePath.{TreePath}
use Rattle.art_reading.specs.declared.path.TreePath.TheVariants.{Root, ChildOfRoot, Normal}
use Rattle.art_reading.specs.declared.path.LastSteps.{LastSteps}

-- the path one step further down, to the child that a node has under a byte
abbrev pub step_down : TreePath → InnerPtr → ℕ → TreePath
step_down Root node byte = ChildOfRoot node byte
step_down (ChildOfRoot parent b) node byte = Normal node byte parent b
step_down (Normal parent b grandparent c) node byte = Normal node byte parent b

-- the path with a parent and a grandparent of these kinds, where the kind of leaves means none
abbrev pub path_with : NodeType → NodeType → InnerPtr → ℕ → InnerPtr → ℕ → TreePath
path_with kinds.Leaf above parent byte grandparent b = Root
path_with kind kinds.Leaf parent byte grandparent b = ChildOfRoot parent byte
path_with kind above parent byte grandparent b = Normal parent byte grandparent b

-- the path that these last steps make
abbrev pub path_after : LastSteps → TreePath
path_after steps =
    path_with steps.parent_kind steps.grandparent_kind
    (record { kind = steps.parent_kind; slot = steps.parent_slot }) steps.child_key_byte
    (record { kind = steps.grandparent_kind; slot = steps.grandparent_slot }) steps.parent_key_byte

-- the last steps of a path: the parent and the grandparent, with the bytes that lead down
abbrev pub path_of : {A : Type 0} → List (Frame OpaqueNodePtr A) → TreePath
path_of [] = Root
path_of (f ∷ fs) = step_down (path_of fs) (as_inner f.mark) f.byte

-- the parent at the end of a path, with the byte that leads down
abbrev pub last_step : TreePath → Option (InnerPtr × ℕ)
last_step Root = None
last_step (ChildOfRoot parent byte) = Some (parent, byte)
last_step (Normal parent byte grandparent above) = Some (parent, byte)

-- the path of the parent at the end of a path, as far as it is known
abbrev pub up : TreePath → TreePath
up Root = Root
up (ChildOfRoot parent byte) = Root
up (Normal parent byte grandparent above) = ChildOfRoot grandparent above

-- the root, where the node at the end of the path may be another one
abbrev pub root_with : TreePath → OpaqueNodePtr → OpaqueNodePtr → OpaqueNodePtr
root_with Root root node = node
root_with path root node = root
