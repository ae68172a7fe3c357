-- A traversal of the nodes below a root, each before its children: what is left of it is a list of nodes, of which the last comes next.
use Rattle.std.specs.Prelude.{◌≤◌, ◌+◌, ◌-◌, ◌^◌, ℕ, zero, suc, min, List, [], ◌∷◌, ◌++◌, length, Option, Some, None}
use Rattle.art_inner.specs.Inner.{Children}
use Rattle.art_nodes.specs.Nodes.{Nodes}
use Rattle.art_parts.specs.declared.names.OpaqueNodePtr.{OpaqueNodePtr}
use Rattle.art_model.specs.Layouts.{Node, leaf_node, inner_node}
use Rattle.art_model.specs.Stores.{node_at}
use Rattle.art_engine.specs.declared.keeping.walk.Pending.{Pending}

-- the root: no node is above it, and no byte leads to it
abbrev pub pending_root : OpaqueNodePtr → Pending
pending_root name = record { depth = 0; byte = None; name = name }

-- one level further down, as far as a usize counts
abbrev pub one_deeper : ℕ → ℕ
one_deeper depth = min (depth + 1) (2 ^ 64 - 1)

-- children at a depth with the bytes that lead to them, from the last to the first
abbrev pub reversed_children : ℕ → Children → List Pending
reversed_children depth [] = []
reversed_children depth ((byte, name) ∷ slots) = reversed_children depth slots ++ record { depth = depth; byte = Some byte; name = name } ∷ []

-- the children of a node, at a depth, from the last to the first
abbrev pub children_of : {A : Type 0} → ℕ → Option (Node OpaqueNodePtr A) → List Pending
children_of depth None = []
children_of depth (Some (leaf_node x)) = []
children_of depth (Some (inner_node h slots)) = reversed_children depth slots

module _ {K V : Type 0} (s : Nodes K V) where
  -- what is right below a node, from the last to the first
  abbrev pub below : Pending → List Pending
  below next = children_of (one_deeper next.depth) (node_at s next.name)

  -- what is left after a step: children in place of the visited node
  abbrev pub after_turn : List Pending → List Pending
  after_turn [] = []
  after_turn (next ∷ []) = below next
  after_turn (first ∷ next ∷ rest) = first ∷ after_turn (next ∷ rest)

  -- what is left of the traversal after so many steps
  abbrev pub left_after : OpaqueNodePtr → ℕ → List Pending
  left_after root zero = pending_root root ∷ []
  left_after root (suc turns) = after_turn (left_after root turns)

  -- there is room for what is left, after any number of turns
  abbrev pub HasRoom : OpaqueNodePtr → ℕ → Type 0
  HasRoom root capacity = (turns : ℕ) → length (left_after root turns) ≤ capacity
