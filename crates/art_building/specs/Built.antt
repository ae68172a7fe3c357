-- A tree that is being built, at its right edge. No public clause cites this module.
use Rattle.std.specs.Global.{Box}
use Rattle.std.specs.Prelude.{ℕ, List, [], ◌∷◌, ◌++◌, Option, Some, None, Result, Ok, Err, ⊤}
use Rattle.std.specs.Option.{option_map}
use Rattle.art_building.specs.Pushes.{IsPushError}
use Rattle.art_loading.specs.Edges.{IsEdge}
use Rattle.art_loading.specs.declared.append.AppendError.{AppendError}
use Rattle.art_loading.specs.declared.append.Edge.{Edge}
use Rattle.art_changing.specs.MapPairs.{HoldsPairs}
use Rattle.art_model.specs.Pairs.{of_key}
use Rattle.art_nodes.specs.Nodes.{Nodes}
use Rattle.art_parts.specs.declared.names.OpaqueNodePtr.{OpaqueNodePtr}

-- the edge that a builder has, if there is a tree
abbrev pub edge_in : Option (Box Edge) → Option Edge
edge_in kept = option_map (λ (box : Box Edge). box.value) kept

-- the root, if there is a tree
abbrev pub root_of : Option Edge → Option OpaqueNodePtr
root_of edge = option_map (λ (e : Edge). e.root) edge

-- the edge is that of the tree, if there is one
abbrev pub IsEdgeOf : {K V : Type 0} → (K × V → List ℕ) → ℕ → Nodes K V → Option Edge → List (K × V) → Type 0
IsEdgeOf bytes P s None pairs = ⊤
IsEdgeOf bytes P s (Some edge) pairs = IsEdge bytes P s edge.root edge.steps.items edge.leaf pairs

-- The store has the pairs and nothing else, and the edge is that of their tree.
pub record HoldsEdge {K V : Type 0} (bytes : K × V → List ℕ) (P : ℕ) (s : Nodes K V) (edge : Option Edge) (len : ℕ)
    (pairs : List (K × V)) : Type 0 where
  pub held : HoldsPairs bytes P s (root_of edge) len pairs
  pub edge_is : IsEdgeOf bytes P s edge pairs

-- a pair was appended, or is returned
abbrev pub HasAppended : {K V : Type 0} → (K → List ℕ) → ℕ → List (K × V) → K → V → Result (Unit {0}) (AppendError K V) →
    Nodes K V → Option Edge → ℕ → Type 0
HasAppended bytes P pairs key value (Ok done) t edge len = HoldsEdge (of_key bytes) P t edge len (pairs ++ (key, value) ∷ [])
HasAppended bytes P pairs key value (Err error) t edge len =
    HoldsEdge (of_key bytes) P t edge len pairs × IsPushError bytes pairs key value error
