-- What a call did to the nodes under names, from the store before it to the store after it.
use Rattle.std.specs.Prelude.{◌≡◌, ℕ, ◌≤◌, List, [], ◌∷◌, length, Option, Some, None}
use Rattle.std.specs.List.{AllByRecursion as Each}
use Rattle.art_nodes.specs.Nodes.{Nodes}
pub use Rattle.art_parts.specs.Lists.{IsIn}
use Rattle.art_parts.specs.declared.names.OpaqueNodePtr.{OpaqueNodePtr}
use Rattle.art_model.specs.Layouts.{names_of}
use Rattle.art_model.specs.Pairs.{related_to}
use Rattle.art_model.specs.Paths.{Frame, plug}
use Rattle.art_model.specs.Radix.{pairs_of}
use Rattle.art_model.specs.Stores.{content_at, IsUsed}
use Rattle.art_model.specs.Trees.{Tree}

-- The placed names are in use in the new store alone, the freed ones in the old store alone, and all names that hold another node are among the changed ones.
pub record Footprint {K V : Type 0} (old new : Nodes K V) (placed freed changed : List OpaqueNodePtr) : Type 0 where
  pub are_placed : Each (λ name. (content_at old name ≡ None) × IsUsed new name) placed
  pub are_freed : Each (λ name. IsUsed old name × (content_at new name ≡ None)) freed
  pub are_changed : Each (λ name. IsUsed old name × IsUsed new name) changed
  pub others : (name : OpaqueNodePtr) → (IsIn name placed → ⊥) → (IsIn name freed → ⊥) →
      (IsIn name changed → ⊥) → content_at new name ≡ content_at old name

-- at most so many names are placed, freed and changed
abbrev pub TouchesAtMost : {K V : Type 0} → ℕ → ℕ → ℕ → Nodes K V → Nodes K V → Type 0
TouchesAtMost most_placed most_freed most_changed old new =
    (placed freed changed : List OpaqueNodePtr) × Footprint old new placed freed changed ×
    (length placed ≤ most_placed) × (length freed ≤ most_freed) × (length changed ≤ most_changed)

-- one name is placed, exactly these are freed, and at most so many are changed
abbrev pub PlacesOneFor : {K V : Type 0} → List OpaqueNodePtr → ℕ → Nodes K V → Nodes K V → Type 0
PlacesOneFor freed most_changed old new =
    (placed : OpaqueNodePtr) × (changed : List OpaqueNodePtr) ×
    Footprint old new (placed ∷ []) freed changed × (length changed ≤ most_changed)

-- The tree has a subtree with exactly the pairs whose keys are related to this one; a leaf was placed for its nodes, which are freed, and at most three others are changed.
pub record TouchesRelated {K V : Type 0} (bytes : K × V → List ℕ) (key : List ℕ) (s t : Nodes K V)
    (tree : Option (Tree OpaqueNodePtr (K × V))) : Type 0 where
  pub path : List (Frame OpaqueNodePtr (K × V))
  pub node : Tree OpaqueNodePtr (K × V)
  pub whole : tree ≡ Some (plug path node)
  pub pairs : pairs_of node ≡ related_to bytes key (pairs_of (plug path node))
  pub touches : PlacesOneFor (names_of node) 3 s t
