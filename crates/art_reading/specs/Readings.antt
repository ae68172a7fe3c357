-- How many nodes a search reads: each reading counts, also where a node is read again.
use Rattle.std.specs.Prelude.{◌≡◌, ℕ, ◌+◌, ◌-◌, ◌*◌, ◌^◌, ◌≤◌, min, List, length, Option, Some, None, Result, Ok, Err}
use Rattle.std.specs.FinMap as map
use Rattle.art_nodes.specs.Nodes.{Nodes}
use Rattle.art_parts.specs.declared.names.LeafPtr.{LeafPtr}
use Rattle.art_parts.specs.declared.names.OpaqueNodePtr.{OpaqueNodePtr}
use Rattle.art_model.specs.Heights.{height, tree_height}
use Rattle.art_model.specs.Lookups.{nodes_on_way}
use Rattle.art_model.specs.Pairs.{match_of}
use Rattle.art_model.specs.Places.{places}
use Rattle.art_model.specs.Roots.{ForTree}
use Rattle.art_model.specs.Stores.{node_at}
use Rattle.art_model.specs.Trees.{Tree}
use Rattle.art_reading.specs.declared.lookup.descent.LastNode.{LastNode}
use Rattle.art_reading.specs.declared.end_node.SearchStep.{SearchStep}
use Rattle.art_reading.specs.declared.end_node.SearchStep.TheVariants.{End, Down}
use Rattle.art_reading.specs.declared.path.ExplicitMismatch.{ExplicitMismatch}
use Rattle.art_reading.specs.declared.path.PrefixMatch.{PrefixMatch}
use Rattle.art_reading.specs.Stored.{IsWholeStored}

-- The counter increases by the number of readings, as far as a `usize` goes; this holds of that number.
pub record CountsReadings (before after : ℕ) (IsNumber : ℕ → Type 0) : Type 0 where
  pub number : ℕ
  pub counted : after ≡ before + min number (2 ^ 64 - 1 - before)
  pub is_number : IsNumber number

-- how many nodes are on the key's path from a node on, to which so many bytes lead
abbrev pub left_on_way : {N A : Type 0} → (A → List ℕ) → List ℕ → ℕ → Tree N A → ℕ
left_on_way bytes key depth node = length (match_of (λ other. other.0) key (places bytes depth node))

-- The search for a key's end node reads each node on the key's path, exactly these where each prefix is stored whole,
-- and at most three nodes for each level of the tree.
pub record ReadsToEnd {A : Type 0} (bytes : A → List ℕ) (P : ℕ) (key : List ℕ) (layout : Tree OpaqueNodePtr A) (number : ℕ) : Type 0 where
  pub at_least : length (nodes_on_way bytes key layout) ≤ number
  pub at_most : number ≤ 3 * (tree_height layout + 1)
  pub if_whole : IsWholeStored P layout → number ≡ length (nodes_on_way bytes key layout)

-- what the search for a key's end node counts
abbrev pub CountsToEnd : {K V : Type 0} → (K × V → List ℕ) → ℕ → Nodes K V → OpaqueNodePtr → List ℕ → ℕ → ℕ → Type 0
CountsToEnd bytes P s root key before after =
    CountsReadings before after (λ number. ForTree bytes P s root (λ pairs layout. ReadsToEnd bytes P key layout number))

module _ {K V : Type 0} (s : Nodes K V) where
  -- how many inner nodes a descent from a node passes at most
  abbrev pub levels : OpaqueNodePtr → ℕ
  levels name = height (node_at s) (map.len s.inners) name

module _ {K V : Type 0} (s : Nodes K V) (root : OpaqueNodePtr) where
  -- how many readings it took at most to find the guide leaf, if there is one
  abbrev pub guide_cost : Option LeafPtr → ℕ
  guide_cost None = 0
  guide_cost (Some name) = levels s root + 1

  module _ (name : OpaqueNodePtr) (guide next : Option LeafPtr) where
    -- how many readings a step takes at most, without those that find the guide leaf: two for each level that it descends,
    -- and at the end two and those of the descent to the least leaf
    abbrev pub IsStepCost : SearchStep → ℕ → Type 0
    IsStepCost (End kind used) number = number + guide_cost guide ≤ levels s name + 2 + guide_cost next
    IsStepCost (Down node byte child below) number =
        number + 2 * levels s child + guide_cost guide ≤ 2 * levels s name + guide_cost next

    -- how many a comparison of a prefix takes at most, without those: one of the guide leaf, and where the key differs from the
    -- prefix those of the descent to the least leaf
    abbrev pub IsPrefixCost : Result PrefixMatch ExplicitMismatch → ℕ → Type 0
    IsPrefixCost (Ok match) number = number + guide_cost guide ≤ 1 + guide_cost next
    IsPrefixCost (Err mismatch) number = number + guide_cost guide ≤ levels s name + 1 + guide_cost next

-- The readings of a descent to the node below which the keys with a prefix are: the inner nodes whose place is a prefix of
-- that one, and at most one for each level. A leaf at its end is not read.
abbrev pub ReadsBelow : {K V : Type 0} → (K × V → List ℕ) → Nodes K V → OpaqueNodePtr → List ℕ →
    Tree OpaqueNodePtr (K × V) → Option LastNode → ℕ → Type 0
ReadsBelow bytes s root prefix layout None number =
    (length (nodes_on_way bytes prefix layout) ≤ number) × (number ≤ levels s root + 1)
ReadsBelow bytes s root prefix layout (Some end) number =
    (length (nodes_on_way bytes prefix layout) ≤ number + 1) × (number + levels s end.name ≤ levels s root + 1)

-- The readings of a step: at least that of the node, and that alone where each prefix is stored whole.
pub record StepReads {K V : Type 0} (bytes : K × V → List ℕ) (P : ℕ) (s : Nodes K V) (root name : OpaqueNodePtr)
    (guide next : Option LeafPtr) (step : SearchStep) (number : ℕ) : Type 0 where
  pub at_least : 1 ≤ number
  pub at_most : IsStepCost s root name guide next step number
  pub if_whole : ForTree bytes P s root (λ pairs layout. IsWholeStored P layout → number ≡ 1)
