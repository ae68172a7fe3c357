-- Nodes next to a key, and the leaves next to a cut at a key.
use Rattle.std.specs.Prelude.{◌≡◌, ℕ, Bool, not, List, Option}
use Rattle.std.specs.Option.{option_map}
use Rattle.std.specs.List.{AllByRecursion as Each}
use Rattle.art_parts.specs.declared.names.OpaqueNodePtr.{OpaqueNodePtr}
use Rattle.art_parts.specs.Names.{leaf_name}
use Rattle.art_parts.specs.declared.names.LeafPtr.{LeafPtr}
use Rattle.art_parts.specs.Keys.{Precedes, is_before}
use Rattle.art_model.specs.Pairs.{first_of, last_of}
use Rattle.art_model.specs.Parts.{leaves_where}
use Rattle.art_model.specs.Radix.{pairs_of}
use Rattle.art_model.specs.Trees.{Tree}
use Rattle.art_ranges.specs.declared.range.Cut.{Cut}
use Rattle.art_ranges.specs.declared.range.Cut.TheVariants.{Before, After}
use Rattle.art_reading.specs.declared.lookup.descent.End.{End}
use Rattle.art_reading.specs.declared.lookup.descent.End.TheVariants.{First, Last}
use Rattle.art_reading.specs.PartEnds.{StandsBetween}

-- A node of the tree next to a key: the pairs before the node are before the key, those after the node after it, and all of its own on one side.
pub record StandsBeside {A : Type 0} (bytes : A → List ℕ) (key : List ℕ) (layout : Tree OpaqueNodePtr A) (name : OpaqueNodePtr) : Type 0 where
  pub at : StandsBetween (λ x. Precedes (bytes x) key) (λ x. Precedes key (bytes x)) layout name
  pub is_lower : Bool
  pub is_upper : Bool
  pub lower : Each (λ x. is_before (bytes x) key ≡ is_lower) (pairs_of at.node)
  pub upper : Each (λ x. is_before key (bytes x) ≡ is_upper) (pairs_of at.node)

-- whether another key is before the cut at a key
abbrev pub is_before_cut : Cut → List ℕ → List ℕ → Bool
is_before_cut Before key other = is_before other key
is_before_cut After key other = not (is_before key other)

-- the first leaf after a cut, or the last one before it
abbrev pub IsLeafAtCut : {A : Type 0} → (A → List ℕ) → Cut → List ℕ → Tree OpaqueNodePtr A → End → Option LeafPtr → Type 0
IsLeafAtCut bytes cut key layout First leaf =
    option_map leaf_name leaf ≡ first_of (leaves_where (λ x. not (is_before_cut cut key (bytes x))) layout)
IsLeafAtCut bytes cut key layout Last leaf =
    option_map leaf_name leaf ≡ last_of (leaves_where (λ x. is_before_cut cut key (bytes x)) layout)
