-- The names that a check has met, each with its place. No public clause cites this module.
use Rattle.std.specs.Prelude.{◌≡◌, ◌≢◌, ℕ, List, [], ◌∷◌, ◌++◌, length, slice_get, slice_index_or, Option, Some, None}
use Rattle.std.specs.List.{AllByRecursion as Each}
use Rattle.art_parts.specs.declared.names.LeafPtr.{LeafPtr}
use Rattle.art_parts.specs.declared.names.NodeType.{NodeType}
use Rattle.art_parts.specs.declared.names.NodeType.TheVariants.{Node4, Node16, Node48, Node256, Leaf}
use Rattle.art_parts.specs.declared.names.OpaqueNodePtr.{OpaqueNodePtr}
use Rattle.art_model.specs.Footprints.{IsIn}
use Rattle.art_model.specs.Layouts.{AreDistinct}
use Rattle.art_checking.specs.Marks.{place_under}
use Rattle.art_checking.specs.declared.well_formed.seen.Numbers.{Numbers}
use Rattle.art_checking.specs.declared.well_formed.seen.Seen.{Seen}

-- the number in a slot of a row, or zero past its end
abbrev pub number_at : List ℕ → ℕ → ℕ
number_at row slot = slice_index_or row slot 0

-- the row of a kind
abbrev pub row_of : Numbers → NodeType → List ℕ
row_of numbers kind = elim kind [
  | Node4 ↦ numbers.node4.items
  | Node16 ↦ numbers.node16.items
  | Node48 ↦ numbers.node48.items
  | Node256 ↦ numbers.node256.items
  | Leaf ↦ numbers.leaf.items
]

-- the number of a name
abbrev pub number_of : Numbers → OpaqueNodePtr → ℕ
number_of numbers name = number_at (row_of numbers name.kind) name.slot

-- the place at which a name was met, if it was
unfoldable pub place_in : Seen → OpaqueNodePtr → Option (List ℕ)
place_in seen name = place_under name (slice_get seen.met (number_of seen.numbers name))

-- how many names were met
abbrev pub count_met : Seen → ℕ
count_met seen = length seen.met

-- the leaves with a further one, if this is a leaf's name
abbrev pub leaves_with : OpaqueNodePtr → List LeafPtr → List LeafPtr
leaves_with name leaves = elim name.kind [ Leaf ↦ leaves ++ record { slot = name.slot } ∷ [] | _ ↦ leaves ]

-- the places at which names were met
abbrev pub Places : Type 0
Places = OpaqueNodePtr → Option (List ℕ)

-- one further name was met, at this place
pub record IsMet (old new : Places) (name : OpaqueNodePtr) (place : List ℕ) : Type 0 where
  pub here : new name ≡ Some place
  pub elsewhere : (n : OpaqueNodePtr) → n ≢ name → new n ≡ old n

-- these names were met, each for the first time
pub record Meets (old new : Places) (names : List OpaqueNodePtr) : Type 0 where
  pub fresh : Each (λ n. old n ≡ None) names
  pub met : Each (λ n. new n ≢ None) names
  pub distinct : AreDistinct names
  pub elsewhere : (n : OpaqueNodePtr) → (IsIn n names → ⊥) → new n ≡ old n
