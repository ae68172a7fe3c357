-- What a search for a text returns: the leaf of the first or the last pair of those that are sought, if there is one.
use Rattle.std.specs.Prelude.{ℕ, List, Option}
use Rattle.art_nodes.specs.Nodes.{Nodes}
use Rattle.art_parts.specs.declared.names.LeafPtr.{LeafPtr}
use Rattle.art_parts.specs.declared.names.OpaqueNodePtr.{OpaqueNodePtr}
use Rattle.art_model.specs.Lookups.{FindsLast}
use Rattle.art_model.specs.Pairs.{first_of, last_of}
use Rattle.art_ranges.specs.ShortTexts.{FindsFirst}
use Rattle.art_reading.specs.Found.{HasFoundOne}

module _ {K V : Type 0} (bytes : K × V → List ℕ) (P : ℕ) (s : Nodes K V) (root : OpaqueNodePtr) where
  -- of the first of the pairs that are sought
  abbrev pub HasFoundFirst : (List (K × V) → List (K × V)) → Option LeafPtr → Type 0
  HasFoundFirst sought result = HasFoundOne bytes P s root FindsFirst first_of sought result

  -- of the last of the pairs that are sought
  abbrev pub HasFoundLast : (List (K × V) → List (K × V)) → Option LeafPtr → Type 0
  HasFoundLast sought result = HasFoundOne bytes P s root FindsLast last_of sought result
