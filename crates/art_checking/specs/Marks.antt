-- Names with their places, as they are stored. No public clause cites this module.
use Rattle.std.specs.Prelude.{ℕ, Bool, ◌==◌, ◌&&◌, ◌≤◌, if◌then◌else◌, List, length, map, Option, Some, None}
use Rattle.std.specs.List.{AllByRecursion as Each, slice_range}
use Rattle.art_parts.specs.Kinds.{kind_index}
use Rattle.art_parts.specs.declared.names.OpaqueNodePtr.{OpaqueNodePtr}
use Rattle.art_checking.specs.declared.well_formed.met.Mark.{Mark}

-- a name, and the place that is marked in the bytes
abbrev pub placed : List ℕ → Mark → OpaqueNodePtr × List ℕ
placed bytes mark = (mark.name, slice_range bytes mark.from mark.to)

-- all names with their places
abbrev pub marked : List ℕ → List Mark → List (OpaqueNodePtr × List ℕ)
marked bytes marks = map (placed bytes) marks

-- each place is within the bytes
abbrev pub AreWithin : List ℕ → List Mark → Type 0
AreWithin bytes marks = Each (λ mark. (mark.from ≤ mark.to) × (mark.to ≤ length bytes)) marks

-- whether the names are equal
abbrev pub same_name : OpaqueNodePtr → OpaqueNodePtr → Bool
same_name n k = kind_index n.kind == kind_index k.kind && n.slot == k.slot

-- the place of an entry, if it has this name
abbrev pub place_under : OpaqueNodePtr → Option (OpaqueNodePtr × List ℕ) → Option (List ℕ)
place_under name None = None
place_under name (Some met) = if same_name met.0 name then Some met.1 else None
