-- Names in places, and a table of the places of bytes. No public clause cites this module.
use Rattle.std.specs.Prelude.{◌≡◌, ◌≢◌, ℕ, zero, suc, ◌≤◌, List, Option, Some, None, slice_index_or, if◌then◌else◌, ◌==◌}
use Rattle.art_parts.specs.declared.names.NodeType.{NodeType}
use Rattle.art_parts.specs.declared.names.NodeType.TheVariants.{Node4}
use Rattle.art_parts.specs.declared.names.OpaqueNodePtr.{OpaqueNodePtr}

-- the name in place of a number, where places count from one on and zero is none
abbrev pub numbered : List ℕ → List NodeType → ℕ → Option OpaqueNodePtr
numbered slots kinds zero = None
numbered slots kinds (suc place) = Some (record { kind = slice_index_or kinds place Node4; slot = slice_index_or slots place 0 })

-- the name under a byte
abbrev pub indexed_at : List ℕ → List NodeType → List ℕ → ℕ → Option OpaqueNodePtr
indexed_at slots kinds index b = numbered slots kinds (slice_index_or index b 0)

-- the numbers are those of so many places, and no two bytes have one place
abbrev pub IsIndex : List ℕ → ℕ → Type 0
IsIndex index len =
    ((b : ℕ) → slice_index_or index b 0 ≤ len)
    × ((a b : ℕ) → slice_index_or index a 0 ≡ slice_index_or index b 0 → slice_index_or index a 0 ≢ 0 → a ≡ b)

-- the number of a place once the last one has moved to another
abbrev pub number_after_move : ℕ → ℕ → ℕ → ℕ
number_after_move last to number = if number == last then to else number
