-- Bytes that are kept in the value itself, or in an allocation.
use Rattle.std.specs.Prelude.{ℕ, ◌<◌, List, vec_capacity, ⊤}
use Rattle.art_keys.specs.declared.short_bytes.Kept.{Kept}
use Rattle.art_keys.specs.declared.short_bytes.Kept.TheVariants.{Inline, Heap}

-- the bytes
abbrev pub kept_bytes : Kept → List ℕ
kept_bytes (Inline room) = room
kept_bytes (Heap bytes) = bytes.items

-- an allocation has room for more bytes than the value itself
abbrev pub IsSound : Kept → Type 0
IsSound (Inline room) = ⊤
IsSound (Heap bytes) = 30 < vec_capacity bytes
