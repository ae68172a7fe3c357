-- Names with a place for each byte. No public clause cites this module.
use Rattle.std.specs.Prelude.{ℕ, List, Option, Some, None, slice_index_or}
use Rattle.art_parts.specs.declared.names.NodeType.TheVariants as kind
use Rattle.art_parts.specs.declared.names.OpaqueNodePtr.{OpaqueNodePtr}
use Rattle.art_inner.specs.declared.direct.PlaceKind.{PlaceKind}
use Rattle.art_inner.specs.declared.direct.PlaceKind.TheVariants as place

-- the name in a place
abbrev pub in_place : PlaceKind → ℕ → Option OpaqueNodePtr
in_place place.Node4 slot = Some (record { kind = kind.Node4; slot = slot })
in_place place.Node16 slot = Some (record { kind = kind.Node16; slot = slot })
in_place place.Node48 slot = Some (record { kind = kind.Node48; slot = slot })
in_place place.Node256 slot = Some (record { kind = kind.Node256; slot = slot })
in_place place.Leaf slot = Some (record { kind = kind.Leaf; slot = slot })
in_place place.Vacant slot = None

-- the name under a byte, where each byte has a place
abbrev pub direct_at : List ℕ → List PlaceKind → ℕ → Option OpaqueNodePtr
direct_at slots places b = in_place (slice_index_or places b place.Node4) (slice_index_or slots b 0)
