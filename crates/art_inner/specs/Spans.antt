-- The position of a cursor over a table of places.
use Rattle.std.specs.Prelude.{◌≡◌, ◌≤◌, length}
use Rattle.art_inner.specs.Inner.{Children, part_of}
use Rattle.art_inner.specs.declared.places.Span.{Span}

-- the part that is left
abbrev pub part_left : Children → Span → Children
part_left cs span = part_of span.from span.to cs

-- its end is a byte's, and it has this many children
abbrev pub IsSpan : Children → Span → Type 0
IsSpan cs span = (span.to ≤ 256) × (span.left ≡ length (part_left cs span))
