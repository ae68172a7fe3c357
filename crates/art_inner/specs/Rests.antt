-- What is left of an iterator over children.
use Rattle.art_inner.specs.Inner.{Children, IsRising}
use Rattle.art_inner.specs.Rows.{AreAligned, rows_of}
use Rattle.art_inner.specs.Spans.{part_left, IsSpan}
use Rattle.art_inner.specs.declared.children.Rest.{Rest}
use Rattle.art_inner.specs.declared.children.Rest.TheVariants as rest

-- the children that were not returned yet
abbrev pub rest_list : Rest → Children
rest_list (rest.Sorted lent) = rows_of lent
rest_list (rest.Indexed table span) = part_left table.now span
rest_list (rest.Direct table span) = part_left table.now span

-- their bytes rise, and what is borrowed of a table is a part of it
abbrev pub IsRest : Rest → Type 0
IsRest (rest.Sorted lent) = IsRising (rows_of lent) × AreAligned lent
IsRest (rest.Indexed table span) = IsRising table.now × IsSpan table.now span
IsRest (rest.Direct table span) = IsRising table.now × IsSpan table.now span
