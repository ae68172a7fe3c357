use Rattle.std.proofs.Common.{◌-◌, ◌≡◌}
use Rattle.art_inner.specs.Spans.{IsSpan, part_left}
use Rattle.art_inner.proofs.places.next_in.Given as goal

abbrev pub invariant-loop-span : goal.invariant-loop-span
invariant-loop-span g l = (part_left (g.T.Places.children_of l.table) l.initial.span ≡ part_left (g.T.Places.children_of l.table) l.span) ×
    IsSpan (g.T.Places.children_of l.table) l.span

abbrev pub decreases-loop-span : goal.decreases-loop-span
decreases-loop-span g l = l.span.to - l.span.from
