use Rattle.std.proofs.Common.{ℕ, ◌+◌, ◌*◌, is_some, length, reverse}
use Rattle.std.specs.FinMap as map
use Rattle.art_model.specs.Prelude.{Inner, inner_cmp, inner_name, of_key}
use Rattle.art_checking.specs.Checked.{IsFirstLeast}
use Rattle.art_checking.specs.Meetings.{place_in}
use Rattle.art_checking.specs.Untried.{untried}
use Rattle.art_checking.specs.declared.well_formed.seen.Seen.{Seen}
use Rattle.art_checking.proofs.Traversals.{IsAt}
use Rattle.art_checking.proofs.well_formed.check.check_below.Given as goal

-- how many inner nodes were not met yet
abbrev pub left_to_meet : map.FinMap inner_cmp Inner → Seen → ℕ
left_to_meet inners seen = untried (λ p. is_some (place_in seen (inner_name p))) (map.keys inners)

abbrev pub invariant-below : goal.invariant-below
invariant-below g l = record {
  at : IsAt (of_key g.K.AsBytes.bytes) g.row.P l.store (inner_name l.fn.root) (reverse l.above.items) l.seen l.place.items l.name l.depth l.children;
  least : IsFirstLeast (of_key g.K.AsBytes.bytes) g.row.P l.store l.least l.children;
}

-- meeting a node counts more than leaving one, and this more than a child
abbrev pub decreases-below : goal.decreases-below
decreases-below g l = 600 * left_to_meet l.store.inners l.seen + 300 * length l.above.items + length l.children
