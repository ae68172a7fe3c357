use Rattle.std.proofs.Common.{ap, slice_get}
use Rattle.art_checking.specs.Marks.{place_under}
use Rattle.art_checking.specs.Meetings.{number_of, place_in}
use Rattle.art_checking.proofs.well_formed.seen.Seen.new.Goals as goal

pub returns-clause-places : goal.returns-clause-places
unfolding place_in
returns-clause-places c n = ap (λ met. place_under n (slice_get met (number_of c.new.result n))) c.new-2.ensures
