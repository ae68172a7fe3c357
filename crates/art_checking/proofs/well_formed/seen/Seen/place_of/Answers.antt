use Rattle.std.proofs.Common.{ap, slice_get, ◌∙◌}
use Rattle.art_checking.specs.Marks.{place_under}
use Rattle.art_checking.specs.Meetings.{place_in}
use Rattle.art_checking.proofs.well_formed.seen.Seen.place_of.Goals as goal

pub returns : goal.returns
unfolding place_in
returns c = c.place_under.ensures ∙ ap (λ i. place_under c.args.name (slice_get c.args.self.now.met i)) c.get.ensures
