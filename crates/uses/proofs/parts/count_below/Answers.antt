use Rattle.std.proofs.Common.{length, ap, ◌∙◌}
use Rattle.art_operations.proofs.CallerLemmas.{pairs_counted}
use Rattle.uses.proofs.parts.count_below.Goals as goal

pub returns : goal.returns
returns g c = pairs_counted _ c.count.result c.count.ensures.ran ∙ ap length c.prefix.ensures.pairs
