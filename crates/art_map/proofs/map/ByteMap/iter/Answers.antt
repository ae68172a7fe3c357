use Rattle.std.proofs.Common.{◌∙◌}
use Rattle.art_iterating.proofs.Ranges.{walk_pairs}
use Rattle.art_map.proofs.map.ByteMap.iter.Goals as goal

pub returns-clause-pairs : goal.returns-clause-pairs
returns-clause-pairs g c = c.new.ensures.pairs ∙ walk_pairs c.whole_walk-walk.ensures.walk ∙ c.whole_walk-walk.ensures.pairs ∙ c.self.view_is
