use Rattle.art_iterating.proofs.Ranges.{last_counted, walk_range}
use Rattle.art_iterating.proofs.iter.MapIterOfDoubleEndedIterator.next_back.Goals as goal

pub step_back-requires : goal.step_back-requires
step_back-requires g c = walk_range c.self.invariant

pub invariant_of-self : goal.invariant_of-self
invariant_of-self g c = last_counted c.self.invariant c.step_back.ensures.range c.step_back.result c.step_back.ensures.pair c.step_back.ensures.count
