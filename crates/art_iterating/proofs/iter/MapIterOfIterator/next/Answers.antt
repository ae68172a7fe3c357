use Rattle.art_iterating.proofs.Ranges.{first_counted}
use Rattle.art_iterating.proofs.iter.MapIterOfIterator.next.Goals as goal

pub invariant_of-self : goal.invariant_of-self
invariant_of-self g c = first_counted c.self.invariant c.step.ensures.range c.step.result c.step.ensures.pair c.step.ensures.count
