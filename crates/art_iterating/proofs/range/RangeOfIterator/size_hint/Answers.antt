use Rattle.std.proofs.Common.{◌≤◌, length, subst}
use Rattle.art_iterating.proofs.Ranges.{between_few}
use Rattle.art_iterating.proofs.range.RangeOfIterator.size_hint.Goals as goal

pub returns-clause-upper : goal.returns-clause-upper
returns-clause-upper g c = (tt, subst (λ pairs. length pairs ≤ c.self.inside.at_most) c.self.view_is (between_few _ _ _ c.self.invariant))
