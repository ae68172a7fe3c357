use Rattle.std.proofs.Common.{arith}
use Rattle.art_iterating.proofs.Ranges.{between_few}
use Rattle.art_iterating.proofs.range.RangeOf.new.Goals as goal

pub returns-clause-fits : goal.returns-clause-fits
returns-clause-fits g c = let few = between_few _ _ _ c.requires in omega arith
