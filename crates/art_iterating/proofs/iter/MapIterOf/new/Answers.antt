use Rattle.std.proofs.Common.{arith}
use Rattle.art_iterating.proofs.Ranges.{walk_full}
use Rattle.art_iterating.proofs.iter.MapIterOf.new.Goals as goal

pub returns-clause-fits : goal.returns-clause-fits
returns-clause-fits g c = let full = walk_full c.requires in omega arith
