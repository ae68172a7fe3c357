use Rattle.std.proofs.Common.{arith}
use Rattle.art_checking.proofs.well_formed.WellFormedChecker.check.Goals as goal

-- a length that is not 0 does not pass
pub returns-in-None-clause-no_tree : goal.returns-in-None-clause-no_tree
returns-in-None-clause-no_tree g c none apart = absurd (apart (omega arith))
