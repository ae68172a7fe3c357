use Rattle.string_map.specs.contracts.frozen.FrozenMap.{the_row as FrozenRow}
use Rattle.string_map.proofs.Crossing.{lent_anywhere, lies_anywhere}
use Rattle.string_map.proofs.threads.frozen_moves.Goals as goal

pub returns-clause-lies : goal.returns-clause-lies
returns-clause-lies c = λ p pairs. lies_anywhere FrozenRow c.frozen_crosses.ensures.0 p pairs

pub returns-clause-lent : goal.returns-clause-lent
returns-clause-lent c = λ p pairs κ. lent_anywhere FrozenRow c.frozen_crosses.ensures.1 p pairs κ
