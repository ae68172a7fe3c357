use Rattle.string_map.specs.contracts.StringMap.{the_row as MapRow}
use Rattle.string_map.proofs.Crossing.{lent_anywhere, lies_anywhere}
use Rattle.string_map.proofs.threads.map_moves.Goals as goal

pub returns-clause-lies : goal.returns-clause-lies
returns-clause-lies c = λ p pairs. lies_anywhere MapRow c.map_crosses.ensures.0 p pairs

pub returns-clause-lent : goal.returns-clause-lent
returns-clause-lent c = λ p pairs κ. lent_anywhere MapRow c.map_crosses.ensures.1 p pairs κ
