use Rattle.std.proofs.Common.{ap, option_map}
use Rattle.art_map.proofs.map.ByteMap.get.Goals as goal

pub returns-clause-value : goal.returns-clause-value
returns-clause-value g c = ap (option_map (λ x. x.1)) c.in_ok-leaf.ensures.pair
