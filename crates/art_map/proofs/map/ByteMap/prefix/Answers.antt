use Rattle.art_map.proofs.map.ByteMap.prefix.Goals as goal

pub returns-clause-pairs : goal.returns-clause-pairs
returns-clause-pairs g c = c.prefix_by.ensures.pairs
