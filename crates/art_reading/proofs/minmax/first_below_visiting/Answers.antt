use Rattle.art_reading.proofs.minmax.first_below_visiting.Goals as goal

pub returns-clause-leaf : goal.returns-clause-leaf
returns-clause-leaf g c layout full = (c.walk_to_end_visiting.ensures.leads layout full).0
