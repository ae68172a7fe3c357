use Rattle.uses.proofs.put_over.Goals as goal

pub returns-in-Ok-clause-pairs : goal.returns-in-Ok-clause-pairs
returns-in-Ok-clause-pairs g c pairs layout by = c.in-Ok.ensures.applied.canonical pairs layout (rw c.search_for_prefix_insert_point-point.ensures.root by)
