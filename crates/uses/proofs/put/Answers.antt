use Rattle.uses.proofs.put.Goals as goal

pub returns-in-Ok-apply-clause-pairs : goal.returns-in-Ok-apply-clause-pairs
returns-in-Ok-apply-clause-pairs g c pairs layout by = c.in-Ok-apply.ensures.applied.canonical pairs layout (rw c.in-Ok.ensures.root by)

pub returns-in-Ok-apply-clause-apart : goal.returns-in-Ok-apply-clause-apart
returns-in-Ok-apply-clause-apart g c = rw c.in-Ok.ensures.root at c.in-Ok-apply.ensures.applied.apart
