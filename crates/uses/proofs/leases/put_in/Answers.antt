use Rattle.std.proofs.Common.{◌≡◌, []}
use Rattle.uses.proofs.leases.put_in.Goals as goal

pub returns-in-Some-clause-pairs : goal.returns-in-Some-clause-pairs
returns-in-Some-clause-pairs g c pairs is = let (layout, by) = rw c.in-Some.is at is in c.put.ensures.pairs pairs layout by

pub returns-in-Some-clause-apart : goal.returns-in-Some-clause-apart
returns-in-Some-clause-apart g c = rw c.in-Some.is c.put.ensures.apart

pub returns-in-None-clause-pairs : goal.returns-in-None-clause-pairs
returns-in-None-clause-pairs g c pairs is = let none : pairs ≡ [] = rw c.in-None.is at is in rw none c.begin_tree.ensures.pairs

pub returns-in-None-clause-apart : goal.returns-in-None-clause-apart
returns-in-None-clause-apart g c = rw c.in-None.is c.begin_tree.ensures.apart
