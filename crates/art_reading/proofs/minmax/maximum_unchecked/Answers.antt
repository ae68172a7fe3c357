use Rattle.art_reading.specs.declared.path.TreePath.TheVariants.{Root}
use Rattle.art_reading.specs.declared.lookup.descent.End.TheVariants.{Last}
use Rattle.art_reading.proofs.Along.{start, ends}
use Rattle.art_reading.proofs.minmax.maximum_unchecked.Goals as goal

pub returns-in-Leaf : goal.returns-in-Leaf
returns-in-Leaf g c layout full = (ends Root Last c.in-Leaf.ensures.name (start {s = c.args.store.now} Last full)).0

pub returns-in-Inner : goal.returns-in-Inner
returns-in-Inner g c layout full = c.last_below.ensures layout full
