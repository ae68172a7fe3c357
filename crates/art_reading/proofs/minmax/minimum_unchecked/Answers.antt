use Rattle.art_reading.specs.declared.path.TreePath.TheVariants.{Root}
use Rattle.art_reading.specs.declared.lookup.descent.End.TheVariants.{First}
use Rattle.art_reading.proofs.Along.{start, ends}
use Rattle.art_reading.proofs.minmax.minimum_unchecked.Goals as goal

pub returns-in-Leaf : goal.returns-in-Leaf
returns-in-Leaf g c layout full = (ends Root First c.in-Leaf.ensures.name (start {s = c.args.store.now} First full)).0

pub returns-in-Inner : goal.returns-in-Inner
returns-in-Inner g c layout full = c.first_below.ensures layout full
