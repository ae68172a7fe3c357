use Rattle.art_reading.proofs.Iterators.{goes_on}
use Rattle.art_reading.proofs.laws.a_walk_goes_on.Goals as goal

pub returns : goal.returns
returns g c = goes_on
