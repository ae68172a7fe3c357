use Rattle.art_model.specs.Pairs.{of_key}
use Rattle.art_changing.proofs.ViewsOfPairs.{new_holds}
use Rattle.art_changing.proofs.remove.take_all.Goals as goal

pub returns : goal.returns
returns g c = new_holds c.clear.new.self c.clear.ensures.leaves c.clear.ensures.inners (of_key g.K.AsBytes.bytes) g.row.P
