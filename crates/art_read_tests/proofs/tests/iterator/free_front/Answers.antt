use Rattle.art_model.specs.Pairs.{without_first}
use Rattle.art_read_tests.proofs.tests.iterator.free_front.Goals as goal

pub returns : goal.returns
returns g c =
    let (names, is) = c.requires in
    (without_first names, c.take_next-pair.ensures.rest names is)
