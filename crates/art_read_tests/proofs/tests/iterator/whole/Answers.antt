use Rattle.art_model.specs.Layouts.{leaf_names}
use Rattle.art_read_tests.proofs.tests.iterator.whole.Goals as goal

pub returns : goal.returns
returns g c =
    let (pairs, layout, by) = c.requires in
    (leaf_names layout, c.walk.ensures pairs layout by)
