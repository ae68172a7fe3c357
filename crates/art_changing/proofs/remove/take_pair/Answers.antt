use Rattle.art_changing.proofs.Takings.{taken}
use Rattle.art_changing.proofs.remove.take_pair.Goals as goal

pub returns : goal.returns
returns g c pairs layout by x leads =
    let done = rw c.unwrap-done.ensures at c.apply.ensures.applied in
    taken g.K.AsBytes.bytes g.row.P by c.unwrap-done.result.deleted_leaf c.requires.holds leads done.deleted
    (done.canonical pairs layout by) (done.kept pairs layout by)
