use Rattle.std.proofs.Common.{sym, ◌∙◌}
use Rattle.art_inner.proofs.RowsLemmas.{rows-below}
use Rattle.art_inner.proofs.rows.Rows.count_below.Goals as goal

pub returns : goal.returns
returns c =
    let lent = c.args.self.now in
    c.bytes_below.ensures.value ∙ sym (rows-below lent.bytes.now lent.kinds.now lent.slots.now c.args.byte c.requires.0 c.requires.1)
