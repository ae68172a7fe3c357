use Rattle.std.proofs.Common.{◌-◌, take, sym, ap, ◌∙◌, drop}
use Rattle.art_inner.proofs.RowsLemmas.{rows-take, rows-drop}
use Rattle.art_inner.proofs.rows.Rows.part.Goals as goal

pub returns-clause-value : goal.returns-clause-value
returns-clause-value c =
    let lent = c.args.self.now in
    let n = c.args.to - c.args.from in
    sym (ap (take n) (rows-drop c.args.from lent.bytes.now lent.kinds.now lent.slots.now c.requires.aligned.0 c.requires.aligned.1)
    ∙ rows-take n (drop c.args.from lent.bytes.now) (drop c.args.from lent.kinds.now) (drop c.args.from lent.slots.now))
