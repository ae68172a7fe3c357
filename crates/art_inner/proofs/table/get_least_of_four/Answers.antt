use Rattle.std.proofs.Common.{ap, sym, ◌∙◌}
use Rattle.art_inner.specs.Inner.{child_at}
use Rattle.art_inner.proofs.RowsLemmas.{rows-none_below}
use Rattle.art_inner.proofs.table.get_least_of_four.Goals as goal

pub returns-then-byte-table : goal.returns-then-byte-table
returns-then-byte-table c =
    let t = c.table.inside in
    sym (ap (λ cs. child_at cs c.args.byte) (sym c.table.view_is)
    ∙ rows-none_below t.len t.bytes t.kinds t.slots c.args.byte c.table.invariant.2 c.if-byte-table.true)
