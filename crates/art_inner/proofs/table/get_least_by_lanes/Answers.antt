use Rattle.std.proofs.Common.{ap, sym, ◌∙◌}
use Rattle.art_inner.specs.Inner.{child_at}
use Rattle.art_inner.proofs.RowsLemmas.{place-first, rows-first, rows-none_below}
use Rattle.art_inner.proofs.table.get_least_by_lanes.Goals as goal

pub returns-then-byte-first : goal.returns-then-byte-first
returns-then-byte-first c =
    let t = c.table.inside in
    sym (ap (λ cs. child_at cs c.args.byte) (sym c.table.view_is)
    ∙ rows-none_below t.len t.bytes t.kinds t.slots c.args.byte c.table.invariant.2 c.if-byte-first.true)

pub returns-then-byte-first-2 : goal.returns-then-byte-first-2
returns-then-byte-first-2 c =
    let t = c.table.inside in
    c.name_at.ensures ∙ rows-first t.len t.bytes t.kinds t.slots c.args.table.now c.args.byte _ c.table.view_is
    (place-first t.bytes c.args.byte c.if-byte-first-2.true)
