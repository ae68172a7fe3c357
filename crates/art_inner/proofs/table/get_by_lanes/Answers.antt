use Rattle.std.proofs.Common.{◌∙◌}
use Rattle.art_inner.proofs.RowsLemmas.{rows-first}
use Rattle.art_inner.proofs.table.get_by_lanes.Goals as goal

pub returns : goal.returns
returns c =
    let t = c.table.inside in
    c.name_at.ensures ∙ rows-first t.len t.bytes t.kinds t.slots c.args.table.now c.args.byte _ c.table.view_is c.lanes_before.ensures
