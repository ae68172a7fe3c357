use Rattle.std.proofs.Common.{ap, ap₂, ◌∙◌, ◌+◌, ◌++◌, take}
use Rattle.art_model.specs.Prelude.{ref_view}
use Rattle.art_writing.proofs.Compressions.{lengthened}
use Rattle.art_writing.proofs.delete.compress.header_below.Goals as goal

pub returns : goal.returns
returns g c first rest front own =
    let one = c.push_prefix.new.self in
    lengthened g.row.P c.args.byte first rest c.args.front (ref_view c.args.node).prefix one c.push_prefix-2.new.self front own
    c.push_prefix.ensures.len c.push_prefix.ensures.stored (c.push_prefix-2.ensures.len ∙ ap (λ k. one.len + k) c.prefix_len-3.ensures)
    (c.push_prefix-2.ensures.stored ∙ ap₂ (λ k bytes. take g.row.P (one.stored ++ take k bytes)) c.prefix_len-3.ensures c.read_prefix.ensures.stored)
