use Rattle.std.proofs.Common.{◌<◌, length, arith, rules}
use Rattle.art_inner.specs.Views.{ref_view}
use Rattle.art_nodes.proofs.ReplaceLemmas.{some_left, first_left, last_left}
use Rattle.art_nodes.proofs.store.replace.other_child.Goals as goal

pub returns-then-first-byte : goal.returns-then-first-byte
returns-then-first-byte g c =
    let cs = (ref_view c.args.node).children in
    last_left cs c.args.byte c.max.result c.requires c.max.ensures.last
    (λ k d within. omega (arith, c.if-first-byte.true, c.min-first.ensures.least k d within)) c.max.ensures.greatest

pub returns-else-first-byte : goal.returns-else-first-byte
returns-else-first-byte g c =
    first_left (ref_view c.args.node).children c.args.byte c.min-first.result c.requires c.min-first.ensures.first c.if-first-byte.false

pub min-first-requires : goal.min-first-requires
min-first-requires g c =
    let some : 0 < length (ref_view c.args.node).children = some_left _ c.args.byte c.requires in
    search rules

pub max-requires : goal.max-requires
max-requires g c =
    let some : 0 < length (ref_view c.args.node).children = some_left _ c.args.byte c.requires in
    search rules
