use Rattle.std.proofs.Common.{rules}
use Rattle.art_model.specs.Prelude.{of_key}
use Rattle.art_model.proofs.stores.StoreLaws.{has_children}
use Rattle.art_checking.proofs.visitor.visit_with.Goals as goal

pub visit-requires : goal.visit-requires
visit-requires g c =
    let (pairs, layout, is) = c.requires in
    (search rules, (layout, has_children (of_key g.K.AsBytes.bytes) g.row.P c.args.store.now c.args.root pairs layout is))

pub returns : goal.returns
returns g c pairs layout is = c.visit.ensures layout (has_children (of_key g.K.AsBytes.bytes) g.row.P c.args.store.now c.args.root pairs layout is)
