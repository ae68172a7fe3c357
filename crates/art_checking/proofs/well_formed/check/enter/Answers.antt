use Rattle.std.proofs.Common.{sym, subst}
use Rattle.art_model.specs.Prelude.{ref_view, inner_name, of_key, header_at}
use Rattle.art_checking.specs.Checked.{IsFirstLeast}
use Rattle.art_checking.proofs.LeastDescents.{inner_at}
use Rattle.art_checking.proofs.Walked.{first_least}
use Rattle.art_checking.proofs.well_formed.check.enter.Goals as goal

pub returns-clause-least : goal.returns-clause-least
returns-clause-least g c =
    let bytes = of_key g.K.AsBytes.bytes in
    let s = c.args.store.now in
    let node = ref_view c.inner_at-node.result in
    subst (IsFirstLeast bytes g.row.P s c.in_ok-least.least) (sym c.iter-children.ensures.children)
    (first_least bytes g.row.P s (inner_name c.args.name) (header_at c.args.name.kind node) node.children c.in_ok-least.least
    (inner_at s c.args.name node c.requires.proper c.inner_at-node.ensures.view) c.in_ok-least.ensures.least)
