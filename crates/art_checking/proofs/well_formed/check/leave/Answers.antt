use Rattle.std.proofs.Common.{◌∙◌}
use Rattle.art_model.specs.Prelude.{ref_view, of_key}
use Rattle.art_checking.proofs.Faulty.{too_few_at}
use Rattle.art_checking.proofs.well_formed.check.leave.Goals as goal

pub returns-clause-fault : goal.returns-clause-fault
returns-clause-fault g c =
    too_few_at (of_key g.K.AsBytes.bytes) g.row.P c.args.store.now c.check_count.result c.args.name
    (ref_view c.inner_at-node.result) c.requires.proper c.inner_at-node.ensures.view
    (c.deref.ensures.value ∙ c.truncate.ensures.items) c.inner_at-node.ensures.kind c.check_count.ensures.fault
