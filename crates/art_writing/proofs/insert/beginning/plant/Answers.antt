use Rattle.std.proofs.Common.{ap, ◌∙◌}
use Rattle.art_model.specs.Prelude.{leaf_name, leaf}
use Rattle.art_writing.proofs.OneLeaf.{placed_alone, planted, planted_apart, planted_root}
use Rattle.art_writing.proofs.insert.beginning.plant.Goals as goal

pub returns-in-Ok-clause-canonical : goal.returns-in-Ok-clause-canonical
returns-in-Ok-clause-canonical g c = (
  leaf (leaf_name c.in-Ok.name) (c.args.key, c.args.value),
  planted g.K.AsBytes.bytes g.row.P (placed_alone c.args.store.now c.in-Ok.ensures.fresh c.in-Ok.ensures.placed c.in-Ok.ensures.inners
      c.in-Ok.ensures.promise c.with_no_siblings.ensures),
)

pub returns-in-Ok-clause-root : goal.returns-in-Ok-clause-root
returns-in-Ok-clause-root g c =
    planted_root g.K.AsBytes.bytes g.row.P (placed_alone c.args.store.now c.in-Ok.ensures.fresh c.in-Ok.ensures.placed
    c.in-Ok.ensures.inners c.in-Ok.ensures.promise c.with_no_siblings.ensures)

pub returns-in-Ok-clause-apart : goal.returns-in-Ok-clause-apart
returns-in-Ok-clause-apart g c =
    planted_apart g.K.AsBytes.bytes g.row.P
    (placed_alone c.args.store.now c.in-Ok.ensures.fresh c.in-Ok.ensures.placed c.in-Ok.ensures.inners c.in-Ok.ensures.promise c.with_no_siblings.ensures)

pub returns-in-Ok-clause-planted : goal.returns-in-Ok-clause-planted
returns-in-Ok-clause-planted g c =
    placed_alone c.args.store.now c.in-Ok.ensures.fresh c.in-Ok.ensures.placed c.in-Ok.ensures.inners c.in-Ok.ensures.promise
    c.with_no_siblings.ensures

pub returns-in-Err-clause-handed_back : goal.returns-in-Err-clause-handed_back
returns-in-Err-clause-handed_back g c =
    let handed = c.in-Err.ensures.handed_back ∙ c.with_no_siblings.ensures in
    (ap (λ l. l.key) handed, ap (λ l. l.value) handed)
