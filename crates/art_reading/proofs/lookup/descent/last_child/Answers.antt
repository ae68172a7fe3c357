use Rattle.std.proofs.Common.{rules, sym}
use Rattle.art_model.specs.Prelude.{ref_view}
use Rattle.art_reading.proofs.lookup.descent.last_child.Goals as goal

pub last_step-requires : goal.last_step-requires
last_step-requires g c = (search rules, c.requires.passed (ref_view c.inner_at-node.result) (sym c.inner_at-node.ensures.view))
