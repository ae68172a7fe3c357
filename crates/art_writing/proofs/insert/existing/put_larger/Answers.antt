use Rattle.std.proofs.Common.{rules}
use Rattle.art_model.specs.Prelude.{with_child}
use Rattle.art_reading.specs.PathSteps.{last_step}
use Rattle.art_writing.proofs.Larger.{parent_stays}
use Rattle.art_writing.proofs.insert.existing.put_larger.Goals as goal

pub replace_at-requires : goal.replace_at-requires
replace_at-requires g c = (
  search rules,
  parent_stays c.args.store.now.inners c.put_larger-larger.new.self.inners c.args.name c.put_larger-larger.result
      (with_child c.args.byte c.args.child) (last_step c.args.path)
      c.put_larger-larger.ensures.fresh c.requires.parent c.put_larger-larger.ensures.put,
)
