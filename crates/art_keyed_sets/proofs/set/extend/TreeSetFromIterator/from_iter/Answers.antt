use Rattle.std.proofs.Common.{subst}
use Rattle.art_keyed.proofs.Extends.{on_err}
use Rattle.art_keyed_sets.specs.SetRefusals.{AddsUntilNew}
use Rattle.art_keyed_sets.proofs.set.extend.TreeSetFromIterator.from_iter.Goals as goal

pub returns-in_err-extend-clause-refused : goal.returns-in_err-extend-clause-refused
returns-in_err-extend-clause-refused g c =
    on_err c.from_residual.result (
      c.extend.new.self,
      subst (λ before. AddsUntilNew g.I.IntoIter.Iterator.next_gives g.K.AsBytes.bytes g.I.IntoIterator.into_iter_gives c.args.keys before c.extend.new.self)
          c.new-set.ensures c.in_err-extend.ensures.refused,
    )
