use Rattle.std.proofs.Common.{ap, subst, ◌∙◌}
use Rattle.art_keyed.proofs.Extends.{on_err}
use Rattle.art_keyed.specs.KeyedRefusals.{PutsUntilNew}
use Rattle.art_map.specs.MapCalls.{put_all}
use Rattle.art_keyed.proofs.map.extend.TreeMapFromIteratorTuple2.from_iter.Goals as goal

pub returns-in_err-extend-clause-refused : goal.returns-in_err-extend-clause-refused
returns-in_err-extend-clause-refused g c =
    on_err c.from_residual.result (
      c.extend.new.self,
      subst (λ before. PutsUntilNew g.I.IntoIter.Iterator.next_gives g.K.AsBytes.bytes g.I.IntoIterator.into_iter_gives c.args.pairs before c.extend.new.self)
          c.new-map.ensures c.in_err-extend.ensures.refused,
    )

pub returns-clause-ran : goal.returns-clause-ran
returns-clause-ran g c =
    let (iterator, pairs, begun, put, (end, (left, came, ended))) = c.in_ok-extend.ensures.ran in
    (iterator, pairs, begun, (left, came, λ all. (end, ended)), put ∙ ap (put_all g.K.AsBytes.bytes pairs) c.new-map.ensures)
