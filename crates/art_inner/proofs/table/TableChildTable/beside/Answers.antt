use Rattle.std.proofs.Common.{◌-◌, ◌<◌, ◌∙◌, ap, length, min, subst, sym}
use Rattle.art_inner.specs.Beside.{IsNextTo}
use Rattle.art_inner.specs.Inner.{IsRising, count_below}
use Rattle.art_inner.specs.Rows.{rows_of}
use Rattle.art_inner.proofs.BesideLemmas.{beside_at}
use Rattle.art_inner.proofs.table.TableChildTable.beside.Goals as goal

pub returns-clause-beside : goal.returns-clause-beside
returns-clause-beside g c =
    let same = c.rows-rows.ensures.value in
    let cs = rows_of c.rows-rows.result in
    subst (λ z. IsNextTo z c.args.byte c.entry.result) same
    (beside_at cs c.args.byte c.min.result c.entry.result (subst IsRising (sym same) c.rows-rows.ensures.rising)
    (subst (λ z. 0 < length z) (sym same) c.requires.some)
    (c.min.ensures ∙ ap (λ n. min n (c.len.result - 1)) c.count_below-below.ensures
    ∙ ap (λ n. min (count_below cs c.args.byte) (n - 1)) c.len.ensures.rows) c.entry.ensures.entry)
