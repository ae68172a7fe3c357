use Rattle.std.proofs.Common.{◌≡◌, ◌-◌, ◌++◌, ◌∷◌, [], take, arith, ap, sym, ◌∙◌}
use Rattle.art_inner.specs.Rows.{rows_of}
use Rattle.art_inner.proofs.RowsLemmas.{last_apart}
use Rattle.art_inner.proofs.rows.Rows.take_last.Goals as goal

pub returns-clause-gives : goal.returns-clause-gives
returns-clause-gives c =
    let k = c.len-len.result - 1 in
    let whole : k ≡ k - 0 = omega arith in
    last_apart (rows_of c.args.self.now) k c.entry-last.result c.entry-last.ensures.entry (omega (arith, c.len-len.ensures.rows, c.if-len-eq0.false))
    ∙ ap (λ n. take n (rows_of c.args.self.now) ++ c.entry-last.result ∷ []) whole
    ∙ ap (λ cs. cs ++ c.entry-last.result ∷ []) (sym c.part.ensures.value)
