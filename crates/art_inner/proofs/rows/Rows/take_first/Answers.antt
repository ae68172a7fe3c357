use Rattle.std.proofs.Common.{◌≡◌, ℕ, suc, ◌-◌, [], ◌∷◌, length, slice_get, take, drop, Some, arith, ap, sym, ◌∙◌}
use Rattle.std.proofs.lemmas.List.{take_all}
use Rattle.art_inner.specs.Inner.{Children}
use Rattle.art_inner.specs.Rows.{rows_of}
use Rattle.art_inner.proofs.TableLemmas.{Entry}
use Rattle.art_inner.proofs.rows.Rows.take_first.Goals as goal

-- a list is its first and the others
first_apart : (cs : Children) (k : ℕ) (c : Entry) → slice_get cs 0 ≡ Some c → length cs ≡ suc k → cs ≡ c ∷ take k (drop 1 cs)
first_apart [] k c there long = absurd (omega (arith, long))
first_apart (d ∷ cs) k c there long =
    let same : d ≡ c = cc in
    ap (λ (x : Entry). x ∷ cs) same ∙ ap (λ (t : Children). c ∷ t) (sym (take_all k cs (omega (arith, long))))

pub returns-clause-gives : goal.returns-clause-gives
returns-clause-gives c =
    first_apart (rows_of c.args.self.now) (c.len-len.result - 1) c.entry-first.result c.entry-first.ensures.entry
    (omega (arith, c.len-len.ensures.rows, c.if-len-eq0.false))
    ∙ ap (λ cs. c.entry-first.result ∷ cs) (sym c.part.ensures.value)
