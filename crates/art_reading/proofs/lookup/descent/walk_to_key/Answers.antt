use Rattle.std.proofs.Common.{arith, Some, None}
use Rattle.std.proofs.lemmas.Bool.{false≢true}
use Rattle.art_model.specs.Prelude.{of_key}
use Rattle.art_reading.proofs.Ends.{counted, counts, found, lost, none_asked}
use Rattle.art_reading.proofs.lookup.descent.walk_to_key.Goals as goal

pub returns-in_err-last-clause-leaf : goal.returns-in_err-last-clause-leaf
returns-in_err-last-clause-leaf g c pairs layout by =
    rw c.from_residual.ensures (none_asked c.args.asked (of_key g.K.AsBytes.bytes) (g.Q.KeyBytes.key c.args.query) pairs
    (c.in_err-last.ensures.ends pairs layout by).0)

pub returns-in_err-last-clause-visits : goal.returns-in_err-last-clause-visits
returns-in_err-last-clause-visits g c =
    rw c.from_residual.ensures (counts None c.in_err-last.ensures.ends (λ pairs layout by none. absurd (false≢true none)) (omega arith))

pub returns-then-finds-clause-leaf : goal.returns-then-finds-clause-leaf
returns-then-finds-clause-leaf g c pairs layout by = found (c.in_ok-last.ensures.ends pairs layout by) c.args.asked c.finds.ensures c.if-finds.true

pub returns-then-finds-clause-visits : goal.returns-then-finds-clause-visits
returns-then-finds-clause-visits g c =
    counts (Some c.in_ok-last.last) c.in_ok-last.ensures.ends
    (λ pairs layout by found. counted (c.in_ok-last.ensures.ends pairs layout by)
    c.args.asked c.finds.ensures c.if-finds.true) (omega arith)

pub returns-else-finds-clause-leaf : goal.returns-else-finds-clause-leaf
returns-else-finds-clause-leaf g c pairs layout by = lost (c.in_ok-last.ensures.ends pairs layout by) c.args.asked c.finds.ensures c.if-finds.false

pub returns-else-finds-clause-visits : goal.returns-else-finds-clause-visits
returns-else-finds-clause-visits g c =
    counts (Some c.in_ok-last.last) c.in_ok-last.ensures.ends (λ pairs layout by none. absurd (false≢true none)) (omega arith)
