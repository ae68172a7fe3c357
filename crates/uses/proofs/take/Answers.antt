use Rattle.std.proofs.Common.{sym, ◌∙◌}
use Rattle.uses.proofs.take.Goals as goal

pub returns-clause-taken : goal.returns-clause-taken
returns-clause-taken g c pairs layout by = sym (c.in_ok-point.ensures.pair pairs layout by) ∙ (rw c.unwrap-done.ensures at c.apply.ensures.applied).pair

pub returns-clause-pairs : goal.returns-clause-pairs
returns-clause-pairs g c pairs layout by =
    (rw c.unwrap-done.ensures at c.apply.ensures.applied).sought pairs layout by c.args.key_bytes.now (c.in_ok-point.ensures.pair pairs layout by)

pub returns-clause-root : goal.returns-clause-root
returns-clause-root g c = (rw c.unwrap-done.ensures at c.apply.ensures.applied).left

pub returns-clause-apart : goal.returns-clause-apart
returns-clause-apart g c = (rw c.unwrap-done.ensures at c.apply.ensures.applied).apart

pub returns-in_err-point-clause-taken : goal.returns-in_err-point-clause-taken
returns-in_err-point-clause-taken g c pairs layout by = rw c.from_residual.ensures (sym (c.in_err-point.ensures.pair pairs layout by))
