use Rattle.std.proofs.Common.{sym, subst, ◌<◌}
use Rattle.std.specs.Char.{digit_value}
use Rattle.ip_routes.proofs.WrittenLemmas.{is_digit_at, length_more}
use Rattle.ip_routes.proofs.route.read_length.Goals as goal

pub returns-in_err-digit-clause-none : goal.returns-in_err-digit-clause-none
returns-in_err-digit-clause-none c =
    rw c.from_residual.ensures (λ length is. c.in_err-digit.ensures.value
    (subst (λ b. digit_value b < 10) (sym c.from.ensures) (is_digit_at 10 c.args.digits.now c.loop-byte.byte-index c.loop-byte-test.true is.0.0.1)))

pub loop-byte-preserved : goal.loop-byte-preserved
loop-byte-preserved c =
    length_more c.args.digits.now c.loop-byte.byte-index 0 c.loop-byte.length _ _ _ _ c.loop-byte-test.true c.loop-byte.invariant.0 c.loop-byte.invariant.1
    c.from.ensures c.in_ok-digit.ensures.value c.saturating_mul.ensures c.saturating_add-length.ensures
