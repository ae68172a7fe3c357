use Rattle.std.proofs.Common.{rules}
use Rattle.art_engine.proofs.Decimals.{too_large}
use Rattle.art_engine.proofs.lines.parse_byte.Goals as goal

pub returns-clause-none : goal.returns-clause-none
returns-clause-none c = rw c.ok.ensures.value
    (too_large c.args.digits.now c.in_ok-parse_number.field-0 c.try_from.result
    (search rules) c.in_ok-parse_number.ensures.value c.try_from.ensures)
