use Rattle.std.proofs.Common.{◌≡◌, ◌≢◌, length, get_or, arith}
use Rattle.art_engine.proofs.Decimals.{parsed, not_parsed, decimal_is_utf8}
use Rattle.art_engine.proofs.lines.parse_number.Goals as goal

pub returns-in_default-clause-none : goal.returns-in_default-clause-none
returns-in_default-clause-none c = λ n small is. c.in_default.ensures.cases.0 (decimal_is_utf8 _ n small is)

pub returns-clause-value : goal.returns-clause-value
returns-clause-value c =
    let text = c.in-Ok.ensures.cases.0 in
    let first : c.in_ok-first.field-0.now ≡ get_or c.args.digits.now 0 0 = c.in_ok-first.ensures.item.4 (omega arith) 0 in
    let unsigned : get_or c.args.digits.now 0 0 ≢ 43 = λ e. c.if-first-eq43.false (omega arith) in
    let unpadded : get_or c.args.digits.now 0 0 ≡ 48 → length c.args.digits.now ≡ 1 =
    λ e. omega (arith, c.if-digits-gt1.either, c.in_ok-first.ensures.item.3.0) in
    rw (c.ok.ensures.value, ← text) (parsed c.in-Ok.text.now c.parse.result c.parse.ensures.value.0 (rw text unsigned) (rw text unpadded))

pub returns-clause-none : goal.returns-clause-none
returns-clause-none c = rw (c.ok.ensures.value, ← c.in-Ok.ensures.cases.0) (not_parsed c.in-Ok.text.now c.parse.result c.parse.ensures.value.0)
