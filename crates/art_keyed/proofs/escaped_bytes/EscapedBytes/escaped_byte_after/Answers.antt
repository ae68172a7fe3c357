use Rattle.std.proofs.Common.{arith, ap, sym, ◌∙◌, ◌+◌, drop, length, slice_get}
use Rattle.std.proofs.lemmas.Option.{slice_get_past}
use Rattle.art_keys.specs.Escapes.{escape}
use Rattle.art_keyed.proofs.EscapedBytes.{escape_long, first_left, passed_on, past_last}
use Rattle.art_keyed.proofs.escaped_bytes.EscapedBytes.escaped_byte_after.Goals as goal

pub returns-in_err-place-clause-fits : goal.returns-in_err-place-clause-fits
returns-in_err-place-clause-fits c =
    let long = escape_long c.args.self.now in
    let same = ap length c.self.view_is in
    omega arith

pub returns-in_err-place-clause-byte : goal.returns-in_err-place-clause-byte
returns-in_err-place-clause-byte c =
    let long = escape_long c.args.self.now in
    let same = ap length c.self.view_is in
    let far = c.in_err-place.ensures in
    c.from_residual.ensures ∙ sym (slice_get_past (escape c.args.self.now) (c.args.place + c.args.skipped) (omega arith))

pub returns-then-not-pass-clause-byte : goal.returns-then-not-pass-clause-byte
returns-then-not-pass-clause-byte c =
    sym (ap (λ text. slice_get (escape text) (c.args.place + c.args.skipped)) (sym c.self.view_is)
    ∙ past_last (escape c.self.inside.text.now) c.loop-at.at (c.args.place + c.args.skipped)
    (ap length (sym c.loop-at.invariant.left) ∙ c.if-not-pass.ensures.last)
    (let to = c.in_ok-place.ensures in omega arith))

pub loop-at-preserved : goal.loop-at-preserved
loop-at-preserved c = record {
  within = omega arith;
  left = c.if-not-pass.ensures.passed ∙ ap (drop 1) c.loop-at.invariant.left ∙ passed_on (escape c.self.inside.text.now) c.loop-at.at;
}

pub returns-clause-byte : goal.returns-clause-byte
returns-clause-byte c =
    sym (ap (λ text. slice_get (escape text) (c.args.place + c.args.skipped)) (sym c.self.view_is)
    ∙ first_left (escape c.self.inside.text.now) c.loop-at.at (c.args.place + c.args.skipped) c.first.result
    (let to = c.in_ok-place.ensures in let in_reach = c.loop-at.invariant.within in let done = c.loop-at-test.false in omega arith)
    (ap (λ left. slice_get left 0) (sym c.loop-at.invariant.left) ∙ c.first.ensures))

pub returns-clause-fits : goal.returns-clause-fits
returns-clause-fits c =
    let long = escape_long c.args.self.now in
    let same = ap length c.self.view_is in
    omega arith
