use Rattle.std.proofs.Common.{ap, arith, false, slice_get, sym, true, ◌∙◌, ◌+◌}
use Rattle.art_keys.specs.Escapes.{escape}
use Rattle.art_keyed.proofs.EscapedBytes.{next_shared}
use Rattle.art_keyed.proofs.escaped_bytes.EscapedBytes.escaped_shared_after.Goals as goal

pub loop-shared-preserved : goal.loop-shared-preserved
loop-shared-preserved c = record {
  same = c.escaped_byte_after.ensures.same ∙ c.loop-shared.invariant.same;
  all =
      let next =
      next_shared c.args.bytes.now (escape c.args.self.now) c.args.place c.loop-shared.shared c.loop-shared-test.true c.escaped_byte_after.result
      (c.escaped_byte_after.ensures.byte ∙ ap (λ text. slice_get (escape text) (c.args.place + c.loop-shared.shared)) c.loop-shared.invariant.same)
      true (sym c.if-eq.true ∙ c.eq.ensures) in
      omega (arith, next, c.loop-shared.invariant.all);
}

pub returns-else-eq-clause-shared : goal.returns-else-eq-clause-shared
returns-else-eq-clause-shared c =
    let next =
    next_shared c.args.bytes.now (escape c.args.self.now) c.args.place c.loop-shared.shared c.loop-shared-test.true c.escaped_byte_after.result
    (c.escaped_byte_after.ensures.byte ∙ ap (λ text. slice_get (escape text) (c.args.place + c.loop-shared.shared)) c.loop-shared.invariant.same)
    false (sym c.if-eq.false ∙ c.eq.ensures) in
    omega (arith, next, c.loop-shared.invariant.all)
