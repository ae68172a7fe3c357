use Rattle.std.proofs.Common.{sym, ap, ◌∙◌, length, arith}
use Rattle.art_inner.proofs.Extent.{skip_last_at, take_last_at, empty_part, last_found}
use Rattle.art_inner.proofs.places.next_back_in.Goals as goal

pub overflow_sub-span-in-Some : goal.overflow_sub-span-in-Some
overflow_sub-span-in-Some g c = (last_found _ c.requires.rising _ _ _ _ c.loop-span-test.true (sym c.get.ensures ∙ c.in-Some.is) c.loop-span.invariant.1.1).0

pub returns-in-Some-clause-within : goal.returns-in-Some-clause-within
returns-in-Some-clause-within g c = (
  omega (arith, c.loop-span.invariant.1.0),
  (last_found _ c.requires.rising _ _ _ _ c.loop-span-test.true (sym c.get.ensures ∙ c.in-Some.is) c.loop-span.invariant.1.1).1,
)

pub returns-in-Some-clause-gives : goal.returns-in-Some-clause-gives
returns-in-Some-clause-gives g c = c.loop-span.invariant.0 ∙ take_last_at _ c.requires.rising _ _ _ c.loop-span-test.true (sym c.get.ensures ∙ c.in-Some.is)

pub loop-span-preserved : goal.loop-span-preserved
loop-span-preserved g c =
    let skipped = skip_last_at _ c.requires.rising c.loop-span.span.from c.loop-span.span.to c.loop-span-test.true (sym c.get.ensures ∙ c.in_default.is) in
    (c.loop-span.invariant.0 ∙ skipped, (omega (arith, c.loop-span.invariant.1.0), c.loop-span.invariant.1.1 ∙ ap length skipped))

pub returns-clause-done : goal.returns-clause-done
returns-clause-done g c = empty_part _ c.requires.rising _ _ c.loop-span-test.false
