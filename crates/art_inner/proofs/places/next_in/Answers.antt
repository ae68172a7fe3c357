use Rattle.std.proofs.Common.{sym, ap, ◌∙◌, length}
use Rattle.art_inner.proofs.Extent.{skip_first, take_first, empty_part, first_found}
use Rattle.art_inner.proofs.places.next_in.Goals as goal

pub overflow_sub-span : goal.overflow_sub-span
overflow_sub-span g c = (first_found _ c.requires.rising _ _ _ _ c.loop-span-test.true (sym c.get.ensures ∙ c.in-Some.is) c.loop-span.invariant.1.1).0

pub returns-in-Some-clause-within : goal.returns-in-Some-clause-within
returns-in-Some-clause-within g c = (
  c.loop-span.invariant.1.0,
  (first_found _ c.requires.rising _ _ _ _ c.loop-span-test.true
      (sym c.get.ensures ∙ c.in-Some.is) c.loop-span.invariant.1.1).1,
)

pub returns-in-Some-clause-gives : goal.returns-in-Some-clause-gives
returns-in-Some-clause-gives g c = c.loop-span.invariant.0 ∙ take_first _ c.requires.rising _ _ _ c.loop-span-test.true (sym c.get.ensures ∙ c.in-Some.is)

pub loop-span-preserved : goal.loop-span-preserved
loop-span-preserved g c =
    let skipped = skip_first _ c.requires.rising c.loop-span.span.from c.loop-span.span.to (sym c.get.ensures ∙ c.in_default.is) in
    (c.loop-span.invariant.0 ∙ skipped, (c.loop-span.invariant.1.0, c.loop-span.invariant.1.1 ∙ ap length skipped))

pub returns-clause-done : goal.returns-clause-done
returns-clause-done g c = empty_part _ c.requires.rising _ _ c.loop-span-test.false
