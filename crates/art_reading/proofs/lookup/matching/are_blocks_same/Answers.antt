use Rattle.std.proofs.Common.{◌+◌, ◌∙◌, sym, arith}
use Rattle.std.proofs.lemmas.Bool.{false≢true}
use Rattle.art_reading.proofs.Blocks.{block_of, fewer, joined}
use Rattle.art_reading.proofs.lookup.matching.are_blocks_same.Goals as goal

pub returns-then-not-are_same : goal.returns-then-not-are_same
returns-then-not-are_same c = (
  λ t. absurd (false≢true t),
  λ e. absurd (false≢true (sym c.if-not-are_same.true ∙
      c.are_same.ensures.1 (block_of c.loop-at.at 8 (c.args.last + 8) c.args.a.now c.args.b.now (omega (arith, c.loop-at-test.true)) e))),
)

pub loop-at-preserved : goal.loop-at-preserved
loop-at-preserved c = (
  omega (arith, c.loop-at-test.true),
  joined c.loop-at.at 8 c.args.a.now c.args.b.now c.loop-at.invariant.1 (c.are_same.ensures.0 c.if-not-are_same.false),
)

pub returns : goal.returns
returns c =
    let front = fewer c.args.last c.loop-at.at c.args.a.now c.args.b.now (omega (arith, c.loop-at-test.false)) c.loop-at.invariant.1 in (
      λ t. joined c.args.last 8 c.args.a.now c.args.b.now front (c.are_same-2.ensures.0 t),
      λ e. c.are_same-2.ensures.1 (block_of c.args.last 8 (c.args.last + 8) c.args.a.now c.args.b.now (omega arith) e),
    )
