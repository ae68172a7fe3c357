use Rattle.std.proofs.Common.{◌≡◌, ◌+◌, ◌-◌, ◌≤◌, ◌∙◌, take, subst, sym, arith}
use Rattle.std.proofs.lemmas.Bool.{false≢true}
use Rattle.art_reading.proofs.Blocks.{block_of, fewer, joined}
use Rattle.art_reading.proofs.lookup.matching.have_same_front.Goals as goal

pub returns-then-are_four_same : goal.returns-then-are_four_same
returns-then-are_four_same c =
    let a = c.args.a.now in
    let b = c.args.b.now in
    let from = c.args.len - 4 in
    let whole : from + 4 ≡ c.args.len = omega (arith, c.if-len-ge4.true) in
    let few : from ≤ 4 = omega (arith, c.if-len-ge8.false) in
    let front = fewer from 4 a b few (c.are_four_same.ensures.0 c.if-are_four_same.true) in (
      λ t. subst (λ n. take n a ≡ take n b) whole (joined from 4 a b front (c.are_four_same-then-are_four_same.ensures.0 t)),
      λ e. c.are_four_same-then-are_four_same.ensures.1 (block_of from 4 c.args.len a b (omega arith) e),
    )

pub returns-else-are_four_same : goal.returns-else-are_four_same
returns-else-are_four_same c = (
  λ t. absurd (false≢true (sym c.if-are_four_same.false ∙ t)),
  λ e. c.are_four_same.ensures.1 (block_of 0 4 c.args.len c.args.a.now c.args.b.now (omega (arith, c.if-len-ge4.true)) e),
)
