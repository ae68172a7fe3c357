use Rattle.std.proofs.Common.{◌+◌, ◌≡◌, subst, arith}
use Rattle.prefix_table.specs.Starts.{IsPartFor}
use Rattle.prefix_table.proofs.StartLemmas.{part_is_point}
use Rattle.prefix_table.proofs.starts.search_six.Goals as goal

pub overflow_add-looked : goal.overflow_add-looked
overflow_add-looked c =
    let few = c.loop-size.invariant.halved.few 64 c.ranges.to.fits in
    omega arith

pub returns-clause-parts : goal.returns-clause-parts
returns-clause-parts c =
    let l = c.loop-size in
    let done = c.loop-size-test.false in
    let end : l.from + l.size ≡ l.from = omega arith in
    part_is_point c.args.numbers.now l.from c.args.most c.requires.sorted
    (subst (λ to. IsPartFor c.args.numbers.now l.from to c.args.most) end l.invariant.part)

pub returns-clause-small : goal.returns-clause-small
returns-clause-small c = c.loop-size.invariant.halved.few 64 c.ranges.to.fits
