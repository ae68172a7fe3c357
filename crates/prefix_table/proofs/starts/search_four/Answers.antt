use Rattle.std.proofs.Common.{◌+◌, ◌-◌, ◌/◌, ◌≡◌, subst, sym, arith}
use Rattle.prefix_table.specs.Starts.{IsPartFor}
use Rattle.prefix_table.proofs.StartLemmas.{halved_at_first, halved_once, part_after, part_before, part_is_point}
use Rattle.prefix_table.proofs.starts.search_four.Goals as goal

pub overflow_add-looked : goal.overflow_add-looked
overflow_add-looked c =
    let few = c.loop-size.invariant.halved.few 64 c.ranges.to.fits in
    omega arith

pub loop-size-init : goal.loop-size-init
loop-size-init c =
    let order = c.requires.part.in_order in
    let fits = c.requires.part.within in
    let all : c.args.from + (c.args.to - c.args.from) ≡ c.args.to = omega arith in
    record {
      part = subst (λ to. IsPartFor c.args.numbers.now c.args.from to c.args.most) (sym all) c.requires.part;
      halved = halved_at_first c.args.to (c.args.to - c.args.from) (omega arith);
    }

pub loop-size-preserved-then-numbers-from : goal.loop-size-preserved-then-numbers-from
loop-size-preserved-then-numbers-from c =
    let l = c.loop-size in
    let half = l.size / 2 in
    let some = c.loop-size-test.true in
    let next : l.from + half + 1 ≡ l.from + (half + 1) = omega arith in
    let end : l.from + l.size ≡ l.from + (half + 1) + (l.size - (half + 1)) = omega arith in
    record {
      part =
          subst (λ to. IsPartFor c.args.numbers.now (l.from + (half + 1)) to c.args.most) end
          (subst (λ from. IsPartFor c.args.numbers.now from (l.from + l.size) c.args.most) next
          (part_after c.args.numbers.now l.from (l.from + l.size) c.args.most (l.from + half) l.invariant.part (omega arith) (omega arith)
          c.if-numbers-from.true));
      halved =
          halved_once c.args.to l.size l.looked (l.size - (half + 1)) l.invariant.halved some (omega arith);
    }

pub loop-size-preserved : goal.loop-size-preserved
loop-size-preserved c =
    let l = c.loop-size in
    let half = l.size / 2 in
    let some = c.loop-size-test.true in
    record {
      part =
          part_before c.args.numbers.now l.from (l.from + l.size) c.args.most (l.from + half) l.invariant.part (omega arith) (omega arith)
          c.if-numbers-from.false;
      halved = halved_once c.args.to l.size l.looked half l.invariant.halved some (omega arith);
    }

pub returns-clause-parts : goal.returns-clause-parts
returns-clause-parts c =
    let l = c.loop-size in
    let done = c.loop-size-test.false in
    let end : l.from + l.size ≡ l.from = omega arith in
    part_is_point c.args.numbers.now l.from c.args.most c.requires.sorted
    (subst (λ to. IsPartFor c.args.numbers.now l.from to c.args.most) end l.invariant.part)

pub returns-clause-looked : goal.returns-clause-looked
returns-clause-looked c k h = c.loop-size.invariant.halved.few k (let within = c.requires.part.within in omega arith)

pub returns-clause-small : goal.returns-clause-small
returns-clause-small c = c.loop-size.invariant.halved.few 64 c.ranges.to.fits
