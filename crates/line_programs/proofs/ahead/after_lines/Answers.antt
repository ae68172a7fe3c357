use Rattle.std.proofs.Common.{[], ◌++◌, ◌≡◌, refl, subst, arith}
use Rattle.line_programs.specs.Gathered.{AreLinesBefore}
use Rattle.line_programs.proofs.AheadLemmas.{ends_more, none_before, one_more_before}
use Rattle.line_programs.proofs.ahead.after_lines.Goals as goal

pub loop-passed-init : goal.loop-passed-init
loop-passed-init c = record {
  before = λ more. none_before (c.args.text.now ++ more);
  ends = ([], refl);
  within = omega arith;
}

pub loop-passed-preserved : goal.loop-passed-preserved
loop-passed-preserved c =
    let h = c.loop-passed.invariant in
    record {
      before = λ more.
          one_more_before c.loop-passed.passed (c.args.text.now ++ more) (c.loop-passed.left.now ++ more) (c.in_ok-_line.rest.now ++ more)
          c.in_ok-_line._line.now (h.before more) (c.in_ok-_line.ensures.line more);
      ends = ends_more c.args.text.now c.loop-passed.left.now c.in_ok-_line.rest.now h.ends c.in_ok-_line.ensures.rest;
      within = let some = c.loop-passed-test.true in omega arith;
    }

pub returns-clause-lines : goal.returns-clause-lines
returns-clause-lines c = λ more.
    let done = c.loop-passed-test.false in
    let within = c.loop-passed.invariant.within in
    let all : c.loop-passed.passed ≡ c.args.count = omega arith in
    subst (λ count. AreLinesBefore count (c.args.text.now ++ more) (c.loop-passed.left.now ++ more)) all (c.loop-passed.invariant.before more)

pub returns-clause-ends : goal.returns-clause-ends
returns-clause-ends c = c.loop-passed.invariant.ends
