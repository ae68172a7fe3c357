use Rattle.std.proofs.Common.{ℕ, List, ◌++◌, ◌-◌, ◌≤◌}
use Rattle.text_lines.specs.Lines.{EndsWith}
use Rattle.line_programs.specs.Gathered.{AreLinesBefore}
use Rattle.line_programs.proofs.ahead.after_lines.Given as goal

abbrev pub invariant-loop-passed : goal.invariant-loop-passed
invariant-loop-passed l = record {
  before : (more : List ℕ) → AreLinesBefore l.passed (l.fn.text ++ more) (l.left ++ more);
  ends : EndsWith l.fn.text l.left;
  within : l.passed ≤ l.count;
}

abbrev pub decreases-loop-passed : goal.decreases-loop-passed
decreases-loop-passed l = l.count - l.passed
