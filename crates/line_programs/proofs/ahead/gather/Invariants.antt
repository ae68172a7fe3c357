use Rattle.std.proofs.Common.{◌≤◌, drop}
use Rattle.line_programs.specs.Gathered.{AreGathered}
use Rattle.line_programs.proofs.ahead.gather.Given as goal

-- the replies before this one are gathered
abbrev pub invariant-loop-reply : goal.invariant-loop-reply
invariant-loop-reply l = record {
  gathered : AreGathered l.replies (drop l.reply-index l.replies) l.count l.worst l.buffer.items;
  few : l.count ≤ 65536;
}
