use Rattle.std.proofs.Common.{◌+◌}
use Rattle.prefix_table.specs.Starts.{IsPartFor}
use Rattle.prefix_table.proofs.StartLemmas.{IsHalved}
use Rattle.prefix_table.proofs.starts.search_six.Given as goal

abbrev pub invariant-loop-size : goal.invariant-loop-size
invariant-loop-size l = record {
  part : IsPartFor l.numbers l.from (l.from + l.size) l.most;
  halved : IsHalved l.fn.to l.size l.looked;
}

abbrev pub decreases-loop-size : goal.decreases-loop-size
decreases-loop-size l = l.size
