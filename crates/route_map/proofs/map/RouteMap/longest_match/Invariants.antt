use Rattle.std.proofs.Common.{◌≤◌}
use Rattle.prefix_table.specs.Networks.{width}
use Rattle.route_map.proofs.LongestLemmas.{AreUpToLength}
use Rattle.route_map.proofs.map.RouteMap.longest_match.Given as goal

abbrev pub invariant-outwards : goal.invariant-outwards
invariant-outwards g l = record {
  fits : l.length ≤ width l.address.version;
  short : AreUpToLength l.self l.address l.length;
}

abbrev pub decreases-outwards : goal.decreases-outwards
decreases-outwards g l = l.length
