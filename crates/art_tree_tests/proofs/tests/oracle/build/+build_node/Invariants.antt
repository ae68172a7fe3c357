use Rattle.std.proofs.Common.{◌-◌, ◌^◌}
use Rattle.art_tree_tests.proofs.tests.oracle.build.+build_node.Given as goal

abbrev pub decreases-build_node : goal.decreases-build_node
decreases-build_node g l = 2 ^ 64 - l.depth
