use Rattle.std.proofs.Common.{◌≡◌, vec_len}
use Rattle.prefix_table_tests.proofs.tests.tables.places.Given as goal

abbrev pub invariant-loop-place : goal.invariant-loop-place
invariant-loop-place l = vec_len l.places ≡ l.place
