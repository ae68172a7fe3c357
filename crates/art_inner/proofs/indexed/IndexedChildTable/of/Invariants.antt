use Rattle.std.proofs.Common.{◌≡◌, ◌++◌}
use Rattle.art_inner.proofs.indexed.IndexedChildTable.of.Given as goal

abbrev pub invariant-loop-byte : goal.invariant-loop-byte
invariant-loop-byte l = l.table ++ l.byte-iterator ≡ l.fn.children
