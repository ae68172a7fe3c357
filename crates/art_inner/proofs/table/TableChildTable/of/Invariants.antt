use Rattle.std.proofs.Common.{◌≡◌, ◌++◌}
use Rattle.art_inner.proofs.table.TableChildTable.of.Given as goal

abbrev pub invariant-loop-byte : goal.invariant-loop-byte
invariant-loop-byte g l = l.table ++ l.byte-iterator ≡ l.fn.children
