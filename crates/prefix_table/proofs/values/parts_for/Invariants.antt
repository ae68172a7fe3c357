use Rattle.std.proofs.Common.{◌≡◌, length}
use Rattle.prefix_table.proofs.values.parts_for.Given as goal

abbrev pub invariant-loop-address : goal.invariant-loop-address
invariant-loop-address l = length l.parts.items ≡ l.address-index
