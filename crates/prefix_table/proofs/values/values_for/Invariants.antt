use Rattle.std.proofs.Common.{take}
use Rattle.std.specs.List.{AllZip}
use Rattle.prefix_table.specs.Entries.{IsLongestValue}
use Rattle.prefix_table.specs.Tables.{entries_of}
use Rattle.prefix_table.proofs.values.values_for.Given as goal

abbrev pub invariant-loop-index : goal.invariant-loop-index
invariant-loop-index g l = AllZip (IsLongestValue (entries_of l.rows l.values)) (take l.index l.addresses) l.found.items
