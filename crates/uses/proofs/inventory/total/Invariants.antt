use Rattle.std.proofs.Common.{◌≡◌, ◌+◌, ◌≤◌, ◌*◌, length}
use Rattle.uses.specs.Inventory.{total_of}
use Rattle.uses.proofs.inventory.total.Given as goal

abbrev pub invariant-loop-count : goal.invariant-loop-count
invariant-loop-count l = record {
  can : (goal.iterator-loop-count).can_next l.count-iterator;
  finite : (goal.iterator-loop-count).is_finite l.count-iterator;
  counted : l.total + total_of l.count-iterator ≡ total_of l.fn.stock;
  room : l.total + 4294967295 * length l.count-iterator ≤ 18446744069414584320;
}
