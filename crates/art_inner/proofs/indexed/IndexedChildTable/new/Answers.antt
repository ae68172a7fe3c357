use Rattle.std.proofs.Common.{sym, ap, length, arith}
use Rattle.art_inner.proofs.IndexedLemmas.{all_zero, IsIndex-zero}
use Rattle.art_inner.proofs.indexed.IndexedChildTable.new.Goals as goal

pub invariant_of-result : goal.invariant_of-result
invariant_of-result c = (
  sym (ap length (all_zero c.no_places.result c.no_places.ensures c.no_slots.result c.no_kinds.result)),
  omega arith,
  IsIndex-zero c.no_places.result c.no_places.ensures,
)

pub returns : goal.returns
returns c = all_zero c.no_places.result c.no_places.ensures c.no_slots.result c.no_kinds.result
