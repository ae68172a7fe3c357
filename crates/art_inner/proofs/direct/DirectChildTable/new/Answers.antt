use Rattle.std.proofs.Common.{sym, ap, length}
use Rattle.art_inner.proofs.DirectLemmas.{all_vacant}
use Rattle.art_inner.proofs.direct.DirectChildTable.new.Goals as goal

pub invariant_of-result : goal.invariant_of-result
invariant_of-result c = sym (ap length (all_vacant c.vacant_slots.result c.vacant_places.result c.vacant_places.ensures))

pub returns : goal.returns
returns c = all_vacant c.vacant_slots.result c.vacant_places.result c.vacant_places.ensures
