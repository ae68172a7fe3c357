use Rattle.art_inner.specs.NewNames.{new_name}
use Rattle.art_nodes.specs.Renamed.{leaf_renamed}
use Rattle.art_nodes.proofs.SortLemmas.{AreChangedBelow}
use Rattle.art_nodes.proofs.store.sort.rename_links.Given as goal

abbrev pub invariant-loop-slot : goal.invariant-loop-slot
invariant-loop-slot g l = AreChangedBelow (leaf_renamed (new_name l.table)) l.fn.leaves l.leaves l.slot
