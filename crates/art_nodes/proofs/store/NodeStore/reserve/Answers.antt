use Rattle.std.proofs.Common.{rules}
use Rattle.art_nodes.proofs.store.NodeStore.reserve.Goals as goal

pub invariant_of-self-2 : goal.invariant_of-self-2
invariant_of-self-2 g c = search rules
