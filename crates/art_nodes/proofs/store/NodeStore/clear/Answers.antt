use Rattle.std.proofs.Common.{ap, ◌∙◌}
use Rattle.art_nodes.specs.StoreView.{leaves_of}
use Rattle.art_nodes.proofs.StoreLemmas.{no_leaves}
use Rattle.art_nodes.proofs.store.NodeStore.clear.Goals as goal

pub returns-clause-leaves : goal.returns-clause-leaves
returns-clause-leaves g c = ap leaves_of c.clear.ensures.empty ∙ no_leaves
