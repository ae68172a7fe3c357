use Rattle.std.proofs.Common.{◌∙◌, ap}
use Rattle.art_nodes.proofs.StoreLemmas.{leaves_kept}
use Rattle.art_nodes.proofs.store.NodeStore.shrink_to_fit.Goals as goal

pub returns-clause-leaves : goal.returns-clause-leaves
returns-clause-leaves g c = leaves_kept _ _ c.shrink_to_fit.ensures.values ∙ ap (λ s. s.leaves) c.self.view_is
