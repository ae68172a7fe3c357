use Rattle.std.proofs.Common.{ap}
use Rattle.art_nodes.proofs.CopyLemmas.{leaves_copied}
use Rattle.art_nodes.proofs.store.NodeStore.clone_nodes.Goals as goal

pub returns-clause-leaves : goal.returns-clause-leaves
returns-clause-leaves g c =
    leaves_copied g.K.Clone.is_clone g.V.Clone.is_clone _ _ c.args.self.now.leaves (ap (λ s. s.leaves) c.self.view_is) c.in_ok-leaves.ensures.cases.slots
