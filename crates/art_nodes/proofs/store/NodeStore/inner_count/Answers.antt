use Rattle.std.proofs.Common.{ap, ◌∙◌}
use Rattle.std.specs.FinMap as map
use Rattle.art_nodes.specs.Nodes.{of_kind}
use Rattle.art_nodes.proofs.store.NodeStore.inner_count.Goals as goal

pub returns : goal.returns
returns g c = c.count.ensures ∙ ap (λ s. map.len (of_kind c.args.kind s.inners)) c.self.view_is
