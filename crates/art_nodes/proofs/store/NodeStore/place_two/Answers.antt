use Rattle.std.proofs.Common.{ap, ap₂, ◌∙◌}
use Rattle.std.specs.FinMap.{insert}
use Rattle.art_nodes.proofs.store.NodeStore.place_two.Goals as goal

pub returns-clause-placed : goal.returns-clause-placed
returns-clause-placed g c =
    c.insert_node4.ensures.nodes
    ∙ ap₂ (λ inners node. insert inners c.insert_node4.result node) (ap (λ nodes. nodes.inners) c.self.view_is) c.of_two-node.ensures
