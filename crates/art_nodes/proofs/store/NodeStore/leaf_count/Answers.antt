use Rattle.std.proofs.Common.{arith, ap, sym, ◌∙◌}
use Rattle.std.specs.FinMap as map
use Rattle.art_nodes.proofs.CountLemmas.{len-leaves_of}
use Rattle.art_nodes.proofs.store.NodeStore.leaf_count.Goals as goal

pub returns-clause-count : goal.returns-clause-count
returns-clause-count g c = c.len.ensures ∙ sym (len-leaves_of c.self.inside.leaves.slots) ∙ ap (λ s. map.len s.leaves) c.self.view_is

pub returns-clause-few : goal.returns-clause-few
returns-clause-few g c = omega (arith, returns-clause-count g c, c.len.type_inv)
