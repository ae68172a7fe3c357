use Rattle.std.proofs.Common.{ap, rules, ◌∙◌}
use Rattle.art_changing.specs.MapPairs.{pairs_at}
use Rattle.art_building.proofs.byte_map.MapBuilder.finish.Goals as goal

pub from_tree-requires : goal.from_tree-requires
from_tree-requires g c = (search rules, (search rules, rw c.root_in-root.ensures c.self.invariant.held))

pub returns : goal.returns
returns g c = c.from_tree.ensures ∙ ap (pairs_at c.self.inside.store) c.root_in-root.ensures ∙ c.self.view_is
