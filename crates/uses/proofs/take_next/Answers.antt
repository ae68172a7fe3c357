use Rattle.art_operations.proofs.CallerLemmas.{first_freed}
use Rattle.uses.proofs.take_next.Goals as goal

pub returns-clause-rest : goal.returns-clause-rest
returns-clause-rest g c names is =
    first_freed names c.in_ok-leaf.leaf is.segment.distinct (c.in_ok-leaf.ensures.leaf names is)
    (c.in_ok-leaf.ensures.rest names is) c.free_leaf-node.ensures.leaves c.free_leaf-node.ensures.inners
