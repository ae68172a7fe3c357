use Rattle.std.proofs.Common.{refl}
use Rattle.art_engine.proofs.NodesBelow.{canonical_is_linked, canonical_is_tree}
use Rattle.art_engine.proofs.keeping.tree.KeptTree.tree.Goals as goal

pub returns-clause-root : goal.returns-clause-root
returns-clause-root c = refl

pub returns-clause-nodes : goal.returns-clause-nodes
returns-clause-nodes c = canonical_is_tree c.args.self.now.first c.args.self.now.root c.requires

pub returns-clause-linked : goal.returns-clause-linked
returns-clause-linked c = canonical_is_linked c.args.self.now.first c.args.self.now.root c.requires
