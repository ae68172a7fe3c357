use Rattle.art_inner.specs.InnerChanges.{with_child}
use Rattle.art_nodes.proofs.StoreLemmas.{gives_way, only4, only16, only48, only256}
use Rattle.art_nodes.proofs.store.InnerSlabs.put_larger.Goals as goal

pub returns-in-Node4-clause-nodes : goal.returns-in-Node4-clause-nodes
returns-in-Node4-clause-nodes g c =
    gives_way c.args.self.now _ _ c.args.name c.grow.result (with_child c.args.byte c.args.child) c.in-Node4.is c.grow.ensures.kind
    (only4 _ _) (only16 _ _) c.grow.ensures.gone c.grow.ensures.put

pub returns-in-Node16-clause-nodes : goal.returns-in-Node16-clause-nodes
returns-in-Node16-clause-nodes g c =
    gives_way c.args.self.now _ _ c.args.name c.grow-in-Node16.result (with_child c.args.byte c.args.child) c.in-Node16.is c.grow-in-Node16.ensures.kind
    (only16 _ _) (only48 _ _) c.grow-in-Node16.ensures.gone c.grow-in-Node16.ensures.put

pub returns-in-Node48-clause-nodes : goal.returns-in-Node48-clause-nodes
returns-in-Node48-clause-nodes g c =
    gives_way c.args.self.now _ _ c.args.name c.grow-in-Node48.result (with_child c.args.byte c.args.child) c.in-Node48.is c.grow-in-Node48.ensures.kind
    (only48 _ _) (only256 _ _) c.grow-in-Node48.ensures.gone c.grow-in-Node48.ensures.put
