use Rattle.art_nodes.proofs.StoreLemmas.{placed_of, only4}
use Rattle.art_nodes.proofs.store.InnerSlabs.insert_node4.Goals as goal

pub returns-clause-nodes : goal.returns-clause-nodes
returns-clause-nodes g c = placed_of c.args.self.now _ c.insert_in.result _ c.insert_in.ensures.kind _ (only4 c.args.self.now _) c.insert_in.ensures.put
