use Rattle.std.proofs.Common.{ap, sym, ◌∙◌}
use Rattle.std.specs.FinMap.{insert}
use Rattle.art_inner.specs.Views.{any_view}
use Rattle.art_parts.specs.declared.names.NodeType.TheVariants.{Node4, Node16, Node48, Node256}
use Rattle.art_nodes.specs.StoreView.{inners_of}
use Rattle.art_nodes.proofs.StoreLemmas.{placed_of, only4, only16, only48, only256, there_of}
use Rattle.art_nodes.proofs.store.InnerSlabs.insert_reserved.Goals as goal

pub returns-in-Node4-clause-nodes : goal.returns-in-Node4-clause-nodes
returns-in-Node4-clause-nodes g c =
    placed_of c.args.self.now _ c.insert_in.result _ c.insert_in.ensures.kind _ (only4 c.args.self.now _) c.insert_in.ensures.put
    ∙ ap (λ n. insert (inners_of c.args.self.now) c.insert_in.result (any_view n)) (sym c.in-Node4.is)

pub returns-in-Node16-clause-nodes : goal.returns-in-Node16-clause-nodes
returns-in-Node16-clause-nodes g c =
    placed_of c.args.self.now _ c.insert_in-in-Node16.result _ c.insert_in-in-Node16.ensures.kind _ (only16 c.args.self.now _) c.insert_in-in-Node16.ensures.put
    ∙ ap (λ n. insert (inners_of c.args.self.now) c.insert_in-in-Node16.result (any_view n)) (sym c.in-Node16.is)

pub returns-in-Node48-clause-nodes : goal.returns-in-Node48-clause-nodes
returns-in-Node48-clause-nodes g c =
    placed_of c.args.self.now _ c.insert_in-in-Node48.result _ c.insert_in-in-Node48.ensures.kind _ (only48 c.args.self.now _) c.insert_in-in-Node48.ensures.put
    ∙ ap (λ n. insert (inners_of c.args.self.now) c.insert_in-in-Node48.result (any_view n)) (sym c.in-Node48.is)

pub returns-in-Node256-clause-nodes : goal.returns-in-Node256-clause-nodes
returns-in-Node256-clause-nodes g c =
    placed_of c.args.self.now _ c.insert_in-in-Node256.result _ c.insert_in-in-Node256.ensures.kind _
    (only256 c.args.self.now _) c.insert_in-in-Node256.ensures.put
    ∙ ap (λ n. insert (inners_of c.args.self.now) c.insert_in-in-Node256.result (any_view n)) (sym c.in-Node256.is)

pub returns-in-Node4-clause-fresh : goal.returns-in-Node4-clause-fresh
returns-in-Node4-clause-fresh g c = there_of c.args.self.now _ Node4 c.insert_in.ensures.kind ∙ c.insert_in.ensures.vacant

pub returns-in-Node16-clause-fresh : goal.returns-in-Node16-clause-fresh
returns-in-Node16-clause-fresh g c = there_of c.args.self.now _ Node16 c.insert_in-in-Node16.ensures.kind ∙ c.insert_in-in-Node16.ensures.vacant

pub returns-in-Node48-clause-fresh : goal.returns-in-Node48-clause-fresh
returns-in-Node48-clause-fresh g c = there_of c.args.self.now _ Node48 c.insert_in-in-Node48.ensures.kind ∙ c.insert_in-in-Node48.ensures.vacant

pub returns-in-Node256-clause-fresh : goal.returns-in-Node256-clause-fresh
returns-in-Node256-clause-fresh g c = there_of c.args.self.now _ Node256 c.insert_in-in-Node256.ensures.kind ∙ c.insert_in-in-Node256.ensures.vacant
