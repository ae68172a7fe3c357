use Rattle.std.proofs.Common.{length, ap, sym, ◌∙◌}
use Rattle.art_inner.specs.Views.{ref_view}
use Rattle.art_model.specs.Stores.{node_at}
use Rattle.art_engine.specs.NodeWalks.{children_of, one_deeper}
use Rattle.art_engine.proofs.Walks.{children-inner, length-reversed_children}
use Rattle.art_engine.proofs.keeping.walk.count_children.Goals as goal

pub returns-in-Some : goal.returns-in-Some
returns-in-Some g c =
    let depth = one_deeper c.args.parent.depth in
    c.num_children.ensures.value ∙ sym (length-reversed_children depth (ref_view c.in-Some.node).children)
    ∙ ap length (sym (children-inner c.args.store.now depth c.in-Inner.name c.in-Inner.ensures.proper (ref_view c.in-Some.node) c.in-Some.ensures.view))
    ∙ ap (λ n. length (children_of depth (node_at c.args.store.now n))) c.in-Inner.ensures.name
