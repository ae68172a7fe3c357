use Rattle.std.proofs.Common.{ap, sym, ◌∙◌}
use Rattle.std.specs.Vec.{vec_capacity}
use Rattle.art_inner.specs.Views.{ref_view}
use Rattle.art_model.specs.Stores.{node_at}
use Rattle.art_engine.specs.NodeWalks.{below, children_of, reversed_children, one_deeper}
use Rattle.art_engine.proofs.Walks.{children-inner, room_for}
use Rattle.art_engine.proofs.keeping.walk.push_below.Goals as goal

pub push_children-requires : goal.push_children-requires
push_children-requires g c =
    let depth = one_deeper c.args.parent.depth in
    room_for depth c.args.pending.now.items c.iter.result (below c.args.store.now c.args.parent) (vec_capacity c.args.pending.now)
    (ap (λ n. children_of depth (node_at c.args.store.now n)) (sym c.in-Inner.ensures.name)
    ∙ children-inner c.args.store.now depth c.in-Inner.name c.in-Inner.ensures.proper (ref_view c.in-Some.node) c.in-Some.ensures.view
    ∙ ap (reversed_children depth) (sym c.iter.ensures.children)) c.requires
