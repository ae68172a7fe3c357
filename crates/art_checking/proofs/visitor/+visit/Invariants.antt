use Rattle.std.specs.FinMap as map
use Rattle.art_model.specs.Prelude.{ref_kind, ref_view, OpaqueNodePtr, height, IsFullTree, node_at, Tree}
use Rattle.art_checking.proofs.Folded.{HasJoined}
use Rattle.art_checking.proofs.visitor.+visit.Given as goal

abbrev pub decreases-visit : goal.decreases-visit
decreases-visit g l = height (node_at l.store.now) (map.len l.store.now.inners) l.name

abbrev pub invariant-loop-child : goal.invariant-loop-child
invariant-loop-child g l =
    (goal.iterator-loop-child g).can_next l.child-iterator × (goal.iterator-loop-child g).is_finite l.child-iterator
    × ((layout : Tree OpaqueNodePtr (g.row.K.Denot × g.row.V.Denot)) → IsFullTree l.store l.fn.name layout →
    HasJoined g.T.Visitor.of_leaf g.T.Visitor.of_inner g.T.Visitor.combines l.store layout l.fn.name (ref_kind l.node)
    (ref_view l.node) l.child-iterator l.fn.visitor l.joined l.visitor)
