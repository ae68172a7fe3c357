use Rattle.std.proofs.Common.{◌≡◌, Some, ap, sym, subst, ◌∙◌}
use Rattle.std.specs.FinMap as map
use Rattle.std.specs.Option.{option_map, IfSome}
use Rattle.art_inner.specs.InnerChanges.{with_child, without_child}
use Rattle.art_inner.specs.Inner.{childless}
use Rattle.art_inner.specs.Views.{ref_view}
use Rattle.art_nodes.proofs.store.NodeStore.take_other.Goals as goal

pub returns-clause-other : goal.returns-clause-other
returns-clause-other g c =
    let other = c.other_child-other_byte.result in
    let found : map.get c.args.self.now.inners c.args.inner ≡ Some (ref_view c.in-Some.node) =
    sym c.inner.ensures.view ∙ ap (option_map ref_view) c.in-Some.is in
    subst (λ o. IfSome o (λ node. without_child c.args.byte node ≡ with_child other.0 other.1 (childless c.header-header.result))) (sym found)
    (λ i. record { prefix = sym c.header-header.ensures i; children = c.other_child-other_byte.ensures i })
