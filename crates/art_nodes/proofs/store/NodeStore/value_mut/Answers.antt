use Rattle.std.proofs.Common.{◌≡◌, Some, ap, sym, ◌∙◌}
use Rattle.std.specs.FinMap as map
use Rattle.std.specs.Option.{option_map}
use Rattle.art_nodes.specs.LeafChanges.{with_value}
use Rattle.art_nodes.specs.Lends.{with_leaf_value}
use Rattle.art_nodes.specs.StoreView.{inners_of}
use Rattle.art_nodes.proofs.StoreChanges.{lends_same}
use Rattle.art_nodes.proofs.StoreLemmas.{leaf_under, leaves_written}
use Rattle.art_nodes.proofs.store.NodeStore.value_mut.Goals as goal

pub returns : goal.returns
returns g c =
    let found = sym c.in_ok-node.ensures.value in
    let seen : map.get c.args.self.now.leaves c.args.leaf ≡ Some c.in_ok-node.node.now =
    leaf_under c.self.inside.leaves.slots _ c.args.leaf (ap (λ nodes. nodes.leaves) c.self.view_is) ∙ found in
    let s = c.self.inside in
    let left = λ (w : g.row.V.Denot).
    ap (λ leaves. record { leaves = leaves; inners = inners_of s.inners; promise = record { leaves = s.promised_leaves; inner = s.promised_inner } })
    (leaves_written s.leaves c.args.leaf c.in_ok-node.node.now (with_value w) found)
    ∙ ap (λ nodes. with_leaf_value nodes c.args.leaf w) c.self.view_is in
    (lends_same left, record { writes_back = tt; value = ap (option_map (λ node. node.value)) (sym seen) })
