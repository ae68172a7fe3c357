use Rattle.std.proofs.Common.{◌≡◌, Some, ap, sym, ◌∙◌, is_some, refl}
use Rattle.std.specs.FinMap as map
use Rattle.art_nodes.specs.LeafChanges.{with_value}
use Rattle.art_nodes.specs.Lends.{with_leaf_value}
use Rattle.art_nodes.specs.StoreView.{inners_of}
use Rattle.art_nodes.proofs.StoreLemmas.{leaf_under, leaves_written, keeps_room}
use Rattle.art_nodes.proofs.store.NodeStore.with_pair_mut.Goals as goal

pub index_mut-node-requires : goal.index_mut-node-requires
index_mut-node-requires g c =
    ap is_some (sym (leaf_under c.self.inside.leaves.slots _ c.args.leaf (ap (λ nodes. nodes.leaves) c.self.view_is))) ∙ c.requires.there

pub invariant_of-self : goal.invariant_of-self
invariant_of-self g c = (
  keeps_room c.self.inside.leaves c.args.leaf.slot c.self.inside.promised_leaves _ _ c.index_mut-node.ensures.value c.self.invariant.0,
  c.self.invariant.1,
)

pub returns-clause-called : goal.returns-clause-called
returns-clause-called g c =
    let s = c.self.inside in
    let node = c.index_mut-node.result.now in
    let value = c.f.new.arg3 in
    let found : map.get c.args.self.now.leaves c.args.leaf ≡ Some node =
    leaf_under s.leaves.slots _ c.args.leaf (ap (λ nodes. nodes.leaves) c.self.view_is) ∙ c.index_mut-node.ensures.value in
    let written =
    ap (λ leaves. record { leaves = leaves; inners = inners_of s.inners; promise = record { leaves = s.promised_leaves; inner = s.promised_inner } })
    (leaves_written s.leaves c.args.leaf node (with_value value) c.index_mut-node.ensures.value)
    ∙ ap (λ nodes. with_leaf_value nodes c.args.leaf value) c.self.view_is in
    (node, value, found, record { key_shown = _; value_shown = _; shows = (refl, refl); left = _; called = c.f.ensures; leaves = refl }, written)
