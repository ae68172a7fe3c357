use Rattle.std.proofs.Common.{◌≡◌, ap, sym, subst, ◌∙◌, Some, is_some}
use Rattle.std.specs.FinMap as map
use Rattle.std.specs.Option.{IfSome}
use Rattle.std.specs.Prelude.{slice_set}
use Rattle.art_nodes.specs.StoreView.{leaves_of}
use Rattle.art_nodes.specs.Nodes.{change}
use Rattle.art_nodes.specs.LeafChanges.{with_value}
use Rattle.art_nodes.proofs.StoreLemmas.{leaf_under, leaves_written, keeps_room}
use Rattle.art_nodes.proofs.store.NodeStore.swap_value.Goals as goal

pub returns-clause-leaves : goal.returns-clause-leaves
returns-clause-leaves g c =
    ap (λ leaf. leaves_of (slice_set c.self.inside.leaves.slots c.args.leaf.slot (Some leaf)))
    (λ i. record {
      key = c.index_mut-found.result.now.key;
      value = c.replace.ensures.after i;
      previous = c.index_mut-found.result.now.previous;
      next = c.index_mut-found.result.now.next;
    })
    ∙ leaves_written c.self.inside.leaves c.args.leaf _ (with_value c.args.value) c.index_mut-found.ensures.value
    ∙ ap (λ nodes. change nodes.leaves c.args.leaf (with_value c.args.value)) c.self.view_is

pub index_mut-found-requires : goal.index_mut-found-requires
index_mut-found-requires g c = ap is_some (sym (leaf_under c.self.inside.leaves.slots _ c.args.leaf (ap (λ nodes. nodes.leaves) c.self.view_is))) ∙ c.requires

pub invariant_of-self : goal.invariant_of-self
invariant_of-self g c = (
  keeps_room c.self.inside.leaves c.args.leaf.slot c.self.inside.promised_leaves _ _ c.index_mut-found.ensures.value c.self.invariant.0,
  c.self.invariant.1,
)

pub returns-clause-value : goal.returns-clause-value
returns-clause-value g c =
    let found : map.get c.args.self.now.leaves c.args.leaf ≡ Some c.index_mut-found.result.now =
    leaf_under c.self.inside.leaves.slots _ c.args.leaf (ap (λ nodes. nodes.leaves) c.self.view_is) ∙ c.index_mut-found.ensures.value in
    subst (λ o. IfSome o (λ node. c.replace.result ≡ node.value)) (sym found) c.replace.ensures.value
