use Rattle.std.proofs.Common.{arith, ap, sym, ◌∙◌, is_some}
use Rattle.std.specs.FinMap as map
use Rattle.art_nodes.proofs.CountLemmas.{len-leaves_of}
use Rattle.art_nodes.proofs.StoreLemmas.{leaf_under, leaves_freed}
use Rattle.art_nodes.proofs.store.NodeStore.free_leaf.Goals as goal

pub returns-clause-few : goal.returns-clause-few
returns-clause-few g c =
    let most = len-leaves_of c.self.inside.leaves.slots in
    let seen = ap (λ s. map.len s.leaves) c.self.view_is in
    let fits = c.len.ensures in
    omega (arith, most, seen, fits, c.len.type_inv)

pub returns-clause-node : goal.returns-clause-node
returns-clause-node g c = leaf_under c.self.inside.leaves.slots _ c.args.leaf (ap (λ nodes. nodes.leaves) c.self.view_is) ∙ c.remove.ensures.value

pub remove-requires : goal.remove-requires
remove-requires g c = ap is_some (sym (leaf_under c.self.inside.leaves.slots _ c.args.leaf (ap (λ nodes. nodes.leaves) c.self.view_is))) ∙ c.requires

pub returns-clause-leaves : goal.returns-clause-leaves
returns-clause-leaves g c =
    leaves_freed c.self.inside.leaves _ c.args.leaf c.remove.ensures.updates
    ∙ ap (λ nodes. map.remove nodes.leaves c.args.leaf) c.self.view_is

pub invariant_of-self : goal.invariant_of-self
invariant_of-self g c = (
  record {
    room = omega (arith, c.remove.ensures.len, c.self.invariant.0.room);
    few = λ promised. omega (arith, c.remove.ensures.capacity, c.self.invariant.0.few promised);
  },
  c.self.invariant.1,
)
