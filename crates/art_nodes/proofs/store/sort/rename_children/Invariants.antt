use Rattle.std.proofs.Common.{◌≡◌, ℕ, ◌≤◌, ◌<◌}
use Rattle.std.specs.Option.{option_map}
use Rattle.slab.specs.Slab.{get, slab_len}
use Rattle.art_inner.specs.InnerRenamed.{inner_renamed}
use Rattle.art_inner.specs.NewNames.{new_name}
use Rattle.art_nodes.proofs.store.sort.rename_children.Given as goal

abbrev pub invariant-loop-slot : goal.invariant-loop-slot
invariant-loop-slot g l = record {
  before : (k : ℕ) → k < l.slot → option_map g.N.NamesLeaves.view_of (get l.nodes k)
      ≡ option_map (λ node. inner_renamed (new_name l.table) (g.N.NamesLeaves.view_of node)) (get l.fn.nodes k);
  after : (k : ℕ) → l.slot ≤ k → get l.nodes k ≡ get l.fn.nodes k;
  len : slab_len l.nodes ≡ slab_len l.fn.nodes;
  capacity : l.nodes.capacity ≡ l.fn.nodes.capacity;
}
