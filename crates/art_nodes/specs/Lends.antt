-- What a store is at the end of a borrow, where a `&mut` to one of its values is returned.
use Rattle.std.specs.Prelude.{Option}
use Rattle.std.specs.Borrow.{LendsIf, Fml, RattleType, MutBor}
use Rattle.art_parts.specs.declared.names.LeafPtr.{LeafPtr}
use Rattle.art_nodes.specs.contracts.store.NodeStore.{the_row}
use Rattle.art_nodes.specs.LeafChanges.{with_value}
use Rattle.art_nodes.specs.Nodes.{Nodes, change}

-- the store with another value in a leaf
abbrev pub with_leaf_value : {K V : Type 0} → Nodes K V → LeafPtr → V → Nodes K V
with_leaf_value s leaf value = record s { leaves = change s.leaves leaf (with_value value) }

module _ (K V P : RattleType) (s : MutBor (Nodes K.Denot V.Denot)) (leaf : LeafPtr) where
  -- once the borrow r ends, the leaf has the last value written through r; at `None` the store is unchanged
  abbrev pub lends_value : Option (MutBor V.Denot) → Fml
  lends_value r = LendsIf (the_row K V P) V s r (with_leaf_value s.now leaf) s.now
