-- Leaves move from one slab to another, in the order of their row. No public clause cites this module.
use Rattle.std.specs.Prelude.{◌≡◌, ℕ, List, Some}
use Rattle.slab.specs.Slab.{Slab, get}
use Rattle.art_inner.specs.NewNames.{new_name}
use Rattle.art_parts.specs.Lists.{IsIn}
use Rattle.art_parts.specs.declared.leaf.LeafNode.{LeafNode}
use Rattle.art_parts.specs.declared.names.LeafPtr.{LeafPtr}

-- the name is in the row, and not in the rest of it
abbrev pub IsBefore : List LeafPtr → List LeafPtr → LeafPtr → Type 0
IsBefore row rest name = IsIn name row × (IsIn name rest → ⊥)

-- Those of the row before its rest have moved: each to a new slot of its own, which a table maps its old one to.
pub record AreMoved {K V : Type 0} (table : List ℕ) (row rest : List LeafPtr) (from to : Slab (LeafNode K V)) : Type 0 where
  pub leaves : (name : LeafPtr) → IsBefore row rest name → get to (new_name table name).slot ≡ get from name.slot
  pub distinct : (name other : LeafPtr) → IsBefore row rest name → IsBefore row rest other → new_name table name ≡ new_name table other → name ≡ other
  pub no_other : (slot : ℕ) (leaf : LeafNode K V) → get to slot ≡ Some leaf → (name : LeafPtr) × IsBefore row rest name × ((new_name table name).slot ≡ slot)
