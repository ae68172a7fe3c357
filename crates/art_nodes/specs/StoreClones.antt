-- Clones of the leaves of a store, under the same names.
use Rattle.std.specs.Prelude.{◌≡◌, Option, Some, None, IsSomeAnd}
use Rattle.std.specs.FinMap as map
use Rattle.art_parts.specs.Names.{leaf_cmp}
use Rattle.art_parts.specs.LeafClones.{IsLeafCopy}
use Rattle.art_parts.specs.declared.leaf.LeafNode.{LeafNode}
use Rattle.art_parts.specs.declared.names.LeafPtr.{LeafPtr}

module _ {K V : Type 0} (is_key_clone : K → K → Type 0) (is_value_clone : V → V → Type 0) where
  -- a clone of the leaf, with the same siblings, or nothing where there is no leaf
  abbrev pub IsCopyThere : Option (LeafNode K V) → Option (LeafNode K V) → Type 0
  IsCopyThere None copy = copy ≡ None
  IsCopyThere (Some leaf) copy = IsSomeAnd copy (IsLeafCopy is_key_clone is_value_clone leaf)

  -- a clone of each leaf, with the same siblings, is under its name, and there is no other leaf
  abbrev pub AreLeafCopies : map.FinMap leaf_cmp (LeafNode K V) → map.FinMap leaf_cmp (LeafNode K V) → Type 0
  AreLeafCopies leaves copies = (name : LeafPtr) → IsCopyThere (map.get leaves name) (map.get copies name)
