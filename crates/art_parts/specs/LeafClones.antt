-- Clones of pairs and of leaves, by what a clone of a key and a clone of a value is.
use Rattle.std.specs.Prelude.{◌≡◌, None}
use Rattle.art_parts.specs.declared.leaf.LeafNode.{LeafNode}

module _ {K V : Type 0} (is_key_clone : K → K → Type 0) (is_value_clone : V → V → Type 0) where
  -- the second pair has clones of the first one's key and value
  abbrev pub IsPairClone : K × V → K × V → Type 0
  IsPairClone pair copy = is_key_clone pair.0 copy.0 × is_value_clone pair.1 copy.1

  -- the second leaf has clones of the first one's key and value, and no siblings
  pub record IsLeafClone (leaf copy : LeafNode K V) : Type 0 where
    pub key : is_key_clone leaf.key copy.key
    pub value : is_value_clone leaf.value copy.value
    pub previous : copy.previous ≡ None
    pub next : copy.next ≡ None

  -- the second leaf has clones of the first one's key and value, and the same siblings
  pub record IsLeafCopy (leaf copy : LeafNode K V) : Type 0 where
    pub key : is_key_clone leaf.key copy.key
    pub value : is_value_clone leaf.value copy.value
    pub previous : copy.previous ≡ leaf.previous
    pub next : copy.next ≡ leaf.next
