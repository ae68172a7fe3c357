-- Leaves that were renamed, and the nodes that name them.
use Rattle.std.specs.Prelude.{◌≡◌, List, [], ◌∷◌, Option, Some, IsSomeAnd, ⊤}
use Rattle.std.specs.Option.{option_map}
use Rattle.std.specs.FinMap as map
use Rattle.art_inner.specs.InnerRenamed.{inner_renamed}
use Rattle.art_nodes.specs.Nodes.{Nodes}
use Rattle.art_parts.specs.Lists.{IsIn, first_of}
use Rattle.art_parts.specs.Names.{leaf_cmp}
use Rattle.art_parts.specs.declared.names.InnerPtr.{InnerPtr}
use Rattle.art_parts.specs.declared.names.LeafPtr.{LeafPtr}
use Rattle.art_parts.specs.declared.leaf.LeafNode.{LeafNode}

module _ {K V : Type 0} where
  -- these leaves are a row: each names the one before it and the one after it
  abbrev pub IsRow : map.FinMap leaf_cmp (LeafNode K V) → Option LeafPtr → List LeafPtr → Type 0
  IsRow leaves before [] = ⊤
  IsRow leaves before (name ∷ row) =
      IsSomeAnd (map.get leaves name) (λ leaf. (leaf.previous ≡ before) × (leaf.next ≡ first_of row)) × IsRow leaves (Some name) row

  -- a leaf whose neighbours were renamed
  abbrev pub leaf_renamed : (LeafPtr → LeafPtr) → LeafNode K V → LeafNode K V
  leaf_renamed rename leaf = record leaf { previous = option_map rename leaf.previous; next = option_map rename leaf.next }

-- The leaves of the row were renamed, each to a name of its own, and all nodes name them by the new names. No other leaf is left.
pub record AreRenamed {K V : Type 0} (rename : LeafPtr → LeafPtr) (row : List LeafPtr) (s t : Nodes K V) : Type 0 where
  pub leaves : (name : LeafPtr) → IsIn name row → map.get t.leaves (rename name) ≡ option_map (leaf_renamed rename) (map.get s.leaves name)
  pub inners : (name : InnerPtr) → map.get t.inners name ≡ option_map (inner_renamed rename) (map.get s.inners name)
  pub distinct : (name other : LeafPtr) → IsIn name row → IsIn other row → rename name ≡ rename other → name ≡ other
  pub no_other : (name : LeafPtr) (leaf : LeafNode K V) → map.get t.leaves name ≡ Some leaf → (old : LeafPtr) × IsIn old row × (rename old ≡ name)
