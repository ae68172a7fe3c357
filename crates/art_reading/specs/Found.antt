-- What a search returns: the leaf of the pair that is sought, if there is one.
use Rattle.std.specs.Prelude.{◌≡◌, ℕ, List, Option, IfSome, IsSome}
use Rattle.std.specs.FinMap as map
use Rattle.art_nodes.specs.Nodes.{Nodes}
use Rattle.art_parts.specs.declared.names.LeafPtr.{LeafPtr}
use Rattle.art_parts.specs.declared.names.OpaqueNodePtr.{OpaqueNodePtr}
use Rattle.art_model.specs.Lookups.{FindsLeaf, pair_under}
use Rattle.art_model.specs.Pairs.{first_of}
use Rattle.art_model.specs.Roots.{ForTree}
use Rattle.art_model.specs.Trees.{Tree}

module _ {K V : Type 0} (bytes : K × V → List ℕ) (P : ℕ) (s : Nodes K V) (root : OpaqueNodePtr) where
  -- The leaf of one of these pairs is found in the tree; it is in the store, and has the pair there.
  pub record HasFoundOne (Finds : Tree OpaqueNodePtr (K × V) → List (K × V) → Option LeafPtr → Type 0)
      (one : List (K × V) → Option (K × V)) (sought : List (K × V) → List (K × V)) (result : Option LeafPtr) : Type 0 where
    pub leaf : ForTree bytes P s root (λ pairs layout. Finds layout (sought pairs) result)
    pub there : IfSome result (λ leaf. IsSome (map.get s.leaves leaf))
    pub pair : ForTree bytes P s root (λ pairs _. pair_under s result ≡ one (sought pairs))

  -- of the only pair that is sought
  abbrev pub HasFound : (List (K × V) → List (K × V)) → Option LeafPtr → Type 0
  HasFound sought result = HasFoundOne FindsLeaf first_of sought result
