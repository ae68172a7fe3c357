-- The leaf that a lookup finds, as it is in the store.
use Rattle.std.proofs.Common.{◌≡◌, ℕ, List, refl, ap, sym, ◌∙◌, subst, Option, Some, None, IfSome, IsSome, option_map}
use Rattle.std.specs.FinMap.{get}
use Rattle.art_model.specs.Prelude.{leaf_name, Nodes, LeafNode, LeafPtr, OpaqueNodePtr, IsCanonicalTree, Holds, FindsLeaf, HasLeaf, first_of, node_at, pair_of, Tree, leaf}
use Rattle.art_model.specs.Lookups.{pair_under}
use Rattle.art_model.proofs.stores.Stores.{path_holds}
use Rattle.art_model.proofs.stores.Views.{leaf_there}

module _ {K V : Type 0} (bytes : K × V → List ℕ) (P : ℕ) {s : Nodes K V} {root : OpaqueNodePtr} {pairs : List (K × V)}
    {layout : Tree OpaqueNodePtr (K × V)} (by : IsCanonicalTree bytes P s root pairs layout) where
  -- a leaf of the tree is in the store, with its pair
  pub leaf_found : {p : LeafPtr} {x : K × V} → HasLeaf layout (leaf_name p) x → (node : LeafNode K V) × (get s.leaves p ≡ Some node) × (pair_of node ≡ x)
  leaf_found {p} {x} has =
      leaf_there s p x (path_holds (node_at s) has.path (leaf (leaf_name p) x) (subst (Holds (node_at s)) (sym has.whole) by.stands.0.holds)).1

  -- the leaf that is found is in the store
  pub found_is_there : (found : Option LeafPtr) (sought : List (K × V)) → FindsLeaf layout sought found → IfSome found (λ p. IsSome (get s.leaves p))
  found_is_there None sought none = tt
  found_is_there (Some p) sought (x, only, has) = let (node, there, its) = leaf_found has in rw there refl

  -- and has the first pair of those that are sought, if there is one
  pub pair_found : (found : Option LeafPtr) (sought : List (K × V)) → FindsLeaf layout sought found → pair_under s found ≡ first_of sought
  pair_found None sought none = sym (ap first_of none)
  pair_found (Some p) sought (x, only, has) = let (node, there, its) = leaf_found has in ap (option_map pair_of) there ∙ ap Some its ∙ sym (ap first_of only)
