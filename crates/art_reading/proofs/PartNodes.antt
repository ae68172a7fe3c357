-- nodes of a tree in a store
use Rattle.std.proofs.Common.{◌≡◌, ℕ, List, [], refl, ap, sym, ◌∙◌, subst, Option, Some, None, IsSome}
use Rattle.std.specs.List.{AllByRecursion as Each}
use Rattle.std.specs.FinMap as map
use Rattle.art_model.specs.Prelude.{Nodes, leaf_name, LeafNode, LeafPtr, OpaqueNodePtr, IsCanonicalTree, names_of, AreDistinct, Holds, HasFirstLeaf, HasLeaf, IsRadix, pairs_of, IsFullTree, node_at, pair_of, Tree, leaf}
use Rattle.art_model.proofs.stores.Canonical.{tree_radix}
use Rattle.art_model.proofs.places.Paths.{radix_plug}
use Rattle.art_model.proofs.pairs.Puts.{first_has}
use Rattle.art_model.proofs.stores.Stores.{hole_distinct, path_holds}
use Rattle.art_model.proofs.radix.TreeLaws.{have_two_children, one_child}
use Rattle.art_model.proofs.stores.Views as views
use Rattle.art_reading.specs.PartEnds.{StandsBetween}

-- what is not absent is there
pub some_there : {X : Type 0} (o : Option X) → (None ≡ o → ⊥) → IsSome o
some_there None h = absurd (h refl)
some_there (Some x) h = refl

-- a leaf of a tree in a store is in the store
module _ {K V : Type 0} (s : Nodes K V) {tree : Tree OpaqueNodePtr (K × V)} (holds : Holds (node_at s) tree) {p : LeafPtr} where
  leaf_in : {x : K × V} → HasLeaf tree (leaf_name p) x → (shown : LeafNode K V) × (map.get s.leaves p ≡ Some shown) × (pair_of shown ≡ x)
  leaf_in {x} has = views.leaf_there s p x (path_holds (node_at s) has.path (leaf (leaf_name p) x) (subst (Holds (node_at s)) (sym has.whole) holds)).1

  pub leaf_is_there : {x : K × V} → HasLeaf tree (leaf_name p) x → IsSome (map.get s.leaves p)
  leaf_is_there has = let (shown, there, same) = leaf_in has in rw there refl

  module _ (first : HasFirstLeaf tree (leaf_name p)) where
    -- the first leaf has what all pairs of the tree have
    pub least_is : (Q : K × V → Type 0) → Each Q (pairs_of tree) → (shown : LeafNode K V) → Some shown ≡ map.get s.leaves p → Q (pair_of shown)
    least_is Q all shown read =
        let (other, there, same) = leaf_in first.has in
        let is : other ≡ shown = cc in
        subst Q (sym same ∙ ap pair_of is) (first_has Q (pairs_of tree) first.pair all first.pair_is)

module _ {K V : Type 0} {s : Nodes K V} {bytes : K × V → List ℕ} {P : ℕ} {root : OpaqueNodePtr} {pairs : List (K × V)} {layout : Tree OpaqueNodePtr (K × V)}
    (by : IsCanonicalTree bytes P s root pairs layout) where
  -- the node under the name of a leaf has its pair
  pub own_pair : {name : LeafPtr} {x : K × V} → HasLeaf layout (leaf_name name) x → {node : LeafNode K V} → Some node ≡ map.get s.leaves name → pair_of node ≡ x
  own_pair {name} {x} has {node} read =
      let (other, there, same) =
      views.leaf_there s name x (path_holds (node_at s) has.path (leaf (leaf_name name) x)
      (subst (Holds (node_at s)) (sym has.whole) by.stands.0.holds)).1 in
      let is : node ≡ other = cc in
      ap pair_of is ∙ same

  module _ {Lower Upper : K × V → Type 0} {name : OpaqueNodePtr} (at : StandsBetween Lower Upper layout name) where
    own_radix : (place : List ℕ) × IsRadix bytes P place at.node
    own_radix = let (place, path, radix) = radix_plug bytes P at.path at.node (subst (IsRadix bytes P []) (sym at.whole) (tree_radix by).0) in (place, radix)

    pub node_holds : Holds (node_at s) at.node
    node_holds = (path_holds (node_at s) at.path at.node (subst (Holds (node_at s)) (sym at.whole) by.stands.0.holds)).1

    -- the node's name stands for a tree
    pub node_full : IsFullTree s name at.node
    node_full = (
      record {
        named = at.named;
        holds = node_holds;
        distinct = hole_distinct (node_at s) (node_at s) at.path at.node (subst (Holds (node_at s)) (sym at.whole) by.stands.0.holds)
            (subst (λ t. AreDistinct (names_of t)) (sym at.whole) by.stands.0.distinct);
      },
      one_child at.node (have_two_children bytes P own_radix.0 at.node own_radix.1),
    )

    module _ {p : LeafPtr} (first : HasFirstLeaf at.node (leaf_name p)) where
      -- its first leaf is in the store
      pub first_there : IsSome (map.get s.leaves p)
      first_there = leaf_is_there s node_holds first.has

      -- and has what all pairs below the node have
      pub first_is : (Q : K × V → Type 0) → Each Q (pairs_of at.node) → (shown : LeafNode K V) → Some shown ≡ map.get s.leaves p → Q (pair_of shown)
      first_is Q all shown read = least_is s node_holds first Q all shown read
