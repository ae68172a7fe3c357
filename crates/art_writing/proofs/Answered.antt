-- the end node of a key in the hole of its path, and the leaf that the store has there
use Rattle.std.proofs.Common.{◌≡◌, ℕ, List, [], length, Some, ap, sym, ◌∙◌, subst}
use Rattle.std.specs.FinMap as map
use Rattle.art_model.specs.Prelude.{leaf_name, LeafNode, LeafPtr, Nodes, OpaqueNodePtr, IsCanonicalTree, IsFront, Holds, Frame, plug, depth_of, place_of, IsEndNode, IsRadix, node_at, pair_of, Tree, leaf}
use Rattle.art_model.proofs.stores.Canonical.{tree_radix}
use Rattle.art_model.proofs.places.Paths.{IsHole, radix_plug}
use Rattle.art_model.proofs.places.PlaceLaws.{depth_is}
use Rattle.art_model.proofs.places.Places.{place_is}
use Rattle.art_model.proofs.stores.Stores.{path_holds}
use Rattle.art_model.proofs.stores.Views as views

-- the node is in the hole of the path, at a place that is as long as the path is deep
pub record IsPlacedEnd {A : Type 0} (bytes : A → List ℕ) (P : ℕ) (path : List (Frame OpaqueNodePtr A)) (node : Tree OpaqueNodePtr A)
    (key : List ℕ) : Type 0 where
  pub place : List ℕ
  pub hole : IsHole bytes P path place node key
  pub deep : depth_of path ≡ length place

pub placed_end : {K V : Type 0} {bytes : K × V → List ℕ} {P : ℕ} {s : Nodes K V} {root : OpaqueNodePtr} {pairs : List (K × V)}
    {layout : Tree OpaqueNodePtr (K × V)}
    {key : List ℕ} {path : List (Frame OpaqueNodePtr (K × V))} {node : Tree OpaqueNodePtr (K × V)} →
    IsCanonicalTree bytes P s root pairs layout → IsEndNode bytes layout key path node → IsPlacedEnd bytes P path node key
placed_end {bytes = bytes} {P} {key = key} {path} {node} by is_end =
    let (place, leads, radix) = radix_plug bytes P path node (subst (IsRadix bytes P []) (sym is_end.whole) (tree_radix by).0) in
    let deep = depth_is bytes P path place leads in
    record {
      place = place;
      hole = record {
        path = leads;
        radix = radix;
        front = subst (λ w. IsFront w key) (ap (λ d. place_of bytes d node) deep ∙ place_is bytes P node place radix) is_end.is_front;
      };
      deep = deep;
    }

-- a stored leaf at the end of a path of the layout, whose place is a prefix of the key
pub record IsEndLeaf {K V : Type 0} (bytes : K × V → List ℕ) (P : ℕ) (s : Nodes K V) (p : LeafPtr) (layout : Tree OpaqueNodePtr (K × V))
    (key : List ℕ) : Type 0 where
  pub path : List (Frame OpaqueNodePtr (K × V))
  pub shown : LeafNode K V
  pub place : List ℕ
  pub whole : plug path (leaf (leaf_name p) (pair_of shown)) ≡ layout
  pub hole : IsHole bytes P path place (leaf (leaf_name p) (pair_of shown)) key
  pub there : map.get s.leaves p ≡ Some shown

-- the end node of a key is such a leaf, where it is the leaf of a pair
pub end_leaf : {K V : Type 0} {bytes : K × V → List ℕ} {P : ℕ} {s : Nodes K V} {root : OpaqueNodePtr} {pairs : List (K × V)}
    {layout : Tree OpaqueNodePtr (K × V)}
    {key : List ℕ} {path : List (Frame OpaqueNodePtr (K × V))} {node : Tree OpaqueNodePtr (K × V)} {p : LeafPtr} {pair : K × V} →
    IsCanonicalTree bytes P s root pairs layout → IsEndNode bytes layout key path node → node ≡ leaf (leaf_name p) pair →
    (at : IsEndLeaf bytes P s p layout key) × (pair_of at.shown ≡ pair)
end_leaf {bytes = bytes} {P} {s} {layout = layout} {key} {path} {node} {p} {pair} by is_end is =
    let a = placed_end by is_end in
    let whole : plug path (leaf (leaf_name p) pair) ≡ layout = ap (plug path) (sym is) ∙ is_end.whole in
    let (shown, there, own) =
    views.leaf_there s p pair (path_holds (node_at s) path (leaf (leaf_name p) pair)
    (subst (Holds (node_at s)) (sym whole) by.stands.0.holds)).1 in (
      record {
        path = path;
        shown = shown;
        place = a.place;
        whole = ap (λ z. plug path (leaf (leaf_name p) z)) own ∙ whole;
        hole = subst (λ z. IsHole bytes P path a.place z key) (is ∙ ap (leaf (leaf_name p)) (sym own)) a.hole;
        there = there;
      },
      own,
    )
