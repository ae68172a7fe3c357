-- The leaf named at an end of a tree is that of the end's delete point.
use Rattle.std.proofs.Common.{◌≡◌, ℕ, List, [], ◌∷◌, ◌++◌, Option, Some, refl, ap, sym, ◌∙◌, subst, inl}
use Rattle.art_model.specs.Prelude.{Nodes, leaf_name, LeafPtr, OpaqueNodePtr, IsCanonicalTree, IsIn, entries_of, HasLeaf, first_of, last_of, Frame, plug, Tree, leaf}
use Rattle.art_model.proofs.changes.Kept.{keys_differ}
use Rattle.art_model.proofs.lists.Entries.{same_entry}
use Rattle.art_model.proofs.lists.Lists.{in_left, in_right}
use Rattle.art_model.proofs.places.Paths.{entries_after, entries_before, entries_of-plug}
use Rattle.art_model.proofs.stores.Canonical.{tree_radix}
use Rattle.art_model.proofs.stores.StoreLaws.{has_children}
use Rattle.art_writing.specs.Deleted.{IsDeletePoint}
use Rattle.art_writing.specs.EndLaws.{FirstLeafHasFirstPoint, LastLeafHasLastPoint}
use Rattle.art_writing.specs.declared.delete.DeletePoint.{DeletePoint}
use Rattle.art_writing.proofs.KeysFound.{point_some}

same_some : {A : Type 0} {x y : A} → Some x ≡ Some y → x ≡ y
same_some e = cc

-- names of leaves that are equal as names of nodes
same_leaf : (p q : LeafPtr) → leaf_name p ≡ leaf_name q → p ≡ q
same_leaf p q e = λ i. record { slot = (e i).slot }

-- a leaf that is plugged in is an entry
plugged : {N A : Type 0} (fs : List (Frame N A)) (n : N) (x : A) (tree : Tree N A) → plug fs (leaf n x) ≡ tree → IsIn (x, n) (entries_of tree)
plugged fs n x tree whole = subst (λ t. IsIn (x, n) (entries_of t)) whole (subst (IsIn (x, n)) (sym (entries_of-plug fs (leaf n x)))
    (in_left (x, n) (entries_before fs ++ (x, n) ∷ []) (entries_after fs) (in_right (x, n) (entries_before fs) ((x, n) ∷ []) (inl refl))))

module _ {K V : Type 0} (bytes : K × V → List ℕ) (P : ℕ) {s : Nodes K V} {root : OpaqueNodePtr} {pairs : List (K × V)} {layout : Tree OpaqueNodePtr (K × V)}
    (by : IsCanonicalTree bytes P s root pairs layout) where
  -- a leaf and a point of one pair are of one leaf
  one_leaf : (name : LeafPtr) (point : DeletePoint) (x : K × V) (pair : Option (K × V)) → HasLeaf layout (leaf_name name) x → pair ≡ Some x →
      IsDeletePoint layout pair (Some point) → point.leaf_node_ptr ≡ name
  one_leaf name point x pair has is at =
      let (y, found, leads) = point_some layout point pair at in
      let same : y ≡ x = same_some (sym found ∙ is) in
      let entry = same_entry (λ e. bytes e.0) (λ e. e.1) (λ e f. Unit {0}) (entries_of layout) (keys_differ bytes P layout [] (tree_radix by).0)
      (y, leaf_name point.leaf_node_ptr) (x, leaf_name name) (plugged leads.path _ y layout leads.whole)
      (plugged has.path _ x layout has.whole) (ap bytes same) in
      same_leaf point.leaf_node_ptr name (ap (λ e. e.1) entry)

module _ {K V : Type 0} where
  pub first_leaf_has_first_point : FirstLeafHasFirstPoint K V
  first_leaf_has_first_point bytes P s root name point (pairs, layout, by) named at =
      let first = named layout (has_children bytes P s root pairs layout by) in
      one_leaf bytes P by name point first.pair (first_of pairs) first.has (ap first_of (sym (tree_radix by).1) ∙ first.pair_is) (at pairs layout by)

  pub last_leaf_has_last_point : LastLeafHasLastPoint K V
  last_leaf_has_last_point bytes P s root name point (pairs, layout, by) named at =
      let last = named layout (has_children bytes P s root pairs layout by) in
      one_leaf bytes P by name point last.pair (last_of pairs) last.has (ap last_of (sym (tree_radix by).1) ∙ last.pair_is) (at pairs layout by)
