-- another value for a stored key, as an insertion
use Rattle.std.proofs.Common.{◌≡◌, ℕ, List, Some, IsSome, IfSome, refl, ap, sym, ◌∙◌, subst, option_map}
use Rattle.std.specs.FinMap as map
use Rattle.art_model.specs.Prelude.{with_value, leaf_name, Nodes, change, LeafNode, LeafPtr, OpaqueNodePtr, IsCanonicalTree, ChangesInPlace, plug, ForTree, node_at, links_at, pair_of, Tree, leaf, parent_of}
use Rattle.art_model.proofs.stores.Canonical.{IsLaidOut, laid_out, canonical_from}
use Rattle.art_model.proofs.changes.IntoLeaf.{IntoLeaf, leaf_inserted, leaf_insertion_kept, leaf_reply, leaf_stored_for, leaf_touches}
use Rattle.art_model.proofs.places.Paths.{IsHole}
use Rattle.art_reading.specs.declared.end_node.InsertKind.TheVariants.{Exact}
use Rattle.art_writing.specs.declared.insert.InsertParentNodeChange.TheVariants.{NoChange}
use Rattle.art_writing.specs.declared.insert.InsertPoint.{InsertPoint}
use Rattle.art_writing.specs.Inserted.{HasInserted, IsChange, IsPointIn, Touches, unlinked_leaf}
use Rattle.art_reading.specs.EndNodes.{IsKindOf}
use Rattle.art_writing.specs.Points.{AnswersTo}
use Rattle.art_writing.proofs.LeftByPoints.{IsInserted}
use Rattle.art_writing.proofs.Answered.{IsEndLeaf, end_leaf}
use Rattle.art_writing.proofs.Standing.{answers_to}

-- the leaf of a key, at the end of a path of the layout
pub record IsOwnLeaf {K V : Type 0} (bytes : K × V → List ℕ) (P : ℕ) (s : Nodes K V) (p : LeafPtr) (layout : Tree OpaqueNodePtr (K × V))
    (key : List ℕ) : Type 0 where
  pub at : IsEndLeaf bytes P s p layout key
  pub same : bytes (pair_of at.shown) ≡ key

module _ {K V : Type 0} {bytes : K × V → List ℕ} {P : ℕ} {s : Nodes K V} {point : InsertPoint} {p : LeafPtr} {pairs : List (K × V)}
    {layout : Tree OpaqueNodePtr (K × V)} where
  -- it is in the store where a point names it
  pub own_leaf : {key : List ℕ} → IsPointIn bytes P s key point → point.insert_kind ≡ Exact p →
      IsCanonicalTree bytes P s point.root pairs layout → IsOwnLeaf bytes P s p layout key
  own_leaf {key} answers exact by =
      let answers_at = answers_to answers by in
      let (used, (pair, is, equal)) = subst (IsKindOf bytes P key answers_at.node _ _) exact answers_at.kind_is in
      let (at, own) = end_leaf by answers_at.is_end is in
      record { at = at; same = ap bytes own ∙ equal }

module _ {K V : Type 0} {bytes : K × V → List ℕ} {P : ℕ} {s : Nodes K V} {point : InsertPoint} {p : LeafPtr} (new : K × V)
    (answers : IsPointIn bytes P s (bytes new) point) (exact : point.insert_kind ≡ Exact p) where
  -- the leaf is in the store
  pub own_leaf_there : IsSome (map.get s.leaves p)
  own_leaf_there = let (pairs, layout, by, own) = answers in rw (own_leaf answers exact by).at.there refl

  module _ (by_key : (k : K) (v w : V) → bytes (k, v) ≡ bytes (k, w)) (t : Nodes K V)
      (leaves : t.leaves ≡ change s.leaves p (with_value new.1)) (inners : t.inners ≡ s.inners) where
    -- the stored key has the bytes of the new one
    alike : {layout : Tree OpaqueNodePtr (K × V)} (l : IsOwnLeaf bytes P s p layout (bytes new)) → bytes (l.at.shown.key, new.1) ≡ bytes new
    alike l = by_key l.at.shown.key new.1 l.at.shown.value ∙ l.same

    -- the leaf has its key and the new value
    into_leaf : {layout : Tree OpaqueNodePtr (K × V)} (l : IsOwnLeaf bytes P s p layout (bytes new)) →
        IntoLeaf bytes P s t l.at.path l.at.place p l.at.shown (l.at.shown.key, new.1)
    into_leaf l = record {
      hole = subst (IsHole bytes P l.at.path l.at.place (leaf (leaf_name p) (pair_of l.at.shown))) (sym (alike l)) l.at.hole;
      here = l.at.there;
      write = with_value new.1;
      written = refl;
      leaves = leaves;
      inners = inners;
    }

    -- the value is stored, and the old one is returned with the key that was passed
    pub value_replaced : (swapped : V) (existing : LeafNode K V) → IfSome (map.get s.leaves p) (λ leaf. swapped ≡ leaf.value) →
        existing ≡ unlinked_leaf (new.0, swapped) →
        ForTree bytes P s point.root (λ pairs layout. (at : AnswersTo bytes P layout (bytes new) point) → IsInserted bytes P s t point new pairs layout at.path
        (record { leaf_node_ptr = p; existing_leaf = Some existing; new_root = point.root; parent_node_change = NoChange }))
    value_replaced swapped existing value is pairs layout by at =
        let l = own_leaf answers exact by in
        let into = into_leaf l in
        let old = subst (IsLaidOut bytes P (node_at s) (links_at s) point.root pairs) (sym l.at.whole) (laid_out by) in
        let went : swapped ≡ l.at.shown.value = subst (λ o. IfSome o (λ leaf. swapped ≡ leaf.value)) l.at.there value in
        let tree = plug l.at.path (leaf (leaf_name p) (l.at.shown.key, new.1)) in
        record {
          tree = tree;
          canonical = canonical_from (leaf_inserted old into new l.same (alike l) refl);
          inserted = subst (λ x. HasInserted tree point x
              (record { leaf_node_ptr = p; existing_leaf = Some existing; new_root = point.root; parent_node_change = NoChange }))
              (sym (leaf_stored_for old into new l.same (alike l) refl))
              (record { path = l.at.path; whole = refl; change = subst (λ kind. IsChange kind (parent_of l.at.path) NoChange) (sym exact) refl; root = refl });
          below = tt;
          replaced =
              ap Some (is ∙ ap (λ v. unlinked_leaf (new.0, v)) went)
              ∙ ap (option_map unlinked_leaf) (sym (leaf_reply old into new l.same (alike l) refl));
          kept = subst (λ z. ChangesInPlace bytes s t (Some z) (Some tree)) l.at.whole (leaf_insertion_kept old into new l.same (alike l) refl);
          touches = subst (λ kind. Touches kind s t) (sym exact) (leaf_touches old into);
        }
