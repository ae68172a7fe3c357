-- A map whose leaves are sorted keeps its pairs.
use Rattle.std.proofs.Common.{◌≡◌, ◌≢◌, ℕ, List, Option, Some, None, Result, Ok, Err, OnOk, OnErr, ap, sym, ◌∙◌, subst}
use Rattle.art_inner.specs.InnerRenamed.{child_renamed}
use Rattle.art_model.specs.Prelude.{Nodes, inner_name, leaf_name, InnerPtr, LeafPtr, Leaf, OpaqueNodePtr, IsCanonicalTree, leaf_names, HasFirstLeaf, first_of, IsFullTree, Tree}
use Rattle.art_nodes.specs.Renamed.{AreRenamed, IsRow}
use Rattle.art_model.proofs.stores.StoreLaws.{has_children}
use Rattle.art_model.proofs.leaves.OtherNames.{renamed}
use Rattle.art_model.proofs.leaves.Renamed.{HasRow, canonical_renamed, first_named, inner_stays, none_beside, row_of}
use Rattle.art_changing.specs.MapPairs.{HoldsPairs}
use Rattle.art_changing.proofs.MapPuts.{HasTreeAt, at_some}

module _ {K V : Type 0} {bytes : K × V → List ℕ} {P : ℕ} {s : Nodes K V} {root : OpaqueNodePtr} {len : ℕ} {pairs : List (K × V)}
    (has : HasTreeAt bytes P s root len pairs) where
  -- the leaves of the tree are a row
  leaf_row : HasRow s None (leaf_names has.layout)
  leaf_row = row_of s None (leaf_names has.layout) has.by.linked

  module _ {first : LeafPtr} (is_first : HasFirstLeaf has.layout (leaf_name first)) where
    first_is : first_of leaf_row.row ≡ Some first
    first_is = first_named leaf_row.row leaf_row.names_are is_first.name_is

    -- which can be sorted
    has_row : (row : List LeafPtr) × IsRow s.leaves None row × (first_of row ≡ Some first)
    has_row = (leaf_row.row, leaf_row.is_row, first_is)

    module _ (inner : root.kind ≢ Leaf) {t : Nodes K V} where
      -- the renamed tree has the same pairs
      renamed_holds : (rename : LeafPtr → LeafPtr) → AreRenamed rename leaf_row.row s t → HoldsPairs bytes P t (Some root) len pairs
      renamed_holds rename are = record {
        tree = Some (renamed (child_renamed rename) has.layout);
        canonical =
            subst (λ name. IsCanonicalTree bytes P t name pairs (renamed (child_renamed rename) has.layout))
            (inner_stays rename root.kind root.slot inner)
            (canonical_renamed are has.by leaf_row.names_are);
        no_other = none_beside are has.by leaf_row.names_are has.no_other;
        len_is = has.len_is;
      }

      -- so the pairs are held, whether the leaves were sorted or an allocation failed
      sorted_holds : {E : Type 0} (result : Result (Unit {0}) E) →
          ((row : List LeafPtr) → IsRow s.leaves None row → first_of row ≡ Some first →
          OnOk result ((rename : LeafPtr → LeafPtr) × AreRenamed rename row s t)) →
          OnErr result (t ≡ s) → HoldsPairs bytes P t (Some root) len pairs
      sorted_holds (Ok done) sorted refused = let (rename, are) = sorted leaf_row.row leaf_row.is_row first_is in renamed_holds rename are
      sorted_holds (Err error) sorted refused =
          subst (λ z. HoldsPairs bytes P z (Some root) len pairs) (sym refused)
          (record { tree = Some has.layout; canonical = has.by; no_other = has.no_other; len_is = has.len_is })

module _ {K V : Type 0} {bytes : K × V → List ℕ} {P : ℕ} {s : Nodes K V} {root : Option OpaqueNodePtr} {name : OpaqueNodePtr} {len : ℕ}
    {pairs : List (K × V)} {first : LeafPtr}
    (root_is : root ≡ Some name) (holds : HoldsPairs bytes P s root len pairs)
    (is_first : (layout : Tree OpaqueNodePtr (K × V)) → IsFullTree s name layout → HasFirstLeaf layout (leaf_name first)) where
  -- the leaves below a root can be sorted
  pub can_sort : (row : List LeafPtr) × IsRow s.leaves None row × (first_of row ≡ Some first)
  can_sort = let has = at_some root_is holds in has_row has (is_first has.layout (has_children _ _ _ _ _ has.layout has.by))

  -- and an inner node as root then holds the same pairs
  pub still_holds : {E : Type 0} {t : Nodes K V} (inner : InnerPtr) → inner_name inner ≡ name → inner.kind ≢ Leaf → (result : Result (Unit {0}) E) →
      ((row : List LeafPtr) → IsRow s.leaves None row → first_of row ≡ Some first → OnOk result ((rename : LeafPtr → LeafPtr) × AreRenamed rename row s t)) →
      OnErr result (t ≡ s) → HoldsPairs bytes P t root len pairs
  still_holds {t = t} inner inner_is proper result sorted refused =
      let has = at_some root_is holds in
      subst (λ r. HoldsPairs bytes P t r len pairs) (sym root_is)
      (sorted_holds has (is_first has.layout (has_children _ _ _ _ _ has.layout has.by)) (λ e. proper (ap (λ z. z.kind) inner_is ∙ e)) result sorted refused)
