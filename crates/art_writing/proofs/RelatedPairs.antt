-- How many pairs are related to the key of a point: one where they are in a leaf, so that an insertion never fails for a single pair.
use Rattle.std.proofs.Common.{◌≡◌, ◌≢◌, ℕ, ◌≤◌, List, [], ◌∷◌, length, is_some, true, false, refl, ap, sym, ◌∙◌, subst, arith, ◌⊎◌, inl, inr}
use Rattle.std.proofs.Math.Dec.{leb-zero}
use Rattle.art_model.specs.Prelude.{leaf_name, Nodes, NodeType, Leaf, OpaqueNodePtr, IsCanonicalTree, are_related, are_same, name_of, first_of, is_conflict, related_to, with_key, is_covered, pairs_of, pair_of, Tree, leaf}
use Rattle.art_model.proofs.stores.Canonical.{laid_out}
use Rattle.art_model.proofs.lists.Filters.{filter_all}
use Rattle.art_model.proofs.places.Paths.{related_at}
use Rattle.art_model.proofs.pairs.PutOver.{free_unrelated, same_rest}
use Rattle.art_model.proofs.pairs.Puts.{any_is_first}
use Rattle.art_model.proofs.stores.Views.{leaf_or}
use Rattle.art_writing.specs.Inserted.{placed_for}
use Rattle.art_writing.specs.Overwritten.{IsOverwritePointIn, placed_for_overwrite, placed_for_prefix}
use Rattle.art_writing.specs.Points.{AnswersTo, AnswersToOverwrite, IsPointFor}
use Rattle.art_writing.specs.declared.insert.InsertPoint.{InsertPoint}
use Rattle.art_writing.specs.declared.insert.OverwritePoint.{OverwritePoint}
use Rattle.art_writing.specs.declared.insert.PrefixInsertPoint.{PrefixInsertPoint}
use Rattle.art_writing.specs.declared.insert.PrefixInsertPoint.TheVariants as points
use Rattle.art_writing.proofs.Overwrites.{related_leaf, subtree_at}
use Rattle.art_writing.proofs.Unstored.{refused_new}

-- what is overwritten: one pair, in its leaf, or more, below an inner node
abbrev pub IsOne : NodeType → ℕ → Type 0
IsOne kind count = ((kind ≡ Leaf) × (count ≡ 1)) ⊎ ((kind ≢ Leaf) × (2 ≤ count))

module _ {K V : Type 0} (bytes : K × V → List ℕ) (P : ℕ) {s : Nodes K V} {root : OpaqueNodePtr} {pairs : List (K × V)} {layout : Tree OpaqueNodePtr (K × V)}
    (by : IsCanonicalTree bytes P s root pairs layout) where
  -- under the root that a point names
  under_root : {name : OpaqueNodePtr} → name ≡ name_of layout → IsCanonicalTree bytes P s name pairs layout
  under_root is = subst (λ n. IsCanonicalTree bytes P s n pairs layout) (sym (is ∙ by.stands.0.named)) by

  -- as many pairs are related to the key as the end node has, which is replaced
  pub related_count : {key : List ℕ} (point : OverwritePoint) → AnswersToOverwrite bytes layout key point →
      IsOne point.overwrite_point.kind (length (related_to bytes key pairs))
  related_count {key} point at =
      let here = under_root at.root_is in
      let answers : IsOverwritePointIn bytes P s key point = (pairs, layout, here, at) in
      let within : related_to bytes key pairs ≡ related_to bytes key (pairs_of layout) = ap (related_to bytes key) (sym (laid_out by).pairs_are) in
      elim (leaf_or point.overwrite_point) [
        | inl (p, e) ↦
            let l = related_leaf answers (sym e) here in
            let all : related_to bytes key pairs ≡ pair_of l.at.shown ∷ [] =
            within ∙ ap (λ t. related_to bytes key (pairs_of t)) (sym l.at.whole) ∙
            related_at bytes P l.at.path l.at.place key (leaf (leaf_name p) (pair_of l.at.shown)) l.at.hole.path l.at.hole.front ∙ rw l.related refl in
            inl (ap (λ z. z.kind) e, ap length all)
        | inr off ↦
            let a = subtree_at answers off here in
            let all : related_to bytes key pairs ≡ pairs_of a.node =
            within ∙ ap (λ t. related_to bytes key (pairs_of t)) (sym a.whole) ∙
            related_at bytes P a.path a.place key a.node a.hole.path a.hole.front ∙ filter_all (λ y. are_related key (bytes y)) (pairs_of a.node) a.related in
            inr (off, subst (λ ps. 2 ≤ length ps) (sym all) a.two)
      ]

  -- where an insertion may fail no pair is related
  new_alone : {key : List ℕ} (new : K × V) (point : InsertPoint) → is_conflict bytes key pairs ≡ false → AnswersTo bytes P layout key point →
      (is_covered (placed_for s point.insert_kind) s.promise ≡ true → ⊥) → length (related_to bytes key pairs) ≢ 1
  new_alone {key} new point free at off one =
      none (with_key bytes key pairs) (sym (any_is_first (λ y. are_same key (bytes y)) pairs) ∙ refused_new (under_root at.root_is) at off)
      (ap length (sym (same_rest bytes new key pairs (free_unrelated bytes new key pairs free)).1) ∙ one)
    where
      none : (xs : List (K × V)) → is_some (first_of xs) ≡ false → length xs ≢ 1
      none [] e one = absurd cc
      none (x ∷ xs) e one = absurd cc

  -- a failure is never for a single pair
  pub not_alone : (key : List ℕ) (new : K × V) (point : PrefixInsertPoint) → IsPointFor bytes P key pairs layout point →
      (is_covered (placed_for_prefix s point) s.promise ≡ true → ⊥) → length (related_to bytes key pairs) ≢ 1
  not_alone key new (points.InsertPoint point) (free, at) off one = new_alone new point free at off one
  not_alone key new (points.OverwritePoint point) (related, at) off one = go (related_count point at)
    where
      go : IsOne point.overwrite_point.kind (length (related_to bytes key pairs)) → ⊥
      go (inl (e, f)) = off (ap (λ kind. is_covered (placed_for_overwrite kind) s.promise) e ∙ leb-zero s.promise.leaves)
      go (inr (kind, two)) = absurd (omega arith)
