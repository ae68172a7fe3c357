-- A store with the same nodes under the same names, as it is once memory is reserved.
use Rattle.std.proofs.Common.{◌≡◌, ℕ, List, refl, ap₂, sym, ◌∙◌, subst}
use Rattle.art_model.specs.Prelude.{SameNodes, Nodes, OpaqueNodePtr, IsCanonicalTree, content_at, Tree}
use Rattle.art_model.proofs.stores.StoreLaws.{has_one_map}
use Rattle.art_writing.proofs.Elsewhere as elsewhere
use Rattle.art_writing.specs.Inserted.{IsPointIn}
use Rattle.art_writing.specs.Overwritten.{IsOverwritePointIn, IsPrefixPointIn, root_of}
use Rattle.art_writing.specs.Points.{AnswersTo, AnswersToOverwrite, IsPointFor}
use Rattle.art_writing.specs.declared.insert.InsertPoint.{InsertPoint}
use Rattle.art_writing.specs.declared.insert.OverwritePoint.{OverwritePoint}
use Rattle.art_writing.specs.declared.insert.PrefixInsertPoint.{PrefixInsertPoint}
use Rattle.art_writing.specs.declared.insert.PrefixInsertPoint.TheVariants as points

module _ {K V : Type 0} {bytes : K × V → List ℕ} {P : ℕ} {s : Nodes K V} where
  -- a canonical root stays one
  pub tree_stays : {mid : Nodes K V} {root : OpaqueNodePtr} {pairs : List (K × V)} {layout : Tree OpaqueNodePtr (K × V)} → SameNodes s mid →
      IsCanonicalTree bytes P s root pairs layout → IsCanonicalTree bytes P mid root pairs layout
  tree_stays {mid} same by =
      elsewhere.tree_stays by (λ k used. ap₂ (λ leaves inners. content_at
      (record mid { leaves = leaves; inners = inners }) k) same.0 same.1)

  -- the point fits each layout of its root
  pub answers_to : {key : List ℕ} {point : InsertPoint} {pairs : List (K × V)} {layout : Tree OpaqueNodePtr (K × V)} → IsPointIn bytes P s key point →
      IsCanonicalTree bytes P s point.root pairs layout → AnswersTo bytes P layout key point
  answers_to {key} {point} {pairs} {layout} (others, other, by, at) mine =
      subst (λ l. AnswersTo bytes P l key point) (has_one_map bytes P s point.root pairs others layout other mine by).1 at

  -- and one of the other kind does
  pub overwrite_answers_to : {key : List ℕ} {point : OverwritePoint} {pairs : List (K × V)} {layout : Tree OpaqueNodePtr (K × V)} →
      IsOverwritePointIn bytes P s key point →
      IsCanonicalTree bytes P s point.root pairs layout → AnswersToOverwrite bytes layout key point
  overwrite_answers_to {key} {point} {pairs} {layout} (others, other, by, at) mine =
      subst (λ l. AnswersToOverwrite bytes l key point) (has_one_map bytes P s point.root pairs others layout other mine by).1 at

  -- a point that was found for a root is a point of the store
  pub point_in : {root : OpaqueNodePtr} {text key : List ℕ} {point : InsertPoint} {pairs : List (K × V)} {layout : Tree OpaqueNodePtr (K × V)} →
      IsCanonicalTree bytes P s root pairs layout → text ≡ key → AnswersTo bytes P layout text point → IsPointIn bytes P s key point
  point_in {key = key} {point} {pairs} {layout} by same at = (
    pairs,
    layout,
    subst (λ r. IsCanonicalTree bytes P s r pairs layout) (sym (at.root_is ∙ by.stands.0.named)) by,
    subst (λ k. AnswersTo bytes P layout k point) same at,
  )

  module _ {root : OpaqueNodePtr} {pairs : List (K × V)} {layout : Tree OpaqueNodePtr (K × V)} (key : List ℕ)
      (by : IsCanonicalTree bytes P s root pairs layout) where
    -- a point of either kind names the root that it was found for
    prefix_root : (point : PrefixInsertPoint) → IsPointFor bytes P key pairs layout point → root_of point ≡ root
    prefix_root (points.InsertPoint point) (free, at) = at.root_is ∙ by.stands.0.named
    prefix_root (points.OverwritePoint point) (related, at) = at.root_is ∙ by.stands.0.named

    -- which is canonical under that name
    pub prefix_at : (point : PrefixInsertPoint) → IsPointFor bytes P key pairs layout point → IsCanonicalTree bytes P s (root_of point) pairs layout
    prefix_at point at = subst (λ r. IsCanonicalTree bytes P s r pairs layout) (sym (prefix_root point at)) by

    -- and so it is a point of the store
    pub prefix_point_in : (point : PrefixInsertPoint) → IsPointFor bytes P key pairs layout point → IsPrefixPointIn bytes P s key point
    prefix_point_in (points.InsertPoint point) (free, at) = point_in by refl at
    prefix_point_in (points.OverwritePoint point) (related, at) = (pairs, layout, prefix_at (points.OverwritePoint point) (related, at), at)
