-- The first of the texts of at least so many bytes that are prefixes of a query.
use Rattle.std.proofs.Common.{◌≡◌, ℕ, ◌+◌, List, [], ◌∷◌, ◌++◌, length, filter, leb, refl, ap, ◌∙◌, subst, append_assoc, Some, None, Bool, true, false}
use Rattle.std.specs.List.{AllByRecursion as Each}
use Rattle.std.proofs.lemmas.Bool.{le-leb, leb-true}
use Rattle.std.proofs.lemmas.List.Elements.{filter-append}
use Rattle.art_nodes.specs.Nodes.{Nodes}
use Rattle.art_parts.specs.declared.names.LeafPtr.{LeafPtr}
use Rattle.art_parts.specs.declared.names.OpaqueNodePtr.{OpaqueNodePtr}
use Rattle.art_model.specs.Canonical.{IsCanonicalTree}
use Rattle.art_parts.specs.Keys.{IsFront, Precedes, is_front}
use Rattle.art_model.specs.Pairs.{IsMap, first_of, without_last}
use Rattle.art_model.specs.Paths.{pairs_before, pairs_after}
use Rattle.art_model.specs.Texts.{AreEnded, IsEndedBy, text_of}
use Rattle.art_model.specs.Trees.{Tree}
use Rattle.art_model.proofs.keys.Keys.{front_from}
use Rattle.art_model.proofs.keys.Texts.{ended_text, fronts_first, true_front}
use Rattle.art_model.proofs.lists.Filters.{Each-both, Each-filter, filter_passes}
use Rattle.art_model.proofs.lists.Lists.{Each-left, Each-weaker, filter_none, front_trans}
use Rattle.art_model.proofs.lists.Pairwises.{Pairwise-before}
use Rattle.art_ranges.specs.ShortTexts.{FindsFirst, IsSought, texts_from}
use Rattle.art_ranges.specs.TextWays.{EndsWalk, IsCovering}
use Rattle.art_reading.specs.declared.lookup.descent.End.TheVariants.{First}
use Rattle.art_ranges.proofs.LongestTexts.{around, at_leaf}

module _ {A : Type 0} (bytes : A → List ℕ) (query : List ℕ) (at_least : ℕ) where
  abbrev is_long : A → Bool
  is_long x = leb at_least (length (text_of bytes x))

  abbrev is_text : A → Bool
  is_text x = is_front (text_of bytes x) query

  -- if no text is searched for, there is no pair
  none_sought : (xs : List A) → Each (λ x. IsSought bytes query at_least x → ⊥) xs → texts_from bytes query at_least xs ≡ []
  none_sought xs off =
      filter_none is_long (filter is_text xs)
      (Each-both (λ x. IsSought bytes query at_least x → ⊥) (λ x. is_text x ≡ true) (λ x. is_long x ≡ false)
      (λ x o e. short x o e (is_long x) refl) (filter is_text xs)
      (Each-filter (λ x. IsSought bytes query at_least x → ⊥) is_text xs off) (filter_passes is_text xs))
    where
      short : (x : A) → (IsSought bytes query at_least x → ⊥) → is_text x ≡ true → (b : Bool) → is_long x ≡ b → b ≡ false
      short x o e true l = absurd (o (front_from (text_of bytes x) query e, leb-true at_least (length (text_of bytes x)) l))
      short x o e false l = refl

  -- the first pair whose text is searched for comes first
  first_sought : (before after : List A) (x : A) → Each (λ y. IsSought bytes query at_least y → ⊥) before → IsSought bytes query at_least x →
      first_of (texts_from bytes query at_least (before ++ x ∷ after)) ≡ Some x
  first_sought before after x off (on, long) =
      ap (λ ys. first_of (filter is_long ys)) (filter-append is_text before (x ∷ after))
      ∙ ap first_of (filter-append is_long (filter is_text before) (filter is_text (x ∷ after)))
      ∙ ap (λ ys. first_of (ys ++ filter is_long (filter is_text (x ∷ after)))) (none_sought before off)
      ∙ ap (λ ys. first_of (filter is_long ys)) here
      ∙ ap first_of there
    where
      here : filter is_text (x ∷ after) ≡ x ∷ filter is_text after
      here = rw (true_front (text_of bytes x) query on) refl

      there : filter is_long (x ∷ filter is_text after) ≡ x ∷ filter is_long (filter is_text after)
      there = rw (le-leb at_least (length (text_of bytes x)) long) refl

module _ {K V : Type 0} {s : Nodes K V} {bytes : K × V → List ℕ} {P : ℕ} {root : OpaqueNodePtr} {pairs : List (K × V)} {layout : Tree OpaqueNodePtr (K × V)}
    (by : IsCanonicalTree bytes P s root pairs layout) where
  module _ (end : ℕ) (ended : AreEnded bytes end pairs) (query : List ℕ) (at_least : ℕ) where
    pub first_none : EndsWalk bytes query at_least First pairs layout None → FindsFirst layout (texts_from bytes query at_least pairs) None
    first_none = none_sought bytes query at_least pairs

    module _ {name : LeafPtr} (c : IsCovering bytes query at_least First pairs layout name) where
      -- the leaf's text is a prefix of the query
      pub first_found : IsFront (text_of bytes c.pair) query → FindsFirst layout (texts_from bytes query at_least pairs) (Some name)
      first_found on = (
        c.pair,
        ap (λ xs. first_of (texts_from bytes query at_least xs)) split
            ∙ first_sought bytes query at_least (pairs_before c.has.path) (pairs_after c.has.path) c.pair off (on, c.long),
        c.has,
      )
        where
          Led : K × V → Type 0
          Led = λ y. IsSought bytes query at_least y → IsFront (text_of bytes c.pair) (text_of bytes y)

          split : pairs ≡ pairs_before c.has.path ++ c.pair ∷ pairs_after c.has.path
          split = around by c.has ∙ append_assoc (pairs_before c.has.path) (c.pair ∷ []) (pairs_after c.has.path)

          own : IsEndedBy end (bytes c.pair)
          own = at_leaf by c.has (λ x. IsEndedBy end (bytes x)) ended

          off : Each (λ y. IsSought bytes query at_least y → ⊥) (pairs_before c.has.path)
          off =
              Each-both (λ y. Precedes (bytes y) (bytes c.pair)) (λ y. IsEndedBy end (bytes y) × Led y) (λ y. IsSought bytes query at_least y → ⊥)
              (λ y before (e, led) sought.
              fronts_first end (bytes y) (bytes c.pair) e.text own.text e.is own.is e.above
              (subst (λ z. IsFront z e.text) (ap without_last own.is ∙ ended_text own.text end)
              (subst (λ z. IsFront (text_of bytes c.pair) z) (ap without_last e.is ∙ ended_text e.text end) (led sought))) before)
              (pairs_before c.has.path) (Pairwise-before (λ x y. Precedes (bytes x) (bytes y)) (pairs_before c.has.path)
              (pairs_after c.has.path) c.pair (subst (IsMap bytes) split by.is_map))
              (Each-both (λ y. IsEndedBy end (bytes y)) Led (λ y. IsEndedBy end (bytes y) × Led y) (λ y e l. (e, l)) (pairs_before c.has.path)
              (Each-left (λ y. IsEndedBy end (bytes y)) (pairs_before c.has.path) (c.pair ∷ pairs_after c.has.path) (subst (AreEnded bytes end) split ended))
              (Each-left Led (pairs_before c.has.path) (c.pair ∷ pairs_after c.has.path) (subst (Each Led) split c.covers)))

      -- it is not, and so no text is
      pub first_missed : (IsFront (text_of bytes c.pair) query → ⊥) → FindsFirst layout (texts_from bytes query at_least pairs) None
      first_missed off =
          none_sought bytes query at_least pairs
          (Each-weaker (λ y. IsSought bytes query at_least y → IsFront (text_of bytes c.pair) (text_of bytes y))
          (λ y. IsSought bytes query at_least y → ⊥)
          (λ y led sought. off (front_trans (text_of bytes c.pair) (text_of bytes y) query (led sought) sought.0)) pairs c.covers)
