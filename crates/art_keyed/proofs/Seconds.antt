-- Two keys as one are in a range of the same first key exactly if the second one is in the range.
use Rattle.std.proofs.Common.{◌≡◌, ℕ, List, Bool, true, false, not, ◌&&◌, refl, ap, sym, ◌∙◌}
use Rattle.std.proofs.lemmas.Bool.{true≢false}
use Rattle.std.proofs.lemmas.Cmp.{nat_list_cmp_total}
use Rattle.std.proofs.lemmas.Map.Lookups.{exact_bytes}
use Rattle.std.specs.Cmp.Lexicographic.{slice_cmp}
use Rattle.std.specs.Ordering.{is_lt, nat_cmp, ordering_reverse, ordering_then}
use Rattle.std.specs.declared.cmp.Ordering.{Ordering}
use Rattle.std.specs.declared.cmp.Ordering.TheVariants.{Less, Equal, Greater}
use Rattle.std.specs.declared.ops.Bound.TheVariants.{Excluded, Included}
use Rattle.art_keys.specs.Joins.{pair_cmp}
use Rattle.art_keys.specs.Prefixes.{KeepsOrder}
use Rattle.art_parts.specs.Keys.{are_same, is_before}
use Rattle.art_model.proofs.keys.KeyLaws.{order_is_strict}
use Rattle.art_model.proofs.keys.Keys.{front_same, not_same}
use Rattle.art_keyed.specs.KeyedPairs.{HaveKeys, keys_between}
use Rattle.art_keyed.specs.KeyedSeconds.{pairs_with_both}
use Rattle.art_keyed.proofs.KeyRanges.{filter_same}

-- a key that is less or greater is not the same
less_other : (a b : List ℕ) → slice_cmp nat_cmp a b ≡ Less → are_same b a ≡ false
less_other a b less = not_same b a (λ same. true≢false (sym (ap is_lt less) ∙ ap (λ k. is_before a k) same ∙ order_is_strict a))

greater_other : (a b : List ℕ) → slice_cmp nat_cmp a b ≡ Greater → are_same b a ≡ false
greater_other a b greater =
    let less : is_before b a ≡ true = ap is_lt (nat_list_cmp_total.antisymm b a ∙ ap ordering_reverse greater) in
    not_same b a (λ same. true≢false (sym less ∙ ap (λ k. is_before k a) same ∙ order_is_strict a))

equal_same : (a b : List ℕ) → slice_cmp nat_cmp a b ≡ Equal → are_same b a ≡ true
equal_same a b equal = ap (λ k. are_same k a) (sym (exact_bytes a b equal)) ∙ front_same a

module _ {A B : Type 0} (is_first : A → Type 0) (first : A → List ℕ) {by_first : A → A → Ordering}
    (keeps : KeepsOrder is_first first by_first) (by_second : B → B → Ordering) (key : A)
    (of_key' : is_first key) (from to : B) where
  abbrev in_range : A × B → Bool
  in_range both = not (is_lt (pair_cmp by_first by_second both (key, from))) && is_lt (pair_cmp by_first by_second both (key, to))

  abbrev second_in_range : A × B → Bool
  second_in_range both = not (is_lt (by_second both.1 from)) && is_lt (by_second both.1 to)

  seconds : (both : A × B) → is_first both.0 → in_range both ≡ (are_same (first key) (first both.0) && second_in_range both)
  seconds both of_both = go (by_first both.0 key) (keeps both.0 key of_both of_key')
    where
      go : (o : Ordering) → slice_cmp nat_cmp (first both.0) (first key) ≡ o →
          (not (is_lt (ordering_then o (by_second both.1 from))) && is_lt (ordering_then o (by_second both.1 to)))
          ≡ (are_same (first key) (first both.0) && second_in_range both)
      go Less e = rw (less_other (first both.0) (first key) e) refl
      go Equal e = rw (equal_same (first both.0) (first key) e) refl
      go Greater e = rw (greater_other (first both.0) (first key) e) refl

  pub range_seconds : {V : Type 0} (Known : A × B → Type 0) → ((both : A × B) → Known both → is_first both.0) →
      (pairs : List ((A × B) × V)) → HaveKeys Known pairs →
      keys_between (pair_cmp by_first by_second) (Included (key, from)) (Excluded (key, to)) pairs
      ≡ pairs_with_both first (first key) by_second (Included from) (Excluded to) pairs
  range_seconds Known own pairs all = filter_same (λ pair. Known pair.0) _ _ (λ pair known. seconds pair.0 (own pair.0 known)) pairs all
