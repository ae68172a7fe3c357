-- Pairs are put in the order of their keys as in any other one, if those with equal keys stay in their order.
use Rattle.std.proofs.Common.{◌≡◌, ℕ, suc, List, [], ◌∷◌, Bool, true, false, not, ◌&&◌, cond, ◌⊎◌, inl, inr, refl, ap, sym, ◌∙◌, subst, arith, add-one, IsPermutation, Result, Ok, Err, IfOk, OnOk}
use Rattle.std.specs.List.{AllByRecursion as Each}
use Rattle.std.specs.List.Sorted.{IsSortedBy, IsStableBy, ties}
use Rattle.std.specs.Cmp.{IsStrictWeakOrder}
use Rattle.std.proofs.lemmas.Bool.{true≢false}
use Rattle.std.proofs.lemmas.List.Elements.{All-from_recursion, filter_agree, recursion_from_All}
use Rattle.std.proofs.lemmas.List.Sorted.{All-permutation, IsPermutation-sym}
use Rattle.art_building.specs.Sorted.{AreSorted, comes_before}
use Rattle.art_keys.specs.Prefixes.{HasNoPrefixes}
use Rattle.art_keyed.specs.KeyedPairs.{HaveKeys}
use Rattle.art_keyed.proofs.Keyed.{never_in_conflict, put_keeps}
use Rattle.art_map.specs.MapCalls.{put_all}
use Rattle.art_iterating.specs.MapItems.{keys_of}
use Rattle.art_sets.specs.SetKeys.{add_all, as_pairs}
use Rattle.art_sets.proofs.SetLaws.{keys_put}
use Rattle.art_model.specs.Changes.{put_pair}
use Rattle.art_parts.specs.Keys.{are_same, is_before}
use Rattle.art_model.specs.Pairs.{IsMap, first_of, of_key, put, stored_for, with_key}
use Rattle.art_model.proofs.keys.Keys.{before_apart, front_same, not_same, same_equal}
use Rattle.art_model.proofs.keys.KeyLaws.{order_is_strict, order_is_total}
use Rattle.art_model.proofs.lists.Filters.{filter_passes}
use Rattle.art_model.proofs.lists.Lists.{Each-weaker}
use Rattle.art_model.proofs.pairs.MapLaws.{maps_are_what_is_found, maps_stay_maps, put_is_found}
use Rattle.art_model.proofs.pairs.Puts.{stored_for-new, stored_for-old}

-- a key is not the same as one after it
before_differs : (a b : List ℕ) → is_before a b ≡ true → are_same a b ≡ false
before_differs a b h = not_same a b (λ e. true≢false (sym h ∙ ap (λ k. is_before k b) e ∙ order_is_strict b))

after_differs : (a b : List ℕ) → is_before b a ≡ true → are_same a b ≡ false
after_differs a b h = not_same a b (λ e. true≢false (sym h ∙ ap (is_before b) e ∙ order_is_strict b))

-- keys are the same where neither comes before the other
neither_before : (a b : List ℕ) → (not (is_before a b) && not (is_before b a)) ≡ are_same a b
neither_before a b = go (order_is_total a b)
  where
    go : (is_before a b ≡ true) ⊎ ((a ≡ b) ⊎ (is_before b a ≡ true)) → (not (is_before a b) && not (is_before b a)) ≡ are_same a b
    go (inl h) = rw h (sym (before_differs a b h))
    go (inr (inl e)) = rw (e, order_is_strict b) (sym (front_same b))
    go (inr (inr h)) = rw (before_apart b a h, h) (sym (after_differs a b h))

module _ {K V : Type 0} (bytes : K → List ℕ) where
  abbrev Of : K × V → List ℕ
  Of = of_key bytes

  -- ---- what a stable sort finds under a key

  module _ (xs ys : List (K × V)) (stable : IsStableBy (comes_before bytes) xs ys) where
    tied : (x : K × V) → with_key Of (bytes x.0) ys ≡ with_key Of (bytes x.0) xs
    tied x =
        let alike = filter_agree (ties (comes_before bytes) x) (λ y. are_same (bytes x.0) (bytes y.0)) (λ y. neither_before (bytes x.0) (bytes y.0)) in
        sym (alike ys) ∙ stable x ∙ alike xs

    -- the first pair that is found under a key has it
    first_found : (key : List ℕ) (pairs us : List (K × V)) (x : K × V) → with_key Of key pairs ≡ x ∷ us → bytes x.0 ≡ key
    first_found key pairs us x e =
        same_equal key (bytes x.0) (subst (Each (λ y. are_same key (bytes y.0) ≡ true)) e (filter_passes (λ y. are_same key (bytes y.0)) pairs)).0

    sorted_is_found : (key : List ℕ) → with_key Of key ys ≡ with_key Of key xs
    sorted_is_found key = go (with_key Of key ys) (with_key Of key xs) refl refl
      where
        go : (us vs : List (K × V)) → with_key Of key ys ≡ us → with_key Of key xs ≡ vs → with_key Of key ys ≡ with_key Of key xs
        go [] [] e f = e ∙ sym f
        go [] (x ∷ vs) e f = subst (λ k. with_key Of k ys ≡ with_key Of k xs) (first_found key xs vs x f) (tied x)
        go (y ∷ us) vs e f = subst (λ k. with_key Of k ys ≡ with_key Of k xs) (first_found key ys us y e) (tied y)

  -- ---- what is found after puts

  -- what is stored under a key once pairs with that key were put: the first key, with the last value
  abbrev folded : List (K × V) → List (K × V) → List (K × V)
  folded old [] = old
  folded [] (x ∷ xs) = folded (x ∷ []) xs
  folded (o ∷ os) (x ∷ xs) = folded ((o.0, x.1) ∷ []) xs

  put_is_folded : (key : List ℕ) (x : K × V) (pairs xs : List (K × V)) → are_same key (bytes x.0) ≡ true →
      folded (stored_for Of x pairs ∷ []) xs ≡ folded (with_key Of key pairs) (x ∷ xs)
  put_is_folded key x pairs xs same = go (with_key Of key pairs) (ap (λ k. with_key Of k pairs) (same_equal key (bytes x.0) same))
    where
      go : (old : List (K × V)) → with_key Of (bytes x.0) pairs ≡ old → folded (stored_for Of x pairs ∷ []) xs ≡ folded old (x ∷ xs)
      go [] e = ap (λ z. folded (z ∷ []) xs) (stored_for-new Of x pairs (ap first_of e))
      go (o ∷ os) e = ap (λ z. folded (z ∷ []) xs) (stored_for-old Of x pairs o (ap first_of e))

  puts_are_folded : (key : List ℕ) (xs pairs : List (K × V)) → with_key Of key (put_all bytes xs pairs) ≡ folded (with_key Of key pairs) (with_key Of key xs)
  puts_are_folded key [] pairs = refl
  puts_are_folded key (x ∷ xs) pairs = puts_are_folded key xs (put Of x pairs) ∙ go (are_same key (bytes x.0)) refl
    where
      go : (t : Bool) → are_same key (bytes x.0) ≡ t →
          folded (with_key Of key (put Of x pairs)) (with_key Of key xs) ≡ folded (with_key Of key pairs) (cond t (x ∷ with_key Of key xs) (with_key Of key xs))
      go true e =
          ap (λ old. folded old (with_key Of key xs)) (put_is_found bytes key x pairs ∙ ap (λ t. cond t (stored_for Of x pairs ∷ []) (with_key Of key pairs)) e)
          ∙ put_is_folded key x pairs (with_key Of key xs) e
      go false e =
          ap (λ old. folded old (with_key Of key xs)) (put_is_found bytes key x pairs ∙ ap (λ t. cond t (stored_for Of x pairs ∷ []) (with_key Of key pairs)) e)

  -- ---- keys of a type leave a map

  module _ (is_key : K → Type 0) (law : HasNoPrefixes is_key bytes) where
    put_is_map : (x : K × V) (pairs : List (K × V)) → is_key x.0 → HaveKeys is_key pairs → IsMap Of pairs → IsMap Of (put Of x pairs)
    put_is_map x pairs own all map =
        subst (λ (t : Bool). IsMap Of (cond t pairs (put Of x pairs))) (never_in_conflict V is_key bytes law x.0 pairs own all)
        (maps_stay_maps bytes (put_pair x ∷ []) pairs map)

    puts_are_map : (xs pairs : List (K × V)) → HaveKeys is_key xs → HaveKeys is_key pairs → IsMap Of pairs → IsMap Of (put_all bytes xs pairs)
    puts_are_map [] pairs own all map = map
    puts_are_map (x ∷ xs) pairs own all map =
        puts_are_map xs (put Of x pairs) own.1 (put_keeps V is_key bytes x.0 x.1 pairs own.0 all) (put_is_map x pairs own.0 all map)

    -- sorted pairs have the keys that they had before
    keys_before : (xs ys : List (K × V)) → IsPermutation xs ys → HaveKeys is_key ys → HaveKeys is_key xs
    keys_before xs ys moved own =
        recursion_from_All (λ x. is_key x.0) xs
        (All-permutation (λ x. is_key x.0) ys xs (IsPermutation-sym xs ys moved) (All-from_recursion (λ x. is_key x.0) ys own))

    -- so sorted pairs leave the map that they leave in any other order
    sorted_puts : (xs ys : List (K × V)) → IsPermutation xs ys → IsStableBy (comes_before bytes) xs ys → HaveKeys is_key ys →
        put_all bytes ys [] ≡ put_all bytes xs []
    sorted_puts xs ys moved stable own =
        maps_are_what_is_found Of (put_all bytes xs []) (put_all bytes ys []) (puts_are_map xs [] (keys_before xs ys moved own) tt tt) (puts_are_map ys [] own tt tt)
        (λ key. puts_are_folded key ys [] ∙ ap (folded []) (sorted_is_found xs ys stable key) ∙ sym (puts_are_folded key xs []))

    -- the pairs are as they came, and so are their keys
    module _ (xs ys : List (K × V)) (moved : IsPermutation xs ys) where
      pub as_unsorted : {E : Type 0} → IsStableBy (comes_before bytes) xs ys → (result : Result (List (K × V)) E) →
          IfOk result (λ map. map ≡ put_all bytes ys []) → OnOk result (HaveKeys is_key ys) → IfOk result (λ map. map ≡ put_all bytes xs [])
      as_unsorted stable (Ok map) put own = put ∙ sorted_puts xs ys moved stable own
      as_unsorted stable (Err error) put own = tt

      pub known_unsorted : {E : Type 0} → (result : Result (List (K × V)) E) → OnOk result (HaveKeys is_key ys) → OnOk result (HaveKeys is_key xs)
      known_unsorted (Ok map) own = keys_before xs ys moved own
      known_unsorted (Err error) own = tt

  -- ---- what a sort ensures

  -- each is compared with all after it, where neighbours are in order
  pub all_sorted : IsStrictWeakOrder (comes_before {V = V} bytes) → (xs : List (K × V)) → IsSortedBy (comes_before bytes) xs → AreSorted bytes xs
  all_sorted order [] sorted = tt
  all_sorted order (x ∷ xs) sorted =
      let rest : IsSortedBy (comes_before bytes) xs = λ k d low high. rw add-one (rw add-one at (sorted (suc k) d (omega arith) (omega arith))) in
      let up = all_sorted order xs rest in
      (from_next xs sorted up, up)
    where
      from_next : (ys : List (K × V)) → IsSortedBy (comes_before bytes) (x ∷ ys) → AreSorted bytes ys → Each (λ y. comes_before bytes y x ≡ false) ys
      from_next [] s up = tt
      from_next (y ∷ ys) s up =
          let first : comes_before bytes y x ≡ false = s 0 x (omega arith) (omega arith) in
          (first, Each-weaker (λ z. comes_before bytes z y ≡ false) (λ z. comes_before bytes z x ≡ false) (λ z h. order.chain z y x h first) ys up.0)

-- keys that are put without values are added
module _ {K : Type 0} (is_key : K → Type 0) (bytes : K → List ℕ) (law : HasNoPrefixes is_key bytes) where
  keys_are_added : (keys : List K) (pairs : List (K × Unit {0})) → HaveKeys is_key (as_pairs keys) → HaveKeys is_key pairs → IsMap (of_key bytes) pairs →
      keys_of (put_all bytes (as_pairs keys) pairs) ≡ add_all bytes keys (keys_of pairs)
  keys_are_added [] pairs own all map = refl
  keys_are_added (k ∷ keys) pairs own all map =
      keys_are_added keys (put (of_key bytes) (k, tt) pairs) own.1 (put_keeps (Unit {0}) is_key bytes k tt pairs own.0 all) (put_is_map bytes is_key law (k, tt) pairs own.0 all map)
      ∙ ap (add_all bytes keys) (keys_put bytes k tt pairs map)

  pub as_keys : {E : Type 0} (keys : List K) (pairs : List (K × Unit {0})) → pairs ≡ as_pairs keys → (result : Result (List (K × Unit {0})) E) →
      IfOk result (λ map. map ≡ put_all bytes pairs []) → OnOk result (HaveKeys is_key pairs) → IfOk result (λ map. keys_of map ≡ add_all bytes keys [])
  as_keys keys pairs is (Ok map) put own =
      ap keys_of (put ∙ ap (λ xs. put_all bytes xs []) is) ∙ keys_are_added keys [] (subst (HaveKeys is_key) is own) tt tt
  as_keys keys pairs is (Err error) put own = tt
