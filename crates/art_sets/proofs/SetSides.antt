-- The first of the keys that pass a test, and of two lists that are merged.
use Rattle.std.proofs.Common.{◌≡◌, ℕ, ◌+◌, ◌≤◌, IfSome, suc, List, [], ◌∷◌, Bool, ◌||◌, ◌&&◌, Option, Some, None, cond, filter, length, refl, ap, sym, ◌∙◌, subst, arith, true, false, not, is_some, Bor, Ordering, Less, Equal, Greater}
use Rattle.std.specs.Iterator.{UpTo, at_most}
use Rattle.std.specs.List.{list_all, list_any}
use Rattle.std.specs.Ordering.{match_ordering}
use Rattle.std.specs.Set.{merge_step, sorted_merge}
use Rattle.art_iterating.specs.MapItems.{ShowsFirst}
use Rattle.art_sets.specs.SetAlgebra.{IsSum}

-- a bound for the length of a list is one for its items
pub up_to : (n : ℕ) (r : Option ℕ) → IfSome r (λ most. n ≤ most) → IfSome r (UpTo (at_most n))
up_to n None few = tt
up_to n (Some most) few = (tt, few)

not-not : (b : Bool) → not (not b) ≡ b
not-not true = refl
not-not false = refl

module _ {K : Type 0} (test : K → Bool) where
  -- a key is returned of those that pass a test exactly if one passes
  some_passes : (keys : List K) (r : Option (Bor K)) (left : List K) → ShowsFirst (filter test keys) r left → is_some r ≡ list_any test keys
  some_passes [] None left h = refl
  some_passes [] (Some x) left h = absurd cc
  some_passes (k ∷ ks) r left h = go (test k) (some_passes ks r left) h
    where
      go : (b : Bool) → (ShowsFirst (filter test ks) r left → is_some r ≡ list_any test ks) → ShowsFirst (cond b (k ∷ filter test ks) (filter test ks)) r left →
          is_some r ≡ (b || list_any test ks)
      go false ih shown = ih shown
      go true ih shown = some_came r shown
        where
          some_came : (r : Option (Bor K)) → ShowsFirst (k ∷ filter test ks) r left → is_some r ≡ true
          some_came None shown = absurd cc
          some_came (Some x) shown = refl

  any_fails : (keys : List K) → list_any (λ k. not (test k)) keys ≡ not (list_all test keys)
  any_fails [] = refl
  any_fails (k ∷ ks) = go (test k) (any_fails ks)
    where
      go : (b : Bool) → list_any (λ j. not (test j)) ks ≡ not (list_all test ks) → (not b || list_any (λ j. not (test j)) ks) ≡ not (b && list_all test ks)
      go true ih = ih
      go false ih = refl

  pub few_pass : (keys : List K) → length (filter test keys) ≤ length keys
  few_pass [] = omega arith
  few_pass (k ∷ ks) = go (test k) (few_pass ks)
    where
      go : (b : Bool) → length (filter test ks) ≤ length ks → length (cond b (k ∷ filter test ks) (filter test ks)) ≤ suc (length ks)
      go true ih = omega arith
      go false ih = omega arith

module _ {K : Type 0} (test : K → Bool) where
  -- none of those that fail is returned if all pass
  pub all_pass : (keys : List K) (r : Option (Bor K)) (left : List K) (none : Bool) → ShowsFirst (filter (λ k. not (test k)) keys) r left →
      is_some r ≡ not none → none ≡ list_all test keys
  all_pass keys r left none h is =
      sym (not-not none) ∙ ap not (sym is ∙ some_passes (λ k. not (test k)) keys r left h ∙ any_fails test keys) ∙ not-not (list_all test keys)

  -- and none of those that pass if all fail
  pub none_passes : (keys : List K) (r : Option (Bor K)) (left : List K) (none : Bool) → ShowsFirst (filter test keys) r left →
      is_some r ≡ not none → none ≡ not (list_any test keys)
  none_passes keys r left none h is = sym (not-not none) ∙ ap not (sym is ∙ some_passes test keys r left h)

module _ {K : Type 0} (order : K → K → Ordering) (both : Bool) where
  lone : (xs : List K) → sorted_merge order both xs [] ≡ xs
  lone [] = refl
  lone (x ∷ xs) = refl

  -- if the second list is empty, the first one is left
  pub first_alone : (before xs left ys : List K) (r : Option (Bor K)) → before ≡ sorted_merge order both xs ys → ys ≡ [] → ShowsFirst xs r left →
      ShowsFirst before r (sorted_merge order both left ys)
  first_alone before xs left ys r same e h =
      let alone : (zs : List K) → sorted_merge order both zs ys ≡ zs = λ zs. ap (sorted_merge order both zs) e ∙ lone zs in
      subst (λ zs. ShowsFirst zs r (sorted_merge order both left ys)) (sym (same ∙ alone xs)) (subst (λ zs. ShowsFirst xs r zs) (sym (alone left)) h)

  fewer_step : (x : K) (xs : List K) (on : List K → List K) → ((ys : List K) → length (on ys) ≤ length xs + length ys) →
      (ys : List K) → length (merge_step order both x xs on ys) ≤ suc (length xs) + length ys
  fewer_step x xs on ih [] = omega arith
  fewer_step x xs on ih (y ∷ ys) = by (order x y) (ih (y ∷ ys)) (ih ys) (fewer_step x xs on ih ys)
    where
      equal : (b : Bool) → length (on ys) ≤ length xs + length ys → length (cond b (x ∷ on ys) (on ys)) ≤ suc (length xs) + suc (length ys)
      equal true few = omega arith
      equal false few = omega arith

      by : (o : Ordering) → length (on (y ∷ ys)) ≤ length xs + suc (length ys) → length (on ys) ≤ length xs + length ys →
          length (merge_step order both x xs on ys) ≤ suc (length xs) + length ys →
          length (match_ordering o (x ∷ on (y ∷ ys)) (cond both (x ∷ on ys) (on ys)) (y ∷ merge_step order both x xs on ys)) ≤ suc (length xs) + suc (length ys)
      by Less first few second = omega arith
      by Equal first few second = equal both few
      by Greater first few second = omega arith

  -- the merged list has at most the keys of both lists
  few_merged : (xs ys : List K) → length (sorted_merge order both xs ys) ≤ length xs + length ys
  few_merged [] ys = omega arith
  few_merged (x ∷ xs) ys = fewer_step x xs (sorted_merge order both xs) (few_merged xs) ys

  -- and so their number is a bound
  pub bounded : (xs ys : List K) (a b r : Option ℕ) → IfSome a (λ n. n ≡ length xs) → IfSome b (λ n. n ≡ length ys) → IfSome r (IsSum a b) →
      IfSome r (λ most. length (sorted_merge order both xs ys) ≤ most)
  bounded xs ys a b None left right sum = tt
  bounded xs ys a b (Some most) left right (n, m, first, second, is) =
      let l : n ≡ length xs = subst (λ o. IfSome o (λ n. n ≡ length xs)) first left in
      let k : m ≡ length ys = subst (λ o. IfSome o (λ n. n ≡ length ys)) second right in
      let few = few_merged xs ys in
      omega arith
