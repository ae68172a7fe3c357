-- What holds for all keys holds in both parts of a map that is split; a range by the order of the keys is one by their
-- bytes.
use Rattle.std.proofs.Common.{◌≡◌, ℕ, List, [], ◌∷◌, ◌++◌, Bool, true, false, not, ◌&&◌, cond, filter, Option, Some, None, ap, sym, subst, ◌∙◌}
use Rattle.std.specs.List.{AllByRecursion as Each}
use Rattle.std.specs.Range.Bound.{bound_map}
use Rattle.std.specs.declared.cmp.Ordering.{Ordering}
use Rattle.std.specs.declared.ops.Bound.{Bound}
use Rattle.art_keys.specs.Prefixes.{KeepsOrder}
use Rattle.art_model.specs.Pairs.{of_key}
use Rattle.art_model.proofs.lists.Filters.{Each-filter}
use Rattle.art_model.proofs.lists.Lists.{Each-right}
use Rattle.art_map.specs.MapParts.{keys_before, keys_from, not_between, without}
use Rattle.art_keyed.specs.KeyedPairs.{HaveKeys, OnBound, is_key_from, is_key_up_to}
use Rattle.art_keyed.specs.KeyedParts.{keys_not_between, set_not_between}
use Rattle.art_keyed.proofs.KeyRanges.{filter_same, map_twice, same_from, same_up_to}
use denote.Ref.{Bor}

-- what holds for the elements that pass a test and for the others holds for all
each_part : {A : Type 0} (P : A → Type 0) (test : A → Bool) (xs : List A) → Each P (filter test xs) → Each P (filter (λ x. not (test x)) xs) → Each P xs
each_part P test [] passed failed = tt
each_part P test (x ∷ xs) passed failed = go (test x) (each_part P test xs) passed failed
  where
    go : (b : Bool) → (Each P (filter test xs) → Each P (filter (λ x. not (test x)) xs) → Each P xs) →
        Each P (cond b (x ∷ filter test xs) (filter test xs)) →
        Each P (cond (not b) (x ∷ filter (λ y. not (test y)) xs) (filter (λ y. not (test y)) xs)) → Each P (x ∷ xs)
    go true ih of_yes of_no = (of_yes.0, ih of_yes.1 of_no)
    go false ih of_yes of_no = (of_no.0, ih of_yes of_no.1)

module _ {A : Type 0} (Known : A → Type 0) (bytes : A → List ℕ) where
  -- the elements without the one that was removed
  pub without_keeps : (taken : Option A) (xs : List A) → Each Known xs → Each Known (without bytes taken xs)
  without_keeps None xs all = all
  without_keeps (Some x) xs all = Each-filter Known _ xs all

  pub before_keeps : (key : List ℕ) (xs : List A) → Each Known xs → Each Known (keys_before bytes key xs)
  before_keeps key xs all = Each-filter Known _ xs all

  pub from_keeps : (key : List ℕ) (xs : List A) → Each Known xs → Each Known (keys_from bytes key xs)
  from_keeps key xs all = Each-filter Known _ xs all

  pub others_keep : (from to : Bound (List ℕ)) (xs : List A) → Each Known xs → Each Known (not_between bytes from to xs)
  others_keep from to xs all = Each-filter Known _ xs all

  module _ (key : List ℕ) (before after moved : List A) (x : A)
      (parts : keys_from bytes key before ≡ moved ++ x ∷ keys_from bytes key after) (all : Each Known before) where
    known : Each Known (moved ++ x ∷ keys_from bytes key after)
    known = subst (Each Known) parts (from_keeps key before all)

    -- the elements that stayed
    pub stayed_keep : keys_before bytes key after ≡ keys_before bytes key before → Each Known after
    stayed_keep kept =
        each_part Known _ after (subst (Each Known) (sym kept) (before_keeps key before all))
        (Each-right Known moved _ known).1

module _ {K : Type 0} (is_key : K → Type 0) (bytes : K → List ℕ) where
  -- an element is not between two bounds exactly if the bytes of its key are not between those of the bounds
  not_between_by : {A : Type 0} (key_of : A → K) {order : K → K → Ordering} → KeepsOrder is_key bytes order →
      (from to : Bound (Bor K)) (low high : Bound (List ℕ)) →
      low ≡ bound_map (λ b. bytes b.now) from → high ≡ bound_map (λ b. bytes b.now) to →
      OnBound is_key (bound_map (λ b. b.now) from) → OnBound is_key (bound_map (λ b. b.now) to) → (xs : List A) → Each (λ x. is_key (key_of x)) xs →
      not_between (λ x. bytes (key_of x)) low high xs ≡
      filter (λ x. not (is_key_from order (bound_map (λ b. b.now) from) (key_of x) && is_key_up_to order (bound_map (λ b. b.now) to) (key_of x))) xs
  not_between_by key_of keeps from to low high is_low is_high of_from of_to xs all =
      rw (is_low ∙ map_twice bytes from, is_high ∙ map_twice bytes to)
      (filter_same (λ x. is_key (key_of x)) _ _
      (λ x of_x. ap not (λ i. same_from is_key bytes keeps (bound_map (λ b. b.now) from) (key_of x) of_from of_x i
      && same_up_to is_key bytes keeps (bound_map (λ b. b.now) to) (key_of x) of_to of_x i)) xs all)

  pub not_between_keys : {V : Type 0} {order : K → K → Ordering} → KeepsOrder is_key bytes order → (from to : Bound (Bor K)) (low high : Bound (List ℕ)) →
      low ≡ bound_map (λ b. bytes b.now) from → high ≡ bound_map (λ b. bytes b.now) to →
      OnBound is_key (bound_map (λ b. b.now) from) → OnBound is_key (bound_map (λ b. b.now) to) → (pairs : List (K × V)) → HaveKeys is_key pairs →
      not_between (of_key bytes) low high pairs ≡ keys_not_between order (bound_map (λ b. b.now) from) (bound_map (λ b. b.now) to) pairs
  not_between_keys = not_between_by (λ x. x.0)

  pub not_between_in_set : {order : K → K → Ordering} → KeepsOrder is_key bytes order → (from to : Bound (Bor K)) (low high : Bound (List ℕ)) →
      low ≡ bound_map (λ b. bytes b.now) from → high ≡ bound_map (λ b. bytes b.now) to →
      OnBound is_key (bound_map (λ b. b.now) from) → OnBound is_key (bound_map (λ b. b.now) to) → (keys : List K) → Each is_key keys →
      not_between bytes low high keys ≡ set_not_between order (bound_map (λ b. b.now) from) (bound_map (λ b. b.now) to) keys
  not_between_in_set = not_between_by (λ key. key)
