-- Counts in the order of frequency: their one order, which a sort finds.
use Rattle.std.proofs.Common.{◌≡◌, ℕ, ◌+◌, ◌<◌, zero, suc, Bool, true, false, cond, List, [], ◌∷◌, take, map, flat_map, Option, sum_by, inl, inr, ◌⊎◌, refl, sym, ap, ap₂, ◌∙◌, subst, arith, add-one}
use Rattle.std.proofs.Common.{Ordering, Less, Equal, Greater, is_lt, is_gt, true≢false, IsPermutation, IsSorted, Result, Ok, Err, OnOk}
use Rattle.std.specs.Cmp.{IsTotalOrder}
use Rattle.std.specs.Cmp.Lexicographic.{slice_cmp}
use Rattle.std.specs.Io.KnownBytes.{Appends}
use Rattle.std.specs.List.{AllByRecursion as Each}
use Rattle.std.specs.Ordering.{nat_cmp, ordering_reverse, ordering_then}
use Rattle.std.proofs.lemmas.Cmp.{alike_right, back_total, by_ranked, nat_cmp_total, nat_list_cmp_total, on_total, ranked, then_total, tied_back, tied_itself, upto}
use Rattle.std.proofs.lemmas.List.Sums.{sum_by-cons}
use Rattle.std.proofs.lemmas.List.Sorted.{IsPermutation-map, sum_by-IsPermutation}
use Rattle.art_model.proofs.keys.KeyLaws.{order_is_total}
use Rattle.art_model.proofs.lists.Lists.{Each-weaker}
use Rattle.art_operations.specs.Keys.{is_before}
use Rattle.art_operations.specs.Pairs.{Pairwise}
use Rattle.text_programs.specs.WordCounts.{line_of}
use Rattle.text_programs.specs.Frequency.{by_frequency, frequency_cmp, placed}

-- examples: the more frequent word first, and words that occur as often in the order of bytes
counts_by_frequency : by_frequency ((97 ∷ [], 2) ∷ (98 ∷ [], 3) ∷ (98 ∷ 97 ∷ [], 1) ∷ (99 ∷ [], 2) ∷ []) ≡ (98 ∷ [], 3) ∷ (97 ∷ [], 2) ∷ (99 ∷ [], 2) ∷ (98 ∷ 97 ∷ [], 1) ∷ []
counts_by_frequency = refl

total : IsTotalOrder frequency_cmp
total = then_total (on_total (λ x. x.1) (back_total nat_cmp_total)) (on_total (λ x. x.0) nat_list_cmp_total)

-- the first count comes before the other, or they are equal
abbrev AtMost : List ℕ × ℕ → List ℕ × ℕ → Type 0
AtMost x y = is_gt (frequency_cmp x y) ≡ false

less_at_most : (o : Ordering) → is_lt o ≡ true → is_gt o ≡ false
less_at_most Less h = refl
less_at_most Equal h = refl
less_at_most Greater h = absurd (true≢false (sym h))

turned : (o : Ordering) → is_lt o ≡ false → is_gt (ordering_reverse o) ≡ false
turned Less h = h
turned Equal h = refl
turned Greater h = refl

not_less : (x y : List ℕ × ℕ) → is_lt (frequency_cmp y x) ≡ false → AtMost x y
not_less x y h = ap is_gt (total.antisymm x y) ∙ turned (frequency_cmp y x) h

-- what comes before the first one of a list in order comes before all
at_most_all : (x y : List ℕ × ℕ) (ys : List (List ℕ × ℕ)) → AtMost x y → Each (AtMost y) ys → Each (AtMost x) (y ∷ ys)
at_most_all x y ys h all = (h, Each-weaker (AtMost y) (AtMost x) (λ z e. upto total x y z h e) ys all)

each_placed : (P : List ℕ × ℕ → Type 0) (new : List ℕ × ℕ) (xs : List (List ℕ × ℕ)) → P new → Each P xs → Each P (placed new xs)
each_placed P new [] h all = (h, tt)
each_placed P new (x ∷ xs) h all = go (is_lt (frequency_cmp new x)) (each_placed P new xs h all.1)
  where
    go : (t : Bool) → Each P (placed new xs) → Each P (cond t (new ∷ x ∷ xs) (x ∷ placed new xs))
    go true more = (h, all)
    go false more = (all.0, more)

placed_rises : (new : List ℕ × ℕ) (xs : List (List ℕ × ℕ)) → Pairwise AtMost xs → Pairwise AtMost (placed new xs)
placed_rises new [] up = (tt, tt)
placed_rises new (x ∷ xs) up = go (is_lt (frequency_cmp new x)) refl (placed_rises new xs up.1)
  where
    go : (t : Bool) → is_lt (frequency_cmp new x) ≡ t → Pairwise AtMost (placed new xs) →
        Pairwise AtMost (cond t (new ∷ x ∷ xs) (x ∷ placed new xs))
    go true e more = (at_most_all new x xs (less_at_most (frequency_cmp new x) e) up.0, up)
    go false e more = (each_placed (AtMost x) new xs (not_less x new e) up.0, more)

rises : (xs : List (List ℕ × ℕ)) → Pairwise AtMost (by_frequency xs)
rises [] = tt
rises (x ∷ xs) = placed_rises x (by_frequency xs) (rises xs)

sum_placed : (f : List ℕ × ℕ → ℕ) (new : List ℕ × ℕ) (xs : List (List ℕ × ℕ)) → sum_by f (placed new xs) ≡ f new + sum_by f xs
sum_placed f new [] = sum_by-cons f new []
sum_placed f new (x ∷ xs) = go (is_lt (frequency_cmp new x)) (sum_placed f new xs)
  where
    go : (t : Bool) → sum_by f (placed new xs) ≡ f new + sum_by f xs → sum_by f (cond t (new ∷ x ∷ xs) (x ∷ placed new xs)) ≡ f new + sum_by f (x ∷ xs)
    go true e = sum_by-cons f new (x ∷ xs)
    go false e = let a = sum_by-cons f x (placed new xs) in let b = sum_by-cons f x xs in omega (arith, a, b, e)

sum_rises : (f : List ℕ × ℕ → ℕ) (xs : List (List ℕ × ℕ)) → sum_by f (by_frequency xs) ≡ sum_by f xs
sum_rises f [] = refl
sum_rises f (x ∷ xs) = sum_placed f x (by_frequency xs) ∙ ap (λ n. f x + n) (sum_rises f xs) ∙ sym (sum_by-cons f x xs)

-- ---- a list has one order

-- 1 for a count that does not come after another, else 0
abbrev until : List ℕ × ℕ → List ℕ × ℕ → ℕ
until x z = cond (is_lt (frequency_cmp x z)) 0 1

until_itself : (x : List ℕ × ℕ) → until x x ≡ 1
until_itself x = ap (λ o. cond (is_lt o) 0 1) (tied_itself total x)

still_less : (x y z : List ℕ × ℕ) → frequency_cmp x y ≡ Less → AtMost y z → until x z ≡ 0
still_less x y z h up = go (frequency_cmp y z) refl up
  where
    go : (o : Ordering) → frequency_cmp y z ≡ o → is_gt o ≡ false → until x z ≡ 0
    go Less e up = ap (λ o. cond (is_lt o) 0 1) (total.trans x y z h e)
    go Equal e up = ap (λ o. cond (is_lt o) 0 1) (sym (alike_right total y z x e) ∙ h)
    go Greater e up = absurd (true≢false up)

none_until : (x y : List ℕ × ℕ) (ys : List (List ℕ × ℕ)) → frequency_cmp x y ≡ Less → Each (AtMost y) ys → sum_by (until x) ys ≡ 0
none_until x y [] h all = refl
none_until x y (z ∷ zs) h all = let a = still_less x y z h all.0 in let b = none_until x y zs h all.1 in
    omega (arith, a, b, sum_by-cons (until x) z zs)

-- a list whose first count comes after another doesn't have that one
no_first : (x y : List ℕ × ℕ) (xs ys : List (List ℕ × ℕ)) → frequency_cmp x y ≡ Less → Pairwise AtMost (y ∷ ys) →
    sum_by (until x) (x ∷ xs) ≡ sum_by (until x) (y ∷ ys) → ⊥
no_first x y xs ys h up e =
    let a = until_itself x in
    let b : until x y ≡ 0 = ap (λ o. cond (is_lt o) 0 1) h in
    let c = none_until x y ys h up.0 in
    omega (arith, a, b, c, e, sum_by-cons (until x) x xs, sum_by-cons (until x) y ys)

equal_numbers : (n m : ℕ) → nat_cmp n m ≡ Equal → n ≡ m
equal_numbers n m h = by_ranked (n < m) (n ≡ m) (m < n) (nat_cmp n m) (ranked n m (nat_cmp n m) refl) (λ e l. absurd cc) (λ e l. l) (λ e l. absurd cc)

-- counts that are as far are equal
same_count : (x y : List ℕ × ℕ) → frequency_cmp x y ≡ Equal → x ≡ y
same_count x y h = go (nat_cmp y.1 x.1) refl h
  where
    words : slice_cmp nat_cmp x.0 y.0 ≡ Equal → x.0 ≡ y.0
    words e = by (order_is_total x.0 y.0)
      where
        by : (is_before x.0 y.0 ≡ true) ⊎ ((x.0 ≡ y.0) ⊎ (is_before y.0 x.0 ≡ true)) → x.0 ≡ y.0
        by (inl b) = absurd (true≢false (sym b ∙ ap is_lt e))
        by (inr (inl same)) = same
        by (inr (inr b)) = absurd (true≢false (sym b ∙ ap is_lt (tied_back nat_list_cmp_total x.0 y.0 e)))

    go : (o : Ordering) → nat_cmp y.1 x.1 ≡ o → ordering_then o (slice_cmp nat_cmp x.0 y.0) ≡ Equal → x ≡ y
    go Less e h = absurd cc
    go Equal e h = ap₂ (λ w n. (w, n)) (words h) (sym (equal_numbers y.1 x.1 e))
    go Greater e h = absurd cc

one_order : (xs ys : List (List ℕ × ℕ)) → Pairwise AtMost xs → Pairwise AtMost ys →
    ((f : List ℕ × ℕ → ℕ) → sum_by f xs ≡ sum_by f ys) → ys ≡ xs
one_order [] [] h k same = refl
one_order [] (y ∷ ys) h k same = absurd (omega (arith, same (λ z. 1), sum_by-cons (λ (z : List ℕ × ℕ). 1) y ys))
one_order (x ∷ xs) [] h k same = absurd (omega (arith, same (λ z. 1), sum_by-cons (λ (z : List ℕ × ℕ). 1) x xs))
one_order (x ∷ xs) (y ∷ ys) h k same = go (frequency_cmp x y) refl (one_order xs ys h.1 k.1)
  where
    go : (o : Ordering) → frequency_cmp x y ≡ o → (((f : List ℕ × ℕ → ℕ) → sum_by f xs ≡ sum_by f ys) → ys ≡ xs) → y ∷ ys ≡ x ∷ xs
    go Less e ih = absurd (no_first x y xs ys e k (same (until x)))
    go Greater e ih = absurd (no_first y x ys xs (total.antisymm y x ∙ ap ordering_reverse e) h (sym (same (until y))))
    go Equal e ih =
        let is = same_count x y e in
        ap₂ (λ z zs. z ∷ zs) (sym is) (ih (λ f. omega (arith, same f, ap f is, sum_by-cons f x xs, sum_by-cons f y ys)))

-- ---- what a sort makes of rows

module _ {X : Type 0} (count : X → List ℕ × ℕ) where
  below_rest : (x : X) (ys : List X) → IsSorted (λ r s. frequency_cmp (count r) (count s)) (x ∷ ys) → Pairwise AtMost (map count ys) →
      Each (AtMost (count x)) (map count ys)
  below_rest x [] sorted up = tt
  below_rest x (y ∷ ys) sorted up =
      at_most_all (count x) (count y) (map count ys) (not_less (count x) (count y) (sorted 0 x (omega arith) (omega arith))) up.0

  from_sorted : (xs : List X) → IsSorted (λ r s. frequency_cmp (count r) (count s)) xs → Pairwise AtMost (map count xs)
  from_sorted [] sorted = tt
  from_sorted (x ∷ xs) sorted =
      let tail : IsSorted (λ r s. frequency_cmp (count r) (count s)) xs = λ k d p q. rw add-one (rw add-one at (sorted (suc k) d (omega arith) (omega arith))) in
      let up = from_sorted xs tail in
      (below_rest x xs sorted up, up)

  pub sorted_rows : {E : Type 0} (r : Result (Unit {0}) E) (xs ys : List X) → IsPermutation xs ys →
      OnOk r (IsSorted (λ r s. frequency_cmp (count r) (count s)) ys) → OnOk r (map count ys ≡ by_frequency (map count xs))
  sorted_rows (Err e) xs ys same sorted = tt
  sorted_rows (Ok u) xs ys same sorted =
      one_order (by_frequency (map count xs)) (map count ys) (rises (map count xs)) (from_sorted ys sorted)
      (λ f. sum_rises f (map count xs) ∙ sym (sum_by-IsPermutation f (map count xs) (map count ys) (IsPermutation-map count xs ys same)))

-- ---- the rows of counts

module _ {X : Type 0} (count : X → List ℕ × ℕ) where
  -- the first rows are the first counts
  pub first_rows : (most : ℕ) (rows : List X) → map count (take most rows) ≡ take most (map count rows)
  first_rows zero rows = refl
  first_rows (suc most) [] = refl
  first_rows (suc most) (x ∷ xs) = ap (λ ys. count x ∷ ys) (first_rows most xs)

  -- so what is written of the first rows is that of the first counts
  pub most_written : {E : Type 0} (r : Result (Unit {0}) E) (rows sorted cut seen : List X) (counts : List (List ℕ × ℕ)) (most : ℕ) (old new : Option (List ℕ)) →
      map count rows ≡ counts → map count sorted ≡ by_frequency (map count rows) → cut ≡ take most sorted → seen ≡ cut →
      OnOk r (Appends old new (flat_map line_of (map count seen))) → OnOk r (Appends old new (flat_map line_of (take most (by_frequency counts))))
  most_written r rows sorted cut seen counts most old new are ranks cuts sees h =
      subst (λ cs. OnOk r (Appends old new (flat_map line_of cs)))
      (ap (map count) (sees ∙ cuts) ∙ first_rows most sorted ∙ ap (take most) (ranks ∙ ap by_frequency are)) h
