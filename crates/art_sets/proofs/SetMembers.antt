-- Which keys are in a union, an intersection or a difference of two sets.
use Rattle.std.proofs.Common.{◌≡◌, ℕ, Bool, true, false, not, cond, filter, ◌&&◌, ◌||◌, List, [], ◌∷◌, refl, ap, ap₂, sym, subst, ◌∙◌, Ordering, Less, Equal, Greater}
use Rattle.std.proofs.lemmas.Bool.{false≢true}
use Rattle.std.proofs.lemmas.Cmp.{nat_list_cmp_total}
use Rattle.std.proofs.lemmas.Map.Lookups.{exact_bytes}
use Rattle.std.specs.List.{AllByRecursion as Each}
use Rattle.std.specs.Set.{sorted_merge, merge_step}
use Rattle.std.specs.Ordering.{is_lt, match_ordering, ordering_reverse}
use Rattle.art_model.specs.Prelude.{Precedes, are_same, is_before, IsMap, has_key}
use Rattle.art_model.proofs.lists.Lists.{Each-weaker}
use Rattle.art_model.proofs.keys.KeyLaws.{order_is_strict, order_is_transitive}
use Rattle.art_model.proofs.keys.Keys.{not_same, same_equal}
use Rattle.art_sets.specs.SetAlgebra.{byte_order}

and-false : (b : Bool) → (b && false) ≡ false
and-false true = refl
and-false false = refl

or-false : (b : Bool) → b ≡ (b || false)
or-false true = refl
or-false false = refl

or-assoc : (a b c : Bool) → (a || (b || c)) ≡ ((a || b) || c)
or-assoc true b c = refl
or-assoc false b c = refl

or-both : (a b c : Bool) → (a || (b || c)) ≡ ((a || b) || (a || c))
or-both true b c = refl
or-both false b c = refl

or-swap : (a b c : Bool) → (a || (b || c)) ≡ (b || (a || c))
or-swap true true c = refl
or-swap true false c = refl
or-swap false b c = refl

only-first : (b : Bool) → b ≡ cond b true false
only-first true = refl
only-first false = refl

module _ {K : Type 0} (bytes : K → List ℕ) (key : List ℕ) where
  abbrev has : List K → Bool
  has = has_key bytes key

  abbrev here : K → Bool
  here x = are_same key (bytes x)

  -- a key is among those that pass a test if it is in the list and passes
  pub filtered : (test : K → Bool) (passes : Bool) → ((x : K) → here x ≡ true → test x ≡ passes) → (xs : List K) → has (filter test xs) ≡ (has xs && passes)
  filtered test passes law [] = refl
  filtered test passes law (x ∷ xs) = by_test (test x) refl (filtered test passes law xs)
    where
      stays : (s rest left : Bool) → (s ≡ true → true ≡ passes) → left ≡ (rest && passes) → (s || left) ≡ ((s || rest) && passes)
      stays true rest left is ih = is refl
      stays false rest left is ih = ih

      goes : (s rest left : Bool) → (s ≡ true → false ≡ passes) → left ≡ (rest && passes) → left ≡ ((s || rest) && passes)
      goes true rest left is ih = ih ∙ ap (λ b. rest && b) (sym (is refl)) ∙ and-false rest ∙ is refl
      goes false rest left is ih = ih

      by_test : (b : Bool) → test x ≡ b → has (filter test xs) ≡ (has xs && passes) →
          has (cond b (x ∷ filter test xs) (filter test xs)) ≡ ((here x || has xs) && passes)
      by_test true e ih = stays (here x) (has xs) (has (filter test xs)) (λ same. sym e ∙ law x same) ih
      by_test false e ih = goes (here x) (has xs) (has (filter test xs)) (λ same. sym e ∙ law x same) ih

  -- whether a list has a key depends on the key's bytes
  pub same_member : (xs : List K) (x : K) → here x ≡ true → has_key bytes (bytes x) xs ≡ has xs
  same_member xs x same = ap (λ k. has_key bytes k xs) (same_equal key (bytes x) same)

  equal_here : (x y : K) → byte_order bytes x y ≡ Equal → here x ≡ here y
  equal_here x y e = ap (are_same key) (exact_bytes (bytes x) (bytes y) e)

  -- ---- the keys of both

  merged_step : (x : K) (xs : List K) (on : List K → List K) → ((ys : List K) → has (on ys) ≡ (has xs || has ys)) →
      (ys : List K) → has (merge_step (byte_order bytes) true x xs on ys) ≡ ((here x || has xs) || has ys)
  merged_step x xs on ih [] = or-false (here x || has xs)
  merged_step x xs on ih (y ∷ ys) = by (byte_order bytes x y) refl (merged_step x xs on ih ys)
    where
      by : (o : Ordering) → byte_order bytes x y ≡ o → has (merge_step (byte_order bytes) true x xs on ys) ≡ ((here x || has xs) || has ys) →
          has (match_ordering o (x ∷ on (y ∷ ys)) (x ∷ on ys) (y ∷ merge_step (byte_order bytes) true x xs on ys)) ≡ ((here x || has xs) || (here y || has ys))
      by Less e rest = ap (λ b. here x || b) (ih (y ∷ ys)) ∙ or-assoc (here x) (has xs) (here y || has ys)
      by Equal e rest =
          ap (λ b. here x || b) (ih ys) ∙ or-both (here x) (has xs) (has ys) ∙ ap (λ b. (here x || has xs) || (b || has ys)) (equal_here x y e)
      by Greater e rest = ap (λ b. here y || b) rest ∙ or-swap (here y) (here x || has xs) (has ys)

  pub merged : (xs ys : List K) → has (sorted_merge (byte_order bytes) true xs ys) ≡ (has xs || has ys)
  merged [] ys = refl
  merged (x ∷ xs) ys = merged_step x xs (sorted_merge (byte_order bytes) true xs) (merged xs) ys

  -- ---- the keys of exactly one

  -- if a key is the first, it is not among later ones
  none_after : (front : List ℕ) → are_same key front ≡ true → (xs : List K) → Each (λ x. is_before front (bytes x) ≡ true) xs → has xs ≡ false
  none_after front same [] later = refl
  none_after front same (x ∷ xs) later =
      let off : here x ≡ false = not_same key (bytes x) (λ e.
      false≢true (sym (order_is_strict key) ∙ ap₂ is_before (sym (same_equal key front same)) e ∙ later.0)) in
      ap₂ (λ a b. a || b) off (none_after front same xs later.1)

  rising : (x : K) (xs : List K) → IsMap bytes (x ∷ xs) → Each (λ y. is_before (bytes x) (bytes y) ≡ true) xs
  rising x xs is = Each-weaker (λ y. Precedes (bytes x) (bytes y)) (λ y. is_before (bytes x) (bytes y) ≡ true) (λ y h. h.0) xs is.0

  -- a key before the first is before all
  before_all : (front : List ℕ) (x : K) (xs : List K) → is_before front (bytes x) ≡ true → IsMap bytes (x ∷ xs) →
      Each (λ y. is_before front (bytes y) ≡ true) (x ∷ xs)
  before_all front x xs h is = (
    h,
    Each-weaker (λ y. is_before (bytes x) (bytes y) ≡ true) (λ y. is_before front (bytes y) ≡ true)
        (λ y k. order_is_transitive front (bytes x) (bytes y) h k) xs (rising x xs is),
  )

  -- the first of two comes before the second, or the second before the first
  less_before : (x y : K) → byte_order bytes x y ≡ Less → is_before (bytes x) (bytes y) ≡ true
  less_before x y e = ap is_lt e

  greater_before : (x y : K) → byte_order bytes x y ≡ Greater → is_before (bytes y) (bytes x) ≡ true
  greater_before x y e = ap is_lt (nat_list_cmp_total.antisymm (bytes y) (bytes x) ∙ ap ordering_reverse e)

  abbrev just_one : Bool → Bool → Bool
  just_one a b = cond a (not b) b

  parted_step : (x : K) (xs : List K) (on : List K → List K) → IsMap bytes (x ∷ xs) →
      ((ys : List K) → IsMap bytes ys → has (on ys) ≡ just_one (has xs) (has ys)) →
      (ys : List K) → IsMap bytes ys → has (merge_step (byte_order bytes) false x xs on ys) ≡ just_one (here x || has xs) (has ys)
  parted_step x xs on is ih [] others = only-first (here x || has xs)
  parted_step x xs on is ih (y ∷ ys) others = by (byte_order bytes x y) refl (parted_step x xs on is ih ys others.1)
    where
      first : (s both rest : Bool) → (s ≡ true → rest ≡ false) → both ≡ just_one (has xs) rest → (s || both) ≡ just_one (s || has xs) rest
      first true both rest none same = ap not (sym (none refl))
      first false both rest none same = same

      neither : (s both : Bool) → (s ≡ true → (has xs ≡ false) × (has ys ≡ false)) → both ≡ just_one (has xs) (has ys) →
          both ≡ just_one (s || has xs) (s || has ys)
      neither true both none same = same ∙ ap₂ just_one (none refl).0 (none refl).1
      neither false both none same = same

      second : (s both front : Bool) → (s ≡ true → front ≡ false) → both ≡ just_one front (has ys) → (s || both) ≡ just_one front (s || has ys)
      second true both front none same = ap (λ b. cond b false true) (sym (none refl))
      second false both front none same = same

      by : (o : Ordering) → byte_order bytes x y ≡ o → has (merge_step (byte_order bytes) false x xs on ys) ≡ just_one (here x || has xs) (has ys) →
          has (match_ordering o (x ∷ on (y ∷ ys)) (on ys) (y ∷ merge_step (byte_order bytes) false x xs on ys)) ≡ just_one (here x || has xs) (here y || has ys)
      by Less e rest =
          first (here x) (has (on (y ∷ ys))) (here y || has ys)
          (λ same. none_after (bytes x) same (y ∷ ys) (before_all (bytes x) y ys (less_before x y e) others)) (ih (y ∷ ys) others)
      by Equal e rest =
          subst (λ b. has (on ys) ≡ just_one (here x || has xs) (b || has ys)) (equal_here x y e)
          (neither (here x) (has (on ys)) (λ same. (
            none_after (bytes x) same xs (rising x xs is),
            none_after (bytes y) (sym (equal_here x y e) ∙ same) ys (rising y ys others),
          ))
          (ih ys others.1))
      by Greater e rest =
          second (here y) (has (merge_step (byte_order bytes) false x xs on ys)) (here x || has xs)
          (λ same. none_after (bytes y) same (x ∷ xs) (before_all (bytes y) x xs (greater_before x y e) is)) rest

  pub parted : (xs ys : List K) → IsMap bytes xs → IsMap bytes ys → has (sorted_merge (byte_order bytes) false xs ys) ≡ just_one (has xs) (has ys)
  parted [] ys is others = refl
  parted (x ∷ xs) ys is others = parted_step x xs (sorted_merge (byte_order bytes) false xs) is (λ zs more. parted xs zs is.1 more) ys others
