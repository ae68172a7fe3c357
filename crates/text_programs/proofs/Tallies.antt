-- How often words occur in a list, and how a map counts them.
use Rattle.std.proofs.Common.{◌≡◌, ℕ, ◌+◌, ◌-◌, ◌^◌, ◌<◌, ◌⊎◌, inl, inr, Bool, true, false, cond, eqb, eqb-true, ne_eqb, min, List, [], ◌∷◌}
use Rattle.std.proofs.Common.{◌++◌, length, filter, map, unwrap_or, refl, ap, ap₂, sym, ◌∙◌, subst, arith, length-append}
use Rattle.std.specs.List.{AllByRecursion as Each}
use Rattle.std.specs.Option.{option_map}
use Rattle.std.specs.Cmp.Lexicographic.{slice_cmp}
use Rattle.std.specs.Ordering.{is_lt, nat_cmp}
use Rattle.std.specs.declared.cmp.Ordering.TheVariants.{Less}
use Rattle.std.proofs.lemmas.Bool.{false≢true}
use Rattle.std.proofs.lemmas.List.Elements.{filter-append}
use Rattle.art_operations.specs.Ended.{ended}
use Rattle.art_operations.specs.KeyedPairs.{RiseBy}
use Rattle.art_operations.specs.Keys.{are_same, is_before}
use Rattle.art_operations.specs.MapAnswers.{value_at}
use Rattle.art_operations.specs.Pairs.{Pairwise, first_of, of_key, put, stored_for, with_key}
use Rattle.art_model.proofs.keys.Keys.{before_apart, front_same, not_same, same_equal}
use Rattle.art_model.proofs.keys.KeyLaws.{order_is_total, order_is_transitive}
use Rattle.art_model.proofs.lists.Lists.{Each-weaker, filter_none}
use Rattle.art_model.proofs.pairs.MapLaws.{put_is_found}
use Rattle.art_model.proofs.pairs.Puts.{stored_value}
use Rattle.text_programs.specs.WordCounts.{CountIsOne, HasTimes, numbers_for, times}
use Rattle.text_programs.proofs.EndedLemmas.{same_ended}

-- one word more
times_more : (key : List ℕ) (ws : List (List ℕ)) (w : List ℕ) → times key (ws ++ w ∷ []) ≡ times key ws + cond (are_same key w) 1 0
times_more key ws w = ap length (filter-append (λ v. are_same key v) ws (w ∷ [])) ∙ length-append (filter (λ v. are_same key v) ws) _ ∙ go (are_same key w)
  where
    go : (t : Bool) → times key ws + length (cond t (w ∷ []) []) ≡ times key ws + cond t 1 0
    go true = refl
    go false = refl

-- the number that is stored
pub number_is : (n : ℕ) → unwrap_or (first_of (numbers_for n)) 0 ≡ min n (2 ^ 64 - 1)
number_is n = go (eqb n 0) refl
  where
    go : (t : Bool) → eqb n 0 ≡ t → unwrap_or (first_of (cond t [] (min n (2 ^ 64 - 1) ∷ []))) 0 ≡ min n (2 ^ 64 - 1)
    go true e = let z = eqb-true n 0 e in omega arith
    go false e = refl

pub some_number : (n : ℕ) → 0 < n → numbers_for n ≡ min n (2 ^ 64 - 1) ∷ []
some_number n h = ap (λ t. cond t [] (min n (2 ^ 64 - 1) ∷ [])) (ne_eqb n 0 (λ z. omega arith))

-- the number that is stored for one more
next_number : (n : ℕ) → min (unwrap_or (first_of (numbers_for n)) 0 + 1) (2 ^ 64 - 1) ∷ [] ≡ numbers_for (n + 1)
next_number n =
    let e = number_is n in
    let k : min (unwrap_or (first_of (numbers_for n)) 0 + 1) (2 ^ 64 - 1) ≡ min (n + 1) (2 ^ 64 - 1) = omega arith in
    ap (λ k. k ∷ []) k ∙ sym (some_number (n + 1) (omega arith))

value_is_first : {K : Type 0} (bytes : K → List ℕ) (key : List ℕ) (pairs : List (K × ℕ)) →
    value_at bytes key pairs ≡ first_of (map (λ x. x.1) (with_key (of_key bytes) key pairs))
value_is_first bytes key pairs = go (with_key (of_key bytes) key pairs)
  where
    go : {K : Type 0} (xs : List (K × ℕ)) → option_map (λ x. x.1) (first_of xs) ≡ first_of (map (λ x. x.1) xs)
    go [] = refl
    go (x ∷ xs) = refl

-- ---- words, and their keys

-- the numbers that are found under a word
abbrev pub found : List ℕ → List (List ℕ × ℕ) → List ℕ
found word counts = map (λ x. x.1) (with_key (λ x. x.0) word counts)

-- what is found under a word's key is what is found under the word
pub found_ended : (word : List ℕ) (pairs : List (List ℕ × ℕ)) → with_key (of_key ended) (ended word) pairs ≡ with_key (λ x. x.0) word pairs
found_ended word [] = refl
found_ended word (x ∷ xs) = rw (same_ended word x.0) (ap (λ r. cond (are_same word x.0) (x ∷ r) r) (found_ended word xs))

pub value_found : (word : List ℕ) (pairs : List (List ℕ × ℕ)) → value_at ended (ended word) pairs ≡ first_of (found word pairs)
value_found word pairs = value_is_first ended (ended word) pairs ∙ ap (λ xs. first_of (map (λ x. x.1) xs)) (found_ended word pairs)

-- a word is counted once more: none was found, or one number
number_found : (ws : List (List ℕ)) (word : List ℕ) (next : ℕ) (pairs : List (List ℕ × ℕ)) →
    next ≡ min (unwrap_or (value_at ended (ended word) pairs) 0 + 1) (2 ^ 64 - 1) → HasTimes ws pairs → (w : List ℕ) →
    found w (put (of_key ended) (word, next) pairs) ≡ numbers_for (times w (ws ++ word ∷ []))
number_found ws word next pairs is kept w =
    ap (map (λ x. x.1)) (sym (found_ended w (put (of_key ended) (word, next) pairs)) ∙ put_is_found ended (ended w) (word, next) pairs
    ∙ rw (same_ended w word) refl)
    ∙ go (are_same w word) refl ∙ sym (ap numbers_for (times_more w ws word))
  where
    go : (t : Bool) → are_same w word ≡ t → map (λ x. x.1)
        (cond t (stored_for (of_key ended) (word, next) pairs ∷ []) (with_key (of_key ended) (ended w) pairs))
        ≡ numbers_for (times w ws + cond t 1 0)
    go true e =
        let v = ap (λ b. value_at ended (ended b) pairs) (same_equal w word e) ∙ value_found w pairs ∙ ap first_of (kept.each w) in
        ap (λ n. n ∷ []) (stored_value ended (word, next) pairs ∙ is ∙ ap (λ o. min (unwrap_or o 0 + 1) (2 ^ 64 - 1)) v) ∙ next_number (times w ws)
    go false e = ap (map (λ x. x.1)) (found_ended w pairs) ∙ kept.each w ∙ ap numbers_for (omega arith)

pub counted : (ws : List (List ℕ)) (word : List ℕ) (next : ℕ) (pairs : List (List ℕ × ℕ)) →
    next ≡ min (unwrap_or (value_at ended (ended word) pairs) 0 + 1) (2 ^ 64 - 1) → HasTimes ws pairs →
    HasTimes (ws ++ word ∷ []) (put (of_key ended) (word, next) pairs)
counted ws word next pairs is kept = record { each = number_found ws word next pairs is kept }

-- ---- the order of words

each_later : (x : List ℕ × ℕ) (xs : List (List ℕ × ℕ)) → Each (λ y. slice_cmp nat_cmp x.0 y.0 ≡ Less) xs → Each (λ y. is_before x.0 y.0 ≡ true) xs
each_later x xs h = Each-weaker (λ y. slice_cmp nat_cmp x.0 y.0 ≡ Less) (λ y. is_before x.0 y.0 ≡ true) (λ y e. ap is_lt e) xs h

pub words_rise : (counts : List (List ℕ × ℕ)) → RiseBy (slice_cmp nat_cmp) counts → Pairwise (λ x y. is_before x.0 y.0 ≡ true) counts
words_rise [] h = tt
words_rise (x ∷ xs) h = (each_later x xs h.0, words_rise xs h.1)

-- ---- a list of words has one count

abbrev Rise : List (List ℕ × ℕ) → Type 0
Rise = Pairwise (λ x y. is_before x.0 y.0 ≡ true)

earlier_apart : (a b : List ℕ) → is_before a b ≡ true → are_same a b ≡ false
earlier_apart a b h =
    not_same a b (λ e. false≢true (sym (before_apart a b h)
    ∙ subst (λ c. is_before c a ≡ true) e (subst (λ c. is_before a c ≡ true) (sym e) h)))

-- nothing is found under a word that is before all
found_later : (word : List ℕ) (xs : List (List ℕ × ℕ)) → Each (λ y. is_before word y.0 ≡ true) xs → found word xs ≡ []
found_later word xs h =
    ap (map (λ x. x.1)) (filter_none (λ y. are_same word y.0) xs
    (Each-weaker (λ y. is_before word y.0 ≡ true) (λ y. are_same word y.0 ≡ false) (λ y e. earlier_apart word y.0 e) xs h))

-- under the first word its number is found
pub found_first : (x : List ℕ × ℕ) (xs : List (List ℕ × ℕ)) → Each (λ y. is_before x.0 y.0 ≡ true) xs → found x.0 (x ∷ xs) ≡ x.1 ∷ []
found_first x xs h = rw (front_same x.0) (ap (λ ns. x.1 ∷ ns) (found_later x.0 xs h))

pub found_past : (word : List ℕ) (x : List ℕ × ℕ) (xs : List (List ℕ × ℕ)) → are_same word x.0 ≡ false → found word (x ∷ xs) ≡ found word xs
found_past word x xs e = rw e refl

all_later : (word : List ℕ) (y : List ℕ × ℕ) (ys : List (List ℕ × ℕ)) → is_before word y.0 ≡ true →
    Each (λ z. is_before y.0 z.0 ≡ true) ys → Each (λ z. is_before word z.0 ≡ true) (y ∷ ys)
all_later word y ys h k = (h, Each-weaker (λ z. is_before y.0 z.0 ≡ true) (λ z. is_before word z.0 ≡ true) (λ z e. order_is_transitive word y.0 z.0 h e) ys k)

one_list : (xs ys : List (List ℕ × ℕ)) → Rise xs → Rise ys → ((word : List ℕ) → found word xs ≡ found word ys) → ys ≡ xs
one_list [] [] h k same = refl
one_list [] (y ∷ ys) h k same = let e = same y.0 ∙ found_first y ys k.0 in absurd cc
one_list (x ∷ xs) [] h k same = let e = sym (found_first x xs h.0) ∙ same x.0 in absurd cc
one_list (x ∷ xs) (y ∷ ys) h k same = go (order_is_total x.0 y.0) (one_list xs ys h.1 k.1)
  where
    tails : x.0 ≡ y.0 → (word : List ℕ) → found word xs ≡ found word ys
    tails e word = by (are_same word x.0) refl
      where
        by : (t : Bool) → are_same word x.0 ≡ t → found word xs ≡ found word ys
        by true s =
            let is = same_equal word x.0 s in
            subst (λ w. found w xs ≡ found w ys) is (found_later x.0 xs h.0 ∙ sym (ap (λ w. found w ys) e ∙ found_later y.0 ys k.0))
        by false s = sym (found_past word x xs s) ∙ same word ∙ found_past word y ys (ap (are_same word) (sym e) ∙ s)

    go : (is_before x.0 y.0 ≡ true) ⊎ ((x.0 ≡ y.0) ⊎ (is_before y.0 x.0 ≡ true)) →
        (((word : List ℕ) → found word xs ≡ found word ys) → ys ≡ xs) → y ∷ ys ≡ x ∷ xs
    go (inl b) ih = let e = sym (found_first x xs h.0) ∙ same x.0 ∙ found_later x.0 (y ∷ ys) (all_later x.0 y ys b k.0) in absurd cc
    go (inr (inr b)) ih = let e = sym (found_first y ys k.0) ∙ sym (same y.0) ∙ found_later y.0 (x ∷ xs) (all_later y.0 x xs b h.0) in absurd cc
    go (inr (inl e)) ih =
        let n = sym (found_first x xs h.0) ∙ same x.0 ∙ ap (λ w. found w (y ∷ ys)) e ∙ found_first y ys k.0 in
        let m : x.1 ≡ y.1 = cc in
        ap₂ (λ a b. a ∷ b) (ap₂ (λ a b. (a, b)) (sym e) (sym m)) (ih (tails e))

pub count_is_one : CountIsOne
count_is_one ws counts others h k = one_list counts others h.rising k.rising (λ word. h.numbers.each word ∙ sym (k.numbers.each word))
