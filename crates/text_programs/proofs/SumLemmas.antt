-- Counts that are added up.
use Rattle.std.proofs.Common.{◌≡◌, ◌≢◌, ℕ, ◌+◌, ◌-◌, ◌^◌, ◌<◌, Bool, true, false, cond, eqb, eqb-true, min, List, [], ◌∷◌, ◌++◌, length, map, filter, flat_map, unwrap_or, refl, ap, sym, ◌∙◌, subst, arith}
use Rattle.std.specs.List.{AllByRecursion as Each, slice_split}
use Rattle.std.proofs.lemmas.Bool.{eqb-false, false≢true}
use Rattle.art_operations.specs.Ended.{ended}
use Rattle.art_operations.specs.Keys.{are_same, is_before}
use Rattle.art_operations.specs.MapAnswers.{value_at}
use Rattle.art_operations.specs.Pairs.{Pairwise, first_of, of_key, put, stored_for, with_key}
use Rattle.art_model.proofs.keys.Keys.{before_apart, not_same, same_equal}
use Rattle.art_model.proofs.lists.Lists.{Each-weaker}
use Rattle.art_model.proofs.pairs.MapLaws.{put_is_found}
use Rattle.art_model.proofs.pairs.Puts.{stored_value}
use Rattle.text_programs.specs.WordCounts.{HasTimes, IsCountOf, numbers_for, times}
use Rattle.text_programs.specs.Rows.{IsCount}
use Rattle.text_programs.specs.Sums.{AreCounts, HasSums, SumsOfOutputs, all_words, total}
use Rattle.text_programs.specs.Words.{IsWord, is_filled, is_gap, words}
use Rattle.text_programs.proofs.EndedLemmas.{same_ended}
use Rattle.text_programs.proofs.JoinedCounts.{times_of_both}
use Rattle.text_programs.proofs.Tallies.{found, found_ended, found_first, found_past, number_is, some_number, value_found}
use Rattle.text_programs.proofs.WordTexts.{IsWhole, whole_parts}

-- examples: numbers of one word are added, and another word has none
total_of_two : total (98 ∷ []) ((98 ∷ [], 2) ∷ (97 ∷ [], 4) ∷ (98 ∷ [], 3) ∷ []) ≡ 5
total_of_two = refl

total_of_none : total (99 ∷ []) ((98 ∷ [], 2) ∷ (97 ∷ [], 4) ∷ []) ≡ 0
total_of_none = refl

-- numbers of two lists are added
one_more : (x s a b : ℕ) → s ≡ a + b → x + s ≡ (x + a) + b
one_more x s a b e = omega arith

total_of_both : (word : List ℕ) (xs ys : List (List ℕ × ℕ)) → total word (xs ++ ys) ≡ total word xs + total word ys
total_of_both word [] ys = omega arith
total_of_both word (x ∷ xs) ys =
    one_more (cond (are_same word x.0) x.1 0) (total word (xs ++ ys)) (total word xs) (total word ys) (total_of_both word xs ys)

total_of_one : (word : List ℕ) (x : List ℕ × ℕ) → total word (x ∷ []) ≡ cond (are_same word x.0) x.1 0
total_of_one word x = omega arith

total_more : (word : List ℕ) (xs : List (List ℕ × ℕ)) (x : List ℕ × ℕ) → total word (xs ++ x ∷ []) ≡ total word xs + cond (are_same word x.0) x.1 0
total_more word xs x = total_of_both word xs (x ∷ []) ∙ ap (λ n. total word xs + n) (total_of_one word x)

-- the number that is stored for more
next_sum : (n m : ℕ) → 0 < m → min (unwrap_or (first_of (numbers_for n)) 0 + m) (2 ^ 64 - 1) ∷ [] ≡ numbers_for (n + m)
next_sum n m some =
    let e = number_is n in
    let k : min (unwrap_or (first_of (numbers_for n)) 0 + m) (2 ^ 64 - 1) ≡ min (n + m) (2 ^ 64 - 1) = omega arith in
    ap (λ k. k ∷ []) k ∙ sym (some_number (n + m) (omega arith))

-- a number is added to that of a word: none was found, or one number
sum_found : (added : List (List ℕ × ℕ)) (word : List ℕ) (number next : ℕ) (pairs : List (List ℕ × ℕ)) → 0 < number →
    next ≡ min (unwrap_or (value_at ended (ended word) pairs) 0 + number) (2 ^ 64 - 1) → HasSums added pairs → (w : List ℕ) →
    found w (put (of_key ended) (word, next) pairs) ≡ numbers_for (total w (added ++ (word, number) ∷ []))
sum_found added word number next pairs some is kept w =
    ap (map (λ x. x.1)) (sym (found_ended w (put (of_key ended) (word, next) pairs)) ∙ put_is_found ended (ended w) (word, next) pairs
    ∙ rw (same_ended w word) refl)
    ∙ go (are_same w word) refl ∙ sym (ap numbers_for (total_more w added (word, number)))
  where
    go : (t : Bool) → are_same w word ≡ t → map (λ x. x.1)
        (cond t (stored_for (of_key ended) (word, next) pairs ∷ []) (with_key (of_key ended) (ended w) pairs))
        ≡ numbers_for (total w added + cond t number 0)
    go true e =
        let v = ap (λ b. value_at ended (ended b) pairs) (same_equal w word e) ∙ value_found w pairs ∙ ap first_of (kept.each w) in
        ap (λ n. n ∷ []) (stored_value ended (word, next) pairs ∙ is ∙ ap (λ o. min (unwrap_or o 0 + number) (2 ^ 64 - 1)) v)
        ∙ next_sum (total w added) number some
    go false e = ap (map (λ x. x.1)) (found_ended w pairs) ∙ kept.each w ∙ ap numbers_for (omega arith)

pub summed : (added : List (List ℕ × ℕ)) (word : List ℕ) (number next : ℕ) (pairs : List (List ℕ × ℕ)) → 0 < number →
    next ≡ min (unwrap_or (value_at ended (ended word) pairs) 0 + number) (2 ^ 64 - 1) → HasSums added pairs →
    HasSums (added ++ (word, number) ∷ []) (put (of_key ended) (word, next) pairs)
summed added word number next pairs some is kept = record { each = sum_found added word number next pairs some is kept }

-- ---- the counts of a text are counts of words

later_apart : (a b : List ℕ) → is_before a b ≡ true → are_same b a ≡ false
later_apart a b h =
    not_same b a (λ e. false≢true (sym (subst (λ c. is_before c a ≡ false) e (before_apart a b h)) ∙ subst (λ c. is_before a c ≡ true) e h))

-- under each word its number is found
each_found : (counts : List (List ℕ × ℕ)) → Pairwise (λ x y. is_before x.0 y.0 ≡ true) counts → Each (λ y. found y.0 counts ≡ y.1 ∷ []) counts
each_found [] h = tt
each_found (x ∷ xs) h = (found_first x xs h.0, both xs h.0 (each_found xs h.1))
  where
    both : (ys : List (List ℕ × ℕ)) → Each (λ y. is_before x.0 y.0 ≡ true) ys → Each (λ y. found y.0 xs ≡ y.1 ∷ []) ys →
        Each (λ y. found y.0 (x ∷ xs) ≡ y.1 ∷ []) ys
    both [] h k = tt
    both (y ∷ ys) h k = (found_past y.0 x xs (later_apart x.0 y.0 h.0) ∙ k.0, both ys h.1 k.1)

some_times : (n m : ℕ) → m ∷ [] ≡ numbers_for n → (0 < n) × ((0 < m) × (m < 2 ^ 64))
some_times n m e = go (eqb n 0) refl e
  where
    go : (t : Bool) → eqb n 0 ≡ t → m ∷ [] ≡ cond t [] (min n (2 ^ 64 - 1) ∷ []) → (0 < n) × ((0 < m) × (m < 2 ^ 64))
    go true z e = absurd cc
    go false z e =
        let some = eqb-false n 0 z in
        let is : m ≡ min n (2 ^ 64 - 1) = cc in
        (omega arith, (omega arith, omega arith))

word_occurs : (word : List ℕ) (ws : List (List ℕ)) → Each IsWord ws → 0 < times word ws → IsWord word
word_occurs word [] h some = absurd (omega arith)
word_occurs word (w ∷ ws) h some = go (are_same word w) refl some (word_occurs word ws h.1)
  where
    go : (t : Bool) → are_same word w ≡ t → 0 < length (cond t (w ∷ filter (λ v. are_same word v) ws) (filter (λ v. are_same word v) ws)) →
        (0 < times word ws → IsWord word) → IsWord word
    go true e some ih = subst IsWord (same_equal word w e) h.0
    go false e some ih = ih some

filled_words : (ps : List (List ℕ)) → Each IsWhole ps → Each IsWord (filter is_filled ps)
filled_words [] h = tt
filled_words (p ∷ ps) h = go (is_filled p) refl (filled_words ps h.1)
  where
    go : (t : Bool) → is_filled p ≡ t → Each IsWord (filter is_filled ps) → Each IsWord (cond t (p ∷ filter is_filled ps) (filter is_filled ps))
    go true e more = ((e, h.0), more)
    go false e more = more

words_are_words : (text : List ℕ) → Each IsWord (words text)
words_are_words text = filled_words (slice_split is_gap text) (whole_parts text)

pub counts_are : (text : List ℕ) (counts : List (List ℕ × ℕ)) → IsCountOf (words text) counts → Each IsCount counts
counts_are text counts h =
    Each-weaker (λ y. found y.0 counts ≡ y.1 ∷ []) IsCount
    (λ y e. let some = some_times (times y.0 (words text)) y.1 (sym e ∙ h.numbers.each y.0) in
    (word_occurs y.0 (words text) (words_are_words text) some.0, some.1.0, some.1.1)) counts (each_found counts h.rising)

-- ---- the sums of counts are the count of all texts

-- numbers that are equal once both are cut to 2 ^ 64 - 1
abbrev AreAlike : ℕ → ℕ → Type 0
AreAlike n m = min n (2 ^ 64 - 1) ≡ min m (2 ^ 64 - 1)

numbers_alike : (n m : ℕ) → AreAlike n m → numbers_for n ≡ numbers_for m
numbers_alike n m same = go (eqb n 0) refl
  where
    go : (t : Bool) → eqb n 0 ≡ t → numbers_for n ≡ numbers_for m
    go true e = let z = eqb-true n 0 e in ap numbers_for (omega arith)
    go false e =
        let z = eqb-false n 0 e in
        some_number n (omega arith) ∙ ap (λ k. k ∷ []) same ∙ sym (some_number m (omega arith))

abbrev all_of : List ℕ → ℕ
all_of [] = 0
all_of (n ∷ ns) = n + all_of ns

total_is : (word : List ℕ) (counts : List (List ℕ × ℕ)) → total word counts ≡ all_of (found word counts)
total_is word [] = refl
total_is word (x ∷ xs) = go (are_same word x.0) (total_is word xs)
  where
    go : (t : Bool) → total word xs ≡ all_of (found word xs) →
        cond t x.1 0 + total word xs ≡ all_of (map (λ y. y.1) (cond t (x ∷ with_key (λ y. y.0) word xs) (with_key (λ y. y.0) word xs)))
    go true e = ap (λ n. x.1 + n) e
    go false e = omega arith

all_of_numbers : (n : ℕ) → all_of (numbers_for n) ≡ min n (2 ^ 64 - 1)
all_of_numbers n = go (eqb n 0) refl
  where
    go : (t : Bool) → eqb n 0 ≡ t → all_of (cond t [] (min n (2 ^ 64 - 1) ∷ [])) ≡ min n (2 ^ 64 - 1)
    go true e = let z = eqb-true n 0 e in omega arith
    go false e = omega arith

total_of_counts : (word : List ℕ) (ws : List (List ℕ)) (counts : List (List ℕ × ℕ)) → HasTimes ws counts → total word counts ≡ min (times word ws) (2 ^ 64 - 1)
total_of_counts word ws counts h = total_is word counts ∙ ap all_of (h.each word) ∙ all_of_numbers (times word ws)

alike_sum : (s a b t c d : ℕ) → s ≡ a + b → t ≡ c + d → a ≡ min c (2 ^ 64 - 1) → AreAlike b d → AreAlike s t
alike_sum s a b t c d e f g h = omega arith

totals_alike : (word : List ℕ) (texts : List (List ℕ × List (List ℕ × ℕ))) → AreCounts texts →
    AreAlike (total word (flat_map (λ t. t.1) texts)) (times word (all_words texts))
totals_alike word [] h = refl
totals_alike word (t ∷ ts) h =
    alike_sum _ (total word t.1) (total word (flat_map (λ t. t.1) ts)) _ (times word (words t.0)) (times word (all_words ts))
    (total_of_both word t.1 (flat_map (λ t. t.1) ts)) (times_of_both word (words t.0) (all_words ts))
    (total_of_counts word (words t.0) t.1 h.0.numbers) (totals_alike word ts h.1)

pub sums_of_outputs : SumsOfOutputs
sums_of_outputs texts sums h rising sums_are =
    record {
      rising = rising;
      numbers = record { each = λ word. sums_are.each word ∙ numbers_alike _ _ (totals_alike word texts h) };
    }
