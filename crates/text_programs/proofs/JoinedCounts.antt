-- The counts of two texts are added.
use Rattle.std.proofs.Common.{◌≡◌, ℕ, ◌+◌, ◌-◌, ◌^◌, ◌<◌, Bool, true, false, eqb, eqb-true, min, List, [], ◌∷◌, ◌++◌, length, filter, unwrap_or, refl, ap, ap₂, sym, ◌∙◌, arith, length-append}
use Rattle.std.proofs.lemmas.Bool.{eqb-false}
use Rattle.std.proofs.lemmas.List.Elements.{filter-append}
use Rattle.art_operations.specs.Keys.{are_same}
use Rattle.art_operations.specs.Pairs.{first_of}
use Rattle.text_programs.specs.WordCounts.{HasTimes, numbers_for, times}
use Rattle.text_programs.specs.Joined.{CountsOfJoined, SumsOfCounts, WordsOfJoined, number_of}
use Rattle.text_programs.specs.Words.{words}
use Rattle.text_programs.proofs.Tallies.{number_is, some_number}
use Rattle.text_programs.proofs.WordTexts.{words_around}

-- examples: a word that is counted, and one that is not
number_of_counted : number_of (98 ∷ []) ((97 ∷ [], 2) ∷ (98 ∷ [], 3) ∷ []) ≡ 3
number_of_counted = refl

number_of_absent : number_of (99 ∷ []) ((97 ∷ [], 2) ∷ (98 ∷ [], 3) ∷ []) ≡ 0
number_of_absent = refl

pub words_of_joined : WordsOfJoined
words_of_joined text more gap e = words_around text gap more e

pub times_of_both : (word : List ℕ) (ws vs : List (List ℕ)) → times word (ws ++ vs) ≡ times word ws + times word vs
times_of_both word ws vs = ap length (filter-append (λ w. are_same word w) ws vs) ∙ length-append (filter (λ w. are_same word w) ws) _

number_times : (word : List ℕ) (ws : List (List ℕ)) (counts : List (List ℕ × ℕ)) → HasTimes ws counts →
    number_of word counts ≡ min (times word ws) (2 ^ 64 - 1)
number_times word ws counts h = ap (λ ns. unwrap_or (first_of ns) 0) (h.each word) ∙ number_is (times word ws)

-- numbers may be cut to 2 ^ 64 - 1 before they are added
numbers_cut : (n m : ℕ) → numbers_for (min n (2 ^ 64 - 1) + min m (2 ^ 64 - 1)) ≡ numbers_for (n + m)
numbers_cut n m = go (eqb (n + m) 0) refl
  where
    go : (t : Bool) → eqb (n + m) 0 ≡ t → numbers_for (min n (2 ^ 64 - 1) + min m (2 ^ 64 - 1)) ≡ numbers_for (n + m)
    go true e = let z = eqb-true (n + m) 0 e in ap numbers_for (omega arith)
    go false e =
        let z = eqb-false (n + m) 0 e in
        let some : 0 < n + m = omega arith in
        let cut : min (min n (2 ^ 64 - 1) + min m (2 ^ 64 - 1)) (2 ^ 64 - 1) ≡ min (n + m) (2 ^ 64 - 1) = omega arith in
        some_number (min n (2 ^ 64 - 1) + min m (2 ^ 64 - 1)) (omega arith) ∙ ap (λ k. k ∷ []) cut ∙ sym (some_number (n + m) some)

-- the numbers of a word in two counts, added, are those of both lists of words
numbers_added : (word : List ℕ) (ws vs : List (List ℕ)) (ones others : List (List ℕ × ℕ)) → HasTimes ws ones → HasTimes vs others →
    numbers_for (number_of word ones + number_of word others) ≡ numbers_for (times word (ws ++ vs))
numbers_added word ws vs ones others h k =
    ap numbers_for (ap₂ (λ n m. n + m) (number_times word ws ones h) (number_times word vs others k))
    ∙ numbers_cut (times word ws) (times word vs) ∙ ap numbers_for (sym (times_of_both word ws vs))

pub counts_of_joined : CountsOfJoined
counts_of_joined text more gap ones others counts e h k both =
    record {
      rising = both.rising;
      each = λ word. both.numbers.each word ∙ ap (λ ws. numbers_for (times word ws)) (words_around text gap more e)
          ∙ sym (numbers_added word (words text) (words more) ones others h.numbers k.numbers);
    }

pub sums_of_counts : SumsOfCounts
sums_of_counts text more gap ones others sums e h k both =
    record {
      rising = both.rising;
      numbers = record {
        each = λ word. both.each word ∙ numbers_added word (words text) (words more) ones others h.numbers k.numbers
            ∙ ap (λ ws. numbers_for (times word ws)) (sym (words_around text gap more e));
      };
    }
