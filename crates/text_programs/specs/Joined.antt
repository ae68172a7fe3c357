-- The counts of two texts that are read one after another.
use Rattle.std.specs.Prelude.{◌≡◌, ℕ, ◌+◌, true, List, ◌∷◌, ◌++◌, map, unwrap_or}
use Rattle.art_operations.specs.Keys.{is_before}
use Rattle.art_operations.specs.Pairs.{Pairwise, first_of, with_key}
use Rattle.text_programs.specs.WordCounts.{IsCountOf, numbers_for}
use Rattle.text_programs.specs.Words.{is_gap, words}

-- the number of a word, which is 0 if the word is not counted
abbrev pub number_of : List ℕ → List (List ℕ × ℕ) → ℕ
number_of word counts = unwrap_or (first_of (map (λ x. x.1) (with_key (λ x. x.0) word counts))) 0

-- Each word of two counts is stored once, in the order of bytes, with the sum of its numbers, which is at most 2 ^ 64 - 1.
pub record IsSumOf (ones others sums : List (List ℕ × ℕ)) : Type 0 where
  pub rising : Pairwise (λ x y. is_before x.0 y.0 ≡ true) sums
  pub each : (word : List ℕ) → map (λ x. x.1) (with_key (λ x. x.0) word sums) ≡ numbers_for (number_of word ones + number_of word others)

-- two texts with a gap between them have the words of one and then those of the other
abbrev pub WordsOfJoined : Type 0
WordsOfJoined = (text more : List ℕ) (gap : ℕ) → is_gap gap ≡ true → words (text ++ gap ∷ more) ≡ words text ++ words more

-- their count is the sum of the counts of both
abbrev pub CountsOfJoined : Type 0
CountsOfJoined = (text more : List ℕ) (gap : ℕ) (ones others counts : List (List ℕ × ℕ)) → is_gap gap ≡ true →
    IsCountOf (words text) ones → IsCountOf (words more) others → IsCountOf (words (text ++ gap ∷ more)) counts → IsSumOf ones others counts

-- and what is such a sum is their count
abbrev pub SumsOfCounts : Type 0
SumsOfCounts = (text more : List ℕ) (gap : ℕ) (ones others sums : List (List ℕ × ℕ)) → is_gap gap ≡ true →
    IsCountOf (words text) ones → IsCountOf (words more) others → IsSumOf ones others sums → IsCountOf (words (text ++ gap ∷ more)) sums
