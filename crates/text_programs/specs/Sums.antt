-- Counts that are added up, and the counts of several texts.
use Rattle.std.specs.Prelude.{◌≡◌, ℕ, ◌+◌, if◌then◌else◌, List, [], ◌∷◌, map, flat_map, true}
use Rattle.std.specs.List.{AllByRecursion as Each}
use Rattle.art_operations.specs.Keys.{are_same, is_before}
use Rattle.art_operations.specs.Pairs.{Pairwise, with_key}
use Rattle.text_lines.specs.Lines.{lines}
use Rattle.text_programs.specs.WordCounts.{IsCountOf, line_of, numbers_for}
use Rattle.text_programs.specs.Rows.{AreRows}
use Rattle.text_programs.specs.Words.{words}

-- the sum of the numbers that a word has
abbrev pub total : List ℕ → List (List ℕ × ℕ) → ℕ
total word [] = 0
total word (count ∷ counts) = (if are_same word count.0 then count.1 else 0) + total word counts

-- Under each word the sum of its numbers is found.
pub record HasSums (added counts : List (List ℕ × ℕ)) : Type 0 where
  pub each : (word : List ℕ) → map (λ x. x.1) (with_key (λ x. x.0) word counts) ≡ numbers_for (total word added)

-- the words of texts, one text after another
abbrev pub all_words : List (List ℕ × List (List ℕ × ℕ)) → List (List ℕ)
all_words texts = flat_map (λ t. words t.0) texts

-- each text has this count
abbrev pub AreCounts : List (List ℕ × List (List ℕ × ℕ)) → Type 0
AreCounts = Each (λ t. IsCountOf (words t.0) t.1)

-- the lines that are written of a text are those of its counts, and of no others
abbrev pub OutputsAreRows : Type 0
OutputsAreRows = (text : List ℕ) (counts : List (List ℕ × ℕ)) → IsCountOf (words text) counts → AreRows (lines (flat_map line_of counts)) counts

abbrev pub RowsAreDetermined : Type 0
RowsAreDetermined = (ls : List (List ℕ)) (counts others : List (List ℕ × ℕ)) → AreRows ls counts → AreRows ls others → others ≡ counts

-- and all these, added up, are the count of the words of all texts
abbrev pub SumsOfOutputs : Type 0
SumsOfOutputs = (texts : List (List ℕ × List (List ℕ × ℕ))) (sums : List (List ℕ × ℕ)) → AreCounts texts →
    Pairwise (λ x y. is_before x.0 y.0 ≡ true) sums → HasSums (flat_map (λ t. t.1) texts) sums → IsCountOf (all_words texts) sums
