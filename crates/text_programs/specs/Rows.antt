-- Lines of counts, and the sums of what they count.
use Rattle.std.specs.Prelude.{◌≡◌, ◌≢◌, ℕ, ◌+◌, ◌<◌, ◌^◌, Bool, not, ◌&&◌, ◌==◌, List, ◌∷◌, ◌++◌, length, map}
use Rattle.std.specs.Fmt.{decimal}
use Rattle.std.specs.List.{AllByRecursion as Each, list_all}
use Rattle.text_programs.specs.Words.{IsWord, is_gap}

-- how often a word occurs, a space, and the word
abbrev pub row_of : List ℕ × ℕ → List ℕ
row_of count = decimal count.1 ++ 32 ∷ count.0

-- a word that occurs at least once, and at most 2 ^ 64 - 1 times
abbrev pub IsCount : List ℕ × ℕ → Type 0
IsCount count = IsWord count.0 × (0 < count.1) × (count.1 < 2 ^ 64)

-- whether the bytes are a word
abbrev pub is_word : List ℕ → Bool
is_word bytes = not (length bytes == 0) && list_all (λ byte. not (is_gap byte)) bytes

-- the lines are those of counts
abbrev pub AreRows : List (List ℕ) → List (List ℕ × ℕ) → Type 0
AreRows ls counts = (ls ≡ map row_of counts) × Each IsCount counts

-- the line of this number is that of no count, and each before it is one of a count
abbrev pub IsBadRow : ℕ → List ℕ → List (List ℕ) → Type 0
IsBadRow number line ls =
    (before : List (List ℕ × ℕ)) × (after : List (List ℕ)) × (ls ≡ map row_of before ++ line ∷ after)
    × Each IsCount before × ((count : List ℕ × ℕ) → IsCount count → line ≢ row_of count) × (number ≡ length before + 1)
