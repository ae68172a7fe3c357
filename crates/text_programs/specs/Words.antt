-- The words of a text.
use Rattle.std.specs.Prelude.{◌≡◌, ℕ, Bool, true, false, ◌==◌, ◌||◌, List, [], ◌∷◌, ◌++◌, filter, ⊤}
use Rattle.std.specs.Char.{is_ascii_whitespace}
use Rattle.std.specs.List.{AllByRecursion as Each, slice_split}

-- a byte that no word has: zero, and white space
abbrev pub is_gap : ℕ → Bool
is_gap byte = byte == 0 || is_ascii_whitespace byte

-- whether there is a byte
abbrev pub is_filled : List ℕ → Bool
is_filled [] = false
is_filled (byte ∷ bytes) = true

-- the parts between gaps that are not empty
abbrev pub words : List ℕ → List (List ℕ)
words text = filter is_filled (slice_split is_gap text)

-- ---- what determines them

abbrev pub AreGaps : List ℕ → Type 0
AreGaps = Each (λ byte. is_gap byte ≡ true)

-- one byte or more, and none of them a gap
abbrev pub IsWord : List ℕ → Type 0
IsWord word = (is_filled word ≡ true) × Each (λ byte. is_gap byte ≡ false) word

-- nothing, or a gap and more
abbrev pub EndsWord : List ℕ → Type 0
EndsWord [] = ⊤
EndsWord (byte ∷ bytes) = is_gap byte ≡ true

-- gaps have no words
abbrev pub GapsAreNoWords : Type 0
GapsAreNoWords = (gaps : List ℕ) → AreGaps gaps → words gaps ≡ []

-- after gaps, what reaches up to a gap or the end is the first word
abbrev pub WordsAreRuns : Type 0
WordsAreRuns = (gaps word rest : List ℕ) → AreGaps gaps → IsWord word → EndsWord rest →
    words (gaps ++ (word ++ rest)) ≡ word ∷ words rest
