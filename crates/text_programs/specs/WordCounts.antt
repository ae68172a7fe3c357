-- How often each word occurs in a list, and how that is written.
use Rattle.std.specs.Prelude.{◌≡◌, ℕ, ◌-◌, ◌^◌, true, if◌then◌else◌, ◌==◌, min, List, [], ◌∷◌, ◌++◌, length, filter, map, flat_map, codes, Option}
use Rattle.std.specs.Fmt.{decimal}
use Rattle.std.specs.Io.KnownBytes.{Appends}
use Rattle.art_operations.specs.Keys.{are_same, is_before}
use Rattle.art_operations.specs.Pairs.{Pairwise, with_key}

-- how often a word occurs in a list
abbrev pub times : List ℕ → List (List ℕ) → ℕ
times word ws = length (filter (λ w. are_same word w) ws)

-- the numbers of a word that occurs so often: none, or one, which is at most 2 ^ 64 - 1
abbrev pub numbers_for : ℕ → List ℕ
numbers_for n = if n == 0 then [] else min n (2 ^ 64 - 1) ∷ []

-- Under each word its number is found.
pub record HasTimes (ws : List (List ℕ)) (counts : List (List ℕ × ℕ)) : Type 0 where
  pub each : (word : List ℕ) → map (λ x. x.1) (with_key (λ x. x.0) word counts) ≡ numbers_for (times word ws)

-- Each word of the list is stored once, in the order of bytes, with how often it occurs in the list.
pub record IsCountOf (ws : List (List ℕ)) (counts : List (List ℕ × ℕ)) : Type 0 where
  pub rising : Pairwise (λ x y. is_before x.0 y.0 ≡ true) counts
  pub numbers : HasTimes ws counts

-- a list of words has one count
abbrev pub CountIsOne : Type 0
CountIsOne = (ws : List (List ℕ)) (counts others : List (List ℕ × ℕ)) → IsCountOf ws counts → IsCountOf ws others → others ≡ counts

-- the line of a word and its number
abbrev pub line_of : List ℕ × ℕ → List ℕ
line_of count = decimal count.1 ++ codes " " ++ count.0 ++ codes "\n"

-- the lines of the words of the list with their counts are appended
abbrev pub AppendsCounts : List (List ℕ) → Option (List ℕ) → Option (List ℕ) → Type 0
AppendsCounts ws old new = (counts : List (List ℕ × ℕ)) × IsCountOf ws counts × Appends old new (flat_map line_of counts)
