-- The order of counts by frequency.
use Rattle.std.specs.Prelude.{ℕ, List, [], ◌∷◌, if◌then◌else◌}
use Rattle.std.specs.Cmp.Lexicographic.{slice_cmp}
use Rattle.std.specs.Ordering.{is_lt, nat_cmp, ordering_then}
use Rattle.std.specs.declared.cmp.Ordering.{Ordering}

-- the more frequent word comes first; of words that occur as often, the one that is before in the order of bytes
abbrev pub frequency_cmp : List ℕ × ℕ → List ℕ × ℕ → Ordering
frequency_cmp x y = ordering_then (nat_cmp y.1 x.1) (slice_cmp nat_cmp x.0 y.0)

-- a count is placed before the first one that it comes before
abbrev pub placed : List ℕ × ℕ → List (List ℕ × ℕ) → List (List ℕ × ℕ)
placed new [] = new ∷ []
placed new (x ∷ xs) = if is_lt (frequency_cmp new x) then new ∷ x ∷ xs else x ∷ placed new xs

-- all counts, the most frequent word first
abbrev pub by_frequency : List (List ℕ × ℕ) → List (List ℕ × ℕ)
by_frequency [] = []
by_frequency (x ∷ xs) = placed x (by_frequency xs)
