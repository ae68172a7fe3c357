-- The entries of a table's lines.
use Rattle.std.specs.Prelude.{ℕ, ◌+◌, ◌-◌, ◌==◌, if◌then◌else◌, List, [], ◌∷◌, length, take, drop, Option, Some, None}
use Rattle.std.specs.Char.{is_ascii_whitespace}
use Rattle.std.specs.List.{prefix_len, suffix_len}

-- a line without the white space at its end
abbrev pub without_end : List ℕ → List ℕ
without_end line = take (length line - suffix_len is_ascii_whitespace line) line

-- a line without the white space at its start and at its end
abbrev pub trimmed : List ℕ → List ℕ
trimmed line = without_end (drop (prefix_len is_ascii_whitespace line) line)

-- what is there, unless it is empty or starts with '#'
abbrev pub unless_comment : List ℕ → Option (List ℕ)
unless_comment [] = None
unless_comment (first ∷ rest) = if first == 35 then None else Some (first ∷ rest)

-- a line without the white space around it, unless it is blank or a comment
abbrev pub trimmed_entry : List ℕ → Option (List ℕ)
trimmed_entry line = unless_comment (trimmed line)

-- an entry with the number of its line is added to the others
abbrev pub with_entry : ℕ → Option (List ℕ) → List (ℕ × List ℕ) → List (ℕ × List ℕ)
with_entry number None entries = entries
with_entry number (Some entry) entries = (number, entry) ∷ entries

-- the entries of lines with their numbers, of which the first is this one
abbrev pub entries : (List ℕ → Option (List ℕ)) → ℕ → List (List ℕ) → List (ℕ × List ℕ)
entries entry_of number [] = []
entries entry_of number (line ∷ ls) = with_entry number (entry_of line) (entries entry_of (number + 1) ls)
