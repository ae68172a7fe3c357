-- Entries: codes with names, and how lines write them.
use Rattle.std.specs.Prelude.{ℕ, ◌≤◌, Bool, not, ◌&&◌, ◌==◌, List, ◌∷◌, ◌++◌, length, map, Option, Some, None}
use denote.Ref.{Bor}
use Rattle.std.specs.Char.{is_ascii_digit}
use Rattle.std.specs.List.{list_all}
use Rattle.text_programs.specs.declared.dial_codes.table.Named.{Named}

-- whether these are one digit or more
abbrev pub is_code : List ℕ → Bool
is_code bytes = not (length bytes == 0) && list_all is_ascii_digit bytes

-- the code of an entry
abbrev pub code_of : List ℕ × List ℕ → List ℕ
code_of entry = entry.0

-- the line of a code and a name
abbrev pub line_of : List ℕ × List ℕ → List ℕ
line_of entry = entry.0 ++ 32 ∷ entry.1

-- the entries of pairs of a code and its name, as bytes
abbrev pub entries_of : List (List ℕ × Named) → List (List ℕ × List ℕ)
entries_of pairs = map (λ x. (x.0, x.1.name.items)) pairs

-- what borrows of a code and a name point to
abbrev pub entry_of : Bor (List ℕ) × Bor (List ℕ) → List ℕ × List ℕ
entry_of lent = (lent.0.now, lent.1.now)

-- the code of an entry is no longer than that of another one, if there is one
abbrev pub IsNoLonger : List ℕ × List ℕ → Option (List ℕ × List ℕ) → Type 0
IsNoLonger entry None = ⊥
IsNoLonger entry (Some other) = length (code_of entry) ≤ length (code_of other)
