-- Rows: entries with the numbers of their lines.
use Rattle.std.specs.Prelude.{◌≡◌, ◌≢◌, ℕ, Bool, true, false, ◌&&◌, ◌==◌, List, ◌∷◌, map, ⊤}
use Rattle.std.specs.List.{list_any}
use Rattle.std.specs.List.Sorted.{IsPermutation}
use Rattle.art_parts.specs.Keys.{are_same}
use Rattle.text_programs.specs.Entries.{code_of, is_code, line_of}
use Rattle.text_programs.specs.declared.dial_codes.table.LineError.{LineError}
use Rattle.text_programs.specs.declared.dial_codes.table.LineError.TheVariants.{NoEntry, Repeated, NoMemory}
use Rattle.text_programs.specs.declared.dial_codes.table.Named.{Named}

-- the line of a row, with its number
abbrev pub numbered_line : List ℕ × List ℕ × ℕ → ℕ × List ℕ
numbered_line row = (row.2, line_of (row.0, row.1))

-- the entry of a row
abbrev pub entry_of_row : List ℕ × List ℕ × ℕ → List ℕ × List ℕ
entry_of_row row = (row.0, row.1)

-- the rows of pairs of a code and its name, as bytes
abbrev pub rows_of : List (List ℕ × Named) → List (List ℕ × List ℕ × ℕ)
rows_of pairs = map (λ x. (x.0, x.1.name.items, x.1.line)) pairs

-- whether the row of this line has this code
abbrev pub has_code_at : ℕ → List ℕ → List (List ℕ × List ℕ × ℕ) → Bool
has_code_at line code rows = list_any (λ row. are_same code row.0 && row.2 == line) rows

-- The line is that of an entry whose code no row has, which was added to the others with the line's number.
pub record HasLine (line : List ℕ) (number : ℕ) (old new : List (List ℕ × List ℕ × ℕ)) : Type 0 where
  pub entry : List ℕ × List ℕ
  pub code : is_code (code_of entry) ≡ true
  pub is : line ≡ line_of entry
  pub unused : list_any (λ row. are_same (code_of entry) row.0) old ≡ false
  pub came : IsPermutation ((entry.0, entry.1, number) ∷ old) new

-- why a line was not added to these rows: it is none of an entry, or the row of this line has its code
abbrev pub IsFaultBeside : List ℕ → List (List ℕ × List ℕ × ℕ) → LineError → Type 0
IsFaultBeside line rows NoEntry = (code name : List ℕ) → is_code code ≡ true → line ≢ line_of (code, name)
IsFaultBeside line rows (Repeated earlier) = (code name : List ℕ) × (line ≡ line_of (code, name)) × (has_code_at earlier code rows ≡ true)
IsFaultBeside line rows NoMemory = ⊤
