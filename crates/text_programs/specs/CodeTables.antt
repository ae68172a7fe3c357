-- What a table of codes has of a text, and why there is none.
use Rattle.std.specs.Prelude.{◌≡◌, ◌≢◌, ℕ, true, List, map, ⊤}
use Rattle.std.specs.List.{AllByRecursion as Each}
use Rattle.std.specs.List.Sorted.{IsPermutation}
use Rattle.art_model.specs.Footprints.{IsIn}
use Rattle.art_model.specs.Pairs.{Pairwise}
use Rattle.text_programs.specs.CodeRows.{entry_of_row, numbered_line}
use Rattle.text_programs.specs.Entries.{is_code, line_of}
use Rattle.text_programs.specs.declared.dial_codes.table.LineError.{LineError}
use Rattle.text_programs.specs.declared.dial_codes.table.LineError.TheVariants.{NoEntry, Repeated, NoMemory}

-- The numbered lines are those of these rows.
pub record AreLinesOf (ls : List (ℕ × List ℕ)) (rows : List (List ℕ × List ℕ × ℕ)) : Type 0 where
  pub are : ls ≡ map numbered_line rows
  pub codes : Each (λ row. is_code row.0 ≡ true) rows

-- The lines are those of the table's entries, in some order.
pub record IsTableOf (ls : List (ℕ × List ℕ)) (table : List (List ℕ × List ℕ)) : Type 0 where
  pub rows : List (List ℕ × List ℕ × ℕ)
  pub lines_are : AreLinesOf ls rows
  pub same : IsPermutation (map entry_of_row rows) table

-- no two of the rows have the same code
abbrev pub HaveOwnCodes : List (List ℕ × List ℕ × ℕ) → Type 0
HaveOwnCodes rows = Pairwise (λ x y. x.0 ≢ y.0) rows

-- The lines are those of a table's rows, in some order; their codes differ.
pub record IsFilledBy (table : List (List ℕ × List ℕ × ℕ)) (ls : List (ℕ × List ℕ)) : Type 0 where
  pub rows : List (List ℕ × List ℕ × ℕ)
  pub lines_are : AreLinesOf ls rows
  pub differ : HaveOwnCodes rows
  pub same : IsPermutation rows table

-- The row of this number has this code.
pub record IsRepeatedAt (code : List ℕ) (number : ℕ) (rows : List (List ℕ × List ℕ × ℕ)) : Type 0 where
  pub earlier : List ℕ × List ℕ × ℕ
  pub there : IsIn earlier rows
  pub number_is : earlier.2 ≡ number
  pub same : code ≡ earlier.0

-- why a line can't follow the lines of these rows: it is none of an entry, or its code is that of this line
abbrev pub IsFaultOf : List ℕ → List (List ℕ × List ℕ × ℕ) → LineError → Type 0
IsFaultOf line rows NoEntry = (code name : List ℕ) → is_code code ≡ true → line ≢ line_of (code, name)
IsFaultOf line rows (Repeated earlier) = (code name : List ℕ) × (line ≡ line_of (code, name)) × IsRepeatedAt code earlier rows
IsFaultOf line rows NoMemory = ⊤

-- the lines before this one are those of entries with different codes, and it has this fault: it is the first line with one
abbrev pub IsCodeFault : List (ℕ × List ℕ) → List ℕ → LineError → Type 0
IsCodeFault before line fault =
    (rows : List (List ℕ × List ℕ × ℕ)) × AreLinesOf before rows × HaveOwnCodes rows × IsFaultOf line rows fault
