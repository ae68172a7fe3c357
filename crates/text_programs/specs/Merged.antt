-- A text of counts that are added to others.
use Rattle.std.specs.Prelude.{ℕ, List, ◌++◌, ⊤}
use Rattle.text_programs.specs.Rows.{AreRows, IsBadRow}
use Rattle.text_programs.specs.Sums.{HasSums}
use Rattle.text_programs.specs.declared.word_counts.merging.MergeError.{MergeError}
use Rattle.text_programs.specs.declared.word_counts.merging.MergeError.TheVariants.{Line, Input}

-- the lines are those of counts, which are added to what was added before
abbrev pub AreAdded : List (List ℕ × ℕ) → List (List ℕ × ℕ) → List (List ℕ) → Type 0
AreAdded old new ls =
    (counts : List (List ℕ × ℕ)) × AreRows ls counts × ((before : List (List ℕ × ℕ)) → HasSums before old → HasSums (before ++ counts) new)

-- the line of this number is that of no count; or the input can't be read
abbrev pub IsRefused : List (List ℕ) → MergeError → Type 0
IsRefused ls (Line number line) = IsBadRow number line.items ls
IsRefused ls (Input error) = ⊤
