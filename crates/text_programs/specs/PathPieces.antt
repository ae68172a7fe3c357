-- The pieces of a text that paths are read from.
use Rattle.std.specs.Prelude.{◌≡◌, ℕ, List, Some}
use Rattle.std.specs.List.{AllByRecursion as Each}
use Rattle.art_operations.specs.Ended.{HasNoZero}
use Rattle.line_programs.specs.Entries.{entries}
use Rattle.text_lines.specs.Lines.{pieces}
use Rattle.text_lines.specs.declared.lines.End.TheVariants.{Zero}
use Rattle.text_programs.specs.Paths.{lines_of}

-- each piece has an entry, which is the piece
abbrev pub PathsArePieces : Type 0
PathsArePieces = (number : ℕ) (ls : List (List ℕ)) → lines_of (entries Some number ls) ≡ ls

-- no piece that a zero ends has one
abbrev pub PiecesHaveNoZero : Type 0
PiecesHaveNoZero = (text : List ℕ) → Each HasNoZero (pieces Zero text)
