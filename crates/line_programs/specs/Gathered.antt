-- Replies that are gathered before they are written, and the lines that they answer.
use Rattle.std.specs.Prelude.{◌≡◌, ℕ, List, ◌++◌, codes, length, map, flat_map}
use Rattle.text_lines.specs.Lines.{lines}
use Rattle.line_programs.specs.declared.line_tables.Outcome.{Outcome}
use Rattle.line_programs.specs.declared.line_tables.Reply.{Reply}
use Rattle.line_programs.specs.Outcomes.{outcome_of, worst}

-- a reply as it is written
abbrev pub reply_line : Reply → List ℕ
reply_line reply = reply.text.now ++ codes "\n"

-- The first so many replies, one after another, are these bytes, the worst of their outcomes is this one, and the others are left.
pub record AreGathered (replies others : List Reply) (count : ℕ) (outcome : Outcome) (bytes : List ℕ) : Type 0 where
  pub first : List Reply
  pub replies_are : replies ≡ first ++ others
  pub many : length first ≡ count
  pub bytes_are : bytes ≡ flat_map reply_line first
  pub outcome_is : outcome ≡ worst (map (λ reply. outcome_of reply.is_found) first)

-- So many lines of a text are before those of what is left.
pub record AreLinesBefore (count : ℕ) (text left : List ℕ) : Type 0 where
  pub before : List (List ℕ)
  pub lines_are : lines text ≡ before ++ lines left
  pub many : length before ≡ count
