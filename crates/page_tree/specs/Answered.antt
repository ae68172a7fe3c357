-- What the lines of a text are answered, and the tree that they leave.
use Rattle.std.specs.Prelude.{◌≡◌, ◌<◌, ◌≤◌, ℕ, List, [], length, take, Some}
use Rattle.art_engine.specs.Served.{AreServed}
use Rattle.art_engine.specs.declared.keeping.status.Ending.{Ending}
use Rattle.art_engine.specs.declared.keeping.status.Ending.TheVariants.{Input, BadLine}
use Rattle.art_engine.specs.declared.keeping.tree.KeptTree.{KeptTree}
use Rattle.text_lines.specs.Lines.{lines}

-- the lines of the text lead from the first tree to the last one, and end so; the replies are the first len bytes of the buffer
abbrev pub AnswersLines : KeptTree → KeptTree → List ℕ → Ending → ℕ → List ℕ → Type 0
AnswersLines tree last text why len buffer = AreServed (lines text) 1 tree last (Some []) why (Some (take len buffer))

-- by the code: all lines were answered; those before the first that is no valid request; the replies don't fit into the buffer
pub record AnswersText (tree last : KeptTree) (text : List ℕ) (code len : ℕ) (buffer : List ℕ) : Type 0 where
  pub all : code ≡ 0 → AnswersLines tree last text Input len buffer
  pub some : code ≡ 2 → AnswersLines tree last text BadLine len buffer
  pub long : code ≡ 3 → length buffer < len
  pub few : code ≤ 3
