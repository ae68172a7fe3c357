-- What is written in reply to numbers.
use Rattle.std.specs.Prelude.{◌≡◌, ℕ, true, false, List, ◌++◌, codes, Option, Some, None}
use Rattle.art_model.specs.Footprints.{IsIn}
use Rattle.art_parts.specs.Keys.{IsFront}
use Rattle.art_model.specs.Pairs.{last_of, match_of}
use Rattle.text_programs.specs.Entries.{code_of, is_code, line_of}

-- the line of the entry, or none
abbrev pub reply_with : Option (List ℕ × List ℕ) → List ℕ
reply_with None = codes "none\n"
reply_with (Some entry) = line_of entry ++ codes "\n"

-- the line of the last entry whose code is a prefix of the number: where codes rise, the one with the longest code
abbrev pub reply_of : List (List ℕ × List ℕ) → List ℕ → List ℕ
reply_of entries number = reply_with (last_of (match_of code_of number entries))

-- the line is a number, and this is the reply to it
abbrev pub IsCodeReply : List (List ℕ × List ℕ) → List ℕ → List ℕ → Type 0
IsCodeReply entries line reply = (is_code line ≡ true) × (reply ≡ reply_of entries line)

-- an entry's code is a prefix of the number
abbrev pub FindsCode : List (List ℕ × List ℕ) → List ℕ → Type 0
FindsCode entries number = (entry : List ℕ × List ℕ) × IsIn entry entries × IsFront (code_of entry) number

-- the line is no number
abbrev pub IsNoNumber : List ℕ → Type 0
IsNoNumber line = is_code line ≡ false
