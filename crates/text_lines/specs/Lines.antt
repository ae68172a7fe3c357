-- The lines of a text.
use Rattle.std.specs.Prelude.{◌≡◌, ℕ, Bool, true, false, ◌==◌, if◌then◌else◌, List, [], ◌∷◌, ◌++◌, length, Option, Some}
use Rattle.std.specs.List.{slice_split}
use Rattle.text_lines.specs.declared.lines.End.{End}
use Rattle.text_lines.specs.declared.lines.End.TheVariants.{LineFeed, Zero}

-- a line without a carriage return at its end
abbrev pub without_return : List ℕ → List ℕ
without_return [] = []
without_return (byte ∷ []) = if byte == 13 then [] else byte ∷ []
without_return (byte ∷ next ∷ bytes) = byte ∷ without_return (next ∷ bytes)

-- the lines of parts with a line feed between any two: a carriage return before it belongs to the end of the line, and an
-- empty part after the last one is no line
abbrev pub lines_of : List (List ℕ) → List (List ℕ)
lines_of [] = []
lines_of (part ∷ []) = if length part == 0 then [] else part ∷ []
lines_of (part ∷ next ∷ parts) = without_return part ∷ lines_of (next ∷ parts)

-- the lines between line feeds
abbrev pub lines : List ℕ → List (List ℕ)
lines text = lines_of (slice_split (λ b. b == 10) text)

-- the text is some bytes, and then these ones
abbrev pub EndsWith : List ℕ → List ℕ → Type 0
EndsWith text rest = (before : List ℕ) × (text ≡ before ++ rest)

-- parts with an end between any two: an empty part after the last end is none
abbrev pub ended_parts : List (List ℕ) → List (List ℕ)
ended_parts [] = []
ended_parts (part ∷ []) = if length part == 0 then [] else part ∷ []
ended_parts (part ∷ next ∷ parts) = part ∷ ended_parts (next ∷ parts)

-- the pieces that a byte ends; the last one may have no end
abbrev pub ended_by : ℕ → List ℕ → List (List ℕ)
ended_by end text = ended_parts (slice_split (λ b. b == end) text)

-- the pieces of a text, by what ends each
abbrev pub pieces : End → List ℕ → List (List ℕ)
pieces LineFeed = lines
pieces Zero = ended_by 0

-- the first of these parts of a text was read and the rest is left, or there is none
abbrev pub IsPartRead : (List ℕ → List (List ℕ)) → Bool → List ℕ → List ℕ → Option (List ℕ) → Type 0
IsPartRead parts true text part left = (rest : List ℕ) × (left ≡ Some rest) × (parts text ≡ part ∷ parts rest)
IsPartRead parts false text part left = parts text ≡ []

-- the first line was read and the rest is left, or there is none
abbrev pub IsLineRead : Bool → List ℕ → List ℕ → Option (List ℕ) → Type 0
IsLineRead = IsPartRead lines
