-- Replies as JSON: an object a line.
use Rattle.std.specs.Prelude.{ℕ, ◌/◌, ◌%◌, nat_lt, ◌==◌, Bool, true, false, not, ◌&&◌, ◌||◌, if◌then◌else◌, List, [], ◌∷◌, ◌++◌, length, map, flat_map, codes}
use Rattle.std.specs.Char.{digit_char}
use Rattle.std.specs.List.{join_with_byte, slice_split}
use Rattle.std.specs.Str.{is_utf8}
use Rattle.line_programs.specs.declared.line_tables.Outcome.{Outcome}
use Rattle.line_programs.specs.declared.line_tables.Outcome.TheVariants.{Found, NotFound, Invalid}

-- the two hexadecimal digits of a byte
abbrev pub hex : ℕ → List ℕ
hex byte = digit_char (byte / 16) ∷ digit_char (byte % 16) ∷ []

-- whether a byte stands for itself in a string: ASCII apart from control characters, '"' and '\'; and other bytes if the string is UTF-8
abbrev pub is_plain : Bool → ℕ → Bool
is_plain in_utf8 byte = if nat_lt byte 128 then nat_lt 31 byte && (nat_lt byte 127 && (not (byte == 34) && not (byte == 92))) else in_utf8

-- what stands for another byte: '\"', '\\', '\u001f', or '\udcff' for the byte 255, as in Python's surrogateescape
abbrev pub escape : ℕ → List ℕ
escape byte = if byte == 34 || byte == 92 then 92 ∷ byte ∷ [] else (if nat_lt byte 128 then codes "\\u00" else codes "\\udc") ++ hex byte

-- what stands for a byte
abbrev pub string_byte : Bool → ℕ → List ℕ
string_byte in_utf8 byte = if is_plain in_utf8 byte then byte ∷ [] else escape byte

-- a string that has these bytes
abbrev pub json_string : List ℕ → List ℕ
json_string bytes = codes "\"" ++ (flat_map (string_byte (is_utf8 bytes)) bytes ++ codes "\"")

-- strings with commas between them
abbrev pub json_strings : List (List ℕ) → List ℕ
json_strings texts = join_with_byte 44 (map json_string texts)

-- a comma, unless nothing is left
abbrev pub comma_before : List ℕ → List ℕ
comma_before [] = []
comma_before (byte ∷ left) = codes ","

-- a boolean
abbrev pub json_bool : Bool → List ℕ
json_bool true = codes "true"
json_bool false = codes "false"

-- the object of a line, whether something was found for it, and the lines of the reply
abbrev pub json_object : List ℕ → Bool → List (List ℕ) → List ℕ
json_object line is_found texts =
    codes "{\"query\":" ++ (json_string line ++ (codes ",\"found\":" ++ (json_bool is_found
    ++ (codes ",\"lines\":[" ++ (json_strings texts ++ codes "]}\n")))))

-- the parts between line feeds, without an empty one after the last line feed
abbrev pub ended_parts : List (List ℕ) → List (List ℕ)
ended_parts [] = []
ended_parts (part ∷ []) = if length part == 0 then [] else part ∷ []
ended_parts (part ∷ next ∷ parts) = part ∷ ended_parts (next ∷ parts)

-- the lines of a reply
abbrev pub reply_lines : List ℕ → List (List ℕ)
reply_lines reply = ended_parts (slice_split (λ b. b == 10) reply)

-- the object of a line and its reply; none of a line that asks for nothing
abbrev pub json_reply : List ℕ → Outcome → List ℕ → List ℕ
json_reply line Found reply = json_object line true (reply_lines reply)
json_reply line NotFound reply = json_object line false (reply_lines reply)
json_reply line Invalid reply = []
