-- Messages about lines.
use Rattle.std.specs.Prelude.{ℕ, List, [], ◌∷◌, ◌++◌, codes}
use Rattle.std.specs.Fmt.{decimal}
use Rattle.line_programs.specs.declared.messages.Place.{Place}

-- a line in quotes, unless it is empty
abbrev pub quoted : List ℕ → List ℕ
quoted [] = []
quoted (byte ∷ bytes) = codes ": '" ++ ((byte ∷ bytes) ++ codes "'")

-- the message that something is wrong with the line of a number, as `route_table: standard input:2: not an address: 'x'`
abbrev pub message : Place → ℕ → List ℕ → List ℕ → List ℕ
message place number fault line =
    place.program.now ++ (codes ": " ++ (place.source.now ++ (codes ":" ++ (decimal number
    ++ (codes ": " ++ (fault ++ (quoted line ++ codes "\n")))))))
