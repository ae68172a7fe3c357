-- Tables that are saved.
use Rattle.std.specs.Prelude.{ℕ, List, Option}
use Rattle.std.specs.Io.KnownBytes.{Appends}

-- bytes were appended of which this is so
abbrev pub IsWritten : (List ℕ → Type 0) → Option (List ℕ) → Option (List ℕ) → Type 0
IsWritten Is old new = (bytes : List ℕ) × Is bytes × Appends old new bytes
