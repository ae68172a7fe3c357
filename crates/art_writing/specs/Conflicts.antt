-- How the conflict of a key with an unequal stored one is displayed.
use Rattle.std.specs.Prelude.{ℕ, List, [], ◌∷◌, ◌++◌, flat_map, codes}
use Rattle.std.specs.Fmt.{decimal}

-- bytes in decimal, separated by commas
abbrev pub bytes_text : List ℕ → List ℕ
bytes_text [] = []
bytes_text (byte ∷ bytes) = decimal byte ++ flat_map (λ other. codes ", " ++ decimal other) bytes

-- the words around the key's bytes
abbrev pub conflict_text : List ℕ → List ℕ
conflict_text key =
    codes "Attempted to insert a key [[" ++ bytes_text key ++
    codes "]] which is either a prefix of an existing key or an existing key is a prefix of the new key."
