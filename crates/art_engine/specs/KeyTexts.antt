-- The text of a key in a line.
use Rattle.std.specs.Prelude.{◌≡◌, ℕ, ◌<◌, ◌^◌, List, [], ◌∷◌, map, All, codes}
use Rattle.std.specs.List.{join_with_byte}
use Rattle.std.specs.Fmt.{decimal}

-- `-` for the empty key, else the bytes in decimal joined by dots
abbrev pub key_word : List ℕ → List ℕ
key_word [] = codes "-"
key_word (b ∷ bs) = join_with_byte 46 (map decimal (b ∷ bs))

-- the word writes a byte in decimal
abbrev pub IsByteWord : List ℕ → Type 0
IsByteWord word = (b : ℕ) × (b < 2 ^ 8) × (word ≡ decimal b)

-- numbers that are bytes
abbrev pub AreBytes : List ℕ → Type 0
AreBytes = All (λ b. b < 2 ^ 8)

-- the word writes some key
abbrev pub IsKeyWord : List ℕ → Type 0
IsKeyWord word = (key : List ℕ) × AreBytes key × (word ≡ key_word key)
