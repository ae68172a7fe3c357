-- Escapes: any string of bytes as one that is ended by a zero and has no zero before it.
use Rattle.std.specs.Prelude.{◌≡◌, ◌<◌, ℕ, zero, suc, List, [], ◌∷◌, ◌++◌}
use Rattle.std.specs.List.{AllByRecursion as Each}

-- a byte as one or two that are not zero: the byte after a 1 distinguishes 0 from 1
abbrev pub escape_byte : ℕ → List ℕ
escape_byte zero = 1 ∷ 1 ∷ []
escape_byte (suc zero) = 1 ∷ 2 ∷ []
escape_byte (suc (suc n)) = suc (suc n) ∷ []

-- the bytes, each escaped
abbrev pub escape_inside : List ℕ → List ℕ
escape_inside [] = []
escape_inside (byte ∷ rest) = escape_byte byte ++ escape_inside rest

-- the bytes, each escaped, and then a zero
abbrev pub escape : List ℕ → List ℕ
escape [] = 0 ∷ []
escape (byte ∷ rest) = escape_byte byte ++ escape rest

-- no byte is 0 or 1, so that the escaped string is the string and a zero
abbrev pub IsPlain : List ℕ → Type 0
IsPlain = Each (λ byte. 1 < byte)

-- the bytes that were escaped
abbrev pub unescape : List ℕ → List ℕ
unescape [] = []
unescape (zero ∷ rest) = []
unescape (suc zero ∷ []) = []
unescape (suc zero ∷ suc zero ∷ rest) = 0 ∷ unescape rest
unescape (suc zero ∷ byte ∷ rest) = 1 ∷ unescape rest
unescape (byte ∷ rest) = byte ∷ unescape rest

-- the bytes are those of an escaped string
abbrev pub IsEscape : List ℕ → Type 0
IsEscape bytes = escape (unescape bytes) ≡ bytes
