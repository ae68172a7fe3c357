-- Numbers as bytes: seven bits a byte, the low ones first, and 128 is added to each byte but the last (LEB128).
use Rattle.std.specs.Prelude.{ℕ, zero, suc, ◌+◌, ◌/◌, ◌%◌, ◌<◌, List, [], ◌∷◌, nat_lt, if◌then◌else◌}

-- a number that has at most so many bytes after the first
unfoldable pub number_within : ℕ → ℕ → List ℕ
number_within zero n = n ∷ []
number_within (suc more) n = if nat_lt n 128 then n ∷ [] else (128 + n % 128) ∷ number_within more (n / 128)

-- the bytes of a number below 2 ^ 64
abbrev pub number_bytes : ℕ → List ℕ
number_bytes n = number_within 9 n

-- the number has at most so many bytes after the first
unfoldable pub FitsWithin : ℕ → ℕ → Type 0
FitsWithin zero n = n < 128
FitsWithin (suc more) n = FitsWithin more (n / 128)
