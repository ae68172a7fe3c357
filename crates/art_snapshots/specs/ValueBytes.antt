-- The bytes of values.
use Rattle.std.specs.Prelude.{ℕ, zero, suc, ℤ, List, [], ◌∷◌}
use Rattle.std.specs.Int.{Width, cast_unsigned, to_be_bytes}

-- the bytes of a signed number in two's complement, the highest first
abbrev pub twos_complement : Width → ℤ → List ℕ
twos_complement w z = to_be_bytes w (cast_unsigned w z)

-- the first bytes of a list, and zeros where it has fewer: those of an array of so many bytes are its own
unfoldable pub array_bytes : ℕ → List ℕ → List ℕ
array_bytes zero bytes = []
array_bytes (suc count) [] = 0 ∷ array_bytes count []
array_bytes (suc count) (byte ∷ bytes) = byte ∷ array_bytes count bytes
