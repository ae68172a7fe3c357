-- Numbers as bytes, the highest first. Half of the range is added to a signed number, so that the bytes of the least
-- one are zeros.
use Rattle.std.specs.Prelude.{◌≡◌, ℕ, suc, ◌+◌, ◌-◌, ◌*◌, ◌/◌, ◌^◌, ◌<◌, List, [], ◌∷◌, length, ℤ, pos, negsuc}
use Rattle.std.specs.Int.{bytes_high_first}
use Rattle.std.proofs.Math.IntN.{sub_ℕ}

-- the number with these digits in base 256
abbrev pub number_of : List ℕ → ℕ
number_of [] = 0
number_of (byte ∷ bytes) = byte * 256 ^ length bytes + number_of bytes

-- it is a number of so many bytes
abbrev pub HasBytes : ℕ → ℕ → Type 0
HasBytes count n = n < 256 ^ count

-- these are the bytes of a number of so many bytes
pub record IsNumber (count : ℕ) (bytes : List ℕ) : Type 0 where
  pub small : HasBytes count (number_of bytes)
  pub is : bytes ≡ bytes_high_first count (number_of bytes)

-- half of the range of numbers of so many bytes
abbrev pub half : ℕ → ℕ
half count = 256 ^ count / 2

-- it is a signed number of so many bytes
abbrev pub HasSignedBytes : ℕ → ℤ → Type 0
HasSignedBytes count (pos n) = n < half count
HasSignedBytes count (negsuc n) = n < half count

-- a signed number plus half of the range
abbrev pub lifted : ℕ → ℤ → ℕ
lifted count (pos n) = half count + n
lifted count (negsuc n) = half count - suc n

-- a number minus half of the range
abbrev pub lowered : ℕ → ℕ → ℤ
lowered count n = sub_ℕ n (half count)

-- the bytes of a signed number
abbrev pub signed_bytes : ℕ → ℤ → List ℕ
signed_bytes count z = bytes_high_first count (lifted count z)

-- these are the bytes of a signed number of so many bytes
pub record IsSignedNumber (count : ℕ) (bytes : List ℕ) : Type 0 where
  pub small : HasSignedBytes count (lowered count (number_of bytes))
  pub is : bytes ≡ signed_bytes count (lowered count (number_of bytes))
