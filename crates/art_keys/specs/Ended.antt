-- Strings of bytes that are ended by a zero.
use Rattle.std.specs.Prelude.{◌≡◌, ◌≢◌, ℕ, zero, suc, ◌++◌, List, [], ◌∷◌}
use Rattle.std.specs.List.{AllByRecursion as Each}
use Rattle.art_keys.specs.declared.terminated.EndError.{EndError}
use Rattle.art_keys.specs.declared.terminated.EndError.TheVariants.{InnerZero, Memory}

-- no byte is zero
abbrev pub HasNoZero : List ℕ → Type 0
HasNoZero = Each (λ byte. byte ≢ 0)

-- the bytes, and then a zero
abbrev pub ended : List ℕ → List ℕ
ended text = text ++ 0 ∷ []

-- the bytes before the last
abbrev pub without_end : List ℕ → List ℕ
without_end [] = []
without_end (byte ∷ []) = []
without_end (byte ∷ next ∷ rest) = byte ∷ without_end (next ∷ rest)

-- the number of bytes before the first zero, or of all bytes if none is zero
abbrev pub zero_at : List ℕ → ℕ
zero_at [] = 0
zero_at (zero ∷ rest) = 0
zero_at (suc byte ∷ rest) = suc (zero_at rest)

-- the length of the string that the first zero ends, with that zero
abbrev pub ended_length : List ℕ → ℕ
ended_length bytes = suc (zero_at bytes)

-- the last byte is zero, and no other one
pub record IsEnded (bytes : List ℕ) : Type 0 where
  pub text : HasNoZero (without_end bytes)
  pub is_end : bytes ≡ ended (without_end bytes)

-- the error returns the bytes: there is a zero among them, or there is none and an allocation failed
abbrev pub IsEndRefusal : List ℕ → EndError → Type 0
IsEndRefusal bytes (InnerZero text) = (text.items ≡ bytes) × ¬ HasNoZero bytes
IsEndRefusal bytes (Memory text) = (text.items ≡ bytes) × HasNoZero bytes
