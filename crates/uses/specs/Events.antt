-- Events by the number of a user and a time.
use Rattle.std.specs.Prelude.{ℕ, ℤ, List}
use Rattle.std.specs.Int.{bytes_high_first}
use Rattle.art_operations.specs.Joins.{joined_bytes}
use Rattle.art_operations.specs.KeyedPairs.{pairs_with_first}
use Rattle.art_operations.specs.Numbers.{signed_bytes}

-- the bytes of a user and a time, which may be before the first one
abbrev pub place_bytes : ℕ × ℤ → List ℕ
place_bytes = joined_bytes (bytes_high_first 8) (signed_bytes 8)

-- the events of a user
abbrev pub of_user : ℕ → List ((ℕ × ℤ) × ℕ) → List ((ℕ × ℤ) × ℕ)
of_user user events = pairs_with_first (bytes_high_first 8) (bytes_high_first 8 user) events
