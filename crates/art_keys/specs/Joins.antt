-- Two keys as one, the second after the first.
use Rattle.std.specs.Prelude.{◌≡◌, ℕ, ◌+◌, List, ◌++◌, length, take, drop}
use Rattle.std.specs.Ordering.{ordering_then}
use Rattle.std.specs.declared.cmp.Ordering.{Ordering}

module _ {A B : Type 0} where
  -- what is known of each of two keys
  abbrev pub AreKeys : (A → Type 0) → (B → Type 0) → A × B → Type 0
  AreKeys is_first is_second pair = is_first pair.0 × is_second pair.1

  -- the bytes of two keys, one after the other
  abbrev pub joined_bytes : (A → List ℕ) → (B → List ℕ) → A × B → List ℕ
  joined_bytes first second pair = first pair.0 ++ second pair.1

  -- what is known of each of two keys, which have so many bytes together
  abbrev pub AreKeysOf : ℕ → (A → Type 0) → (A → List ℕ) → (B → Type 0) → (B → List ℕ) → A × B → Type 0
  AreKeysOf count is_first first is_second second pair =
      AreKeys is_first is_second pair × (length (joined_bytes first second pair) ≡ count)

  -- the order of the first keys, and then of the second ones
  abbrev pub pair_cmp : (A → A → Ordering) → (B → B → Ordering) → A × B → A × B → Ordering
  pair_cmp by_first by_second x y = ordering_then (by_first x.0 y.0) (by_second x.1 y.1)

  -- the first key is recovered from as many of the bytes as it has, and the second one from the others
  abbrev pub parted : (List ℕ → A) → (List ℕ → ℕ) → (List ℕ → B) → List ℕ → A × B
  parted first_of first_length second_of bytes =
      (first_of (take (first_length bytes) bytes), second_of (drop (first_length bytes) bytes))

-- the length of the two keys that the bytes start with
abbrev pub joined_length : (List ℕ → ℕ) → (List ℕ → ℕ) → List ℕ → ℕ
joined_length first_length second_length bytes = first_length bytes + second_length (drop (first_length bytes) bytes)
