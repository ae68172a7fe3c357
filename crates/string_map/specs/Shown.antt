-- One pair, written where the caller requests.
use Rattle.std.specs.Prelude.{◌≡◌, ◌<◌, ◌≤◌, ℕ, List, length, take, MatchOption, Option}
use Rattle.string_map.specs.Calls.{absent, done, freed, too_long}
use Rattle.string_map.specs.declared.pairs.Pair.{Pair}

-- a pair as it is written: its key is elsewhere
abbrev pub pair_of : List ℕ × ℕ → Pair
pair_of pair = record { value = pair.1; key_len = length pair.0 }

-- a key is at the front of a buffer, or is longer than it
abbrev pub IsInFront : List ℕ → ℕ → List ℕ → Type 0
IsInFront key code buffer =
    (length key ≤ length buffer → (code ≡ done) × (take (length key) buffer ≡ key)) ×
    (length buffer < length key → code ≡ too_long)

-- a pair is written, if there is one, and else nothing
abbrev pub Shows : Option (List ℕ × ℕ) → ℕ → List ℕ → List ℕ → Pair → Pair → Type 0
Shows found code buffer filled before after = MatchOption found ((code ≡ absent) × (filled ≡ buffer) × (after ≡ before))
    (λ pair. (after ≡ pair_of pair) × IsInFront pair.0 code filled)

-- A call writes one of the pairs of a map, if there is one. Of a map that was freed it writes nothing.
abbrev pub ShowsPair : Option (List (List ℕ × ℕ)) → (List (List ℕ × ℕ) → Option (List ℕ × ℕ)) → ℕ → List ℕ → List ℕ → Pair → Pair → Type 0
ShowsPair map wanted code buffer filled before after = MatchOption map ((code ≡ freed) × (filled ≡ buffer) × (after ≡ before))
    (λ pairs. Shows (wanted pairs) code buffer filled before after)
