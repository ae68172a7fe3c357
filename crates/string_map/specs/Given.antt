-- Many pairs, written where the caller requests.
use Rattle.std.specs.Prelude.{◌≡◌, ◌≢◌, ◌<◌, ◌≤◌, ◌+◌, ℕ, zero, suc, Bool, true, false, List, length, take, drop, map, reverse, IsSomeAnd, MatchOption, Option}
use Rattle.std.specs.Cmp.Lexicographic.{slice_cmp}
use Rattle.std.specs.List.{flat_map}
use Rattle.std.specs.Ordering.{nat_cmp}
use Rattle.std.specs.declared.ops.Bound.{Bound}
use Rattle.std.specs.declared.ops.Bound.TheVariants.{Included, Excluded, Unbounded}
use Rattle.art_keyed.specs.KeyedPairs.{keys_between}
use Rattle.art_model.specs.Pairs.{first_of}
use Rattle.string_map.specs.Calls.{absent, done, freed, full, no_memory, too_long}
use Rattle.string_map.specs.Shown.{pair_of}
use Rattle.string_map.specs.declared.pairs.Given.{Given}
use Rattle.string_map.specs.declared.pairs.Pair.{Pair}

-- a bound of a range, of a kind: none, a key that belongs to the range, or one that does not
abbrev pub bound_at : ℕ → List ℕ → Bound (List ℕ)
bound_at zero key = Unbounded
bound_at (suc zero) key = Included key
bound_at (suc (suc kind)) key = Excluded key

-- the pairs of a range, in this direction
abbrev pub in_direction : {A : Type 0} → Bool → List A → List A
in_direction false pairs = pairs
in_direction true pairs = reverse pairs

-- the pairs whose keys are between two bounds, in this direction
abbrev pub wanted_of : Bound (List ℕ) → Bound (List ℕ) → Bool → List (List ℕ × ℕ) → List (List ℕ × ℕ)
wanted_of from to is_backward pairs = in_direction is_backward (keys_between (slice_cmp nat_cmp) from to pairs)

-- the keys, one after another
abbrev pub joined_keys : List (List ℕ × ℕ) → List ℕ
joined_keys pairs = flat_map (λ pair. pair.0) pairs

-- The first of the wanted pairs are written and no others, and their keys, one after another, at the front of a buffer.
pub record Gives (wanted : List (List ℕ × ℕ)) (code : ℕ) (buffer : List ℕ) (before written : List Pair) (given : Given) : Type 0 where
  pub few : given.count ≤ length wanted
  pub pairs : take given.count written ≡ map pair_of (take given.count wanted)
  pub others : drop given.count written ≡ drop given.count before
  pub keys : take (length (joined_keys (take given.count wanted))) buffer ≡ joined_keys (take given.count wanted)
  pub all : code ≡ done → given.count ≡ length wanted
  pub fills : code ≡ full → given.count ≡ length written
  pub longer : code ≡ too_long → IsSomeAnd (first_of (drop given.count wanted)) (λ pair.
      (given.key_len ≡ length pair.0) ×
      (length buffer < length (joined_keys (take given.count wanted)) + length pair.0))
  pub no_longer : code ≢ too_long → given.key_len ≡ 0
  pub only : (code ≢ absent) × (code ≢ no_memory) × (code < freed)

-- A call writes the first of the wanted pairs of a map. Of a map that was freed it writes nothing.
abbrev pub GivesPairs : Option (List (List ℕ × ℕ)) → (List (List ℕ × ℕ) → List (List ℕ × ℕ)) → ℕ → List ℕ → List ℕ → List Pair → List Pair →
    Given → Given → Type 0
GivesPairs map wanted code buffer filled before written given counted = MatchOption map
    ((code ≡ freed) × (filled ≡ buffer) × (written ≡ before) × (counted ≡ given))
    (λ pairs. Gives (wanted pairs) code filled before written counted)
