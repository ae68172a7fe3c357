-- What the calls of a map return, by its pairs.
use Rattle.std.specs.Prelude.{◌≡◌, ℕ, true, false, if◌then◌else◌, List, map, Option}
use Rattle.std.specs.Box.{boxed_slice_items}
use Rattle.std.specs.Option.{option_map}
use Rattle.art_parts.specs.Keys.{are_same}
use Rattle.art_model.specs.Pairs.{of_key, first_of, with_key, has_key, is_conflict}
use Rattle.art_changing.specs.declared.insert.MapInsertError.{MapInsertError}
use Rattle.art_changing.specs.declared.insert.MapInsertError.TheVariants.{Conflict, Memory}

-- The error returns the pair: with the key's bytes if a stored key conflicts, or after a failed allocation if no equal
-- key is stored.
abbrev pub IsRefusalOf : {K V : Type 0} → (K → List ℕ) → K → V → List (K × V) → MapInsertError K V → Type 0
IsRefusalOf bytes key value pairs (Conflict k v error) =
    (k ≡ key) × (v ≡ value) × (boxed_slice_items error.byte_repr ≡ bytes key) ×
    (is_conflict (of_key bytes) (bytes key) pairs ≡ true)
IsRefusalOf bytes key value pairs (Memory k v) =
    (k ≡ key) × (v ≡ value) × (has_key (of_key bytes) (bytes key) pairs ≡ false)

-- The same of a pair whose value was made because no equal key is stored.
abbrev pub IsRefusalOfMade : {K V : Type 0} → (K → List ℕ) → K → (V → Type 0) → List (K × V) → MapInsertError K V → Type 0
IsRefusalOfMade {K} {V} bytes key IsMade pairs error = (value : V) × IsMade value × IsRefusalOf bytes key value pairs error

-- the pair of an error
abbrev pub refused_pair : {K V : Type 0} → MapInsertError K V → K × V
refused_pair (Conflict key value error) = (key, value)
refused_pair (Memory key value) = (key, value)

-- the value under a key
abbrev pub value_at : {K V : Type 0} → (K → List ℕ) → List ℕ → List (K × V) → Option V
value_at bytes key pairs = option_map (λ x. x.1) (first_of (with_key (of_key bytes) key pairs))

-- the pairs with another value under a key
abbrev pub with_value_at : {K V : Type 0} → (K → List ℕ) → List ℕ → V → List (K × V) → List (K × V)
with_value_at bytes key value pairs = map (λ x. if are_same key (bytes x.0) then (x.0, value) else x) pairs
