-- What the calls of a set do and return, by its keys.
use Rattle.std.specs.Prelude.{◌≡◌, ℕ, true, false, if◌then◌else◌, List, [], ◌∷◌, ◌++◌, map, Option, Some, None}
use Rattle.std.specs.Box.{boxed_slice_items}
use Rattle.std.specs.Iterator.{YieldsThen}
use Rattle.art_model.specs.Pairs.{add_in_order, has_key, is_conflict}
use Rattle.art_changing.specs.declared.insert.MapInsertError.{MapInsertError}
use Rattle.art_changing.specs.declared.insert.MapInsertError.TheVariants as of_map
use Rattle.art_sets.specs.declared.set.SetInsertError.{SetInsertError}
use Rattle.art_sets.specs.declared.set.SetInsertError.TheVariants.{Conflict, Memory}

-- the keys with a new one in its place, if no equal key is stored yet
abbrev pub add_key : {K : Type 0} → (K → List ℕ) → K → List K → List K
add_key bytes key keys = if has_key bytes (bytes key) keys then keys else add_in_order bytes key keys

-- the pairs of a set, with no value
abbrev pub as_pairs : {K : Type 0} → List K → List (K × Unit {0})
as_pairs keys = map (λ k. (k, tt)) keys

-- The error returns the key: with its bytes if a stored key conflicts, or after a failed allocation if no equal key is
-- stored.
abbrev pub IsKeyRefusal : {K : Type 0} → (K → List ℕ) → K → List K → SetInsertError K → Type 0
IsKeyRefusal bytes key keys (Conflict k error) =
    (k ≡ key) × (boxed_slice_items error.byte_repr ≡ bytes key) × (is_conflict bytes (bytes key) keys ≡ true)
IsKeyRefusal bytes key keys (Memory k) = (k ≡ key) × (has_key bytes (bytes key) keys ≡ false)

-- the error of a map for a pair without a value, as one for its key
abbrev pub key_error : {K : Type 0} → MapInsertError K (Unit {0}) → SetInsertError K
key_error (of_map.Conflict k v error) = Conflict k error
key_error (of_map.Memory k v) = Memory k

-- the keys after others were added, one after another
abbrev pub add_all : {K : Type 0} → (K → List ℕ) → List K → List K → List K
add_all bytes [] keys = keys
add_all bytes (k ∷ ks) keys = add_all bytes ks (add_key bytes k keys)

module _ {I K : Type 0} (steps : I → Option K → I → Type 0) (bytes : K → List ℕ) where
  -- all items of an iterator were added
  abbrev pub AddsAll : I → List K → I → List K → Type 0
  AddsAll from before to after = (ks : List K) × YieldsThen steps from ks None to × (after ≡ add_all bytes ks before)

  -- the items before a key were added, and the key was rejected; the iterator has the others
  abbrev pub AddsUntil : I → List K → SetInsertError K → I → List K → Type 0
  AddsUntil from before error to after =
      (ks : List K) × (k : K) × YieldsThen steps from ks (Some k) to × (after ≡ add_all bytes ks before) × IsKeyRefusal bytes k after error

-- some of the given keys were added, in order; the next one was rejected, and the others are left
abbrev pub AddsSome : {K : Type 0} → (K → List ℕ) → List K → List K → SetInsertError K → List K → List K → Type 0
AddsSome {K} bytes before given error after left =
    (ks : List K) × (k : K) × (given ≡ ks ++ k ∷ left) × (after ≡ add_all bytes ks before) × IsKeyRefusal bytes k after error
