-- Keys that are made from a source of their bytes, where they are new.
use Rattle.std.specs.Prelude.{◌≡◌, ℕ, false, List}
use Rattle.art_model.specs.Pairs.{has_key, of_key}
use Rattle.art_changing.specs.MapAnswers.{IsRefusalOf, refused_pair}
use Rattle.art_map.specs.declared.map.to_key.MapSourceError.{MapSourceError}
use Rattle.art_map.specs.declared.map.to_key.MapSourceError.TheVariants.{Insert, Memory, NoKey}

-- the bytes of each source are those of the key that is made from it
abbrev pub HasSameBytes : {S K : Type 0} → (K → List ℕ) → (S → List ℕ) → (S → K) → Type 0
HasSameBytes {S} bytes key made = (source : S) → bytes (made source) ≡ key source

-- the value of an error
abbrev pub refused_value : {K V : Type 0} → MapSourceError K V → V
refused_value (NoKey value) = value
refused_value (Memory value) = value
refused_value (Insert error) = (refused_pair error).1

-- The key is not stored, and the value is returned: there is no such key, or there is and an allocation for it failed.
-- Or the key was made, and the pair is returned.
abbrev pub IsSourceRefusal : {K V : Type 0} → (K → List ℕ) → K → Type 0 → Type 0 → V → List (K × V) → MapSourceError K V → Type 0
IsSourceRefusal bytes key IsKey AllocatesNothing value pairs (NoKey given) =
    (given ≡ value) × (¬ IsKey) × (has_key (of_key bytes) (bytes key) pairs ≡ false)
IsSourceRefusal bytes key IsKey AllocatesNothing value pairs (Memory given) =
    (given ≡ value) × IsKey × (¬ AllocatesNothing) × (has_key (of_key bytes) (bytes key) pairs ≡ false)
IsSourceRefusal bytes key IsKey AllocatesNothing value pairs (Insert error) = IsKey × IsRefusalOf bytes key value pairs error
