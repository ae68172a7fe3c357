-- The entries of a set are those of a map without values.
use Rattle.std.proofs.Common.{◌≡◌, ℕ, Bool, true, false, List, [], ◌∷◌, map, refl, ap, ap₂, sym}
use Rattle.std.proofs.lemmas.Bool.{true≢false}
use Rattle.std.specs.Bool.{⊤}
use Rattle.std.specs.List.{AllByRecursion as Each}
use Rattle.art_keys.specs.Prefixes.{AreInjective}
use Rattle.art_keyed.specs.KeyedPairs.{HaveKeys}
use Rattle.art_iterating.specs.MapItems.{keys_of}
use Rattle.snapshot_format.specs.Snapshots.{Entry, entry}
use Rattle.art_snapshots.specs.MapEntries.{entries_of, key_entries}

-- the keys without values
abbrev pub units : {K : Type 0} → List K → List (K × ⊤)
units keys = map (λ key. (key, tt)) keys

-- the key of the first entry, if there is one
abbrev first_key : List Entry → List ℕ
first_key [] = []
first_key (entry ∷ entries) = entry.key

-- all entries but the first one
abbrev others : List Entry → List Entry
others [] = []
others (entry ∷ entries) = entries

-- whether there is no entry
abbrev is_none : List Entry → Bool
is_none [] = true
is_none (entry ∷ entries) = false

module _ {K : Type 0} (bytes : K → List ℕ) where
  pub entries_keys : (pairs : List (K × ⊤)) → entries_of bytes (λ value. []) pairs ≡ key_entries bytes (keys_of pairs)
  entries_keys [] = refl
  entries_keys (pair ∷ pairs) = ap (λ entries. entry (bytes pair.0) [] ∷ entries) (entries_keys pairs)

  pub entries_units : (keys : List K) → entries_of bytes (λ value. []) (units keys) ≡ key_entries bytes keys
  entries_units [] = refl
  entries_units (key ∷ keys) = ap (λ entries. entry (bytes key) [] ∷ entries) (entries_units keys)

  module _ (is_key : K → Type 0) where
    pub have_units : (keys : List K) → Each is_key keys → HaveKeys is_key (units keys)
    have_units [] of_keys = tt
    have_units (key ∷ keys) of_keys = (of_keys.0, have_units keys of_keys.1)

    pub are_keys : (pairs : List (K × ⊤)) → HaveKeys is_key pairs → Each is_key (keys_of pairs)
    are_keys [] of_keys = tt
    are_keys (pair ∷ pairs) of_keys = (of_keys.0, are_keys pairs of_keys.1)

    -- keys with the same entries are the same
    pub same_keys : AreInjective is_key bytes → (a b : List K) → Each is_key a → Each is_key b → key_entries bytes a ≡ key_entries bytes b → a ≡ b
    same_keys injective [] [] of_a of_b same = refl
    same_keys injective [] (y ∷ b) of_a of_b same = absurd (true≢false (ap is_none same))
    same_keys injective (x ∷ a) [] of_a of_b same = absurd (true≢false (sym (ap is_none same)))
    same_keys injective (x ∷ a) (y ∷ b) of_a of_b same =
        ap₂ (λ z zs. z ∷ zs) (injective x y of_a.0 of_b.0 (ap first_key same)) (same_keys injective a b of_a.1 of_b.1 (ap others same))
