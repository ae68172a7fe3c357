-- The entries of the snapshot of a map, and of a set.
use Rattle.std.specs.Prelude.{◌≡◌, ℕ, List, [], ⊤, map}
use Rattle.snapshot_format.specs.Snapshots.{Entry, entry}

module _ {K V : Type 0} (bytes : K → List ℕ) (value_bytes : V → List ℕ) where
  abbrev pub entry_of : K × V → Entry
  entry_of pair = entry (bytes pair.0) (value_bytes pair.1)

  -- the bytes of each key, and those of its value
  abbrev pub entries_of : List (K × V) → List Entry
  entries_of pairs = map entry_of pairs

  -- the bytes of a key and of a value
  pub record IsEntry (is_key : K → Type 0) (this : Entry) : Type 0 where
    pub key : K
    pub value : V
    pub of_key : is_key key
    pub is : this ≡ entry (bytes key) (value_bytes value)

-- the bytes of each key of a set, without a value
abbrev pub key_entries : {K : Type 0} → (K → List ℕ) → List K → List Entry
key_entries bytes keys = map (λ key. entry (bytes key) []) keys

-- the bytes of a key, and no value
abbrev pub IsKeyEntry : {K : Type 0} → (K → List ℕ) → (K → Type 0) → Entry → Type 0
IsKeyEntry bytes is_key = IsEntry {V = ⊤} bytes (λ value. []) is_key
