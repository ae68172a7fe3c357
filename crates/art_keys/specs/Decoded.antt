-- Keys that are recovered from their bytes.
use Rattle.std.specs.Prelude.{◌≡◌, ℕ, List, ◌++◌, length}

module _ {K : Type 0} (is_key : K → Type 0) (bytes : K → List ℕ) where
  -- these are the bytes of a key
  pub record IsOfKey (these : List ℕ) : Type 0 where
    pub key : K
    pub of_key : is_key key
    pub is : these ≡ bytes key

  -- these bytes start with those of a key
  pub record BeginsWithKey (these : List ℕ) : Type 0 where
    pub key : K
    pub rest : List ℕ
    pub of_key : is_key key
    pub is : these ≡ bytes key ++ rest

  -- a key is recovered from its bytes, and its length from them and whatever follows them
  abbrev pub ComesBack : (List ℕ → K) → (List ℕ → ℕ) → Type 0
  ComesBack key_of length_of =
      (key : K) → is_key key → (key_of (bytes key) ≡ key) × ((rest : List ℕ) → length_of (bytes key ++ rest) ≡ length (bytes key))

  -- each key has so many bytes
  abbrev pub HaveLength : ℕ → Type 0
  HaveLength count = (key : K) → is_key key → length (bytes key) ≡ count

  -- these bytes are those of the key that is recovered from them
  pub record AreOwn (key_of : List ℕ → K) (these : List ℕ) : Type 0 where
    pub of_key : is_key (key_of these)
    pub is : these ≡ bytes (key_of these)
