-- What calls of a builder do.
use Rattle.std.specs.Prelude.{◌≡◌, ◌≢◌, ℕ, List, [], ◌∷◌, ◌++◌, IsSomeAnd, Option, Some, false}
use Rattle.std.specs.Option.{option_map}
use Rattle.art_parts.specs.Keys.{is_before}
use Rattle.art_model.specs.Pairs.{last_of}
use Rattle.string_map.specs.Calls.{code_of, done, no_memory}

abbrev pub not_after : ℕ
not_after = 7

-- a key is not after that of the last pair
abbrev pub IsNotAfter : List ℕ → List (List ℕ × ℕ) → Type 0
IsNotAfter key pairs = IsSomeAnd (last_of pairs) (λ last. is_before last.0 key ≡ false)

-- A call adds a pair after the last one. If it fails, the pairs are unchanged.
pub record Pushes (key : List ℕ) (value : ℕ) (before : Option (List (List ℕ × ℕ))) (code : ℕ) (after : Option (List (List ℕ × ℕ))) : Type 0 where
  pub pushed : code ≡ done → after ≡ option_map (λ pairs. pairs ++ (key, value) ∷ []) before
  pub kept : code ≢ done → after ≡ before
  pub fails : code ≢ no_memory → code ≢ not_after → code ≡ code_of before
  pub order : code ≡ not_after → IsSomeAnd before (IsNotAfter key)

-- The pairs of a builder move to a map, and the builder is empty. If it was freed, nothing changes.
pub record Finishes (before held : Option (List (List ℕ × ℕ))) (code : ℕ) (after now : Option (List (List ℕ × ℕ))) : Type 0 where
  pub moved : code ≡ done → (now ≡ before) × (after ≡ Some [])
  pub kept : code ≢ done → (now ≡ held) × (after ≡ before)
  pub code_is : code ≡ code_of before
