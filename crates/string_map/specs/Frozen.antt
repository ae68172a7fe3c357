-- What calls change that make handles of frozen maps.
use Rattle.std.specs.Prelude.{◌≡◌, ◌≢◌, ℕ, List, [], Option, Some}
use Rattle.string_map.specs.Calls.{code_of, done, no_memory}

-- The pairs of a map move to a handle, and the map is empty. If that fails, nothing changes.
pub record Freezes (before held : Option (List (List ℕ × ℕ))) (code : ℕ) (after now : Option (List (List ℕ × ℕ))) : Type 0 where
  pub moved : code ≡ done → (now ≡ before) × (after ≡ Some [])
  pub kept : code ≢ done → (now ≡ held) × (after ≡ before)
  pub code_is : code ≢ no_memory → code ≡ code_of before

-- A handle gets the map of another one. If that fails, nothing changes.
pub record Shares (frozen held : Option (List (List ℕ × ℕ))) (code : ℕ) (now : Option (List (List ℕ × ℕ))) : Type 0 where
  pub shared : code ≡ done → now ≡ frozen
  pub kept : code ≢ done → now ≡ held
  pub code_is : code ≢ no_memory → code ≡ code_of frozen
