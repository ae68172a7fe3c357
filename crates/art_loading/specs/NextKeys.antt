-- A key after another one: where it parts from that, or why it can't be appended.
use Rattle.std.specs.Prelude.{◌≡◌, ◌≢◌, ℕ, ◌<◌, List, ◌∷◌, ◌++◌, length, true}
use Rattle.art_loading.specs.declared.append.AppendReason.{AppendReason}
use Rattle.art_loading.specs.declared.append.AppendReason.TheVariants.{Before, Equal, Conflict, Memory}
use Rattle.art_parts.specs.Keys.{Precedes, are_related}

-- After so many shared bytes the last key has one byte, and the next key a greater one.
pub record IsNextKey (last key : List ℕ) (shared x y : ℕ) : Type 0 where
  pub front : List ℕ
  pub r : List ℕ
  pub s : List ℕ
  pub last_is : last ≡ front ++ x ∷ r
  pub key_is : key ≡ front ++ y ∷ s
  pub shared_is : shared ≡ length front
  pub less : x < y

-- why a key was not appended after the last one: it is less, equal, or conflicts with that; or it is after it, and an allocation failed
abbrev pub IsReason : List ℕ → List ℕ → AppendReason → Type 0
IsReason last key Before = Precedes key last
IsReason last key Equal = key ≡ last
IsReason last key Conflict = (are_related last key ≡ true) × (key ≢ last)
IsReason last key Memory = Precedes last key
