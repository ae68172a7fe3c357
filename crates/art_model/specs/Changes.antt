-- Changes of a map, one after another.
use Rattle.std.specs.Prelude.{ℕ, if◌then◌else◌, List, [], ◌∷◌}
use Rattle.art_model.specs.Pairs.{is_conflict, put, overwrite, remove_key, without_first, without_last}

-- the changes of a map of such pairs
pub data Change (A : Type 0) : Type 0 where
  put_pair : A → Change A
  overwrite_with : A → Change A
  remove_at : List ℕ → Change A
  remove_first : Change A
  remove_last : Change A

module _ {K V : Type 0} (bytes : K × V → List ℕ) where
  -- the pairs after a change; a put that is a conflict changes nothing
  abbrev pub changed : Change (K × V) → List (K × V) → List (K × V)
  changed (put_pair new) pairs = if is_conflict bytes (bytes new) pairs then pairs else put bytes new pairs
  changed (overwrite_with new) pairs = overwrite bytes new pairs
  changed (remove_at key) pairs = remove_key bytes key pairs
  changed remove_first pairs = without_first pairs
  changed remove_last pairs = without_last pairs

  -- the pairs after all of the changes
  abbrev pub after : List (Change (K × V)) → List (K × V) → List (K × V)
  after [] pairs = pairs
  after (change ∷ changes) pairs = after changes (changed change pairs)
