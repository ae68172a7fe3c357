-- A map as a sorted list of pairs, and its changes. A pair is anything that has the bytes of a key.
use Rattle.std.specs.Prelude.{ℕ, Bool, if◌then◌else◌, not, ◌&&◌, List, [], ◌∷◌, length, Option, Some, None, filter}
use Rattle.std.specs.List.{list_any}
use Rattle.std.specs.Option.{option_map}
pub use Rattle.art_parts.specs.Lists.{Pairwise, first_of}
use Rattle.art_parts.specs.Keys.{is_before, is_front, are_related, are_same, Precedes}

-- the last element, if there is one
abbrev pub last_of : {X : Type 0} → List X → Option X
last_of [] = None
last_of (x ∷ []) = Some x
last_of (x ∷ y ∷ xs) = last_of (y ∷ xs)

-- the elements after the first one
abbrev pub without_first : {X : Type 0} → List X → List X
without_first [] = []
without_first (x ∷ xs) = xs

-- the elements before the last one
abbrev pub without_last : {X : Type 0} → List X → List X
without_last [] = []
without_last (x ∷ []) = []
without_last (x ∷ y ∷ xs) = x ∷ without_last (y ∷ xs)

-- what is returned of removed pairs: none, the only one, or how many
abbrev pub only_or_count : {X : Type 0} → List X → Option X × ℕ
only_or_count [] = (None, 0)
only_or_count (x ∷ []) = (Some x, 0)
only_or_count (x ∷ y ∷ xs) = (None, length (x ∷ y ∷ xs))

module _ {A : Type 0} (bytes : A → List ℕ) where
  -- the keys rise strictly, and no two are related
  abbrev pub IsMap : List A → Type 0
  IsMap = Pairwise (λ x y. Precedes (bytes x) (bytes y))

  -- the pairs with this key: at most one in a map
  abbrev pub with_key : List ℕ → List A → List A
  with_key key pairs = filter (λ x. are_same key (bytes x)) pairs

  -- whether a pair has this key
  abbrev pub has_key : List ℕ → List A → Bool
  has_key key pairs = list_any (λ x. are_same key (bytes x)) pairs

  -- the pairs whose keys are related to this one
  abbrev pub related_to : List ℕ → List A → List A
  related_to key pairs = filter (λ x. are_related key (bytes x)) pairs

  -- whether a key is related to this one and unequal: then this key conflicts, and can't be put
  abbrev pub is_conflict : List ℕ → List A → Bool
  is_conflict key pairs = list_any (λ x. are_related key (bytes x) && not (are_same key (bytes x))) pairs

  -- the pairs whose keys are a prefix of the query: at most one in a map, the match
  abbrev pub match_of : List ℕ → List A → List A
  match_of query pairs = filter (λ x. is_front (bytes x) query) pairs

  -- the pairs without those with this key
  abbrev pub remove_key : List ℕ → List A → List A
  remove_key key pairs = filter (λ x. not (are_same key (bytes x))) pairs

  -- the pairs without those with related keys
  abbrev pub remove_related : List ℕ → List A → List A
  remove_related key pairs = filter (λ x. not (are_related key (bytes x))) pairs

  -- a pair is inserted before the first one whose key is after its own
  abbrev pub add_in_order : A → List A → List A
  add_in_order new [] = new ∷ []
  add_in_order new (x ∷ xs) = if is_before (bytes new) (bytes x) then new ∷ x ∷ xs else x ∷ add_in_order new xs

  -- a pair replaces the one with an equal key, or is inserted in order
  abbrev pub replace_key : A → List A → List A
  replace_key new pairs = add_in_order new (remove_key (bytes new) pairs)

  -- a pair replaces all those with related keys
  abbrev pub replace_related : A → List A → List A
  replace_related new pairs = add_in_order new (remove_related (bytes new) pairs)

  -- what a removal by key returns: the removed pair, if there was one
  abbrev pub remove_reply : List ℕ → List A → Option A
  remove_reply key pairs = first_of (with_key key pairs)

module _ {K V : Type 0} (bytes : K × V → List ℕ) where
  -- what is stored of a new pair: its value, under the equal key that is stored already, or else under its own key
  abbrev pub stored_for : K × V → List (K × V) → K × V
  stored_for new pairs = elim (first_of (with_key bytes (bytes new) pairs)) [ None ↦ new | Some old ↦ (old.0, new.1) ]

  -- where an equal key is stored its value is replaced, and the key stays; else the pair is inserted in order
  abbrev pub put : K × V → List (K × V) → List (K × V)
  put new pairs = replace_key bytes (stored_for new pairs) pairs

  -- what a put returns where an equal key is stored: the key that was passed, with the old value
  abbrev pub put_reply : K × V → List (K × V) → Option (K × V)
  put_reply new pairs = option_map (λ old. (new.0, old.1)) (first_of (with_key bytes (bytes new) pairs))

  -- where an equal key is stored this is a put; else the pair replaces all those with related keys
  abbrev pub overwrite : K × V → List (K × V) → List (K × V)
  overwrite new pairs = if has_key bytes (bytes new) pairs then put new pairs else replace_related bytes new pairs

  -- what an overwrite returns: what the put does; or of the pairs with related keys the only one, or how many
  abbrev pub overwrite_reply : K × V → List (K × V) → Option (K × V) × ℕ
  overwrite_reply new pairs =
      if has_key bytes (bytes new) pairs then (put_reply new pairs, 0) else only_or_count (related_to bytes (bytes new) pairs)

module _ {K V : Type 0} (bytes : K → List ℕ) where
  -- the bytes of the key of a pair of key and value
  abbrev pub of_key : K × V → List ℕ
  of_key pair = bytes pair.0
