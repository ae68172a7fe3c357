-- Laws of maps, whatever their pairs: what changes leave, what is found afterwards, and what replies report.
use Rattle.std.specs.Prelude.{◌≡◌, ◌≢◌, ℕ, zero, suc, ◌+◌, ◌≤◌, true, false, if◌then◌else◌, not, List, [], ◌∷◌, length, map, Option, Some, None}
use Rattle.std.specs.Bool.{Decides}
use Rattle.std.specs.List.{AllByRecursion as Each, cons_option}
use Rattle.art_parts.specs.Keys.{are_related, are_same}
use Rattle.art_model.specs.Pairs.{last_of, without_last, IsMap, with_key, has_key, related_to, is_conflict, match_of, stored_for, put, put_reply, overwrite, overwrite_reply, remove_key, remove_reply, of_key}
use Rattle.art_model.specs.Changes.{Change, after}

-- the reply reports which pairs were removed: none, this one, or this many
abbrev pub Tells : {A : Type 0} → Option A × ℕ → List A → Type 0
Tells (None, zero) gone = gone ≡ []
Tells (Some x, zero) gone = gone ≡ x ∷ []
Tells (None, suc n) gone = (length gone ≡ suc n) × (2 ≤ length gone)
Tells (Some x, suc n) gone = ⊥

module _ {A : Type 0} (bytes : A → List ℕ) where
  -- ---- a map

  -- a map has a key at most once
  abbrev pub KeysAreOnce : Type 0
  KeysAreOnce = (key : List ℕ) (pairs : List A) → IsMap bytes pairs → length (with_key bytes key pairs) ≤ 1

  -- a query has at most one match in a map
  abbrev pub MatchesAreOne : Type 0
  MatchesAreOne = (query : List ℕ) (pairs : List A) → IsMap bytes pairs → length (match_of bytes query pairs) ≤ 1

  -- maps in which the same is found under every key are the same
  abbrev pub MapsAreWhatIsFound : Type 0
  MapsAreWhatIsFound =
      (pairs others : List A) → IsMap bytes pairs → IsMap bytes others →
      ((key : List ℕ) → with_key bytes key others ≡ with_key bytes key pairs) → others ≡ pairs

  -- whether no pair has a key
  abbrev pub KeysAreDecided : Type 0
  KeysAreDecided =
      (key : List ℕ) (pairs : List A) → Decides (not (has_key bytes key pairs)) (Each (λ x. key ≢ bytes x) pairs)

  -- whether every related key is equal
  abbrev pub ConflictsAreDecided : Type 0
  ConflictsAreDecided =
      (key : List ℕ) (pairs : List A) →
      Decides (not (is_conflict bytes key pairs)) (Each (λ x. are_related key (bytes x) ≡ true → key ≡ bytes x) pairs)

  -- ---- removals

  -- after a removal nothing is found under the key, and what was found before under every other key
  abbrev pub RemovedIsGone : Type 0
  RemovedIsGone =
      (key gone : List ℕ) (pairs : List A) → with_key bytes key (remove_key bytes gone pairs) ≡
      (if are_same key gone then [] else with_key bytes key pairs)

  -- to remove the first pair of a map is to remove its key
  abbrev pub FirstIsRemovedByKey : Type 0
  FirstIsRemovedByKey =
      (x : A) (pairs : List A) → IsMap bytes (x ∷ pairs) → remove_key bytes (bytes x) (x ∷ pairs) ≡ pairs

  -- to remove the last pair of a map is to remove its key
  abbrev pub LastIsRemovedByKey : Type 0
  LastIsRemovedByKey =
      (x : A) (pairs : List A) → IsMap bytes pairs → last_of pairs ≡ Some x →
      remove_key bytes (bytes x) pairs ≡ without_last pairs

  -- the reply of a removal is what was found under the key
  abbrev pub RemovalTells : Type 0
  RemovalTells =
      (key : List ℕ) (pairs : List A) → IsMap bytes pairs → with_key bytes key pairs ≡
      cons_option (remove_reply bytes key pairs) []

  -- the pairs with the key are removed
  abbrev pub RemovalCounts : Type 0
  RemovalCounts =
      (key : List ℕ) (pairs : List A) →
      length (remove_key bytes key pairs) + length (with_key bytes key pairs) ≡ length pairs

module _ {K : Type 0} (V : Type 0) (bytes : K → List ℕ) where
  -- ---- what changes leave

  -- a map stays a map
  abbrev pub MapsStayMaps : Type 0
  MapsStayMaps =
      (changes : List (Change (K × V))) (pairs : List (K × V)) → IsMap (of_key bytes) pairs →
      IsMap (of_key bytes) (after (of_key bytes) changes pairs)

  -- after a put its value is found under its key, with the key that is stored, and what was found before under every other key
  abbrev pub PutIsFound : Type 0
  PutIsFound = (key : List ℕ) (new : K × V) (pairs : List (K × V)) →
      with_key (of_key bytes) key (put (of_key bytes) new pairs) ≡
      (if are_same key (bytes new.0) then stored_for (of_key bytes) new pairs ∷ [] else with_key (of_key bytes) key pairs)

  -- the same after an overwrite of a map, but nothing is found under a related key
  abbrev pub OverwriteIsFound : Type 0
  OverwriteIsFound = (key : List ℕ) (new : K × V) (pairs : List (K × V)) → IsMap (of_key bytes) pairs →
      with_key (of_key bytes) key (overwrite (of_key bytes) new pairs)
      ≡ (if are_same key (bytes new.0) then stored_for (of_key bytes) new pairs ∷ []
      else if are_related key (bytes new.0) then [] else with_key (of_key bytes) key pairs)

  -- where no key is related to the new one, its removal undoes the put
  abbrev pub PutIsUndone : Type 0
  PutIsUndone =
      (new : K × V) (pairs : List (K × V)) → related_to (of_key bytes) (bytes new.0) pairs ≡ [] →
      remove_key (of_key bytes) (bytes new.0) (put (of_key bytes) new pairs) ≡ pairs

  -- ---- which key is stored

  -- where an equal key is stored that key stays, with the new value
  abbrev pub StoredKeyStays : Type 0
  StoredKeyStays =
      (new old : K × V) (pairs : List (K × V)) → with_key (of_key bytes) (bytes new.0) pairs ≡ old ∷ [] →
      stored_for (of_key bytes) new pairs ≡ (old.0, new.1)

  -- where none is the new pair is stored as it is
  abbrev pub NewKeyComes : Type 0
  NewKeyComes =
      (new : K × V) (pairs : List (K × V)) → with_key (of_key bytes) (bytes new.0) pairs ≡ [] →
      stored_for (of_key bytes) new pairs ≡ new

  -- so a put of an equal key leaves all keys of a map, in their order
  abbrev pub PutKeepsKeys : Type 0
  PutKeepsKeys =
      (new : K × V) (pairs : List (K × V)) → IsMap (of_key bytes) pairs →
      has_key (of_key bytes) (bytes new.0) pairs ≡ true →
      map (λ x. x.0) (put (of_key bytes) new pairs) ≡ map (λ x. x.0) pairs

  -- and an overwrite of an equal key is that put, with its reply and none removed
  abbrev pub OverwriteOfKeyIsPut : Type 0
  OverwriteOfKeyIsPut = (new : K × V) (pairs : List (K × V)) → has_key (of_key bytes) (bytes new.0) pairs ≡ true →
      (overwrite (of_key bytes) new pairs ≡ put (of_key bytes) new pairs) ×
      (overwrite_reply (of_key bytes) new pairs ≡ (put_reply (of_key bytes) new pairs, 0))

  -- ---- what replies report

  -- the reply of a put is the key that was passed, with the value that was found under it
  abbrev pub PutTells : Type 0
  PutTells = (new : K × V) (pairs : List (K × V)) → IsMap (of_key bytes) pairs →
      map (λ old. (new.0, old.1)) (with_key (of_key bytes) (bytes new.0) pairs) ≡
      cons_option (put_reply (of_key bytes) new pairs) []

  -- where no equal key is stored the reply of an overwrite reports which pairs were removed
  abbrev pub OverwriteTells : Type 0
  OverwriteTells = (new : K × V) (pairs : List (K × V)) → has_key (of_key bytes) (bytes new.0) pairs ≡ false →
      Tells (overwrite_reply (of_key bytes) new pairs) (related_to (of_key bytes) (bytes new.0) pairs)

  -- one pair is added, and those with its key are removed
  abbrev pub PutCounts : Type 0
  PutCounts =
      (new : K × V) (pairs : List (K × V)) →
      length (put (of_key bytes) new pairs) + length (with_key (of_key bytes) (bytes new.0) pairs) ≡ length pairs + 1

  -- one pair is added, and those of a map with related keys are removed
  abbrev pub OverwriteCounts : Type 0
  OverwriteCounts = (new : K × V) (pairs : List (K × V)) → IsMap (of_key bytes) pairs →
      length (overwrite (of_key bytes) new pairs) + length (related_to (of_key bytes) (bytes new.0) pairs) ≡
      length pairs + 1
