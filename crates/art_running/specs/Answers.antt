-- What each command returns, and what it makes of the pairs.
use Rattle.std.specs.Prelude.{◌≡◌, ◌≢◌, ℕ, List, length, map, Some, None, true, false}
use Rattle.std.specs.List.{AllZip}
use Rattle.std.specs.Option.{option_to_list}
use Rattle.std.specs.Box.{boxed_slice_items}
use Rattle.art_model.specs.Pairs.{first_of, last_of, without_first, without_last, match_of, put, put_reply, overwrite, overwrite_reply}
use Rattle.art_model.specs.Pairs.{remove_key, remove_reply, of_key, is_conflict, has_key, related_to}
use Rattle.art_running.specs.declared.run.Command.{Command}
use Rattle.art_running.specs.declared.run.Command.TheVariants.{Insert, InsertPrefix, Delete, DeleteMin, DeleteMax, Clone, Contains, LongestMatch}
use Rattle.art_running.specs.declared.run.Reply.{Reply}
use Rattle.art_running.specs.declared.run.Reply.TheVariants.{Inserted, Conflict, Overwrote, Deleted, Cloned, Found, MatchLen, NoMemory}

module _ {K V : Type 0} (bytes : K → List ℕ) where
  -- the pairs that a command leaves if it succeeds and is no clone
  abbrev pub pairs_after_command : Command K V → List (K × V) → List (K × V)
  pairs_after_command (Insert k v) old = put (of_key bytes) (k, v) old
  pairs_after_command (InsertPrefix k v) old = overwrite (of_key bytes) (k, v) old
  pairs_after_command (Delete key) old = remove_key (of_key bytes) key.items old
  pairs_after_command DeleteMin old = without_first old
  pairs_after_command DeleteMax old = without_last old
  pairs_after_command command old = old

  module _ (IsClone : K × V → K × V → Type 0) where
    -- the reply to a command, from the pairs before to the pairs after, by what a clone of a pair is
    abbrev pub Answers : List (K × V) → Command K V → Reply K V → List (K × V) → Type 0
    Answers old (Insert k v) (Inserted before) new =
        (is_conflict (of_key bytes) (bytes k) old ≡ false) × (before ≡ put_reply (of_key bytes) (k, v) old) ×
        (new ≡ pairs_after_command (Insert k v) old)
    Answers old (Insert k v) (Conflict key value error) new =
        (is_conflict (of_key bytes) (bytes k) old ≡ true) × (key ≡ k) × (value ≡ v) ×
        (boxed_slice_items error.byte_repr ≡ bytes k) × (new ≡ old)
    Answers old (Insert k v) (NoMemory pair) new =
        (has_key (of_key bytes) (bytes k) old ≡ false) × (pair ≡ Some (k, v)) × (new ≡ old)
    Answers old (InsertPrefix k v) (Overwrote before count) new =
        ((before, count) ≡ overwrite_reply (of_key bytes) (k, v) old) ×
        (new ≡ pairs_after_command (InsertPrefix k v) old)
    Answers old (InsertPrefix k v) (NoMemory pair) new =
        (length (related_to (of_key bytes) (bytes k) old) ≢ 1) × (pair ≡ Some (k, v)) × (new ≡ old)
    Answers old (Delete key) (Deleted pair) new =
        (pair ≡ remove_reply (of_key bytes) key.items old) × (new ≡ pairs_after_command (Delete key) old)
    Answers old DeleteMin (Deleted pair) new = (pair ≡ first_of old) × (new ≡ pairs_after_command DeleteMin old)
    Answers old DeleteMax (Deleted pair) new = (pair ≡ last_of old) × (new ≡ pairs_after_command DeleteMax old)
    Answers old (Delete key) (NoMemory pair) new = (pair ≡ None) × (new ≡ old)
    Answers old DeleteMin (NoMemory pair) new = (pair ≡ None) × (new ≡ old)
    Answers old DeleteMax (NoMemory pair) new = (pair ≡ None) × (new ≡ old)
    Answers old Clone Cloned new = AllZip IsClone old new
    Answers old Clone (NoMemory pair) new = (pair ≡ None) × (new ≡ old)
    Answers old (Contains key) (Found found) new = (found ≡ has_key (of_key bytes) key.items old) × (new ≡ old)
    Answers old (LongestMatch key) (MatchLen len) new =
        (option_to_list len ≡ map (λ x. length (bytes x.0)) (match_of (of_key bytes) key.items old)) × (new ≡ old)
    Answers old command reply new = ⊥
