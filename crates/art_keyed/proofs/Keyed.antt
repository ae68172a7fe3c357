-- Keys of a type never conflict, and are in the order of their type.
use Rattle.std.proofs.Common.{◌≡◌, ℕ, List, [], ◌∷◌, Bool, true, false, ◌||◌, ◌&&◌, if◌then◌else◌, not, ◌⊎◌, inl, inr, Option, Some, None, is_some, refl, ap, sym, ◌∙◌}
use Rattle.std.specs.List.{AllByRecursion as Each}
use Rattle.std.specs.declared.cmp.Ordering.{Ordering}
use Rattle.std.specs.declared.cmp.Ordering.TheVariants.{Less}
use Rattle.art_keys.specs.Prefixes.{HasNoPrefixes, IsKept, KeepsOrder}
use Rattle.art_model.specs.Clones.{AreClones}
use Rattle.art_keyed.specs.KeyedPairs.{HaveKeys, RiseBy, IsNeverInConflict}
use Rattle.art_parts.specs.Keys.{IsFront, Precedes, are_related, are_same}
use Rattle.art_model.specs.Pairs.{IsMap, first_of, has_key, is_conflict, with_key, of_key, put, stored_for, remove_key, without_first, without_last}
use Rattle.std.proofs.lemmas.Bool.{true≢false}
use Rattle.art_changing.specs.MapAnswers.{IsRefusalOf, refused_pair, with_value_at}
use Rattle.art_changing.specs.declared.insert.MapInsertError.{MapInsertError}
use Rattle.art_changing.specs.declared.insert.MapInsertError.TheVariants.{Conflict, Memory}
use Rattle.art_map.specs.MadeKeys.{IsSourceRefusal, refused_value}
use Rattle.art_map.specs.declared.map.to_key.MapSourceError.{MapSourceError}
use Rattle.art_map.specs.declared.map.to_key.MapSourceError.TheVariants.{Insert, Memory as NoMemory, NoKey}
use Rattle.art_map.specs.MapBoth.{IsRefusalOfBoth}
use Rattle.art_map.specs.declared.map.both.BothInsertError.{BothInsertError}
use Rattle.art_map.specs.declared.map.both.BothInsertError.TheVariants.{First, Second}
use Rattle.art_keyed.specs.KeyedRefusals.{IsOneNew}
use Rattle.art_writing.specs.declared.insert.PairRefused.{PairRefused}
use Rattle.art_model.proofs.keys.Keys.{front_same}
use Rattle.art_model.proofs.keys.KeyLaws.{relation_is_decided, before_less}
use Rattle.art_model.proofs.lists.Filters.{Each-filter, Each-add, Each-without_last}
use Rattle.art_model.proofs.pairs.Puts.{any_is_first, first_has}

module _ {K : Type 0} (V : Type 0) (is_key : K → Type 0) (bytes : K → List ℕ) where
  -- ---- conflicts

  -- conflicting keys of a type have the same bytes
  related_same : HasNoPrefixes is_key bytes → (a b : K) → is_key a → is_key b → are_related (bytes a) (bytes b) ≡ true → are_same (bytes a) (bytes b) ≡ true
  related_same law a b of_a of_b related = go ((relation_is_decided (bytes a) (bytes b)).0 related)
    where
      same : bytes a ≡ bytes b → are_same (bytes a) (bytes b) ≡ true
      same e = rw (← e) (front_same (bytes a))

      go : IsFront (bytes a) (bytes b) ⊎ IsFront (bytes b) (bytes a) → are_same (bytes a) (bytes b) ≡ true
      go (inl f) = same (law a b of_a of_b f)
      go (inr f) = same (sym (law b a of_b of_a f))

  -- an element with a key conflicts with no element with one
  none_in_conflict : {A : Type 0} (key_of : A → K) → HasNoPrefixes is_key bytes → (key : K) (xs : List A) → is_key key → Each (λ x. is_key (key_of x)) xs →
      is_conflict (λ x. bytes (key_of x)) (bytes key) xs ≡ false
  none_in_conflict key_of law key [] of_key all = refl
  none_in_conflict key_of law key (x ∷ xs) of_key all =
      rw (none_in_conflict key_of law key xs of_key all.1) (go (are_related (bytes key) (bytes (key_of x))) refl)
    where
      go : (t : Bool) → are_related (bytes key) (bytes (key_of x)) ≡ t → ((t && not (are_same (bytes key) (bytes (key_of x)))) || false) ≡ false
      go true e = rw (related_same law key (key_of x) of_key all.0 e) refl
      go false e = refl

  pub never_in_conflict : HasNoPrefixes is_key bytes → IsNeverInConflict V is_key bytes
  never_in_conflict = none_in_conflict (λ x. x.0)

  pub key_never_in_conflict : HasNoPrefixes is_key bytes → (key : K) (keys : List K) → is_key key → Each is_key keys →
      is_conflict bytes (bytes key) keys ≡ false
  key_never_in_conflict = none_in_conflict (λ key. key)

  -- so an insertion fails only if an allocation fails
  pub refusal_told : HasNoPrefixes is_key bytes → (key : K) (value : V) (pairs : List (K × V)) → is_key key → HaveKeys is_key pairs →
      (error : MapInsertError K V) → IsRefusalOf bytes key value pairs error → (refused : PairRefused K V) → (refused.key, refused.value) ≡ refused_pair error →
      ((refused.key ≡ key) × (refused.value ≡ value)) × (has_key (of_key bytes) (bytes key) pairs ≡ false)
  refusal_told law key value pairs of_key' all (Conflict k v error) told refused back =
      absurd (true≢false (sym told.3 ∙ never_in_conflict law key pairs of_key' all))
  refusal_told law key value pairs of_key' all (Memory k v) told refused back = ((ap (λ pair. pair.0) back ∙ told.0, ap (λ pair. pair.1) back ∙ told.1), told.2)

  -- and the key is not stored
  refused_is_new : HasNoPrefixes is_key bytes → (key : K) (value : V) (pairs : List (K × V)) → is_key key → HaveKeys is_key pairs →
      (error : MapInsertError K V) → IsRefusalOf bytes key value pairs error → has_key (of_key bytes) (bytes key) pairs ≡ false
  refused_is_new law key value pairs of_key' all (Conflict k v error) told = absurd (true≢false (sym told.3 ∙ never_in_conflict law key pairs of_key' all))
  refused_is_new law key value pairs of_key' all (Memory k v) told = told.2

  -- a value that is returned with no pair is the one that was passed, and its key is not stored
  pub source_refused : HasNoPrefixes is_key bytes → (key : K) (value : V) (pairs : List (K × V)) → HaveKeys is_key pairs → (AllocatesNothing : Type 0)
      (error : MapSourceError K V) → IsSourceRefusal bytes key (is_key key) AllocatesNothing value pairs error →
      (refused_value error ≡ value) × (has_key (of_key bytes) (bytes key) pairs ≡ false)
  source_refused law key value pairs all free (NoKey given) told = (told.0, told.2)
  source_refused law key value pairs all free (NoMemory given) told = (told.0, told.3)
  source_refused law key value pairs all free (Insert error) told =
      let back = refusal_told law key value pairs told.0 all error told.1
      (record { key = (refused_pair error).0; value = (refused_pair error).1 }) refl in
      (back.0.1, back.1)

  -- ---- what stays

  -- an insertion keeps them if its key is one, unless an equal one is stored
  pub new_put_keeps : (key : K) (value : V) (pairs : List (K × V)) →
      (has_key (of_key bytes) (bytes key) pairs ≡ false → is_key key) → HaveKeys is_key pairs →
      HaveKeys is_key (put (of_key bytes) (key, value) pairs)
  new_put_keeps key value pairs of_key' all =
      Each-add (of_key bytes) (λ x. is_key x.0) (stored_for (of_key bytes) (key, value) pairs) _
      (stored (first_of (with_key (of_key bytes) (bytes key) pairs)) refl)
      (Each-filter (λ x. is_key x.0) _ pairs all)
    where
      kept : Option (K × V) → K × V
      kept None = (key, value)
      kept (Some old) = (old.0, value)

      stored : (old : Option (K × V)) → first_of (with_key (of_key bytes) (bytes key) pairs) ≡ old → is_key (kept old).0
      stored None e = of_key' (any_is_first (λ x. are_same (bytes key) (bytes x.0)) pairs ∙ ap is_some e)
      stored (Some old) e = first_has (λ x. is_key x.0) _ old (Each-filter (λ x. is_key x.0) _ pairs all) e

  pub put_keeps : (key : K) (value : V) (pairs : List (K × V)) → is_key key → HaveKeys is_key pairs → HaveKeys is_key (put (of_key bytes) (key, value) pairs)
  put_keeps key value pairs of_key' all = new_put_keeps key value pairs (λ none. of_key') all

  pub last_keeps : (pairs : List (K × V)) → HaveKeys is_key pairs → HaveKeys is_key (without_last pairs)
  last_keeps pairs all = Each-without_last (λ x. is_key x.0) pairs all

  pub first_keeps : (pairs : List (K × V)) → HaveKeys is_key pairs → HaveKeys is_key (without_first pairs)
  first_keeps [] all = tt
  first_keeps (x ∷ pairs) all = all.1

  pub written_keeps : (key : List ℕ) (value : V) (pairs : List (K × V)) → HaveKeys is_key pairs → HaveKeys is_key (with_value_at bytes key value pairs)
  written_keeps key value [] all = tt
  written_keeps key value (x ∷ pairs) all = (go (are_same key (bytes x.0)) refl, written_keeps key value pairs all.1)
    where
      go : (t : Bool) → are_same key (bytes x.0) ≡ t → is_key (if are_same key (bytes x.0) then (x.0, value) else x).0
      go true e = rw e all.0
      go false e = rw e all.0

  pub remove_keeps : (key : List ℕ) (pairs : List (K × V)) → HaveKeys is_key pairs → HaveKeys is_key (remove_key (of_key bytes) key pairs)
  remove_keeps key pairs all = Each-filter (λ x. is_key x.0) _ pairs all

  pub clones_keep : (is_clone : K → K → Type 0) (is_value_clone : V → V → Type 0) → IsKept is_key is_clone →
      (pairs copies : List (K × V)) → AreClones is_clone is_value_clone pairs copies → HaveKeys is_key pairs → HaveKeys is_key copies
  clones_keep is_clone is_value_clone kept [] [] are all = tt
  clones_keep is_clone is_value_clone kept [] (y ∷ copies) are all = absurd are
  clones_keep is_clone is_value_clone kept (x ∷ pairs) [] are all = absurd are
  clones_keep is_clone is_value_clone kept (x ∷ pairs) (y ∷ copies) are all =
      (kept x.0 y.0 are.0.0 all.0, clones_keep is_clone is_value_clone kept pairs copies are.1 all.1)

  -- ---- the order

  pub rises : {order : K → K → Ordering} → KeepsOrder is_key bytes order → (pairs : List (K × V)) → HaveKeys is_key pairs →
      IsMap (of_key bytes) pairs → RiseBy order pairs
  rises keeps [] all sorted = tt
  rises {order} keeps (x ∷ pairs) all sorted = (each pairs all.1 sorted.0, rises keeps pairs all.1 sorted.1)
    where
      each : (others : List (K × V)) → HaveKeys is_key others → Each (λ y. Precedes (bytes x.0) (bytes y.0)) others → Each (λ y. order x.0 y.0 ≡ Less) others
      each [] of_others h = tt
      each (y ∷ others) of_others h = (sym (keeps x.0 y.0 all.0 of_others.0) ∙ before_less _ h.0.0, each others of_others.1 h.1)

-- of two pairs that were not inserted, one has a key that is not stored
pub one_is_new : {K V L W : Type 0} (is_key : K → Type 0) (bytes : K → List ℕ) (is_other : L → Type 0) (other_bytes : L → List ℕ) →
    HasNoPrefixes is_key bytes → HasNoPrefixes is_other other_bytes →
    (pair : K × V) (pairs : List (K × V)) (other : L × W) (others : List (L × W)) → is_key pair.0 → HaveKeys is_key pairs →
    is_other other.0 → HaveKeys is_other others →
    (error : BothInsertError K V L W) → IsRefusalOfBoth bytes other_bytes pair pairs other others error → IsOneNew bytes pair.0 pairs other_bytes other.0 others
one_is_new {K} {V} {L} {W} is_key bytes is_other other_bytes law other_law pair pairs other others of_key' all of_other all_others (First error back) told =
    inl (refused_is_new V is_key bytes law pair.0 pair.1 pairs of_key' all error told.0)
one_is_new {K} {V} {L} {W} is_key bytes is_other other_bytes law other_law pair pairs other others of_key' all of_other all_others (Second back error) told =
    inr (refused_is_new W is_other other_bytes other_law other.0 other.1 others of_other all_others error told.1)
