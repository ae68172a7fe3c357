-- The values of a map's keys after changes, if keys with the same bytes are equal.
use Rattle.std.proofs.Common.{◌≡◌, ◌≢◌, ◌+◌, ℕ, List, [], ◌∷◌, length, Option, Some, None, IfSome, refl, ap, sym, ◌∙◌, subst, arith}
use Rattle.std.specs.List.{cons_option}
use Rattle.std.specs.Option.{option_map}
use Rattle.art_keys.specs.Prefixes.{AreInjective}
use Rattle.art_parts.specs.Keys.{Precedes}
use Rattle.art_model.specs.Pairs.{IsMap, first_of, last_of, of_key, put, put_reply, remove_key, remove_reply, with_key, without_first, without_last}
use Rattle.art_model.specs.Parts.{below, without_below}
use Rattle.art_model.proofs.keys.Keys.{front_same, not_same, related_sym, same_related}
use Rattle.art_model.proofs.lists.Filters.{Each-filter, last_each}
use Rattle.art_model.proofs.pairs.MapLaws.{last_is_removed_by_key, removal_counts, removal_tells}
use Rattle.art_model.proofs.pairs.Puts.{first_has}
use Rattle.art_changing.specs.MapAnswers.{value_at, with_value_at}
use Rattle.art_map.proofs.CallerLaws.{value_elsewhere, value_left, value_unwritten}
use Rattle.art_changing.proofs.PartsOut.{first_below, nothing_out}
use Rattle.art_changing.proofs.MapPuts.{as_many, one_more}
use Rattle.art_map.proofs.Results.{none_found, rest_found}
use Rattle.art_changing.proofs.Takings.{first_goes}
use Rattle.art_keyed.specs.KeyedPairs.{HaveKeys}
use Rattle.art_keyed.specs.KeyedValues.{CountsPut, CountsRemoved, KeepsOtherKeys, value_of}

module _ {K V : Type 0} (bytes : K → List ℕ) where
  -- an insertion adds a pair, or none if one was replaced
  pub put_counted : (key : K) (value : V) (before after : List (K × V)) → IsMap (of_key bytes) before → (replaced : Option (K × V)) →
      replaced ≡ put_reply (of_key bytes) (key, value) before →
      after ≡ put (of_key bytes) (key, value) before → CountsPut replaced before after
  put_counted key value before after rising None is put_is = ap length put_is ∙ one_more bytes (key, value) before rising (sym is)
  put_counted key value before after rising (Some x) is put_is = ap length put_is ∙ as_many bytes (key, value) before rising x (sym is)

  -- a removal removes a pair, or none if none has the key
  pub removal_counted : (key : List ℕ) (before after : List (K × V)) → IsMap (of_key bytes) before → (removed : Option (K × V)) →
      removed ≡ remove_reply (of_key bytes) key before →
      after ≡ remove_key (of_key bytes) key before → CountsRemoved removed before after
  removal_counted key before after rising removed is left =
      go removed (ap length (removal_tells (of_key bytes) key before rising ∙ ap (λ o. cons_option o []) (sym is)))
    where
      counts : length (remove_key (of_key bytes) key before) + length (with_key (of_key bytes) key before) ≡ length before
      counts = removal_counts (of_key bytes) key before

      go : (o : Option (K × V)) → length (with_key (of_key bytes) key before) ≡ length (cons_option o []) → CountsRemoved o before after
      go None none = ap length left ∙ (let c = counts in omega arith)
      go (Some x) one = ap (λ n. n + 1) (ap length left) ∙ (let c = counts in omega arith)

  -- the last pair is found by its key
  last_reply : (pairs : List (K × V)) (z : K × V) → IsMap (of_key bytes) pairs → last_of pairs ≡ Some z → remove_reply (of_key bytes) (bytes z.0) pairs ≡ Some z
  last_reply [] z rising e = absurd cc
  last_reply (x ∷ []) z rising e = let is : x ≡ z = cc in rw (is, front_same (bytes z.0)) refl
  last_reply (x ∷ y ∷ xs) z rising e =
      let apart : Precedes (bytes x.0) (bytes z.0) = last_each (λ w. Precedes (bytes x.0) (bytes w.0)) (y ∷ xs) z rising.0 e in
      rw (same_related (bytes z.0) (bytes x.0) (related_sym (bytes z.0) (bytes x.0) ∙ apart.1)) (last_reply (y ∷ xs) z rising.1 e)

  none_last : (pairs : List (K × V)) → last_of pairs ≡ None → pairs ≡ []
  none_last [] e = refl
  none_last (x ∷ []) e = absurd cc
  none_last (x ∷ y ∷ xs) e = let none = none_last (y ∷ xs) e in absurd cc

  module _ (is_key : K → Type 0) (law : AreInjective is_key bytes) where
    -- what holds for the bytes of other keys holds for the keys
    pub other_keys_kept : (key : K) (before after : List (K × V)) → is_key key →
        ((other : List ℕ) → other ≢ bytes key → value_at bytes other after ≡ value_at bytes other before) →
        KeepsOtherKeys is_key bytes key before after
    other_keys_kept key before after of_key' others other of_other off = others (bytes other) (λ same. off (law other key of_other of_key' same))

    -- What contracts state of a pair that was removed.
    pub record TellsRemoved (removed : Option (K × V)) (before after : List (K × V)) : Type 0 where
      pub key : IfSome removed (λ pair. is_key pair.0)
      pub stored : IfSome removed (λ pair. value_of bytes pair.0 before ≡ Some pair.1)
      pub gone : IfSome removed (λ pair. value_of bytes pair.0 after ≡ None)
      pub other_keys : IfSome removed (λ pair. KeepsOtherKeys is_key bytes pair.0 before after)
      pub len : CountsRemoved removed before after

    -- the same for the pairs that a contract sees
    pub seen_as : {removed : Option (K × V)} {before seen after : List (K × V)} → before ≡ seen → TellsRemoved removed before after →
        TellsRemoved removed seen after
    seen_as {removed} {after = after} same told = subst (λ xs. TellsRemoved removed xs after) same told

    removed_pair : (x : K × V) (before after : List (K × V)) → IsMap (of_key bytes) before → is_key x.0 →
        remove_reply (of_key bytes) (bytes x.0) before ≡ Some x →
        after ≡ remove_key (of_key bytes) (bytes x.0) before → TellsRemoved (Some x) before after
    removed_pair x before after rising of_x reply left = record {
      key = of_x;
      stored = ap (option_map (λ y. y.1)) reply;
      gone = none_found bytes (bytes x.0) before after left;
      other_keys = other_keys_kept x.0 before after of_x (rest_found bytes (bytes x.0) before after left);
      len = removal_counted (bytes x.0) before after rising (Some x) (sym reply) left;
    }

    removed_none : (before after : List (K × V)) → after ≡ before → TellsRemoved None before after
    removed_none before after same = record { key = tt; stored = tt; gone = tt; other_keys = tt; len = ap length same }

    -- the first pair
    pub first_told : (removed : Option (K × V)) (before after : List (K × V)) → IsMap (of_key bytes) before → HaveKeys is_key before →
        removed ≡ first_of before →
        after ≡ without_first before → TellsRemoved removed before after
    first_told removed [] after rising keys is left = subst (λ o. TellsRemoved o [] after) (sym is) (removed_none [] after left)
    first_told removed (x ∷ xs) after rising keys is left =
        subst (λ o. TellsRemoved o (x ∷ xs) after) (sym is)
        (removed_pair x (x ∷ xs) after rising keys.0 (rw (front_same (bytes x.0)) refl) (left ∙ sym (first_goes (of_key bytes) (x ∷ xs) x rising refl)))

    -- the first of the pairs with a prefix
    pub below_told : (prefix : List ℕ) (removed : Option (K × V)) (before after : List (K × V)) → IsMap (of_key bytes) before → HaveKeys is_key before →
        removed ≡ first_of (below (of_key bytes) prefix before) → after ≡ without_below (of_key bytes) prefix 1 before → TellsRemoved removed before after
    below_told prefix removed before after rising keys is left =
        subst (λ o. TellsRemoved o before after) (sym is) (go (first_of (below (of_key bytes) prefix before)) refl)
      where
        go : (o : Option (K × V)) → first_of (below (of_key bytes) prefix before) ≡ o → TellsRemoved o before after
        go None e = removed_none before after (left ∙ nothing_out (of_key bytes) prefix before (sym e))
        go (Some x) e =
            let (reply, gone) = first_below (of_key bytes) prefix before x rising e in
            removed_pair x before after rising (first_has (λ y. is_key y.0) _ x (Each-filter (λ y. is_key y.0) _ before keys) e) reply (left ∙ sym gone)

    -- the last pair
    pub last_told : (removed : Option (K × V)) (before after : List (K × V)) → IsMap (of_key bytes) before → HaveKeys is_key before → removed ≡ last_of before →
        after ≡ without_last before → TellsRemoved removed before after
    last_told removed before after rising keys is left = subst (λ o. TellsRemoved o before after) (sym is) (go (last_of before) refl)
      where
        go : (o : Option (K × V)) → last_of before ≡ o → TellsRemoved o before after
        go None e = let none = none_last before e in removed_none before after (left ∙ ap without_last none ∙ sym none)
        go (Some x) e =
            removed_pair x before after rising (last_each (λ y. is_key y.0) before x keys e) (last_reply before x rising e)
            (left ∙ sym (last_is_removed_by_key (of_key bytes) x before rising e))

module _ {K V : Type 0} (bytes : K → List ℕ) (is_key : K → Type 0) (law : AreInjective is_key bytes) (key : K) (of_key' : is_key key) where
  -- an insertion, a write and a removal keep the values of the other keys
  pub others_by_put : (value : V) (pairs : List (K × V)) → KeepsOtherKeys is_key bytes key pairs (put (of_key bytes) (key, value) pairs)
  others_by_put value pairs = other_keys_kept bytes is_key law key pairs (put (of_key bytes) (key, value) pairs) of_key'
      (λ other off. value_elsewhere bytes other key value pairs (not_same other (bytes key) off))

  pub others_by_write : (value : V) (pairs : List (K × V)) → KeepsOtherKeys is_key bytes key pairs (with_value_at bytes (bytes key) value pairs)
  others_by_write value pairs = other_keys_kept bytes is_key law key pairs (with_value_at bytes (bytes key) value pairs) of_key'
      (λ other off. value_unwritten bytes other (bytes key) value pairs (not_same other (bytes key) off))

  pub others_by_removal : (pairs : List (K × V)) → KeepsOtherKeys is_key bytes key pairs (remove_key (of_key bytes) (bytes key) pairs)
  others_by_removal pairs = other_keys_kept bytes is_key law key pairs (remove_key (of_key bytes) (bytes key) pairs) of_key'
      (λ other off. value_left bytes other (bytes key) pairs (not_same other (bytes key) off))
