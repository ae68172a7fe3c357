-- what the comparison of a prefix decides
use Rattle.std.proofs.Common.{◌≡◌, ℕ, ◌<◌, ◌≤◌, ◌⊎◌, inl, inr, List, length, refl, ap, sym, Ok, Err, Bool, true, ltb, arith, false, not, IsTrue, ◌↔◌}
use Rattle.std.proofs.lemmas.Bool.{le-ltb, lt-ltb, cases_lt, false≢true}
use Rattle.art_model.specs.Prelude.{Prefix, IsFront}
use Rattle.art_model.proofs.keys.Fronts.{shared_whole, whole_shared}
use Rattle.art_reading.specs.declared.lookup.matching.PrefixMatchBehavior.{PrefixMatchBehavior}
use Rattle.art_reading.specs.declared.lookup.matching.PrefixMatchBehavior.TheVariants.{Pessimistic, Optimistic}
use Rattle.art_reading.specs.declared.path.AttemptOptimisticPrefixMatch.{AttemptOptimisticPrefixMatch}
use Rattle.art_reading.specs.declared.path.PessimisticMismatch.{PessimisticMismatch}
use Rattle.art_reading.specs.Matching.{shared_len, match_by_length, parts_from, prefix_match, behavior_after}

-- a match by length has the whole prefix's length
abbrev Matches : ℕ → List ℕ → AttemptOptimisticPrefixMatch → Type 0
Matches len rest m = (m.matched_bytes ≡ len) × (len ≤ length rest)

by_length_ok : (len : ℕ) (rest : List ℕ) (implicit : Bool) (m : AttemptOptimisticPrefixMatch) → match_by_length len rest implicit ≡ Ok m → Matches len rest m
by_length_ok len rest implicit m e = go (cases_lt (length rest) len)
  where
    go : (length rest < len) ⊎ (len ≤ length rest) → Matches len rest m
    go (inl h) = let k = rw (lt-ltb (length rest) len h) at e in absurd cc
    go (inr h) =
        let k = rw (le-ltb (length rest) len h) at e in
        let same : ◌≡◌ {A = AttemptOptimisticPrefixMatch} (record { matched_bytes = len; any_implicit_bytes = implicit }) m = cc in
        (ap (λ z. z.matched_bytes) (sym same), h)

by_length_err : (len : ℕ) (rest : List ℕ) (implicit : Bool) (m : PessimisticMismatch) → match_by_length len rest implicit ≡ Err m → length rest < len
by_length_err len rest implicit m e = go (cases_lt (length rest) len)
  where
    go : (length rest < len) ⊎ (len ≤ length rest) → length rest < len
    go (inl h) = h
    go (inr h) = let k = rw (le-ltb (length rest) len h) at e in absurd cc

module _ (prefix : Prefix) (rest : List ℕ) where
  shared : ℕ
  shared = shared_len prefix.stored rest

  abbrev Parts : Type 0
  Parts = (shared_len prefix.stored rest < length prefix.stored) ⊎ (length prefix.stored ≤ shared_len prefix.stored rest)

  -- the prefix's length is matched, and the rest is as long
  ok_len : (behavior : PrefixMatchBehavior) (m : AttemptOptimisticPrefixMatch) → prefix_match behavior prefix rest ≡ Ok m → Matches prefix.len rest m
  ok_len Optimistic m e = by_length_ok prefix.len rest true m e
  ok_len Pessimistic m e = go (cases_lt (shared_len prefix.stored rest) (length prefix.stored))
    where
      go : Parts → Matches prefix.len rest m
      go (inl h) = let k = rw (lt-ltb (shared_len prefix.stored rest) (length prefix.stored) h) at e in absurd cc
      go (inr h) = let k =
          rw (le-ltb (shared_len prefix.stored rest) (length prefix.stored) h) at e in
          by_length_ok prefix.len rest (ltb (length prefix.stored) prefix.len) m k

  -- a mismatch is at a stored byte that was compared, or the rest is too short
  abbrev pub Why : PrefixMatchBehavior → Type 0
  Why behavior = ((behavior ≡ Pessimistic) × (shared_len prefix.stored rest < length prefix.stored)) ⊎ (length rest < prefix.len)

  pub err_why : (behavior : PrefixMatchBehavior) (m : PessimisticMismatch) → prefix_match behavior prefix rest ≡ Err m → Why behavior
  err_why Optimistic m e = inr (by_length_err prefix.len rest true m e)
  err_why Pessimistic m e = go (cases_lt (shared_len prefix.stored rest) (length prefix.stored))
    where
      go : Parts → Why Pessimistic
      go (inl h) = inl (refl, h)
      go (inr h) = let k = rw (le-ltb (shared_len prefix.stored rest) (length prefix.stored) h) at e in
          inr (by_length_err prefix.len rest (ltb (length prefix.stored) prefix.len) m k)

  -- a behavior that is pessimistic after a match was so before, and all bytes of the prefix are stored and the same
  abbrev AllCompared : PrefixMatchBehavior → Type 0
  AllCompared behavior = (behavior ≡ Pessimistic) × (length prefix.stored ≤ shared_len prefix.stored rest) × (prefix.len ≤ length prefix.stored)

  pub ok_compared : (behavior : PrefixMatchBehavior) (m : AttemptOptimisticPrefixMatch) → prefix_match behavior prefix rest ≡ Ok m →
      behavior_after behavior prefix rest ≡ Pessimistic → AllCompared behavior
  ok_compared Optimistic m e after = absurd cc
  ok_compared Pessimistic m e after =
      go (cases_lt (shared_len prefix.stored rest) (length prefix.stored)) (cases_lt (length prefix.stored) prefix.len)
      (ok_len Pessimistic m e).1
    where
      go : Parts → (length prefix.stored < prefix.len) ⊎ (prefix.len ≤ length prefix.stored) → prefix.len ≤ length rest → AllCompared Pessimistic
      go (inl h) stored l = let k = rw (lt-ltb (shared_len prefix.stored rest) (length prefix.stored) h) at e in absurd cc
      go (inr h) (inr stored) l = (refl, h, stored)
      go (inr h) (inl stored) l =
          let k = rw (
            le-ltb (shared_len prefix.stored rest) (length prefix.stored) h,
            le-ltb (length rest) prefix.len l,
            lt-ltb (length prefix.stored) prefix.len stored,
          ) at after in absurd cc

  -- a behavior that is pessimistic before a match with a prefix that is stored whole stays so
  pub ok_sure : (behavior : PrefixMatchBehavior) (m : AttemptOptimisticPrefixMatch) → prefix_match behavior prefix rest ≡ Ok m →
      behavior ≡ Pessimistic → prefix.len ≤ length prefix.stored → behavior_after behavior prefix rest ≡ Pessimistic
  ok_sure Optimistic m e was stored = absurd cc
  ok_sure Pessimistic m e was stored = go (cases_lt (shared_len prefix.stored rest) (length prefix.stored)) (ok_len Pessimistic m e).1
    where
      go : Parts → prefix.len ≤ length rest → behavior_after Pessimistic prefix rest ≡ Pessimistic
      go (inl h) l = rw (lt-ltb (shared_len prefix.stored rest) (length prefix.stored) h) refl
      go (inr h) l =
          rw (
            le-ltb (shared_len prefix.stored rest) (length prefix.stored) h,
            le-ltb (length rest) prefix.len l,
            le-ltb (length prefix.stored) prefix.len stored,
          ) refl

module _ (stored rest : List ℕ) where
  -- the rest starts with the stored bytes exactly if it does not differ from them
  pub begins_parts : (r : Bool) → IsTrue r ↔ IsFront stored rest → not r ≡ parts_from rest stored
  begins_parts true test =
      let whole = whole_shared stored rest (test.0 refl) in
      sym (le-ltb (shared_len stored rest) (length stored) (omega arith))
  begins_parts false test = sym (lt-ltb (shared_len stored rest) (length stored) (less (cases_lt (shared_len stored rest) (length stored))))
    where
      less : (shared_len stored rest < length stored) ⊎ (length stored ≤ shared_len stored rest) → shared_len stored rest < length stored
      less (inl h) = h
      less (inr h) = absurd (false≢true (test.1 (shared_whole stored rest h)))
