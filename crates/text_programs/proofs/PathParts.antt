-- Parts of an index, and what is stored in it, as lists of paths.
use Rattle.std.proofs.Common.{◌≡◌, ◌≢◌, ℕ, ◌+◌, Bool, true, false, not, cond, ◌&&◌, ◌||◌, eqb, is_some, List, [], ◌∷◌, length, filter, refl, ap, ap₂, sym, ◌∙◌, arith}
use Rattle.std.specs.Iterator.{Drains, Yields}
use Rattle.std.specs.List.{AllByRecursion as Each}
use Rattle.std.specs.Option.{option_map}
use Rattle.std.specs.Ordering.{is_lt, nat_cmp, ordering_then}
use Rattle.std.specs.Cmp.Lexicographic.{slice_cmp}
use Rattle.std.specs.declared.cmp.Ordering.{Ordering}
use Rattle.std.specs.declared.cmp.Ordering.TheVariants.{Less, Equal, Greater}
use Rattle.std.proofs.lemmas.Bool.{lt-ltb, ne_eqb}
use Rattle.std.proofs.lemmas.List.{length-map}
use denote.Ref.{Bor}
use Rattle.art_model.proofs.pairs.MapLaws.{put_is_found}
use Rattle.art_operations.specs.Ended.{HasNoZero, ended}
use Rattle.art_operations.specs.KeyedPairs.{RiseBy}
use Rattle.art_operations.specs.Keys.{are_same, is_before, is_front}
use Rattle.art_operations.specs.MapAnswers.{value_at}
use Rattle.art_operations.specs.MapItems.{TakesFirst, keys_of}
use Rattle.art_operations.specs.Pairs.{Pairwise, first_of, last_of, of_key, put, stored_for, with_key}
use Rattle.art_operations.specs.Parts as part
use Rattle.std.specs.declared.ops.Bound.TheVariants.{Included, Excluded}
use Rattle.text_programs.specs.Paths.{AddsPath, below, between, is_stored}
use Rattle.text_programs.proofs.EndedLemmas.{same_ended}

-- a string without a zero is a prefix of an ended one exactly if it is one of what is before the end
ended_begins : (text other : List ℕ) → HasNoZero text → is_front text (ended other) ≡ is_front text other
ended_begins [] other h = refl
ended_begins (x ∷ text) [] h = rw (ne_eqb x 0 h.0) refl
ended_begins (x ∷ text) (y ∷ other) h = ap (λ b. eqb x y && b) (ended_begins text other h.1)

-- an ended string is before a string without a zero exactly if what is before the end is
before_ended : (text other : List ℕ) → HasNoZero other → is_before (ended text) other ≡ is_before text other
before_ended [] [] h = refl
before_ended [] (y ∷ other) h = let off : y ≢ 0 = h.0 in rw (lt-ltb 0 y (omega arith)) refl
before_ended (x ∷ text) [] h = refl
before_ended (x ∷ text) (y ∷ other) h = go (nat_cmp x y) (before_ended text other h.1)
  where
    go : (o : Ordering) → is_before (ended text) other ≡ is_before text other →
        is_lt (ordering_then o (slice_cmp nat_cmp (ended text) other)) ≡ is_lt (ordering_then o (slice_cmp nat_cmp text other))
    go Less ih = refl
    go Equal ih = ih
    go Greater ih = refl

module _ {V : Type 0} where
  -- where a test states of pairs what another states of their keys
  keys_kept : (test : List ℕ × V → Bool) (other : List ℕ → Bool) → ((x : List ℕ × V) → test x ≡ other x.0) → (pairs : List (List ℕ × V)) →
      keys_of (filter test pairs) ≡ filter other (keys_of pairs)
  keys_kept test other same [] = refl
  keys_kept test other same (x ∷ xs) = rw (same x) (go (other x.0) (keys_kept test other same xs))
    where
      go : (t : Bool) → keys_of (filter test xs) ≡ filter other (keys_of xs) →
          keys_of (cond t (x ∷ filter test xs) (filter test xs)) ≡ cond t (x.0 ∷ filter other (keys_of xs)) (filter other (keys_of xs))
      go true ih = ap (λ ks. x.0 ∷ ks) ih
      go false ih = ih

  pub below_is : (prefix : List ℕ) (pairs : List (List ℕ × V)) → HasNoZero prefix →
      keys_of (part.below (of_key ended) prefix pairs) ≡ below prefix (keys_of pairs)
  below_is prefix pairs h = keys_kept (λ x. is_front prefix (ended x.0)) (λ path. is_front prefix path) (λ x. ended_begins prefix x.0 h) pairs

  pub between_is : (from to : List ℕ) (pairs : List (List ℕ × V)) → HasNoZero from → HasNoZero to →
      keys_of (part.between (of_key ended) (Included from) (Excluded to) pairs) ≡ between from to (keys_of pairs)
  between_is from to pairs f t =
      keys_kept (λ x. not (is_before (ended x.0) from) && is_before (ended x.0) to) (λ path. not (is_before path from) && is_before path to)
      (λ x. ap₂ (λ a b. not a && b) (before_ended x.0 from f) (before_ended x.0 to t)) pairs

  -- what is found under a path's key is whether it is stored
  pub found_is_stored : (path : List ℕ) (pairs : List (List ℕ × V)) → is_some (value_at ended (ended path) pairs) ≡ is_stored path (keys_of pairs)
  found_is_stored path [] = refl
  found_is_stored path (x ∷ xs) = rw (same_ended path x.0) (go (are_same path x.0) (found_is_stored path xs))
    where
      go : (t : Bool) → is_some (value_at ended (ended path) xs) ≡ is_stored path (keys_of xs) →
          is_some (option_map (λ y. y.1) (first_of
          (cond t (x ∷ with_key (of_key ended) (ended path) xs) (with_key (of_key ended) (ended path) xs))))
          ≡ (t || is_stored path (keys_of xs))
      go true ih = refl
      go false ih = ih

  pub put_adds : (path : List ℕ) (value : V) (pairs : List (List ℕ × V)) → AddsPath path (keys_of pairs) (keys_of (put (of_key ended) (path, value) pairs))
  put_adds path value pairs other =
      sym (found_is_stored other (put (of_key ended) (path, value) pairs))
      ∙ ap (λ xs. is_some (option_map (λ y. y.1) (first_of xs))) (put_is_found ended (ended other) (path, value) pairs)
      ∙ rw (same_ended other path) (go (are_same other path))
    where
      or_true : (b : Bool) → true ≡ (b || true)
      or_true true = refl
      or_true false = refl

      or_false : (b : Bool) → b ≡ (b || false)
      or_false true = refl
      or_false false = refl

      go : (t : Bool) →
          is_some (option_map (λ y. y.1) (first_of (cond t (stored_for (of_key ended) (path, value) pairs ∷ []) (with_key (of_key ended) (ended other) pairs))))
          ≡ (is_stored other (keys_of pairs) || t)
      go true = or_true (is_stored other (keys_of pairs))
      go false = found_is_stored other pairs ∙ or_false (is_stored other (keys_of pairs))

  -- the first and the last key are those of the first and the last pair
  pub first_key : (pairs : List (List ℕ × V)) → option_map (λ x. x.0) (first_of pairs) ≡ first_of (keys_of pairs)
  first_key [] = refl
  first_key (x ∷ xs) = refl

  pub last_key : (pairs : List (List ℕ × V)) → option_map (λ x. x.0) (last_of pairs) ≡ last_of (keys_of pairs)
  last_key [] = refl
  last_key (x ∷ []) = refl
  last_key (x ∷ y ∷ xs) = last_key (y ∷ xs)

  -- the paths rise as their pairs do
  each_later : (x : List ℕ × V) (xs : List (List ℕ × V)) → Each (λ y. slice_cmp nat_cmp x.0 y.0 ≡ Less) xs →
      Each (λ path. is_before x.0 path ≡ true) (keys_of xs)
  each_later x [] h = tt
  each_later x (y ∷ ys) h = (ap is_lt h.0, each_later x ys h.1)

  pub keys_rise : (pairs : List (List ℕ × V)) → RiseBy (slice_cmp nat_cmp) pairs → Pairwise (λ a b. is_before a b ≡ true) (keys_of pairs)
  keys_rise [] h = tt
  keys_rise (x ∷ xs) h = (each_later x xs h.0, keys_rise xs h.1)

  -- an iteration returns all pairs, and no more
  pairs_came : (s : List (List ℕ × V)) (xs : List (Bor (List ℕ) × Bor V)) (t : List (List ℕ × V)) → Yields TakesFirst s xs t → length s ≡ length xs + length t
  pairs_came s [] t h = let e = ap length h in omega arith
  pairs_came s (x ∷ xs) t (j, step, more) = let e = ap length step in let ih = pairs_came j xs t more in omega (arith, e)

  pub all_came : (s : List (List ℕ × V)) (xs : List (Bor (List ℕ) × Bor V)) → Drains TakesFirst s xs → length xs ≡ length (keys_of s)
  all_came s xs (u, (t, came, end)) = let e = pairs_came s xs t came in let z = ap length end.0 in let m = length-map s (λ x. x.0) in omega arith
