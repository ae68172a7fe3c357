-- Strings between two texts, by the keys of both.
use Rattle.std.proofs.Common.{◌≡◌, ◌≢◌, ℕ, zero, suc, List, [], ◌∷◌, not, ◌&&◌, refl, ap, ap₂, ◌∙◌, arith, filter}
use Rattle.std.specs.Bool.{⊤}
use Rattle.std.specs.Cmp.Lexicographic.{slice_cmp}
use Rattle.std.specs.List.{AllByRecursion as Each}
use Rattle.std.specs.Ordering.{is_lt, nat_cmp}
use Rattle.std.specs.Range.Bound.{bound_map}
use Rattle.std.specs.declared.ops.Bound.{Bound}
use Rattle.std.specs.declared.ops.Bound.TheVariants.{Included, Excluded, Unbounded}
use Rattle.std.proofs.lemmas.Bool.{le-ltb, lt-ltb, ne_eqb}
use Rattle.art_keys.specs.Ended.{HasNoZero, ended}
use Rattle.art_keys.specs.Escapes.{escape}
use Rattle.art_keys.specs.EscapeLaws.{escape_keeps_order}
use Rattle.art_model.specs.Pairs.{of_key}
use Rattle.art_model.specs.Parts.{between, is_from, is_up_to}
use Rattle.art_keyed.specs.KeyedPairs.{HaveKeys, OnBound, is_key_from, is_key_up_to, keys_between, set_between}
use Rattle.art_keyed.proofs.KeyRanges.{between_keys, filter_same, map_twice}
use denote.Ref.{Bor}

-- ---- strings without a zero

-- the keys of a text, which may have zeros, and of a string are in the order of both
text_first : (text x : List ℕ) → HasNoZero x → slice_cmp nat_cmp (ended text) (ended x) ≡ slice_cmp nat_cmp text x
text_first [] [] of_x = refl
text_first [] (y ∷ x) of_x = let off : y ≢ 0 = of_x.0 in rw (lt-ltb 0 y (omega arith)) refl
text_first (zero ∷ []) [] of_x = refl
text_first (zero ∷ z ∷ text) [] of_x = refl
text_first (suc z ∷ text) [] of_x = rw (le-ltb (suc z) 0 (omega arith), ne_eqb (suc z) 0 (λ e. omega arith)) refl
text_first (z ∷ text) (y ∷ x) of_x = rw (text_first text x of_x.1) refl

text_second : (text x : List ℕ) → HasNoZero x → slice_cmp nat_cmp (ended x) (ended text) ≡ slice_cmp nat_cmp x text
text_second [] [] of_x = refl
text_second [] (y ∷ x) of_x = let off : y ≢ 0 = of_x.0 in rw (le-ltb y 0 (omega arith), ne_eqb y 0 off) refl
text_second (zero ∷ []) [] of_x = refl
text_second (zero ∷ z ∷ text) [] of_x = refl
text_second (suc z ∷ text) [] of_x = rw (lt-ltb 0 (suc z) (omega arith)) refl
text_second (z ∷ text) (y ∷ x) of_x = rw (text_second text x of_x.1) refl

ended_from : (from : Bound (List ℕ)) (x : List ℕ) → HasNoZero x →
    is_from (bound_map ended from) (ended x) ≡ is_key_from (slice_cmp nat_cmp) from x
ended_from (Included text) x of_x = ap (λ o. not (is_lt o)) (text_second text x of_x)
ended_from (Excluded text) x of_x = ap is_lt (text_first text x of_x)
ended_from Unbounded x of_x = refl

ended_up_to : (to : Bound (List ℕ)) (x : List ℕ) → HasNoZero x →
    is_up_to (bound_map ended to) (ended x) ≡ is_key_up_to (slice_cmp nat_cmp) to x
ended_up_to (Included text) x of_x = ap (λ o. not (is_lt o)) (text_first text x of_x)
ended_up_to (Excluded text) x of_x = ap is_lt (text_second text x of_x)
ended_up_to Unbounded x of_x = refl

module _ (from to : Bound (Bor (List ℕ))) (low high : Bound (List ℕ))
    (is_low : low ≡ bound_map (λ text. ended text.now) from) (is_high : high ≡ bound_map (λ text. ended text.now) to) where
  -- a string is between two texts exactly if its key is between theirs
  ended_by : {A : Type 0} (key_of : A → List ℕ) (xs : List A) → Each (λ x. HasNoZero (key_of x)) xs →
      between (λ x. ended (key_of x)) low high xs ≡
      filter (λ x. is_key_from (slice_cmp nat_cmp) (bound_map (λ b. b.now) from) (key_of x)
      && is_key_up_to (slice_cmp nat_cmp) (bound_map (λ b. b.now) to) (key_of x)) xs
  ended_by key_of xs all =
      rw (is_low ∙ map_twice ended from, is_high ∙ map_twice ended to)
      (filter_same (λ x. HasNoZero (key_of x)) _ _
      (λ x of_x. ap₂ (λ a b. a && b) (ended_from (bound_map (λ b. b.now) from) (key_of x) of_x) (ended_up_to (bound_map (λ b. b.now) to) (key_of x) of_x))
      xs all)

  pub ended_between : {V : Type 0} (pairs : List (List ℕ × V)) → HaveKeys HasNoZero pairs →
      between (of_key ended) low high pairs ≡ keys_between (slice_cmp nat_cmp) (bound_map (λ b. b.now) from) (bound_map (λ b. b.now) to) pairs
  ended_between = ended_by (λ x. x.0)

  pub ended_in_set : (keys : List (List ℕ)) → Each HasNoZero keys →
      between ended low high keys ≡ set_between (slice_cmp nat_cmp) (bound_map (λ b. b.now) from) (bound_map (λ b. b.now) to) keys
  ended_in_set = ended_by (λ key. key)

-- ---- escaped strings

any_on : (bound : Bound (List ℕ)) → OnBound (λ text. ⊤) bound
any_on (Included text) = tt
any_on (Excluded text) = tt
any_on Unbounded = tt

pub escaped_between : (from to : Bound (Bor (List ℕ))) (low high : Bound (List ℕ)) → low ≡ bound_map (λ text. escape text.now) from →
    high ≡ bound_map (λ text. escape text.now) to → {V : Type 0} (pairs : List (List ℕ × V)) → HaveKeys (λ text. ⊤) pairs →
    between (of_key escape) low high pairs ≡ keys_between (slice_cmp nat_cmp) (bound_map (λ b. b.now) from) (bound_map (λ b. b.now) to) pairs
escaped_between from to low high is_low is_high =
    between_keys (λ text. ⊤) escape escape_keeps_order from to low high is_low is_high (any_on (bound_map (λ b. b.now) from))
    (any_on (bound_map (λ b. b.now) to))
