-- Keys that share bytes with the key before them.
use Rattle.std.proofs.Common.{◌≡◌, ◌≢◌, ◌⊎◌, inl, inr, ℕ, zero, suc, ◌≤◌, Bool, true, false, cond, eqb, ltb, List, [], ◌∷◌, ◌++◌, length, take, drop, refl, arith}
use Rattle.std.proofs.lemmas.Bool.{eqb-true, eq-eqb, le-ltb, ne_eqb, cases_eq}
use Rattle.std.proofs.lemmas.Bool.Decides.{nat_tests}
use Rattle.std.specs.List.{slice_get}
use Rattle.std.specs.declared.cmp.Ordering.{Ordering}
use Rattle.std.specs.Cmp.Lexicographic.{slice_cmp}
use Rattle.std.specs.Ordering.{nat_cmp, is_lt, ordering_then}
use Rattle.snapshot_format.specs.Snapshots.{shared_len}
use Rattle.snapshot_format.specs.Reading.{is_above}

-- a key is the bytes that it shares with the one before, and its others
pub shared_rest : (before key : List ℕ) → take (shared_len before key) before ++ drop (shared_len before key) key ≡ key
unfolding shared_len
shared_rest [] key = refl
shared_rest (a ∷ before) [] = refl
shared_rest (a ∷ before) (b ∷ key) = by (eqb a b) refl (shared_rest before key)
  where
    by : (same : Bool) → eqb a b ≡ same → take (shared_len before key) before ++ drop (shared_len before key) key ≡ key →
        take (cond same (suc (shared_len before key)) 0) (a ∷ before) ++ drop (cond same (suc (shared_len before key)) 0) (b ∷ key) ≡ b ∷ key
    by true e rest = let s : a ≡ b = eqb-true a b e in rw (s, rest) refl
    by false e rest = refl

pub shared_within : (before key : List ℕ) → shared_len before key ≤ length before
unfolding shared_len
shared_within [] key = omega arith
shared_within (a ∷ before) [] = omega arith
shared_within (a ∷ before) (b ∷ key) = by (eqb a b) (shared_within before key)
  where
    by : (same : Bool) → shared_len before key ≤ length before → cond same (suc (shared_len before key)) 0 ≤ suc (length before)
    by true h = omega arith
    by false h = omega arith

cmp_same : (a : ℕ) (o : Ordering) → is_lt (ordering_then (nat_cmp a a) o) ≡ is_lt o
cmp_same a o = rw (le-ltb a a (omega arith), eq-eqb a a refl) refl

cmp_other : (a b : ℕ) (o : Ordering) → a ≢ b → is_lt (ordering_then (nat_cmp a b) o) ≡ true → ltb a b ≡ true
cmp_other a b o n h = by (ltb a b) refl
  where
    by : (less : Bool) → ltb a b ≡ less → less ≡ true
    by true e = refl
    by false e = absurd (let f : false ≡ true = rw (e, ne_eqb a b n) at h in cc)

-- a key that comes after another has a larger byte in the first place that they don't share, or more bytes
pub after_is_above : (before key : List ℕ) → is_lt (slice_cmp nat_cmp before key) ≡ true → is_above (slice_get before (shared_len before key)) (drop (shared_len before key) key) ≡ true
unfolding shared_len
after_is_above [] [] h = absurd cc
after_is_above [] (b ∷ key) h = refl
after_is_above (a ∷ before) [] h = absurd cc
after_is_above (a ∷ before) (b ∷ key) h = by (cases_eq a b) (after_is_above before key)
  where
    by : ((a ≡ b) ⊎ (a ≢ b)) → (is_lt (slice_cmp nat_cmp before key) ≡ true → is_above (slice_get before (shared_len before key)) (drop (shared_len before key) key) ≡ true) →
        is_above (slice_get (a ∷ before) (shared_len (a ∷ before) (b ∷ key))) (drop (shared_len (a ∷ before) (b ∷ key)) (b ∷ key)) ≡ true
    by (inl e) more =
        let t : is_lt (slice_cmp nat_cmp before key) ≡ true = rw (e, cmp_same b (slice_cmp nat_cmp before key)) at h in
        rw (eq-eqb a b e) (more t)
    by (inr n) more =
        let t : ltb a b ≡ true = cmp_other a b (slice_cmp nat_cmp before key) n h in
        rw (ne_eqb a b n) t

-- and is after it with such bytes, and shares no others
pub record Rises (before key rest : List ℕ) (shared : ℕ) : Type 0 where
  pub after : is_lt (slice_cmp nat_cmp before key) ≡ true
  pub shares : shared_len before key ≡ shared
  pub rest_is : drop shared key ≡ rest

pub above_is_after : (shared : ℕ) (before rest : List ℕ) → shared ≤ length before → is_above (slice_get before shared) rest ≡ true → Rises before (take shared before ++ rest) rest shared
unfolding shared_len
above_is_after zero [] [] le h = absurd cc
above_is_after zero [] (b ∷ rest) le h = record { after = refl; shares = refl; rest_is = refl }
above_is_after zero (a ∷ before) [] le h = absurd cc
above_is_after zero (a ∷ before) (b ∷ rest) le h = record { after = grind (arith, nat_tests); shares = grind (arith, nat_tests); rest_is = refl }
above_is_after (suc shared) [] rest le h = absurd (omega arith)
above_is_after (suc shared) (a ∷ before) rest le h =
    let r = above_is_after shared before rest (omega arith) h in
    record { after = rw (cmp_same a (slice_cmp nat_cmp before (take shared before ++ rest))) r.after; shares = rw (eq-eqb a a refl, r.shares) refl; rest_is = r.rest_is }
