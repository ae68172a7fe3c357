-- The first pair whose key passes a test is removed, and then the next ones.
use Rattle.std.proofs.Common.{◌≡◌, ℕ, suc, ◌+◌, ◌-◌, ◌≤◌, ◌<◌, List, [], ◌∷◌, length, refl, ap, sym, ◌∙◌, subst, arith, Some, None, Bool, true, false, not, cond, filter}
use Rattle.std.proofs.lemmas.Bool.{true≢false}
use Rattle.art_model.specs.Prelude.{are_same, IsMap, first_of, remove_key, remove_reply}
use Rattle.art_model.proofs.lists.Filters.{filter_all, filter_passes, none_passes}
use Rattle.art_model.proofs.keys.Keys.{front_same, same_equal}
use Rattle.art_model.proofs.lists.Lists.{Each-weaker}
use Rattle.art_model.proofs.pairs.MapLaws.{first_is_removed_by_key}
use Rattle.art_model.proofs.pairs.Puts.{first_has, first_none}
use Rattle.art_map.specs.MapParts.{without}

module _ {A : Type 0} (bytes : A → List ℕ) (test : List ℕ → Bool) where
  abbrev pub passing : List A → List A
  passing pairs = filter (λ x. test (bytes x)) pairs

  abbrev pub failing : List A → List A
  failing pairs = filter (λ x. not (test (bytes x))) pairs

  first_passes : (pairs : List A) (x : A) → first_of (passing pairs) ≡ Some x → test (bytes x) ≡ true
  first_passes pairs x e = first_has (λ y. test (bytes y) ≡ true) (passing pairs) x (filter_passes (λ y. test (bytes y)) pairs) e

  -- two keys of which only one passes the test are unequal
  other_key : (x y : A) → test (bytes x) ≡ true → test (bytes y) ≡ false → are_same (bytes x) (bytes y) ≡ false
  other_key x y is off = go (are_same (bytes x) (bytes y)) refl
    where
      go : (b : Bool) → are_same (bytes x) (bytes y) ≡ b → b ≡ false
      go false e = refl
      go true e = absurd (true≢false (sym is ∙ ap test (sym (same_equal (bytes x) (bytes y) e)) ∙ off))

  -- The pair is found by its key. The removal of its key removes it alone.
  pub record IsFirstOut (pairs : List A) (x : A) : Type 0 where
    pub reply : remove_reply bytes (bytes x) pairs ≡ Some x
    pub passes : passing pairs ≡ x ∷ passing (remove_key bytes (bytes x) pairs)
    pub fails : failing (remove_key bytes (bytes x) pairs) ≡ failing pairs

  pub first_out : (pairs : List A) (x : A) → IsMap bytes pairs → first_of (passing pairs) ≡ Some x → IsFirstOut pairs x
  first_out [] x rising e = absurd cc
  first_out (y ∷ ys) x rising e = go (λ later. first_out ys x rising.1 later) (test (bytes y)) refl e
    where
      go : (first_of (passing ys) ≡ Some x → IsFirstOut ys x) → (b : Bool) → test (bytes y) ≡ b →
          first_of (cond b (y ∷ passing ys) (passing ys)) ≡ Some x → IsFirstOut (y ∷ ys) x
      go ih true is f =
          let same : y ≡ x = cc in
          let gone : remove_key bytes (bytes y) (y ∷ ys) ≡ ys = first_is_removed_by_key bytes y ys rising in
          subst (IsFirstOut (y ∷ ys)) same
          (record { reply = rw (front_same (bytes y)) refl; passes = rw is (ap (λ zs. y ∷ passing zs) (sym gone)); fails = ap failing gone ∙ (rw is refl) })
      go ih false is f =
          let out = ih f in
          let off = other_key x y (first_passes ys x f) is in
          record { reply = rw off out.reply; passes = rw (off, is) out.passes; fails = rw (off, is) (ap (λ zs. y ∷ zs) out.fails) }

  -- if none passes, all stay
  none_out : (pairs : List A) → passing pairs ≡ [] → failing pairs ≡ pairs
  none_out pairs none =
      filter_all (λ x. not (test (bytes x))) pairs
      (Each-weaker (λ x. test (bytes x) ≡ false) (λ x. not (test (bytes x)) ≡ true) (λ x e. ap not e) pairs (none_passes (λ x. test (bytes x)) pairs none))

  -- each pair passes or does not
  both_counted : (pairs : List A) → length (failing pairs) + length (passing pairs) ≡ length pairs
  both_counted [] = refl
  both_counted (y ∷ ys) = go (both_counted ys) (test (bytes y))
    where
      go : length (failing ys) + length (passing ys) ≡ length ys → (b : Bool) →
          length (cond (not b) (y ∷ failing ys) (failing ys)) + length (cond b (y ∷ passing ys) (passing ys)) ≡ suc (length ys)
      go ih true = omega arith
      go ih false = omega arith

  -- so it is the pair of a point that is found by its key
  module _ (pairs : List A) (x : A) (key : List ℕ) (rising : IsMap bytes pairs) (first : Some x ≡ first_of (passing pairs)) (key_is : key ≡ bytes x) where
    reply_is : remove_reply bytes key pairs ≡ Some x
    reply_is = ap (λ k. remove_reply bytes k pairs) key_is ∙ (first_out pairs x rising (sym first)).reply

    pub point_not_none : remove_reply bytes key pairs ≡ None → ⊥
    point_not_none none = let some = reply_is in absurd cc

    pub point_is_first : (y : A) → remove_reply bytes key pairs ≡ Some y → Some y ≡ first_of (passing pairs)
    point_is_first y reply = let some = reply_is in let same : x ≡ y = cc in ap Some (sym same) ∙ first

  -- ---- one after another

  module _ (before now : List A) (kept : failing now ≡ failing before) (none : None ≡ first_of (passing now)) where
    pub all_gone : now ≡ failing before
    all_gone = sym (none_out now (first_none (passing now) (sym none))) ∙ kept

    pub counted : (length now ≤ length before) × (length before - length now ≡ length (passing before))
    counted =
        let all = both_counted before in
        let left = ap length all_gone in
        (omega arith, omega arith)

  module _ (before now : List A) (rising : IsMap bytes now) (kept : failing now ≡ failing before) where
    pub some_goes : (x : A) → Some x ≡ first_of (passing now) → failing (without bytes (Some x) now) ≡ failing before
    some_goes x first = (first_out now x rising (sym first)).fails ∙ kept

    -- there are fewer each time
    pub fewer : (x : A) → Some x ≡ first_of (passing now) → length (passing (without bytes (Some x) now)) < length (passing now)
    fewer x first = let less = ap length (first_out now x rising (sym first)).passes in omega arith
