-- Parts of a list that pass a test.
use Rattle.std.proofs.Common.{◌≡◌, ℕ, zero, suc, ◌-◌, ◌<◌, ◌≤◌, inl, inr, Bool, true, false, List, [], ◌∷◌, ◌++◌, length, filter, take, drop, refl, ap, ap₂, sym, ◌∙◌, arith, append-nil, slice_index_or}
use Rattle.std.proofs.lemmas.Bool.{cases_lt}
use Rattle.std.proofs.lemmas.List.{length-take-le}
use Rattle.std.proofs.lemmas.List.Elements.{filter-append}
use Rattle.std.proofs.Math.Seq.{take-length, take-suc}

module _ {X : Type 0} (p : X → Bool) where
  filter_one : (x : X) → p x ≡ true → filter p (x ∷ []) ≡ x ∷ []
  filter_one x h = rw h

  filter_no_one : (x : X) → p x ≡ false → filter p (x ∷ []) ≡ []
  filter_no_one x h = rw h

  take_none : (n : ℕ) (xs : List X) → n ≡ 0 → take n xs ≡ []
  take_none n xs e = ap (λ m. take m xs) e ∙ nothing xs
    where
      nothing : (xs : List X) → take 0 xs ≡ []
      nothing [] = refl
      nothing (x ∷ xs) = refl

  -- what comes after `from` and fails is left out
  none_more : (xs : List X) (from to : ℕ) (d : X) → from ≤ to → to ≤ length xs →
      ((k : ℕ) → from ≤ k → k < to → p (slice_index_or xs k d) ≡ false) → filter p (take to xs) ≡ filter p (take from xs)
  none_more xs from zero d le fits fail = let e : zero ≡ from = omega arith in ap (λ n. filter p (take n xs)) e
  none_more xs from (suc t) d le fits fail =
      elim (cases_lt t from) [
        | inl same ↦ let e : suc t ≡ from = omega arith in ap (λ n. filter p (take n xs)) e
        | inr below ↦
            ap (filter p) (take-suc xs t d (omega arith)) ∙ filter-append p (take t xs) (slice_index_or xs t d ∷ [])
            ∙ ap (λ ys. filter p (take t xs) ++ ys) (filter_no_one (slice_index_or xs t d) (fail t below (omega arith)))
            ∙ append-nil (filter p (take t xs)) ∙ none_more xs from t d below (omega arith) (λ k a b. fail k a (omega arith))
      ]

  pub none_later : (xs : List X) (from to : ℕ) → from ≤ to → to ≤ length xs →
      ((k : ℕ) (d : X) → from ≤ k → k < to → p (slice_index_or xs k d) ≡ false) → filter p (take to xs) ≡ filter p (take from xs)
  none_later [] from to le fits fail = let e : to ≡ from = omega arith in ap (λ n. filter p (take n [])) e
  none_later (x ∷ xs) from to le fits fail = none_more (x ∷ xs) from to x le fits (λ k a b. fail k x a b)

  -- the last one that passes comes after the others
  pub last_passes : (xs : List X) (found upto : ℕ) (x : X) → 0 < found → found ≤ upto → upto ≤ length xs →
      x ≡ slice_index_or xs (found - 1) x → p x ≡ true →
      ((k : ℕ) (d : X) → found ≤ k → k < upto → p (slice_index_or xs k d) ≡ false) →
      filter p (take upto xs) ≡ filter p (take (found - 1) xs) ++ x ∷ []
  last_passes xs found upto x some le fits is pass fail =
      let last : found ≡ suc (found - 1) = omega arith in
      none_later xs found upto le fits fail
      ∙ ap (λ n. filter p (take n xs)) last
      ∙ ap (filter p) (take-suc xs (found - 1) x (omega arith) ∙ ap (λ y. take (found - 1) xs ++ y ∷ []) (sym is))
      ∙ filter-append p (take (found - 1) xs) (x ∷ [])
      ∙ ap (λ ys. filter p (take (found - 1) xs) ++ ys) (filter_one x pass)

  pub none_passes : (xs : List X) (upto : ℕ) → upto ≤ length xs →
      ((k : ℕ) (d : X) → 0 ≤ k → k < upto → p (slice_index_or xs k d) ≡ false) → filter p (take upto xs) ≡ []
  none_passes xs upto fits fail = none_later xs 0 upto (omega arith) fits fail ∙ ap (filter p) (take_none 0 xs refl)

  drop-push : (n : ℕ) (ys : List X) (x : X) → n ≤ length ys → drop n (ys ++ x ∷ []) ≡ drop n ys ++ x ∷ []
  drop-push zero [] x h = refl
  drop-push zero (y ∷ ys) x h = refl
  drop-push (suc n) [] x h = absurd (omega arith)
  drop-push (suc n) (y ∷ ys) x h = drop-push n ys x (omega arith)

  drop_all : (n : ℕ) (ys : List X) → length ys ≤ n → drop n ys ≡ []
  drop_all zero [] h = refl
  drop_all zero (y ∷ ys) h = absurd (omega arith)
  drop_all (suc n) [] h = refl
  drop_all (suc n) (y ∷ ys) h = drop_all n ys (omega arith)

  part_from : (xs : List X) (from to : ℕ) (d : X) → from ≤ to → to ≤ length xs →
      ((k : ℕ) → k < from → p (slice_index_or xs k d) ≡ false) →
      ((k : ℕ) → from ≤ k → k < to → p (slice_index_or xs k d) ≡ true) → filter p (take to xs) ≡ drop from (take to xs)
  part_from xs from zero d le fits fail pass =
      ap (filter p) (take_none 0 xs refl) ∙ sym (drop_all from (take 0 xs) (let e = ap length (take_none 0 xs refl) in omega arith))
  part_from xs from (suc t) d le fits fail pass =
      elim (cases_lt t from) [
        | inl same ↦
            let many = length-take-le (suc t) xs fits in
            none_more xs 0 (suc t) d (omega arith) fits (λ k a b. fail k (omega arith)) ∙ ap (filter p) (take_none 0 xs refl)
            ∙ sym (drop_all from (take (suc t) xs) (omega arith))
        | inr below ↦
            let many = length-take-le t xs (omega arith) in
            ap (filter p) (take-suc xs t d (omega arith)) ∙ filter-append p (take t xs) (slice_index_or xs t d ∷ [])
            ∙ ap₂ (λ ys zs. ys ++ zs) (part_from xs from t d below (omega arith) fail (λ k a b. pass k a (omega arith)))
            (filter_one (slice_index_or xs t d) (pass t below (omega arith)))
            ∙ sym (ap (drop from) (take-suc xs t d (omega arith)) ∙ drop-push from (take t xs) (slice_index_or xs t d) (omega arith))
      ]

  -- those that pass are adjacent ones
  pub part_passes : (xs : List X) (from to : ℕ) → from ≤ to → to ≤ length xs →
      ((k : ℕ) (d : X) → k < from → p (slice_index_or xs k d) ≡ false) →
      ((k : ℕ) (d : X) → from ≤ k → k < to → p (slice_index_or xs k d) ≡ true) →
      ((k : ℕ) (d : X) → to ≤ k → k < length xs → p (slice_index_or xs k d) ≡ false) → drop from (take to xs) ≡ filter p xs
  part_passes [] from to le fits before pass after = drop_all from (take to []) (let e = ap length (take_none to [] (omega arith)) in omega arith)
  part_passes (x ∷ xs) from to le fits before pass after =
      sym (part_from (x ∷ xs) from to x le fits (λ k h. before k x h) (λ k a b. pass k x a b))
      ∙ sym (none_later (x ∷ xs) to (length (x ∷ xs)) fits (omega arith) after)
      ∙ ap (filter p) (take-length (x ∷ xs))

  pub filter_is_short : (xs : List X) → length (filter p xs) ≤ length xs
  filter_is_short [] = omega arith
  filter_is_short (x ∷ xs) = by_test (filter_is_short xs) (p x) refl
    where
      by_test : length (filter p xs) ≤ length xs → (b : Bool) → p x ≡ b → length (filter p (x ∷ xs)) ≤ length (x ∷ xs)
      by_test ih true e = let is : filter p (x ∷ xs) ≡ x ∷ filter p xs = rw e in let l = ap length is in omega arith
      by_test ih false e = let is : filter p (x ∷ xs) ≡ filter p xs = rw e in let l = ap length is in omega arith
