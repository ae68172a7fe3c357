-- Where a put leaves a map, it is an overwrite: no unequal key was related.
use Rattle.std.proofs.Common.{◌≡◌, ℕ, zero, List, [], ◌∷◌, Option, Some, None, is_some, Bool, true, false, not, cond, ◌&&◌, ◌||◌, refl, ap, sym, ◌∙◌, subst}
use Rattle.std.proofs.lemmas.Bool.{true≢false, false≢true}
use Rattle.std.specs.List.{AllByRecursion as Each}
use Rattle.art_model.specs.Prelude.{IsIn, Precedes, are_related, are_same, is_before, IsMap, add_in_order, first_of, only_or_count, with_key, has_key, related_to, remove_key, remove_related, is_conflict, stored_for, put, put_reply, overwrite, overwrite_reply, of_key}
use Rattle.art_model.proofs.keys.Keys.{related_sym, same_equal, same_related}
use Rattle.art_model.proofs.lists.Lists.{each_in, filter_none, Each-weaker}
use Rattle.art_model.proofs.pairs.Puts.{first_none, has_is_stored, overwrite-new, overwrite-put, overwrite_reply-new, overwrite_reply-put, put-new, put_reply-new, stored_bytes}
use Rattle.std.proofs.Common.{inl, inr}

module _ {A : Type 0} (bytes : A → List ℕ) (new : A) where
  added : (xs : List A) → IsIn new (add_in_order bytes new xs)
  added [] = inl refl
  added (x ∷ xs) = go (is_before (bytes new) (bytes x)) (added xs)
    where
      go : (b : Bool) → IsIn new (add_in_order bytes new xs) → IsIn new (cond b (new ∷ x ∷ xs) (x ∷ add_in_order bytes new xs))
      go true i = inl refl
      go false i = inr i

  -- none of the others is related to the one that was added
  others_unrelated : (xs : List A) → IsMap bytes (add_in_order bytes new xs) → Each (λ y. are_related (bytes new) (bytes y) ≡ false) xs
  others_unrelated [] map = tt
  others_unrelated (x ∷ xs) map = go (is_before (bytes new) (bytes x)) map (λ rest. others_unrelated xs rest)
    where
      weaker : (ys : List A) → Each (λ y. Precedes (bytes new) (bytes y)) ys → Each (λ y. are_related (bytes new) (bytes y) ≡ false) ys
      weaker [] h = tt
      weaker (y ∷ ys) h = (h.0.1, weaker ys h.1)

      go : (b : Bool) → IsMap bytes (cond b (new ∷ x ∷ xs) (x ∷ add_in_order bytes new xs)) →
          (IsMap bytes (add_in_order bytes new xs) → Each (λ y. are_related (bytes new) (bytes y) ≡ false) xs) →
          Each (λ y. are_related (bytes new) (bytes y) ≡ false) (x ∷ xs)
      go true h ih = weaker (x ∷ xs) h.0
      go false h ih = (
        related_sym (bytes new) (bytes x) ∙ (each_in (λ y. Precedes (bytes x) (bytes y)) new (add_in_order bytes new xs) h.0
            (added xs)).1,
        ih h.1,
      )

  module _ (key : List ℕ) where
    -- so those with related keys are those with equal ones
    pub same_rest : (xs : List A) → Each (λ y. are_related key (bytes y) ≡ false) (remove_key bytes key xs) →
        (remove_related bytes key xs ≡ remove_key bytes key xs) × (related_to bytes key xs ≡ with_key bytes key xs)
    same_rest [] h = (refl, refl)
    same_rest (x ∷ xs) h = go (are_same key (bytes x)) (are_related key (bytes x)) refl refl h (λ rest. same_rest xs rest)
      where
        go : (b c : Bool) → are_same key (bytes x) ≡ b → are_related key (bytes x) ≡ c →
            Each (λ y. are_related key (bytes y) ≡ false) (cond (not b) (x ∷ remove_key bytes key xs) (remove_key bytes key xs)) →
            (Each (λ y. are_related key (bytes y) ≡ false) (remove_key bytes key xs) →
            (remove_related bytes key xs ≡ remove_key bytes key xs) × (related_to bytes key xs ≡ with_key bytes key xs)) →
            (cond (not c) (x ∷ remove_related bytes key xs) (remove_related bytes key xs) ≡ cond (not b) (x ∷ remove_key bytes key xs)
            (remove_key bytes key xs)) × (cond c (x ∷ related_to bytes key xs) (related_to bytes key xs)
            ≡ cond b (x ∷ with_key bytes key xs) (with_key bytes key xs))
        go true true e f k ih = let r = ih k in (r.0, ap (λ z. x ∷ z) r.1)
        go false false e f k ih = let r = ih k.1 in (ap (λ z. x ∷ z) r.0, r.1)
        go false true e f k ih = absurd (true≢false (sym f ∙ k.0))
        go true false e f k ih = absurd (true≢false (sym e ∙ same_related key (bytes x) f))

    -- where no unequal key is related those that stay are not
    pub free_unrelated : (xs : List A) → is_conflict bytes key xs ≡ false → Each (λ y. are_related key (bytes y) ≡ false) (remove_key bytes key xs)
    free_unrelated [] h = tt
    free_unrelated (x ∷ xs) h = go (are_same key (bytes x)) (are_related key (bytes x)) (is_conflict bytes key xs) refl h (λ rest. free_unrelated xs rest)
      where
        go : (b c d : Bool) → are_related key (bytes x) ≡ c → ((c && not b) || d) ≡ false →
            (d ≡ false → Each (λ y. are_related key (bytes y) ≡ false) (remove_key bytes key xs)) →
            Each (λ y. are_related key (bytes y) ≡ false) (cond (not b) (x ∷ remove_key bytes key xs) (remove_key bytes key xs))
        go true true d e k ih = ih k
        go true false d e k ih = ih k
        go false true d e k ih = absurd (true≢false k)
        go false false d e k ih = (e, ih k)

    -- of which a map has at most one
    pub one_went : (xs : List A) → IsMap bytes xs → only_or_count (with_key bytes key xs) ≡ (first_of (with_key bytes key xs), 0)
    one_went [] map = refl
    one_went (x ∷ xs) map = go (are_same key (bytes x)) refl (one_went xs map.1)
      where
        go : (b : Bool) → are_same key (bytes x) ≡ b → only_or_count (with_key bytes key xs) ≡ (first_of (with_key bytes key xs), 0) →
            only_or_count (cond b (x ∷ with_key bytes key xs) (with_key bytes key xs))
            ≡ (first_of (cond b (x ∷ with_key bytes key xs) (with_key bytes key xs)), 0)
        go false e ih = ih
        go true e ih =
            let own : bytes x ≡ key = same_equal key (bytes x) e in
            let none : with_key bytes key xs ≡ [] =
            filter_none (λ y. are_same key (bytes y)) xs (Each-weaker (λ y. Precedes (bytes x) (bytes y)) (λ y. are_same key (bytes y) ≡ false)
            (λ y h. same_related key (bytes y) (ap (λ k. are_related k (bytes y)) (sym own) ∙ h.1)) xs map.0) in
            rw none refl

module _ {A : Type 0} (bytes : A → List ℕ) where
  -- a key that is stored in a map does not conflict
  pub stored_is_free : (key : List ℕ) (xs : List A) → IsMap bytes xs → has_key bytes key xs ≡ true → is_conflict bytes key xs ≡ false
  stored_is_free key [] map has = refl
  stored_is_free key (x ∷ xs) map has = go (are_same key (bytes x)) refl has (λ rest. stored_is_free key xs map.1 rest)
    where
      none : (ys : List A) → Each (λ y. are_related key (bytes y) ≡ false) ys → is_conflict bytes key ys ≡ false
      none [] h = refl
      none (y ∷ ys) h = rw h.0 (none ys h.1)

      -- one before the stored key is not related to it
      earlier : (ys : List A) → Each (λ y. Precedes (bytes x) (bytes y)) ys → has_key bytes key ys ≡ true → are_related key (bytes x) ≡ false
      earlier [] h e = absurd (false≢true e)
      earlier (y ∷ ys) h e = here (are_same key (bytes y)) refl e (λ g. earlier ys h.1 g)
        where
          here : (b : Bool) → are_same key (bytes y) ≡ b → (b || has_key bytes key ys) ≡ true →
              (has_key bytes key ys ≡ true → are_related key (bytes x) ≡ false) → are_related key (bytes x) ≡ false
          here true f g ih = related_sym key (bytes x) ∙ ap (are_related (bytes x)) (sym (same_equal key (bytes y) f)) ∙ h.0.1
          here false f g ih = ih g

      and_false : (b : Bool) → ((b && false) || false) ≡ false
      and_false true = refl
      and_false false = refl

      go : (b : Bool) → are_same key (bytes x) ≡ b → (b || has_key bytes key xs) ≡ true →
          (has_key bytes key xs ≡ true → is_conflict bytes key xs ≡ false) → is_conflict bytes key (x ∷ xs) ≡ false
      go true e h ih =
          rw (
            e,
            none xs
                (Each-weaker (λ y. Precedes (bytes x) (bytes y)) (λ y. are_related key (bytes y) ≡ false)
                (λ y p. ap (λ k. are_related k (bytes y)) (sym (same_equal key (bytes x) e)) ∙ p.1) xs map.0),
          ) (and_false (are_related key (bytes x)))
      go false e h ih = rw (earlier xs map.0 h) (ih h)

module _ {K V : Type 0} (bytes : K × V → List ℕ) (new : K × V) (pairs : List (K × V)) where
  -- where no unequal key is related
  module _ (apart : Each (λ y. are_related (bytes new) (bytes y) ≡ false) (remove_key bytes (bytes new) pairs)) where
    parts : (remove_related bytes (bytes new) pairs ≡ remove_key bytes (bytes new) pairs) ×
        (related_to bytes (bytes new) pairs ≡ with_key bytes (bytes new) pairs)
    parts = same_rest bytes new (bytes new) pairs apart

    -- the pairs are the same
    pub put_is_overwrite : overwrite bytes new pairs ≡ put bytes new pairs
    put_is_overwrite = go (first_of (with_key bytes (bytes new) pairs)) refl
      where
        go : (o : Option (K × V)) → first_of (with_key bytes (bytes new) pairs) ≡ o → overwrite bytes new pairs ≡ put bytes new pairs
        go None e = overwrite-new bytes new pairs e ∙ ap (add_in_order bytes new) parts.0 ∙ sym (put-new bytes new pairs e)
        go (Some old) e = overwrite-put bytes new pairs (has_is_stored bytes new pairs ∙ ap is_some e)

    -- and so is the reply
    pub put_reply_is : overwrite_reply bytes new pairs ≡ (put_reply bytes new pairs, 0)
    put_reply_is = go (first_of (with_key bytes (bytes new) pairs)) refl
      where
        go : (o : Option (K × V)) → first_of (with_key bytes (bytes new) pairs) ≡ o → overwrite_reply bytes new pairs ≡ (put_reply bytes new pairs, 0)
        go None e =
            overwrite_reply-new bytes new pairs e ∙ ap only_or_count (parts.1 ∙ first_none (with_key bytes (bytes new) pairs) e)
            ∙ ap (λ (o : Option (K × V)). (o, zero)) (sym (put_reply-new bytes new pairs e))
        go (Some old) e = overwrite_reply-put bytes new pairs (has_is_stored bytes new pairs ∙ ap is_some e)

-- and so it is where the put left a map
pub was_free : {K V : Type 0} (bytes : K → List ℕ) (new : K × V) (pairs : List (K × V)) → IsMap (of_key bytes) (put (of_key bytes) new pairs) →
    Each (λ y. are_related (bytes new.0) (bytes y.0) ≡ false) (remove_key (of_key bytes) (bytes new.0) pairs)
was_free bytes new pairs after =
    let stored = stored_for (of_key bytes) new pairs in
    subst (λ k. Each (λ y. are_related k (bytes y.0) ≡ false) (remove_key (of_key bytes) k pairs)) (stored_bytes bytes new pairs)
    (others_unrelated (of_key bytes) stored (remove_key (of_key bytes) (bytes stored.0) pairs) after)
