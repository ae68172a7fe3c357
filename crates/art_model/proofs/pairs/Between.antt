-- changes of a map of which only the middle part matters: the pairs before it and after it are not related to the key
use Rattle.std.proofs.Common.{◌≡◌, ℕ, List, [], ◌∷◌, ◌++◌, refl, ap, ◌∙◌, true, false, not, Bool, cond}
use Rattle.std.specs.List.{AllByRecursion as Each}
use Rattle.std.proofs.lemmas.List.Elements.{filter-append}
use Rattle.art_model.specs.Prelude.{Precedes, are_related, are_same, is_before, add_in_order, remove_key, remove_related, replace_key, replace_related}
use Rattle.art_model.proofs.lists.Lists.{Each-weaker}
use Rattle.art_model.proofs.lists.Filters.{filter_all}
use Rattle.art_model.proofs.keys.Keys.{precedes_apart, related_sym, same_related}

module _ {A : Type 0} (bytes : A → List ℕ) where
  -- pairs before and after all that is related to the key are unchanged
  abbrev pub IsLocal : List ℕ → (List A → List A) → Type 0
  IsLocal key F = (xs ys zs : List A) → Each (λ x. Precedes (bytes x) key) xs → Each (λ x. Precedes key (bytes x)) zs → F (xs ++ ys ++ zs) ≡ xs ++ F ys ++ zs

  pub add_in_order_first : (new : A) (ys : List A) → Each (λ x. Precedes (bytes new) (bytes x)) ys → add_in_order bytes new ys ≡ new ∷ ys
  add_in_order_first new [] h = refl
  add_in_order_first new (y ∷ ys) h = rw h.0.0

  -- all before the place stay before
  pub add_in_order-after : (new : A) (xs ys : List A) → Each (λ x. Precedes (bytes x) (bytes new)) xs →
      add_in_order bytes new (xs ++ ys) ≡ xs ++ add_in_order bytes new ys
  add_in_order-after new [] ys h = refl
  add_in_order-after new (x ∷ xs) ys h = rw (precedes_apart (bytes x) (bytes new) h.0) (ap (λ l. x ∷ l) (add_in_order-after new xs ys h.1))

  -- all after the place stay after
  add_in_order-before : (new : A) (ys zs : List A) → Each (λ x. Precedes (bytes new) (bytes x)) zs →
      add_in_order bytes new (ys ++ zs) ≡ add_in_order bytes new ys ++ zs
  add_in_order-before new [] zs h = add_in_order_first new zs h
  add_in_order-before new (y ∷ ys) zs h = go (add_in_order-before new ys zs h) (is_before (bytes new) (bytes y))
    where
      go : add_in_order bytes new (ys ++ zs) ≡ add_in_order bytes new ys ++ zs → (t : Bool) →
          cond t (new ∷ y ∷ (ys ++ zs)) (y ∷ add_in_order bytes new (ys ++ zs)) ≡ cond t (new ∷ y ∷ ys) (y ∷ add_in_order bytes new ys) ++ zs
      go e true = refl
      go e false = ap (λ l. y ∷ l) e

  unequal : (key : List ℕ) (xs : List A) → Each (λ x. are_related key (bytes x) ≡ false) xs → remove_key bytes key xs ≡ xs
  unequal key xs h =
      filter_all (λ x. not (are_same key (bytes x))) xs (Each-weaker (λ x. are_related key (bytes x) ≡ false)
      (λ x. not (are_same key (bytes x)) ≡ true) (λ x e. ap not (same_related key (bytes x) e)) xs h)

  unrelated : (key : List ℕ) (xs : List A) → Each (λ x. are_related key (bytes x) ≡ false) xs → remove_related bytes key xs ≡ xs
  unrelated key xs h = filter_all (λ x. not (are_related key (bytes x))) xs
      (Each-weaker (λ x. are_related key (bytes x) ≡ false) (λ x. not (are_related key (bytes x)) ≡ true) (λ x e. ap not e) xs h)

  module _ (key : List ℕ) (xs ys zs : List A) (low : Each (λ x. Precedes (bytes x) key) xs) (high : Each (λ x. Precedes key (bytes x)) zs) where
    low_apart : Each (λ x. are_related key (bytes x) ≡ false) xs
    low_apart = Each-weaker (λ x. Precedes (bytes x) key) (λ x. are_related key (bytes x) ≡ false) (λ x h. related_sym key (bytes x) ∙ h.1) xs low

    high_apart : Each (λ x. are_related key (bytes x) ≡ false) zs
    high_apart = Each-weaker (λ x. Precedes key (bytes x)) (λ x. are_related key (bytes x) ≡ false) (λ x h. h.1) zs high

    -- a pair with the key is removed only from the middle
    pub remove_key-between : remove_key bytes key (xs ++ ys ++ zs) ≡ xs ++ remove_key bytes key ys ++ zs
    remove_key-between = simp (filter-append, unequal key xs low_apart, unequal key zs high_apart)

    -- and so are those with related keys
    remove_related-between : remove_related bytes key (xs ++ ys ++ zs) ≡ xs ++ remove_related bytes key ys ++ zs
    remove_related-between = simp (filter-append, unrelated key xs low_apart, unrelated key zs high_apart)

  module _ (new : A) (xs ys zs : List A) (low : Each (λ x. Precedes (bytes x) (bytes new)) xs) (high : Each (λ x. Precedes (bytes new) (bytes x)) zs) where
    add_in_order-between : (ms : List A) → add_in_order bytes new (xs ++ ms ++ zs) ≡ xs ++ add_in_order bytes new ms ++ zs
    add_in_order-between ms = add_in_order-before new (xs ++ ms) zs high ∙ ap (λ l. l ++ zs) (add_in_order-after new xs ms low)

    -- a replacement is one in the middle
    pub replace_key-between : replace_key bytes new (xs ++ ys ++ zs) ≡ xs ++ replace_key bytes new ys ++ zs
    replace_key-between =
        ap (add_in_order bytes new) (remove_key-between (bytes new) xs ys zs low high)
        ∙ add_in_order-between (remove_key bytes (bytes new) ys)

    -- of related keys too
    pub replace_related-between : replace_related bytes new (xs ++ ys ++ zs) ≡ xs ++ replace_related bytes new ys ++ zs
    replace_related-between =
        ap (add_in_order bytes new) (remove_related-between (bytes new) xs ys zs low high)
        ∙ add_in_order-between (remove_related bytes (bytes new) ys)
