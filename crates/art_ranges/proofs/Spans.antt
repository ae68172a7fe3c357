-- a part of a list between two tests: one that holds from an element on, and one that holds up to an element
use Rattle.std.proofs.Common.{◌≡◌, List, [], ◌∷◌, ◌++◌, map, filter, refl, ap, sym, ◌∙◌, subst, Some, Bool, true, false, not, cond, ◌&&◌}
use Rattle.std.proofs.lemmas.Bool.{true≢false}
use Rattle.std.proofs.lemmas.List.{map-append}
use Rattle.std.proofs.lemmas.List.Elements.{filter-append}
use Rattle.art_model.specs.Prelude.{Pairwise, last_of}
use Rattle.art_model.proofs.lists.Filters.{Pairwise-filter, filter_all}
use Rattle.art_model.proofs.lists.Lists.{Each-weaker, each_unmap, filter_none}

pub not_true : (b : Bool) → (b ≡ true → ⊥) → b ≡ false
not_true true h = absurd (h refl)
not_true false h = refl

pub not_not : (b : Bool) → not (not b) ≡ b
not_not true = refl
not_not false = refl

module _ {A B : Type 0} (f : A → B) (R : B → B → Type 0) where
  -- what holds of pairs of images
  pub pairwise_unmap : (xs : List A) → Pairwise R (map f xs) → Pairwise (λ a b. R (f a) (f b)) xs
  pairwise_unmap [] h = tt
  pairwise_unmap (x ∷ xs) h = (each_unmap f (R (f x)) xs h.0, pairwise_unmap xs h.1)

module _ {A : Type 0} where
  pub pairwise_weaker : (R S : A → A → Type 0) → ((a b : A) → R a b → S a b) → (xs : List A) → Pairwise R xs → Pairwise S xs
  pairwise_weaker R S f [] h = tt
  pairwise_weaker R S f (x ∷ xs) h = (Each-weaker (R x) (S x) (λ y. f x y) xs h.0, pairwise_weaker R S f xs h.1)

  last_of_append : (xs ys : List A) (k : A) → last_of ys ≡ Some k → last_of (xs ++ ys) ≡ Some k
  last_of_append [] ys k e = e
  last_of_append (x ∷ []) [] k e = absurd cc
  last_of_append (x ∷ []) (y ∷ ys) k e = e
  last_of_append (x ∷ z ∷ xs) ys k e = last_of_append (z ∷ xs) ys k e

module _ {E : Type 0} (p : E → Bool) where
  -- a test that holds from an element on
  from_split : (xs : List E) → Pairwise (λ a b. p a ≡ true → p b ≡ true) xs → filter (λ e. not (p e)) xs ++ filter p xs ≡ xs
  from_split [] h = refl
  from_split (x ∷ xs) h = go (from_split xs h.1) (p x) refl
    where
      go : filter (λ e. not (p e)) xs ++ filter p xs ≡ xs → (t : Bool) → p x ≡ t →
          cond (not t) (x ∷ filter (λ e. not (p e)) xs) (filter (λ e. not (p e)) xs) ++ cond t (x ∷ filter p xs) (filter p xs) ≡ x ∷ xs
      go ih true e =
          let all = Each-weaker (λ b. p x ≡ true → p b ≡ true) (λ b. p b ≡ true) (λ b f. f e) xs h.0 in
          let none = filter_none (λ e. not (p e)) xs (Each-weaker (λ b. p b ≡ true) (λ b. not (p b) ≡ false) (λ b f. ap not f) xs all) in
          ap (λ ys. ys ++ x ∷ filter p xs) none ∙ ap (λ ys. x ∷ ys) (filter_all p xs all)
      go ih false e = ap (λ ys. x ∷ ys) ih

  -- a test that holds up to an element
  to_split : (xs : List E) → Pairwise (λ a b. p b ≡ true → p a ≡ true) xs → filter p xs ++ filter (λ e. not (p e)) xs ≡ xs
  to_split [] h = refl
  to_split (x ∷ xs) h = go (to_split xs h.1) (p x) refl
    where
      go : filter p xs ++ filter (λ e. not (p e)) xs ≡ xs → (t : Bool) → p x ≡ t →
          cond t (x ∷ filter p xs) (filter p xs) ++ cond (not t) (x ∷ filter (λ e. not (p e)) xs) (filter (λ e. not (p e)) xs) ≡ x ∷ xs
      go ih true e = ap (λ ys. x ∷ ys) ih
      go ih false e =
          let none = Each-weaker (λ b. p b ≡ true → p x ≡ true) (λ b. p b ≡ false) (λ b f. not_true (p b) (λ on. true≢false (sym (f on) ∙ e))) xs h.0 in
          let all = filter_all (λ e. not (p e)) xs (Each-weaker (λ b. p b ≡ false) (λ b. not (p b) ≡ true) (λ b f. ap not f) xs none) in
          ap (λ ys. ys ++ x ∷ filter (λ e. not (p e)) xs) (filter_none p xs none) ∙ ap (λ ys. x ∷ ys) all

  -- where it does not hold of the first one it holds of none
  none_to : (x : E) (xs : List E) → Pairwise (λ a b. p b ≡ true → p a ≡ true) (x ∷ xs) → p x ≡ false → filter p (x ∷ xs) ≡ []
  none_to x xs h e = rw e (filter_none p xs
      (Each-weaker (λ b. p b ≡ true → p x ≡ true) (λ b. p b ≡ false) (λ b f. not_true (p b) (λ on. true≢false (sym (f on) ∙ e))) xs h.0))

module _ {E : Type 0} (p q : E → Bool) where
  -- both tests are the second one after the first
  filter_both : (xs : List E) → filter (λ e. p e && q e) xs ≡ filter q (filter p xs)
  filter_both [] = refl
  filter_both (x ∷ xs) = go (filter_both xs) (p x)
    where
      go : filter (λ e. p e && q e) xs ≡ filter q (filter p xs) → (t : Bool) →
          cond (t && q x) (x ∷ filter (λ e. p e && q e) xs) (filter (λ e. p e && q e) xs) ≡ filter q (cond t (x ∷ filter p xs) (filter p xs))
      go ih true = ap (λ ys. cond (q x) (x ∷ ys) ys) ih
      go ih false = ih

  module _ (xs : List E) (rise : Pairwise (λ a b. p a ≡ true → p b ≡ true) xs) (fall : Pairwise (λ a b. q b ≡ true → q a ≡ true) xs) where
    fall_from : Pairwise (λ a b. q b ≡ true → q a ≡ true) (filter p xs)
    fall_from = Pairwise-filter (λ a b. q b ≡ true → q a ≡ true) p xs fall

    -- the part is in the list
    pub span_in : filter (λ e. not (p e)) xs ++ (filter (λ e. p e && q e) xs ++ filter (λ e. not (q e)) (filter p xs)) ≡ xs
    span_in =
        ap (λ ys. filter (λ e. not (p e)) xs ++ (ys ++ filter (λ e. not (q e)) (filter p xs))) (filter_both xs)
        ∙ ap (λ ys. filter (λ e. not (p e)) xs ++ ys) (to_split q (filter p xs) fall_from) ∙ from_split p xs rise

    -- it starts with the first element of which the first test holds, if the second one does
    pub span_off : (x : E) (rest : List E) → filter p xs ≡ x ∷ rest → q x ≡ false → filter (λ e. p e && q e) xs ≡ []
    span_off x rest e off = filter_both xs ∙ ap (filter q) e ∙ none_to q x rest (subst (Pairwise (λ a b. q b ≡ true → q a ≡ true)) e fall_from) off

    pub span_on : (x : E) (rest : List E) → filter p xs ≡ x ∷ rest → q x ≡ true → filter (λ e. p e && q e) xs ≡ x ∷ filter q rest
    span_on x rest e on = filter_both xs ∙ ap (filter q) e ∙ rw on refl

    pub span_none : filter p xs ≡ [] → filter (λ e. p e && q e) xs ≡ []
    span_none e = filter_both xs ∙ ap (filter q) e

    -- it ends with the last element of which the second test holds
    pub span_last : {N : Type 0} (name : E → N) (z : N) → last_of (map name (filter (λ e. p e && q e) xs)) ≡ Some z → last_of (map name (filter q xs)) ≡ Some z
    span_last name z e =
        let others = filter (λ e. not (p e)) xs in
        let all : filter q xs ≡ filter q (filter (λ e. not (p e)) xs) ++ filter (λ e. p e && q e) xs =
        ap (filter q) (sym (from_split p xs rise)) ∙ filter-append q (filter (λ e. not (p e)) xs) (filter p xs)
        ∙ ap (λ ys. filter q (filter (λ e. not (p e)) xs) ++ ys) (sym (filter_both xs)) in
        ap (λ ys. last_of (map name ys)) all ∙ ap last_of (map-append name (filter q (filter (λ e. not (p e)) xs)) (filter (λ e. p e && q e) xs))
        ∙ last_of_append (map name (filter q (filter (λ e. not (p e)) xs))) (map name (filter (λ e. p e && q e) xs)) z e
