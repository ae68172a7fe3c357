-- lists after a test, and with one more element
use Rattle.std.proofs.Common.{◌≡◌, ℕ, ◌+◌, List, [], ◌∷◌, length, filter, refl, ap, sym, ◌∙◌, arith, true, false, cond, Bool, subst, Some}
use Rattle.std.specs.List.{AllByRecursion as Each}
use Rattle.std.proofs.lemmas.Bool.{true≢false}
use Rattle.art_model.specs.Prelude.{is_before, Pairwise, last_of, without_last, add_in_order}
use Rattle.art_model.proofs.lists.Lists.{filter_none}

module _ {A : Type 0} where
  pub Each-both : (P Q R : A → Type 0) → ((x : A) → P x → Q x → R x) → (xs : List A) → Each P xs → Each Q xs → Each R xs
  Each-both P Q R f [] h k = tt
  Each-both P Q R f (x ∷ xs) h k = (f x h.0 k.0, Each-both P Q R f xs h.1 k.1)

  pub Each-filter : (P : A → Type 0) (test : A → Bool) (xs : List A) → Each P xs → Each P (filter test xs)
  Each-filter P test [] h = tt
  Each-filter P test (x ∷ xs) h = go (Each-filter P test xs h.1) (test x)
    where
      go : Each P (filter test xs) → (t : Bool) → Each P (cond t (x ∷ filter test xs) (filter test xs))
      go ih true = (h.0, ih)
      go ih false = ih

  pub Pairwise-filter : (R : A → A → Type 0) (test : A → Bool) (xs : List A) → Pairwise R xs → Pairwise R (filter test xs)
  Pairwise-filter R test [] h = tt
  Pairwise-filter R test (x ∷ xs) h = go (Pairwise-filter R test xs h.1) (test x)
    where
      go : Pairwise R (filter test xs) → (t : Bool) → Pairwise R (cond t (x ∷ filter test xs) (filter test xs))
      go ih true = (Each-filter (R x) test xs h.0, ih)
      go ih false = ih

  -- each element that is left passes the test
  pub filter_passes : (test : A → Bool) (xs : List A) → Each (λ x. test x ≡ true) (filter test xs)
  filter_passes test [] = tt
  filter_passes test (x ∷ xs) = go (filter_passes test xs) (test x) refl
    where
      go : Each (λ y. test y ≡ true) (filter test xs) → (t : Bool) → test x ≡ t → Each (λ y. test y ≡ true) (cond t (x ∷ filter test xs) (filter test xs))
      go ih true e = (e, ih)
      go ih false e = ih

  -- none passes where none is left
  pub none_passes : (test : A → Bool) (xs : List A) → filter test xs ≡ [] → Each (λ x. test x ≡ false) xs
  none_passes test [] h = tt
  none_passes test (x ∷ xs) h = go (none_passes test xs) (test x) refl h
    where
      go : (filter test xs ≡ [] → Each (λ y. test y ≡ false) xs) → (t : Bool) → test x ≡ t →
          cond t (x ∷ filter test xs) (filter test xs) ≡ [] → Each (λ y. test y ≡ false) (x ∷ xs)
      go ih true e k = absurd cc
      go ih false e k = (e, ih k)

  -- all stay where all pass
  pub filter_all : (test : A → Bool) (xs : List A) → Each (λ x. test x ≡ true) xs → filter test xs ≡ xs
  filter_all test [] h = refl
  filter_all test (x ∷ xs) h = rw h.0 (ap (λ l. x ∷ l) (filter_all test xs h.1))

  -- a second test that passes what the first one does
  pub filter_filter : (test other : A → Bool) → ((x : A) → test x ≡ true → other x ≡ true) → (xs : List A) → filter test (filter other xs) ≡ filter test xs
  filter_filter test other f [] = refl
  filter_filter test other f (x ∷ xs) = go (filter_filter test other f xs) (test x) (other x) refl refl
    where
      go : filter test (filter other xs) ≡ filter test xs → (s t : Bool) → test x ≡ s → other x ≡ t →
          filter test (cond t (x ∷ filter other xs) (filter other xs)) ≡ cond s (x ∷ filter test xs) (filter test xs)
      go ih true true e g = rw e (ap (λ l. x ∷ l) ih)
      go ih false true e g = rw e ih
      go ih false false e g = ih
      go ih true false e g = absurd (true≢false (sym (f x e) ∙ g))

  pub last_each : (P : A → Type 0) (xs : List A) (z : A) → Each P xs → last_of xs ≡ Some z → P z
  last_each P [] z h e = absurd cc
  last_each P (x ∷ []) z h e = let is : x ≡ z = cc in subst P is h.0
  last_each P (x ∷ y ∷ xs) z h e = last_each P (y ∷ xs) z h.1 e

  pub Each-without_last : (P : A → Type 0) (xs : List A) → Each P xs → Each P (without_last xs)
  Each-without_last P [] h = tt
  Each-without_last P (x ∷ []) h = tt
  Each-without_last P (x ∷ y ∷ xs) h = (h.0, Each-without_last P (y ∷ xs) h.1)

  pub Pairwise-without_last : (R : A → A → Type 0) (xs : List A) → Pairwise R xs → Pairwise R (without_last xs)
  Pairwise-without_last R [] h = tt
  Pairwise-without_last R (x ∷ []) h = tt
  Pairwise-without_last R (x ∷ y ∷ xs) h = (Each-without_last (R x) (y ∷ xs) h.0, Pairwise-without_last R (y ∷ xs) h.1)

-- one more element in its place
module _ {A : Type 0} (bytes : A → List ℕ) where
  pub Each-add : (P : A → Type 0) (new : A) (xs : List A) → P new → Each P xs → Each P (add_in_order bytes new xs)
  Each-add P new [] p h = (p, tt)
  Each-add P new (x ∷ xs) p h = go (Each-add P new xs p h.1) (is_before (bytes new) (bytes x))
    where
      go : Each P (add_in_order bytes new xs) → (t : Bool) → Each P (cond t (new ∷ x ∷ xs) (x ∷ add_in_order bytes new xs))
      go ih true = (p, h)
      go ih false = (h.0, ih)

  pub length-add : (new : A) (xs : List A) → length (add_in_order bytes new xs) ≡ length xs + 1
  length-add new [] = refl
  length-add new (x ∷ xs) = go (length-add new xs) (is_before (bytes new) (bytes x))
    where
      go : length (add_in_order bytes new xs) ≡ length xs + 1 → (t : Bool) →
          length (cond t (new ∷ x ∷ xs) (x ∷ add_in_order bytes new xs)) ≡ length (x ∷ xs) + 1
      go ih true = omega arith
      go ih false = omega arith

  -- an element that does not pass makes no difference
  pub filter_add : (test : A → Bool) (new : A) (xs : List A) → test new ≡ false → filter test (add_in_order bytes new xs) ≡ filter test xs
  filter_add test new [] e = rw e refl
  filter_add test new (x ∷ xs) e = go (filter_add test new xs e) (is_before (bytes new) (bytes x))
    where
      go : filter test (add_in_order bytes new xs) ≡ filter test xs → (t : Bool) →
          filter test (cond t (new ∷ x ∷ xs) (x ∷ add_in_order bytes new xs)) ≡ filter test (x ∷ xs)
      go ih true = rw e refl
      go ih false = rw ih refl

  -- an element that passes alone
  pub filter_add_alone : (test : A → Bool) (new : A) (xs : List A) → test new ≡ true → Each (λ x. test x ≡ false) xs →
      filter test (add_in_order bytes new xs) ≡ new ∷ []
  filter_add_alone test new [] e h = rw e refl
  filter_add_alone test new (x ∷ xs) e h = go (filter_add_alone test new xs e h.1) (is_before (bytes new) (bytes x))
    where
      go : filter test (add_in_order bytes new xs) ≡ new ∷ [] → (t : Bool) → filter test (cond t (new ∷ x ∷ xs) (x ∷ add_in_order bytes new xs)) ≡ new ∷ []
      go ih true = rw (e, h.0) (ap (λ l. new ∷ l) (filter_none test xs h.1))
      go ih false = rw h.0 ih
