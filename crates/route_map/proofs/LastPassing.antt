-- The last element of a list that passes a test.
use Rattle.std.proofs.Common.{◌≡◌, ◌⊎◌, inl, inr, Bool, true, false, List, [], ◌∷◌, filter, Some, None, refl, ap, sym, ◌∙◌, subst, arith}
use Rattle.std.specs.List.{All, Contains}
use Rattle.std.proofs.lemmas.Bool.{false≢true}
use Rattle.std.proofs.lemmas.List.Elements.{All-contains, All-cons, All-from_recursion, All-nil, All-weaker, Contains-append_right}
use Rattle.art_model.specs.Pairs.{Pairwise, last_of}

module _ {X : Type 0} where
  last_some : (x : X) (xs : List X) → last_of (x ∷ xs) ≡ None → ⊥
  last_some x [] e = absurd cc
  last_some x (y ∷ ys) e = last_some y ys e

  some_same : (x y : X) → Some x ≡ Some y → x ≡ y
  some_same x y e = cc

module _ {X : Type 0} (p : X → Bool) where
  passed : (x : X) (xs : List X) → p x ≡ true → filter p (x ∷ xs) ≡ x ∷ filter p xs
  passed x xs h = rw h

  failed : (x : X) (xs : List X) → p x ≡ false → filter p (x ∷ xs) ≡ filter p xs
  failed x xs h = rw h

  none_step : (x : X) (xs : List X) → (last_of (filter p xs) ≡ None → All (λ x. p x ≡ false) xs) → last_of (filter p (x ∷ xs)) ≡ None →
      All (λ x. p x ≡ false) (x ∷ xs)
  none_step x xs rest e = go (p x) refl
    where
      go : (b : Bool) → p x ≡ b → All (λ x. p x ≡ false) (x ∷ xs)
      go true h = absurd (last_some x (filter p xs) (sym (ap last_of (passed x xs h)) ∙ e))
      go false h = All-cons (λ x. p x ≡ false) x xs h (rest (sym (ap last_of (failed x xs h)) ∙ e))

  pub none_passes : (xs : List X) → last_of (filter p xs) ≡ None → All (λ x. p x ≡ false) xs
  none_passes [] e = All-nil (λ x. p x ≡ false)
  none_passes (x ∷ xs) e = none_step x xs (none_passes xs) e

  module _ (R : X → X → Type 0) where
    -- The element is in the list and passes, and each other one that passes is before it.
    pub record IsLastPassing (xs : List X) (x : X) : Type 0 where
      pub there : Contains xs x
      pub passes : p x ≡ true
      pub before : All (λ y. p y ≡ true → (y ≡ x) ⊎ R y x) xs

    -- where more elements come first
    one_more : (y x : X) (ys : List X) → All (R y) ys → IsLastPassing ys x → IsLastPassing (y ∷ ys) x
    one_more y x ys after last = record {
      there = Contains-append_right (y ∷ []) ys x last.there;
      passes = last.passes;
      before =
          All-cons (λ z. p z ≡ true → (z ≡ x) ⊎ R z x) y ys (λ h. inr (All-contains (R y) ys x after last.there)) last.before;
    }

    -- where no later one passes
    only_one : (y : X) (ys : List X) → p y ≡ true → All (λ z. p z ≡ false) ys → IsLastPassing (y ∷ ys) y
    only_one y ys h fail = record {
      there = (0, omega arith, refl);
      passes = h;
      before =
          All-cons (λ z. p z ≡ true → (z ≡ y) ⊎ R z y) y ys (λ _. inl refl)
          (All-weaker (λ z. p z ≡ false) (λ z. p z ≡ true → (z ≡ y) ⊎ R z y) (λ z f t. absurd (false≢true (sym f ∙ t))) ys fail);
    }

    last_step : (y x : X) (ys : List X) → All (R y) ys → (last_of (filter p ys) ≡ Some x → IsLastPassing ys x) →
        last_of (filter p (y ∷ ys)) ≡ Some x → IsLastPassing (y ∷ ys) x
    last_step y x ys after rest e = go (p y) refl
      where
        later : (zs : List X) → filter p ys ≡ zs → p y ≡ true → last_of (y ∷ zs) ≡ Some x → IsLastPassing (y ∷ ys) x
        later [] is h last = subst (IsLastPassing (y ∷ ys)) (some_same y x last) (only_one y ys h (none_passes ys (ap last_of is)))
        later (z ∷ zs) is h last = one_more y x ys after (rest (ap last_of is ∙ last))

        go : (b : Bool) → p y ≡ b → IsLastPassing (y ∷ ys) x
        go true h = later (filter p ys) refl h (sym (ap last_of (passed y ys h)) ∙ e)
        go false h = one_more y x ys after (rest (sym (ap last_of (failed y ys h)) ∙ e))

    pub last_passes : (xs : List X) (x : X) → Pairwise R xs → last_of (filter p xs) ≡ Some x → IsLastPassing xs x
    last_passes [] x order e = absurd cc
    last_passes (y ∷ ys) x order e = last_step y x ys (All-from_recursion (R y) ys order.0) (last_passes ys x order.1) e
