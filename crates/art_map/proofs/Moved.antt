-- Pairs that move from one map to the end of another, one after another.
use Rattle.std.proofs.Common.{◌≡◌, ℕ, List, [], ◌∷◌, ◌++◌, refl, ap, sym, ◌∙◌, subst, append_assoc, append-nil, Option, Some, None, Result, Ok, IfOk, Bool, true, false, not, ◌&&◌, filter}
use Rattle.std.specs.declared.ops.Bound.TheVariants.{Included, Unbounded}
use Rattle.art_model.specs.Prelude.{Precedes, is_before, IsMap, first_of, of_key, put, without_first, is_between}
use Rattle.art_model.proofs.lists.Filters.{Pairwise-filter}
use Rattle.art_model.proofs.lists.Pairwises.{Pairwise-before}
use Rattle.art_model.proofs.pairs.Puts.{first_none, put_end}
use Rattle.art_map.specs.MapParts.{keys_before, keys_from, without}
use Rattle.art_map.proofs.FirstOut.{all_gone, failing, first_out, passing}

module _ {K V : Type 0} (bytes : K → List ℕ) where
  module _ (test : List ℕ → Bool) (before : List (K × V)) where
    -- Some of the pairs that pass have moved, and the others have stayed.
    pub record Moving (now moved : List (K × V)) : Type 0 where
      pub kept : failing (of_key bytes) test now ≡ failing (of_key bytes) test before
      pub parts : passing (of_key bytes) test before ≡ moved ++ passing (of_key bytes) test now
      pub rises : IsMap (of_key bytes) now → IsMap (of_key bytes) (moved ++ passing (of_key bytes) test now)

    pub begins : Moving before []
    begins = record { kept = refl; parts = refl; rises = Pairwise-filter (λ x y. Precedes (bytes x.0) (bytes y.0)) (λ x. test (bytes x.0)) before }

    module _ {now moved : List (K × V)} (so_far : Moving now moved) (rising : IsMap (of_key bytes) now) (x : K × V)
        (first : Some x ≡ first_of (passing (of_key bytes) test now)) where
      abbrev left : List (K × V)
      left = without (of_key bytes) (Some x) now

      -- the next pair is removed
      next_out : (passing (of_key bytes) test before ≡ moved ++ x ∷ passing (of_key bytes) test left) ×
          (failing (of_key bytes) test left ≡ failing (of_key bytes) test before)
      next_out =
          let out = first_out (of_key bytes) test now x rising (sym first) in
          (so_far.parts ∙ ap (λ zs. moved ++ zs) out.passes, out.fails ∙ so_far.kept)

      -- and is in the other map
      pub goes_on : Moving left (put (of_key bytes) x moved)
      goes_on =
          let out = first_out (of_key bytes) test now x rising (sym first) in
          let rise : IsMap (of_key bytes) (moved ++ x ∷ passing (of_key bytes) test left) =
          subst (λ zs. IsMap (of_key bytes) (moved ++ zs)) out.passes (so_far.rises rising) in
          let is = put_end bytes x moved (Pairwise-before _ moved (passing (of_key bytes) test left) x rise) in
          let joins : moved ++ x ∷ passing (of_key bytes) test left ≡ put (of_key bytes) x moved ++ passing (of_key bytes) test left =
          sym (append_assoc moved (x ∷ []) (passing (of_key bytes) test left)) ∙ ap (λ ys. ys ++ passing (of_key bytes) test left) (sym is) in
          record { kept = next_out.1; parts = next_out.0 ∙ joins; rises = λ _. subst (IsMap (of_key bytes)) joins rise }

    -- all have moved
    pub ends : {now moved : List (K × V)} → Moving now moved → None ≡ first_of (passing (of_key bytes) test now) →
        (now ≡ failing (of_key bytes) test before) × (moved ≡ passing (of_key bytes) test before)
    ends {now} {moved} so_far none =
        let gone = first_none (passing (of_key bytes) test now) (sym none) in
        (all_gone (of_key bytes) test before now so_far.kept none, sym (so_far.parts ∙ ap (λ zs. moved ++ zs) gone ∙ append-nil moved))

module _ {A : Type 0} (bytes : A → List ℕ) (key : List ℕ) (pairs : List A) where
  and_true : (b : Bool) → (b && true) ≡ b
  and_true true = refl
  and_true false = refl

  not_not : (b : Bool) → not (not b && true) ≡ b
  not_not true = refl
  not_not false = refl

  -- the pairs from a key on are those between it and no bound
  from_key : passing bytes (is_between (Included key) Unbounded) pairs ≡ keys_from bytes key pairs
  from_key = λ i. filter (λ x. and_true (not (is_before (bytes x) key)) i) pairs

  before_key : failing bytes (is_between (Included key) Unbounded) pairs ≡ keys_before bytes key pairs
  before_key = λ i. filter (λ x. not_not (is_before (bytes x) key) i) pairs

-- what a split reports
module _ {K V : Type 0} (bytes : K → List ℕ) (key : List ℕ) (before : List (K × V)) {now moved : List (K × V)}
    (so_far : Moving bytes (is_between (Included key) Unbounded) before now moved) where
  abbrev test : List ℕ → Bool
  test = is_between (Included key) Unbounded

  -- the next pair did not move
  pub stopped : IsMap (of_key bytes) now → {x y : K × V} → Some x ≡ first_of (passing (of_key bytes) test now) → y ≡ x → {after arrived : List (K × V)} →
      after ≡ without (of_key bytes) (Some x) now → arrived ≡ moved →
      (keys_from (of_key bytes) key before ≡ arrived ++ y ∷ keys_from (of_key bytes) key after) ×
      (keys_before (of_key bytes) key after ≡ keys_before (of_key bytes) key before)
  stopped rising {x} first same left own =
      let (parts, kept) = next_out bytes test before so_far rising x first in
      rw (left, own, same) (
        sym (from_key (of_key bytes) key before) ∙ parts ∙ ap (λ zs. moved ++ x ∷ zs) (from_key (of_key bytes) key (without (of_key bytes) (Some x) now)),
        sym (before_key (of_key bytes) key (without (of_key bytes) (Some x) now)) ∙ kept ∙ before_key (of_key bytes) key before,
      )

  -- or none is left
  pub done : None ≡ first_of (passing (of_key bytes) test now) → {after : List (K × V)} → after ≡ now →
      (after ≡ keys_before (of_key bytes) key before) × (moved ≡ keys_from (of_key bytes) key before)
  done none same =
      let (left, all) = ends bytes test before so_far none in
      (same ∙ left ∙ before_key (of_key bytes) key before, all ∙ from_key (of_key bytes) key before)

-- a list is its first item and the others
pub first_and_others : {A : Type 0} (xs : List A) (x : A) → Some x ≡ first_of xs → xs ≡ x ∷ without_first xs
first_and_others [] x e = absurd cc
first_and_others (y ∷ ys) x e = let same : x ≡ y = cc in ap (λ z. z ∷ ys) (sym same)

-- what a removal returned was the first pair
pub removed_first : {A E : Type 0} {r : Result (Option A) E} {o : Option A} (xs : List A) → r ≡ Ok o →
    IfOk r (λ removed. removed ≡ first_of xs) → o ≡ first_of xs
removed_first xs e h = rw e at h
