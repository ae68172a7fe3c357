-- The last and the first of the texts that are prefixes of a query.
use Rattle.std.proofs.Common.{◌≡◌, ℕ, ◌≤◌, ◌⊎◌, List, [], ◌∷◌, ◌++◌, length, arith, ap, sym, subst, ◌∙◌, append_assoc, append-nil, Some, true, inl, inr}
use Rattle.std.specs.List.{AllByRecursion as Each}
use Rattle.art_model.specs.Prelude.{IsFront, is_before, is_front, Pairwise, first_of, last_of, match_of}
use Rattle.art_model.specs.KeyLaws.{HasSmallerByte, IsProperFront}
use Rattle.art_model.specs.Texts.{FirstIsShortest, LastHasAll, LastIsLongest}
use Rattle.art_model.proofs.keys.KeyLaws.{order_is_decided}
use Rattle.art_model.proofs.keys.Keys.{front_from}
use Rattle.art_model.proofs.keys.Texts.{front_short}
use Rattle.art_model.proofs.lists.Filters.{Each-both, Pairwise-filter, filter_passes, last_each}
use Rattle.art_model.proofs.lists.Lists.{Each-weaker, front_cut}
use Rattle.art_model.proofs.places.OnWay.{byte_after}

-- each element of a list is related to the last one, or is it
last_related : {A : Type 0} (R : A → A → Type 0) (xs : List A) (z : A) → Pairwise R xs → last_of xs ≡ Some z → Each (λ y. R y z ⊎ (y ≡ z)) xs
last_related R [] z rise e = tt
last_related R (x ∷ []) z rise e = let same : x ≡ z = cc in (inr same, tt)
last_related R (x ∷ y ∷ xs) z rise e = (inl (last_each (R x) (y ∷ xs) z rise.0 e), last_related R (y ∷ xs) z rise.1 e)

-- the first element of a list is related to each one, or is it
first_related : {A : Type 0} (R : A → A → Type 0) (xs : List A) (z : A) → Pairwise R xs → first_of xs ≡ Some z → Each (λ y. R z y ⊎ (y ≡ z)) xs
first_related R [] z rise e = tt
first_related R (x ∷ xs) z rise e =
    let same : x ≡ z = cc in
    (inr same, subst (λ w. Each (λ y. R w y ⊎ (y ≡ w)) xs) same (Each-weaker (R x) (λ y. R x y ⊎ (y ≡ x)) (λ y r. inl r) xs rise.0))

-- what holds of each element holds of the first
first_each : {A : Type 0} (P : A → Type 0) (xs : List A) (z : A) → Each P xs → first_of xs ≡ Some z → P z
first_each P [] z h e = absurd cc
first_each P (x ∷ xs) z h e = let is : x ≡ z = cc in subst P is h.0

-- of two prefixes of a query the first one is a prefix of the other
front_if_before : (t u query : List ℕ) → is_before t u ≡ true → IsFront t query → IsFront u query → IsFront t u
front_if_before t u query before f g = go ((order_is_decided t u).0 before)
  where
    go : IsProperFront t u ⊎ HasSmallerByte t u → IsFront t u
    go (inl (byte, rest, e)) = (byte ∷ rest, e)
    go (inr (front, x, y, r, s, e, k, less)) =
        let at_x = byte_after front query x (front_cut (front ++ x ∷ []) r query (f.0, f.1 ∙ ap (λ z. z ++ f.0) (e ∙ sym (append_assoc front (x ∷ []) r)))) in
        let at_y = byte_after front query y (front_cut (front ++ y ∷ []) s query (g.0, g.1 ∙ ap (λ z. z ++ g.0) (k ∙ sym (append_assoc front (y ∷ []) s)))) in
        absurd (omega arith)

module _ {A : Type 0} (text : A → List ℕ) where
  pub last_has_all : LastHasAll text
  last_has_all xs query last rise e =
      let rise_in = Pairwise-filter (λ x y. is_before (text x) (text y) ≡ true) (λ x. is_front (text x) query) xs rise in
      let passes = filter_passes (λ x. is_front (text x) query) xs in
      let of_last = front_from (text last) query (last_each (λ x. is_front (text x) query ≡ true) (match_of text query xs) last passes e) in
      Each-both (λ y. (is_before (text y) (text last) ≡ true) ⊎ (y ≡ last)) (λ y. is_front (text y) query ≡ true) (λ y. IsFront (text y) (text last))
      (λ y r p. either y (front_from (text y) query p) of_last r) (match_of text query xs)
      (last_related (λ x y. is_before (text x) (text y) ≡ true) (match_of text query xs) last rise_in e) passes
    where
      either : (y : A) → IsFront (text y) query → IsFront (text last) query → (is_before (text y) (text last) ≡ true) ⊎ (y ≡ last) →
          IsFront (text y) (text last)
      either y f g (inl before) = front_if_before (text y) (text last) query before f g
      either y f g (inr same) = ([], ap text (sym same) ∙ sym (append-nil (text y)))

  pub last_is_longest : LastIsLongest text
  last_is_longest xs query last rise e =
      Each-weaker (λ x. IsFront (text x) (text last)) (λ x. length (text x) ≤ length (text last))
      (λ x f. front_short (text x) (text last) f) (match_of text query xs) (last_has_all xs query last rise e)

  pub first_is_shortest : FirstIsShortest text
  first_is_shortest xs query first rise e =
      let rise_in = Pairwise-filter (λ x y. is_before (text x) (text y) ≡ true) (λ x. is_front (text x) query) xs rise in
      let passes = filter_passes (λ x. is_front (text x) query) xs in
      let of_first = front_from (text first) query (first_each (λ x. is_front (text x) query ≡ true) (match_of text query xs) first passes e) in
      Each-both (λ y. (is_before (text first) (text y) ≡ true) ⊎ (y ≡ first)) (λ y. is_front (text y) query ≡ true)
      (λ y. length (text first) ≤ length (text y)) (λ y r p. either y of_first (front_from (text y) query p) r) (match_of text query xs)
      (first_related (λ x y. is_before (text x) (text y) ≡ true) (match_of text query xs) first rise_in e) passes
    where
      either : (y : A) → IsFront (text first) query → IsFront (text y) query → (is_before (text first) (text y) ≡ true) ⊎ (y ≡ first) →
          length (text first) ≤ length (text y)
      either y f g (inl before) = front_short (text first) (text y) (front_if_before (text first) (text y) query before f g)
      either y f g (inr same) = let long = ap (λ z. length (text z)) same in omega arith
