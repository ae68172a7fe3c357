-- lists: what holds of each element, which elements are in a list, and prefixes
use Rattle.std.proofs.Common.{filter, ◌≡◌, ℕ, List, [], ◌∷◌, ◌++◌, length, drop, reverse, Option, Some, None, IsSome, refl, ap, arith, sym}
use Rattle.std.proofs.Common.{◌∙◌, append_assoc, drop_at, eqb, eq-eqb, true, false, cond, Bool, ap₂, eqb-true, subst, map, ◌⊎◌, inl, inr}
use Rattle.std.specs.List.{AllByRecursion as Each}
use Rattle.std.proofs.lemmas.List.{reverse-append}
use Rattle.art_model.specs.Prelude.{IsFront, common_front, IsIn, first_of, last_of}

module _ {A : Type 0} where
  -- what holds of each element of both lists holds of each of the joined list
  pub Each-append : (P : A → Type 0) (xs ys : List A) → Each P xs → Each P ys → Each P (xs ++ ys)
  Each-append P [] ys h k = k
  Each-append P (x ∷ xs) ys h k = (h.0, Each-append P xs ys h.1 k)

  -- and of the first part
  pub Each-left : (P : A → Type 0) (xs ys : List A) → Each P (xs ++ ys) → Each P xs
  Each-left P [] ys h = tt
  Each-left P (x ∷ xs) ys h = (h.0, Each-left P xs ys h.1)

  -- and of the second part
  pub Each-right : (P : A → Type 0) (xs ys : List A) → Each P (xs ++ ys) → Each P ys
  Each-right P [] ys h = h
  Each-right P (x ∷ xs) ys h = Each-right P xs ys h.1

  -- what follows for each element
  pub Each-weaker : (P Q : A → Type 0) → ((x : A) → P x → Q x) → (xs : List A) → Each P xs → Each Q xs
  Each-weaker P Q f [] h = tt
  Each-weaker P Q f (x ∷ xs) h = (f x h.0, Each-weaker P Q f xs h.1)

  -- none is left where none passes
  pub filter_none : (test : A → Bool) (xs : List A) → Each (λ x. test x ≡ false) xs → filter test xs ≡ []
  filter_none test [] h = refl
  filter_none test (x ∷ xs) h = rw h.0 (filter_none test xs h.1)

module _ {X : Type 0} where
  -- what is there
  pub some_of : (o : Option X) → IsSome o → (x : X) × (o ≡ Some x)
  some_of None h = absurd cc
  some_of (Some x) h = (x, refl)

  -- a list is its first element and a rest
  pub first_and_rest : (k : X) (xs : List X) → first_of xs ≡ Some k → (rest : List X) × (xs ≡ k ∷ rest)
  first_and_rest k [] e = absurd cc
  first_and_rest k (x ∷ xs) e = let same : x ≡ k = cc in (xs, ap (λ z. z ∷ xs) same)

  -- or others and its last element
  pub others_and_last : (k : X) (xs : List X) → last_of xs ≡ Some k → (others : List X) × (xs ≡ others ++ k ∷ [])
  others_and_last k [] e = absurd cc
  others_and_last k (x ∷ []) e = let same : x ≡ k = cc in ([], ap (λ z. z ∷ []) same)
  others_and_last k (x ∷ y ∷ xs) e = let (others, is) = others_and_last k (y ∷ xs) e in (x ∷ others, ap (λ z. x ∷ z) is)

  -- the last of a list with a last element comes first in the reversed one
  pub reverse-last : (xs rest : List X) (x : X) → xs ≡ rest ++ x ∷ [] → reverse xs ≡ x ∷ reverse rest
  reverse-last xs rest x e = ap reverse e ∙ reverse-append rest (x ∷ [])

  -- no elements are none in reverse
  pub reverse-empty : (xs : List X) (n : ℕ) → n ≡ length xs → n ≡ 0 → reverse xs ≡ []
  reverse-empty [] n is zero = refl
  reverse-empty (x ∷ xs) n is zero = absurd (omega arith)

module _ {X : Type 0} where
  -- an element of the second part
  pub in_right : (k : X) (xs ys : List X) → IsIn k ys → IsIn k (xs ++ ys)
  in_right k [] ys h = h
  in_right k (x ∷ xs) ys h = inr (in_right k xs ys h)

  -- an element of the first part
  pub in_left : (k : X) (xs ys : List X) → IsIn k xs → IsIn k (xs ++ ys)
  in_left k [] ys h = absurd h
  in_left k (x ∷ xs) ys (inl e) = inl e
  in_left k (x ∷ xs) ys (inr h) = inr (in_left k xs ys h)

  -- an element of either part
  pub in_either : (k : X) (xs ys : List X) → IsIn k (xs ++ ys) → IsIn k xs ⊎ IsIn k ys
  in_either k [] ys h = inr h
  in_either k (x ∷ xs) ys (inl e) = inl (inl e)
  in_either k (x ∷ xs) ys (inr h) = elim (in_either k xs ys h) [ inl i ↦ inl (inr i) | inr i ↦ inr i ]

  -- an element before or after the middle
  pub in_around : (k : X) (xs ms zs : List X) → IsIn k (xs ++ zs) → IsIn k (xs ++ ms ++ zs)
  in_around k xs ms zs i = elim (in_either k xs zs i) [ inl j ↦ in_left k (xs ++ ms) zs (in_left k xs ms j) | inr j ↦ in_right k (xs ++ ms) zs j ]

  -- what holds of each element holds of one that is in the list, and the other way round
  pub each_in : (P : X → Type 0) (k : X) (xs : List X) → Each P xs → IsIn k xs → P k
  each_in P k [] h i = absurd i
  each_in P k (x ∷ xs) h (inl e) = subst P e h.0
  each_in P k (x ∷ xs) h (inr i) = each_in P k xs h.1 i

  -- a list of which each element is known to be in it
  pub each_from : (P : X → Type 0) (xs : List X) → ((k : X) → IsIn k xs → P k) → Each P xs
  each_from P [] f = tt
  each_from P (x ∷ xs) f = (f x (inl refl), each_from P xs (λ k i. f k (inr i)))

module _ {X Y : Type 0} (f : X → Y) where
  -- the image of an element
  pub in_map : (x : X) (xs : List X) → IsIn x xs → IsIn (f x) (map f xs)
  in_map x [] i = absurd i
  in_map x (y ∷ ys) (inl e) = inl (ap f e)
  in_map x (y ∷ ys) (inr i) = inr (in_map x ys i)

  -- an element of the images is the image of one
  pub out_map : (y : Y) (xs : List X) → IsIn y (map f xs) → (x : X) × IsIn x xs × (f x ≡ y)
  out_map y [] i = absurd i
  out_map y (x ∷ xs) (inl e) = (x, inl refl, e)
  out_map y (x ∷ xs) (inr i) = let (z, j, e) = out_map y xs i in (z, inr j, e)

  -- what holds of each image
  pub each_map : (P : Y → Type 0) (xs : List X) → Each (λ x. P (f x)) xs → Each P (map f xs)
  each_map P [] h = tt
  each_map P (x ∷ xs) h = (h.0, each_map P xs h.1)

  -- and of each element through its image
  pub each_unmap : (P : Y → Type 0) (xs : List X) → Each P (map f xs) → Each (λ x. P (f x)) xs
  each_unmap P [] h = tt
  each_unmap P (x ∷ xs) h = (h.0, each_unmap P xs h.1)

-- a prefix of a prefix
pub front_cut : (a b k : List ℕ) → IsFront (a ++ b) k → IsFront a k
front_cut a b k (r, e) = (b ++ r, e ∙ append_assoc a b r)

-- prefixes of prefixes
pub front_trans : (a b c : List ℕ) → IsFront a b → IsFront b c → IsFront a c
front_trans a b c (r, e) (s, f) = (r ++ s, rw (f, e) (append_assoc a r s))

-- what comes after a prefix
pub after_front : (a k r : List ℕ) → k ≡ a ++ r → drop (length a) k ≡ r
after_front a k r e = rw e (drop_at a r (length a) refl)

-- a shared prefix stays first
pub common_front-append : (p a b : List ℕ) → common_front (p ++ a) (p ++ b) ≡ p ++ common_front a b
common_front-append [] a b = refl
common_front-append (x ∷ p) a b = rw (eq-eqb x x refl) (ap (λ s. x ∷ s) (common_front-append p a b))

-- a common prefix is a prefix of both
pub common_front_left : (a b : List ℕ) → IsFront (common_front a b) a
common_front_left [] b = ([], refl)
common_front_left (x ∷ a) [] = (x ∷ a, refl)
common_front_left (x ∷ a) (y ∷ b) = go (common_front_left a b) (eqb x y)
  where
    go : IsFront (common_front a b) a → (t : Bool) → IsFront (cond t (x ∷ common_front a b) []) (x ∷ a)
    go r true = (r.0, ap (λ s. x ∷ s) r.1)
    go r false = (x ∷ a, refl)

-- and of the second
pub common_front_right : (a b : List ℕ) → IsFront (common_front a b) b
common_front_right [] b = (b, refl)
common_front_right (x ∷ a) [] = ([], refl)
common_front_right (x ∷ a) (y ∷ b) = go (common_front_right a b) (eqb x y) refl
  where
    go : IsFront (common_front a b) b → (t : Bool) → eqb x y ≡ t → IsFront (cond t (x ∷ common_front a b) []) (y ∷ b)
    go r true e = (r.0, ap₂ (λ z s. z ∷ s) (sym (eqb-true x y e)) r.1)
    go r false e = (y ∷ b, refl)
