-- Maps without values are compared and hashed as the lists of their keys.
use Rattle.std.proofs.Common.{◌≡◌, List, [], ◌∷◌, ◌++◌, Bool, Option, Some, None, ◌&&◌, refl, sym, true, false, append-nil, flat_map, Ordering, Less, Equal, Greater}
use Rattle.std.proofs.lemmas.List.{length-map}
use Rattle.std.specs.Hash as fed
use Rattle.std.specs.Cmp.Lexicographic.{pointwise, slice_cmp, slice_partial_cmp}
use Rattle.std.specs.Ordering.{ordering_then, partial_ordering_then}
use Rattle.art_iterating.specs.MapItems.{keys_of}

and-true : (b : Bool) → (b && true) ≡ b
and-true true = refl
and-true false = refl

then-equal : (o : Ordering) → ordering_then o Equal ≡ o
then-equal Less = refl
then-equal Equal = refl
then-equal Greater = refl

partly_then-equal : (o : Option Ordering) → partial_ordering_then o (Some Equal) ≡ o
partly_then-equal None = refl
partly_then-equal (Some Less) = refl
partly_then-equal (Some Equal) = refl
partly_then-equal (Some Greater) = refl

module _ {K V : Type 0} where
  pub same_keys : (eq : K → K → Bool) (xs ys : List (K × V)) → pointwise (λ p q. eq p.0 q.0 && true) xs ys ≡ pointwise eq (keys_of xs) (keys_of ys)
  same_keys eq [] [] = refl
  same_keys eq [] (y ∷ ys) = refl
  same_keys eq (x ∷ xs) [] = refl
  same_keys eq (x ∷ xs) (y ∷ ys) = λ i. and-true (eq x.0 y.0) i && same_keys eq xs ys i

  pub order_of_keys : (cmp : K → K → Ordering) (xs ys : List (K × V)) →
      slice_cmp (λ p q. ordering_then (cmp p.0 q.0) Equal) xs ys ≡ slice_cmp cmp (keys_of xs) (keys_of ys)
  order_of_keys cmp [] [] = refl
  order_of_keys cmp [] (y ∷ ys) = refl
  order_of_keys cmp (x ∷ xs) [] = refl
  order_of_keys cmp (x ∷ xs) (y ∷ ys) = λ i. ordering_then (then-equal (cmp x.0 y.0) i) (order_of_keys cmp xs ys i)

  pub partial_order_of_keys : (cmp : K → K → Option Ordering) (xs ys : List (K × V)) →
      slice_partial_cmp (λ p q. partial_ordering_then (cmp p.0 q.0) (Some Equal)) xs ys ≡ slice_partial_cmp cmp (keys_of xs) (keys_of ys)
  partial_order_of_keys cmp [] [] = refl
  partial_order_of_keys cmp [] (y ∷ ys) = refl
  partial_order_of_keys cmp (x ∷ xs) [] = refl
  partial_order_of_keys cmp (x ∷ xs) (y ∷ ys) = λ i. partial_ordering_then (partly_then-equal (cmp x.0 y.0) i) (partial_order_of_keys cmp xs ys i)

  pub hash_of_keys : (input : K → fed.HashWrites) (xs : List (K × V)) → fed.slice (λ p. input p.0 ++ []) xs ≡ fed.slice input (keys_of xs)
  hash_of_keys input xs = λ i. fed.usize (sym (length-map xs (λ x. x.0)) i) ++ each xs i
    where
      each : (ys : List (K × V)) → flat_map (λ p. input p.0 ++ []) ys ≡ flat_map input (keys_of ys)
      each [] = refl
      each (y ∷ ys) = λ i. append-nil (input y.0) i ++ each ys i
