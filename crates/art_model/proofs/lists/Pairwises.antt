-- relations between each element and each later one
use Rattle.std.proofs.Common.{List, [], ◌∷◌, ◌++◌}
use Rattle.std.specs.List.{AllByRecursion as Each}
use Rattle.art_model.specs.Prelude.{Pairwise, IsIn}
use Rattle.art_model.proofs.lists.Lists.{Each-append, Each-left, Each-right, each_in}

module _ {X : Type 0} (R : X → X → Type 0) where
  -- the first part
  pub Pairwise-left : (xs ys : List X) → Pairwise R (xs ++ ys) → Pairwise R xs
  Pairwise-left [] ys h = tt
  Pairwise-left (x ∷ xs) ys h = (Each-left (R x) xs ys h.0, Pairwise-left xs ys h.1)

  -- the second part
  pub Pairwise-right : (xs ys : List X) → Pairwise R (xs ++ ys) → Pairwise R ys
  Pairwise-right [] ys h = h
  Pairwise-right (x ∷ xs) ys h = Pairwise-right xs ys h.1

  -- each of the first part to each of the second
  pub Pairwise-across : (xs ys : List X) → Pairwise R (xs ++ ys) → Each (λ x. Each (R x) ys) xs
  Pairwise-across [] ys h = tt
  Pairwise-across (x ∷ xs) ys h = (Each-right (R x) xs ys h.0, Pairwise-across xs ys h.1)

  -- both parts and all across
  pub Pairwise-append : (xs ys : List X) → Pairwise R xs → Pairwise R ys → Each (λ x. Each (R x) ys) xs → Pairwise R (xs ++ ys)
  Pairwise-append [] ys h k o = k
  Pairwise-append (x ∷ xs) ys h k o = (Each-append (R x) xs ys h.0 o.0, Pairwise-append xs ys h.1 k o.1)

  -- one element less
  pub Pairwise-without : (xs ys : List X) (b : X) → Pairwise R (xs ++ b ∷ ys) → Pairwise R (xs ++ ys)
  Pairwise-without [] ys b h = h.1
  Pairwise-without (x ∷ xs) ys b h =
      (Each-append (R x) xs ys (Each-left (R x) xs (b ∷ ys) h.0) (Each-right (R x) xs (b ∷ ys) h.0).1, Pairwise-without xs ys b h.1)

  -- one more element, in its place
  pub Pairwise-with : (xs ys : List X) (b : X) → Each (λ x. R x b) xs → Each (R b) ys → Pairwise R (xs ++ ys) → Pairwise R (xs ++ b ∷ ys)
  Pairwise-with [] ys b l r h = (r, h)
  Pairwise-with (x ∷ xs) ys b l r h =
      (Each-append (R x) xs (b ∷ ys) (Each-left (R x) xs ys h.0) (l.0, Each-right (R x) xs ys h.0), Pairwise-with xs ys b l.1 r h.1)

  -- those before an element are related to it
  pub Pairwise-before : (xs ys : List X) (b : X) → Pairwise R (xs ++ b ∷ ys) → Each (λ x. R x b) xs
  Pairwise-before [] ys b h = tt
  Pairwise-before (x ∷ xs) ys b h = ((Each-right (R x) xs (b ∷ ys) h.0).0, Pairwise-before xs ys b h.1)

  -- it is related to those after it
  pub Pairwise-after : (xs ys : List X) (b : X) → Pairwise R (xs ++ b ∷ ys) → Each (R b) ys
  Pairwise-after [] ys b h = h.0
  Pairwise-after (x ∷ xs) ys b h = Pairwise-after xs ys b h.1

  -- an element of the first part is related to one of the second
  pub Pairwise-in : (xs ys : List X) (x y : X) → Pairwise R (xs ++ ys) → IsIn x xs → IsIn y ys → R x y
  Pairwise-in xs ys x y h i j = each_in (R x) y ys (each_in (λ z. Each (R z) ys) x xs (Pairwise-across xs ys h) i) j
