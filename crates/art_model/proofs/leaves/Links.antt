-- The chain of leaves: its parts, and the chain after the leaves in the middle change.
use Rattle.std.proofs.Common.{◌≡◌, ◌≢◌, List, [], ◌∷◌, ◌++◌, refl, ap, sym, ◌∙◌, Option, Some, None, ◌⊎◌, inl, inr, subst, append_assoc}
use Rattle.std.specs.List.{AllByRecursion as Each}
use Rattle.art_model.specs.Prelude.{Links, AreLinked, first_or, last_or, AreDistinct, IsIn}
use Rattle.art_model.proofs.lists.Lists.{each_from, in_left, in_right}
use Rattle.art_model.proofs.lists.Pairwises.{Pairwise-left}
use Rattle.art_model.proofs.stores.Names.{apart_in}

module _ {N : Type 0} where
  -- the first of a joined list
  pub first_or-append : (xs ys : List N) (o : Option N) → first_or (xs ++ ys) o ≡ first_or xs (first_or ys o)
  first_or-append [] ys o = refl
  first_or-append (x ∷ xs) ys o = refl

  module _ (links to : N → Option (Links N)) where
    -- a chain stays one where its links stay
    pub linked-frame : (xs : List N) (p q : Option N) → Each (λ n. to n ≡ links n) xs → AreLinked links p xs q → AreLinked to p xs q
    linked-frame [] p q same h = tt
    linked-frame (x ∷ xs) p q same h = (same.0 ∙ h.0, linked-frame xs (Some x) q same.1 h.1)

    -- the last leaf gets another next one
    relink_end : (xs : List N) (l : N) (p q r : Option N) → Each (λ n. to n ≡ links n) xs → AreLinked links p (xs ++ l ∷ []) q →
        to l ≡ Some (record { previous = last_or xs p; next = r }) → AreLinked to p (xs ++ l ∷ []) r
    relink_end [] l p q r same h e = (e, tt)
    relink_end (x ∷ []) l p q r same h e = (same.0 ∙ h.0, (e, tt))
    relink_end (x ∷ y ∷ xs) l p q r same h e = (same.0 ∙ h.0, relink_end (y ∷ xs) l (Some x) q r same.1 h.1 e)

    -- the first leaf gets another previous one
    relink_start : (x : N) (xs : List N) (p q r : Option N) → Each (λ n. to n ≡ links n) xs → AreLinked links p (x ∷ xs) q →
        to x ≡ Some (record { previous = r; next = first_or xs q }) → AreLinked to r (x ∷ xs) q
    relink_start x xs p q r same h e = (e, linked-frame xs (Some x) q same h.1)

  module _ (links : N → Option (Links N)) where
    -- the first part of a chain
    pub linked_front : (xs ys : List N) (p q : Option N) → AreLinked links p (xs ++ ys) q → AreLinked links p xs (first_or ys q)
    linked_front [] ys p q h = tt
    linked_front (x ∷ xs) ys p q h = (h.0 ∙ ap (λ o. Some (record { previous = p; next = o })) (first_or-append xs ys q), linked_front xs ys (Some x) q h.1)

    -- the second part of a chain
    pub linked_rest : (xs ys : List N) (p q : Option N) → AreLinked links p (xs ++ ys) q → AreLinked links (last_or xs p) ys q
    linked_rest [] ys p q h = h
    linked_rest (x ∷ xs) ys p q h = linked_rest xs ys (Some x) q h.1

    -- two chains that meet
    linked-append : (xs ys : List N) (p q : Option N) → AreLinked links p xs (first_or ys q) → AreLinked links (last_or xs p) ys q →
        AreLinked links p (xs ++ ys) q
    linked-append [] ys p q h k = k
    linked-append (x ∷ xs) ys p q h k =
        (h.0 ∙ ap (λ o. Some (record { previous = p; next = o })) (sym (first_or-append xs ys q)), linked-append xs ys (Some x) q h.1 k)

-- ---- the first and the last leaf of a list

module _ {N : Type 0} where
  -- the last of a list with one more at its end
  pub last_or-push : (xs : List N) (l : N) (o : Option N) → last_or (xs ++ l ∷ []) o ≡ Some l
  last_or-push [] l o = refl
  last_or-push (x ∷ xs) l o = last_or-push xs l (Some x)

  -- the last of a joined list
  pub last_or-append : (xs ys : List N) (o : Option N) → last_or (xs ++ ys) o ≡ last_or ys (last_or xs o)
  last_or-append [] ys o = refl
  last_or-append (x ∷ xs) ys o = last_or-append xs ys (Some x)

  -- a list is empty, or its last element is in it
  abbrev Ends : List N → Type 0
  Ends xs = (xs ≡ []) ⊎ ((ys : List N) × (l : N) × (xs ≡ ys ++ l ∷ []))

  ends : (xs : List N) → Ends xs
  ends [] = inl refl
  ends (x ∷ xs) = elim (ends xs) [
    | inl e ↦ inr ([], x, ap (λ l. x ∷ l) e)
    | inr e ↦ let (ys, l, is) = e in inr (x ∷ ys, l, ap (λ l. x ∷ l) is)
  ]

  -- the last one of a list is in it, and so is the first one
  pub last_in : (xs : List N) (k : N) → last_or xs None ≡ Some k → IsIn k xs
  last_in xs k e = go (ends xs)
    where
      go : Ends xs → IsIn k xs
      go (inl none) = let f : last_or xs None ≡ None = ap (λ l. last_or l None) none in absurd cc
      go (inr (ys, l, is)) =
          let f : last_or xs None ≡ Some l = ap (λ z. last_or z None) is ∙ last_or-push ys l None in
          let same : l ≡ k = cc in
          subst (IsIn k) (sym is) (in_right k ys (l ∷ []) (inl same))

  -- the first one of a list is in it
  pub first_in : (xs : List N) (k : N) → first_or xs None ≡ Some k → IsIn k xs
  first_in [] k e = absurd cc
  first_in (x ∷ xs) k e = inl cc

  -- of distinct leaves the last one before a place is not the first one after it
  pub last_not_first : (xs zs : List N) (k : N) → AreDistinct (xs ++ zs) → last_or xs None ≡ Some k → first_or zs None ≡ Some k → ⊥
  last_not_first xs zs k d e f = apart_in xs zs k d (last_in xs k e) (first_in zs k f)

  -- the links of a leaf in the chain
  pub link_of : (links : N → Option (Links N)) (xs zs : List N) (k : N) (p q : Option N) → AreLinked links p (xs ++ k ∷ zs) q →
      links k ≡ Some (record { previous = last_or xs p; next = first_or zs q })
  link_of links xs zs k p q h = (linked_rest links xs (k ∷ zs) p q h).0

-- ---- other leaves in the middle

module _ {N : Type 0} where
  -- Between `xs` and `zs` are `ns`: they are linked, also with their neighbours, and the others have the links that they had.
  pub record Relinked (links to : N → Option (Links N)) (xs ns zs : List N) : Type 0 where
    pub on_left : (l : N) (a b : Option N) → last_or xs None ≡ Some l → links l ≡ Some (record { previous = a; next = b }) →
        to l ≡ Some (record { previous = a; next = first_or ns (first_or zs None) })
    pub on_right : (l : N) (a b : Option N) → first_or zs None ≡ Some l → links l ≡ Some (record { previous = a; next = b }) →
        to l ≡ Some (record { previous = last_or ns (last_or xs None); next = b })
    pub inside : AreLinked to (last_or xs None) ns (first_or zs None)
    pub others : (k : N) → IsIn k (xs ++ zs) → (last_or xs None ≡ Some k → ⊥) → (first_or zs None ≡ Some k → ⊥) → to k ≡ links k

module _ {N : Type 0} (links to : N → Option (Links N)) (xs ns zs : List N) (distinct : AreDistinct (xs ++ zs)) (change : Relinked links to xs ns zs) where
  -- the leaves before the middle
  linked_before : (o : Option N) → AreLinked links None xs o → AreLinked to None xs (first_or ns (first_or zs None))
  linked_before o h = go (ends xs)
    where
      go : Ends xs → AreLinked to None xs (first_or ns (first_or zs None))
      go (inl e) = rw e tt
      go (inr (ys, l, e)) =
          let h' : AreLinked links None (ys ++ l ∷ []) o = subst (λ z. AreLinked links None z o) e h in
          let last : last_or xs None ≡ Some l = ap (λ z. last_or z None) e ∙ last_or-push ys l None in
          let own : AreDistinct (ys ++ l ∷ []) = subst AreDistinct e (Pairwise-left ◌≢◌ xs zs distinct) in
          let same = each_from (λ k. to k ≡ links k) ys (λ k i.
          let among : IsIn k xs = subst (IsIn k) (sym e) (in_left k ys (l ∷ []) i) in
          change.others k (in_left k xs zs among) (λ f. let g : l ≡ k = cc in apart_in ys (l ∷ []) k own i (inl g))
          (λ f. apart_in xs zs k distinct among (first_in zs k f))) in
          subst (λ z. AreLinked to None z (first_or ns (first_or zs None))) (sym e)
          (relink_end links to ys l None o (first_or ns (first_or zs None)) same h'
          (change.on_left l (last_or ys None) o last (link_of links ys [] l None o h')))

  -- the leaves after it
  linked_after : (o : Option N) → AreLinked links o zs None → AreLinked to (last_or ns (last_or xs None)) zs None
  linked_after o h = go zs refl
    where
      go : (ws : List N) → zs ≡ ws → AreLinked to (last_or ns (last_or xs None)) ws None
      go [] e = tt
      go (w ∷ ws) e =
          let h' : AreLinked links o (w ∷ ws) None = subst (λ z. AreLinked links o z None) e h in
          let all : AreDistinct ((xs ++ w ∷ []) ++ ws) = subst AreDistinct (ap (λ z. xs ++ z) e ∙ sym (append_assoc xs (w ∷ []) ws)) distinct in
          let first : first_or zs None ≡ Some w = ap (λ z. first_or z None) e in
          let same = each_from (λ k. to k ≡ links k) ws (λ k i.
          let among : IsIn k (xs ++ zs) = in_right k xs zs (subst (IsIn k) (sym e) (inr i)) in
          change.others k among (λ f. apart_in (xs ++ w ∷ []) ws k all (in_left k xs (w ∷ []) (last_in xs k f)) i)
          (λ f. let g : w ≡ k = cc in apart_in (xs ++ w ∷ []) ws k all (in_right k xs (w ∷ []) (inl g)) i)) in
          relink_start links to w ws o None (last_or ns (last_or xs None)) same h' (change.on_right w o (first_or ws None) first h'.0)

  -- the chain with other leaves in the middle
  pub relink : (ms : List N) → AreLinked links None (xs ++ ms ++ zs) None → AreLinked to None (xs ++ ns ++ zs) None
  relink ms h =
      let old = linked_front links xs ms None (first_or zs None) (linked_front links (xs ++ ms) zs None None h) in
      let rest = linked_rest links (xs ++ ms) zs None None h in
      linked-append to (xs ++ ns) zs None None
      (linked-append to xs ns None (first_or zs None) (linked_before (first_or ms (first_or zs None)) old) change.inside)
      (rw last_or-append (linked_after (last_or (xs ++ ms) None) rest))

  -- two chains that become one
  pub link_up : AreLinked links None xs None → AreLinked links None zs None → AreLinked to None (xs ++ ns ++ zs) None
  link_up before after = linked-append to (xs ++ ns) zs None None
      (linked-append to xs ns None (first_or zs None) (linked_before None before) change.inside)
      (rw last_or-append (linked_after None after))
