-- the neighbours of a new leaf in the chain of a store
use Rattle.std.proofs.Common.{◌≡◌, List, [], ◌∷◌, ◌++◌, Option, Some, None, IsSomeAnd, refl, ap, sym, ◌∙◌, subst, append_assoc, append-nil, inl, inr, option_map}
use Rattle.std.specs.FinMap as map
use Rattle.art_model.specs.Prelude.{leaf_name, Nodes, LeafNode, LeafPtr, OpaqueNodePtr, AreLinked, Links, first_or, last_or, leaf_names, leaf_names_below, links_at, Subtrees, child, no_child}
use Rattle.art_model.proofs.leaves.Chains.{links_leaf}
use Rattle.art_model.proofs.leaves.Links.{link_of, last_or-push}
use Rattle.art_model.proofs.lists.Lists.{first_and_rest, others_and_last}
use Rattle.art_model.proofs.places.Paths.{leaf_names_below-join}
use Rattle.art_writing.specs.ParentWrites.{ComesBetween}

module _ {K V : Type 0} (s : Nodes K V) (xs zs : List OpaqueNodePtr) (linked : AreLinked (links_at s) None (xs ++ zs) None) where
  links_are : (x : LeafNode K V) (p : LeafPtr) (before after : Option OpaqueNodePtr) → map.get s.leaves p ≡ Some x →
      links_at s (leaf_name p) ≡ Some (record { previous = before; next = after }) →
      (option_map leaf_name x.previous ≡ before) × (option_map leaf_name x.next ≡ after)
  links_are x p before after here e =
      let both : ◌≡◌ {A = Option (Links OpaqueNodePtr)} (Some
      (record { previous = option_map leaf_name x.previous; next = option_map leaf_name x.next }))
      (Some (record { previous = before; next = after })) = sym (links_leaf s p (Some x) here) ∙ e in
      let same : ◌≡◌ {A = Links OpaqueNodePtr} (record { previous = option_map leaf_name x.previous; next = option_map leaf_name x.next })
      (record { previous = before; next = after }) = cc in
      (ap (λ z. z.previous) same, ap (λ z. z.next) same)

  -- the predecessor of the first leaf after a place is the last one before the place
  before_first : (p : LeafPtr) (rest : List OpaqueNodePtr) (previous : Option LeafPtr) → zs ≡ leaf_name p ∷ rest →
      IsSomeAnd (map.get s.leaves p) (λ leaf. previous ≡ leaf.previous) → option_map leaf_name previous ≡ last_or xs None
  before_first p rest previous e is = go (map.get s.leaves p) refl is
    where
      go : (o : Option (LeafNode K V)) → map.get s.leaves p ≡ o → IsSomeAnd o (λ leaf. previous ≡ leaf.previous) →
          option_map leaf_name previous ≡ last_or xs None
      go None here h = absurd h
      go (Some x) here h =
          ap (option_map leaf_name) h ∙ (links_are x p (last_or xs None) (first_or rest None) here
          (link_of (links_at s) xs rest (leaf_name p) None None (subst (λ z. AreLinked (links_at s) None (xs ++ z) None) e linked))).0

  -- the successor of the last leaf before a place is the first one after the place
  after_last : (p : LeafPtr) (others : List OpaqueNodePtr) (next : Option LeafPtr) → xs ≡ others ++ leaf_name p ∷ [] →
      IsSomeAnd (map.get s.leaves p) (λ leaf. next ≡ leaf.next) → option_map leaf_name next ≡ first_or zs None
  after_last p others next e is = go (map.get s.leaves p) refl is
    where
      all : xs ++ zs ≡ others ++ leaf_name p ∷ zs
      all = ap (λ z. z ++ zs) e ∙ append_assoc others (leaf_name p ∷ []) zs

      go : (o : Option (LeafNode K V)) → map.get s.leaves p ≡ o → IsSomeAnd o (λ leaf. next ≡ leaf.next) → option_map leaf_name next ≡ first_or zs None
      go None here h = absurd h
      go (Some x) here h =
          ap (option_map leaf_name) h ∙ (links_are x p (last_or others None) (first_or zs None) here
          (link_of (links_at s) others zs (leaf_name p) None None (subst (λ z. AreLinked (links_at s) None z None) all linked))).1

-- between the children of a node
module _ {K V : Type 0} (s : Nodes K V) (before after : List OpaqueNodePtr) (previous next : Option LeafPtr) where
  pub between_links : (l r : Subtrees OpaqueNodePtr (K × V)) →
      AreLinked (links_at s) None ((before ++ leaf_names_below l) ++ (leaf_names_below r ++ after)) None →
      ComesBetween s l r previous next →
      (option_map leaf_name previous ≡ last_or (before ++ leaf_names_below l) None) × (option_map leaf_name next ≡ first_or (leaf_names_below r ++ after) None)
  between_links l r linked (inl (c, t, others, whole, (p, has, next_is, previous_is))) =
      let (rest, is) = first_and_rest (leaf_name p) (leaf_names t) has.name_is in
      let zs : leaf_names_below r ++ after ≡ leaf_name p ∷ ((rest ++ leaf_names_below others) ++ after) =
      ap (λ z. leaf_names_below z ++ after) whole ∙ ap (λ z. (z ++ leaf_names_below others) ++ after) is in (
        before_first s (before ++ leaf_names_below l) (leaf_names_below r ++ after) linked p
            ((rest ++ leaf_names_below others) ++ after) previous zs previous_is,
        ap (option_map leaf_name) next_is ∙ sym (ap (λ z. first_or z None) zs),
      )
  between_links l r linked (inr (others, c, t, whole, (p, has, previous_is, next_is))) =
      let (ys, is) = others_and_last (leaf_name p) (leaf_names t) has.name_is in
      let below : leaf_names_below l ≡ leaf_names_below others ++ (ys ++ leaf_name p ∷ []) =
      ap leaf_names_below whole ∙ leaf_names_below-join others (child c t no_child) ∙ ap (λ z. leaf_names_below others ++ z) (append-nil (leaf_names t) ∙ is) in
      let xs : before ++ leaf_names_below l ≡ (before ++ leaf_names_below others ++ ys) ++ leaf_name p ∷ [] =
      ap (λ z. before ++ z) below ∙ sym (append_assoc before (leaf_names_below others) (ys ++ leaf_name p ∷ []))
      ∙ sym (append_assoc (before ++ leaf_names_below others) ys (leaf_name p ∷ [])) in (
        ap (option_map leaf_name) previous_is ∙ sym (ap (λ z. last_or z None) xs ∙ last_or-push (before ++ leaf_names_below others ++ ys) (leaf_name p) None),
        after_last s (before ++ leaf_names_below l) (leaf_names_below r ++ after) linked p (before ++ leaf_names_below others ++ ys) next xs next_is,
      )
