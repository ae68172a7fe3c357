-- The chain where a leaf is inserted between two others of a store, or removed.
use Rattle.std.proofs.Common.{◌≡◌, ◌≢◌, List, [], ◌∷◌, ◌++◌, Option, Some, None, refl, ap, sym, ◌∙◌, subst, inl, inr, option_map, option_and_then}
use Rattle.std.specs.FinMap.{get}
use Rattle.art_model.specs.Prelude.{Inner, leaf_name, Nodes, Leaf, LeafPtr, OpaqueNodePtr, LeafNode, leaf_node, leaf_names, Holds, Links, AreLinked, AreDistinct, first_or, last_or, node_at, pair_of, held_leaf, held_inner, links_at, links_of, IsThere, with_next, with_previous, with_links_around, with_leaf, without_leaf, IsIn, Tree}
use Rattle.art_model.proofs.lists.Lists.{each_in, in_left, in_right, in_either}
use Rattle.art_model.proofs.lists.Pairwises.{Pairwise-without, Pairwise-before}
use Rattle.art_model.proofs.stores.Names.{apart_after, IsTaken, all_taken, among, takes_leaves}
use Rattle.art_model.proofs.leaves.Links.{Relinked, last_in, first_in, last_not_first}
use Rattle.art_model.proofs.stores.Writes.{node_at-leaf}
use Rattle.art_model.proofs.stores.Views.{held_in_inner, leaf_or}
use Rattle.art_model.proofs.leaves.Leaves.{listed, in_listed, named_leaf, joined_before, joined_after, joined_elsewhere, with_leaf_here, with_leaf_elsewhere, without_leaf_elsewhere}

module _ {K V : Type 0} where
  -- the links of a leaf are those that it names
  pub links_leaf : (u : Nodes K V) (p : LeafPtr) (o : Option (LeafNode K V)) → get u.leaves p ≡ o →
      links_at u (leaf_name p) ≡ option_and_then links_of (option_map held_leaf o)
  links_leaf u p o e = ap (λ z. option_and_then links_of (option_map held_leaf z)) e

  -- the links of a leaf after a change
  relinks : (f : LeafNode K V → LeafNode K V) (a b c d : Option OpaqueNodePtr) →
      ((y : LeafNode K V) → option_map leaf_name y.previous ≡ a → option_map leaf_name y.next ≡ b →
      links_of (held_leaf (f y)) ≡ Some (record { previous = c; next = d })) →
      (o : Option (LeafNode K V)) → option_and_then links_of (option_map held_leaf o) ≡ Some (record { previous = a; next = b }) →
      option_and_then links_of (option_map held_leaf (option_map f o)) ≡ Some (record { previous = c; next = d })
  relinks f a b c d h None e = absurd cc
  relinks f a b c d h (Some y) e =
      let l : ◌≡◌ {A = Links OpaqueNodePtr} (record { previous = option_map leaf_name y.previous; next = option_map leaf_name y.next })
      (record { previous = a; next = b }) = cc in
      h y (ap (λ z. z.previous) l) (ap (λ z. z.next) l)

  -- an inner node has none
  pub links_inner : (u : Nodes K V) (k : OpaqueNodePtr) → (k.kind ≡ Leaf → ⊥) → links_at u k ≡ None
  links_inner u k off = ap (option_and_then links_of) (held_in_inner u k.kind k.slot off) ∙ go (get u.inners (record { kind = k.kind; slot = k.slot }))
    where
      go : (o : Option Inner) → option_and_then (links_of {K = K} {V = V}) (option_map held_inner o) ≡ None
      go None = refl
      go (Some i) = refl

-- Between the leaves of `xs` and those of `zs` the leaves of `ns` are inserted; of the former only the last one, and of the latter only the first one, has another link.
pub record AreBeside {K V : Type 0} (s t : Nodes K V) (xs ns zs : List OpaqueNodePtr) (before after next previous : Option LeafPtr) : Type 0 where
  pub distinct : AreDistinct (xs ++ zs)
  pub before_is : option_map leaf_name before ≡ last_or xs None
  pub after_is : option_map leaf_name after ≡ first_or zs None
  pub next_is : option_map leaf_name next ≡ first_or ns (first_or zs None)
  pub previous_is : option_map leaf_name previous ≡ last_or ns (last_or xs None)
  pub inside : AreLinked (links_at t) (last_or xs None) ns (first_or zs None)
  pub leaves : (p : LeafPtr) → IsIn (leaf_name p) (xs ++ zs) → get t.leaves p ≡ get (with_links_around s.leaves before after next previous) p

module _ {K V : Type 0} {s t : Nodes K V} {xs ns zs : List OpaqueNodePtr} {before after next previous : Option LeafPtr}
    (is : AreBeside s t xs ns zs before after next previous) where
  -- then they are a chain
  pub relinked_beside : Relinked (links_at s) (links_at t) xs ns zs
  relinked_beside = record {
    on_left = λ l a b last old.
        let (p, here, e) = named_leaf before l (is.before_is ∙ last) in
        let among = in_left (leaf_name p) xs zs (subst (λ z. IsIn z xs) e (last_in xs l last)) in
        subst (λ (k : OpaqueNodePtr). links_at t k ≡ Some (record { previous = a; next = first_or ns (first_or zs None) })) (sym e)
        (links_leaf t p (option_map (with_next next) (get s.leaves p))
        (is.leaves p among ∙ joined_before s.leaves before after next previous p here (λ f. not_both p here f))
        ∙ relinks (with_next next) a b a (first_or ns (first_or zs None)) (λ y u v. both u is.next_is) (get s.leaves p) (ap (links_at s) (sym e) ∙ old));
    on_right = λ l a b first old.
        let (p, here, e) = named_leaf after l (is.after_is ∙ first) in
        let among = in_right (leaf_name p) xs zs (subst (λ z. IsIn z zs) e (first_in zs l first)) in
        subst (λ (k : OpaqueNodePtr). links_at t k ≡ Some (record { previous = last_or ns (last_or xs None); next = b })) (sym e)
        (links_leaf t p (option_map (with_previous previous) (get s.leaves p))
        (is.leaves p among ∙ joined_after s.leaves before after next previous p here (λ f. not_both p f here))
        ∙ relinks (with_previous previous) a b (last_or ns (last_or xs None)) b (λ y u v. both is.previous_is v) (get s.leaves p)
        (ap (links_at s) (sym e) ∙ old));
    inside = is.inside;
    others = λ k i f g. elim (leaf_or k) [
      | inl (p, e) ↦
          subst (λ (z : OpaqueNodePtr). links_at t z ≡ links_at s z) (sym e)
          (links_leaf t p (get s.leaves p) (is.leaves p (subst (λ z. IsIn z (xs ++ zs)) e i)
          ∙ joined_elsewhere s.leaves before after next previous p (λ h. f (sym is.before_is ∙ ap (option_map leaf_name) h ∙ ap Some (sym e)))
          (λ h. g (sym is.after_is ∙ ap (option_map leaf_name) h ∙ ap Some (sym e)))))
      | inr off ↦ links_inner t k off ∙ sym (links_inner s k off)
    ];
  }
    where
      not_both : (p : LeafPtr) → before ≡ Some p → after ≡ Some p → ⊥
      not_both p e f =
          last_not_first xs zs (leaf_name p) is.distinct (sym is.before_is ∙ ap (option_map leaf_name) e)
          (sym is.after_is ∙ ap (option_map leaf_name) f)

      both : {a b c d : Option OpaqueNodePtr} → a ≡ b → c ≡ d →
          ◌≡◌ {A = Option (Links OpaqueNodePtr)} (Some (record { previous = a; next = c })) (Some (record { previous = b; next = d }))
      both e f = cc

-- the leaves of the list are in the store
abbrev pub AreThere : {K V : Type 0} → Nodes K V → List OpaqueNodePtr → Type 0
AreThere s ks = (p : LeafPtr) → IsIn (leaf_name p) ks → get s.leaves p ≢ None

module _ {K V : Type 0} (s t : Nodes K V) (xs zs : List OpaqueNodePtr) (n : LeafPtr) (x : LeafNode K V) where
  -- A new leaf is inserted between those of `xs` and those of `zs`; others may be removed then.
  pub leaf_comes : AreDistinct (xs ++ zs) → AreThere s (xs ++ zs) → get s.leaves n ≡ None →
      option_map leaf_name x.previous ≡ last_or xs None → option_map leaf_name x.next ≡ first_or zs None →
      ((p : LeafPtr) → IsIn (leaf_name p) (xs ++ leaf_name n ∷ zs) → get t.leaves p ≡ get (with_leaf s.leaves n x) p) →
      AreBeside s t xs (leaf_name n ∷ []) zs x.previous x.next (Some n) (Some n)
  leaf_comes distinct are free last first leaves = record {
    distinct = distinct;
    before_is = last;
    after_is = first;
    next_is = refl;
    previous_is = refl;
    inside = (
      links_leaf t n (Some x) (leaves n (in_right (leaf_name n) xs (leaf_name n ∷ zs) (inl refl))
          ∙ with_leaf_here s.leaves n x not_before not_after) ∙ same last first,
      tt,
    );
    leaves = λ p i. leaves p (among p i) ∙ with_leaf_elsewhere s.leaves n x p (λ e. are p i (ap (get s.leaves) e ∙ free));
  }
    where
      not_before : x.previous ≡ Some n → ⊥
      not_before e = are n (in_left (leaf_name n) xs zs (last_in xs (leaf_name n) (sym last ∙ ap (option_map leaf_name) e))) free

      not_after : x.next ≡ Some n → ⊥
      not_after e = are n (in_right (leaf_name n) xs zs (first_in zs (leaf_name n) (sym first ∙ ap (option_map leaf_name) e))) free

      same : {a b c d : Option OpaqueNodePtr} → a ≡ b → c ≡ d →
          ◌≡◌ {A = Option (Links OpaqueNodePtr)} (Some (record { previous = a; next = c })) (Some (record { previous = b; next = d }))
      same e f = cc

      among : (p : LeafPtr) → IsIn (leaf_name p) (xs ++ zs) → IsIn (leaf_name p) (xs ++ leaf_name n ∷ zs)
      among p i = elim (in_either (leaf_name p) xs zs i) [
        | inl j ↦ in_left (leaf_name p) xs (leaf_name n ∷ zs) j
        | inr j ↦ in_right
            (leaf_name p) xs (leaf_name n ∷ zs) (inr j)
      ]

  -- The leaf between those of `xs` and those of `zs` is removed.
  pub leaf_goes : AreDistinct (xs ++ leaf_name n ∷ zs) → option_map leaf_name x.previous ≡ last_or xs None → option_map leaf_name x.next ≡ first_or zs None →
      ((p : LeafPtr) → IsIn (leaf_name p) (xs ++ zs) → get t.leaves p ≡ get (without_leaf s.leaves n x) p) →
      AreBeside s t xs [] zs x.previous x.next x.next x.previous
  leaf_goes distinct last first leaves = record {
    distinct = Pairwise-without ◌≢◌ xs zs (leaf_name n) distinct;
    before_is = last;
    after_is = first;
    next_is = first;
    previous_is = last;
    inside = tt;
    leaves = λ p i. leaves p i ∙ without_leaf_elsewhere s.leaves n x p (λ e. not_here p i (ap leaf_name e));
  }
    where
      not_here : (p : LeafPtr) → IsIn (leaf_name p) (xs ++ zs) → leaf_name p ≡ leaf_name n → ⊥
      not_here p i e = elim (in_either (leaf_name p) xs zs i) [
        | inl j ↦ each_in (λ k. k ≢ leaf_name n) (leaf_name p) xs (Pairwise-before ◌≢◌ xs zs (leaf_name n) distinct) j e
        | inr j ↦ each_in (λ k. k ≢ leaf_name n) (leaf_name p) zs (apart_after xs zs (leaf_name n) distinct) j e
      ]

module _ {K V : Type 0} (s : Nodes K V) where
  -- the leaves of a layout are in the store
  pub are_there : (t : Tree OpaqueNodePtr (K × V)) → Holds (node_at s) t → AreThere s (leaf_names t)
  are_there t h p i free =
      each_in (IsTaken (node_at s)) (leaf_name p) (leaf_names t) (among takes_leaves (IsTaken (node_at s)) t (all_taken (node_at s) t h)) i
      (node_at-leaf s p ∙ ap (λ o. option_map leaf_node (option_map pair_of o)) free)

  -- and the neighbours of a place are among them
  pub previous_there : (xs zs : List OpaqueNodePtr) (o : Option LeafPtr) → AreThere s (xs ++ zs) → option_map leaf_name o ≡ last_or xs None → IsThere s.leaves o
  previous_there xs zs o are e p is = are p (in_left (leaf_name p) xs zs (last_in xs (leaf_name p) (sym e ∙ ap (option_map leaf_name) is)))

  pub next_there : (xs zs : List OpaqueNodePtr) (o : Option LeafPtr) → AreThere s (xs ++ zs) → option_map leaf_name o ≡ first_or zs None → IsThere s.leaves o
  next_there xs zs o are e p is = are p (in_right (leaf_name p) xs zs (first_in zs (leaf_name p) (sym e ∙ ap (option_map leaf_name) is)))

-- the neighbours of a place are those around it
pub beside_place : (xs zs : List OpaqueNodePtr) (next previous : Option LeafPtr) → option_map leaf_name next ≡ first_or zs None →
    option_map leaf_name previous ≡ last_or xs None →
    (p : LeafPtr) → IsIn p (listed next ++ (listed previous ++ [])) → IsIn (leaf_name p) (xs ++ zs)
beside_place xs zs next previous first last p i = elim (in_either p (listed next) (listed previous ++ []) i) [
  | inl j ↦ in_right (leaf_name p) xs zs (first_in zs (leaf_name p) (sym first ∙ ap (option_map leaf_name) (in_listed next p j)))
  | inr j ↦ elim (in_either p (listed previous) [] j) [
    | inl k ↦ in_left (leaf_name p) xs zs (last_in xs (leaf_name p) (sym last ∙ ap (option_map leaf_name) (in_listed previous p k)))
    | inr k ↦ absurd k
  ]
]
