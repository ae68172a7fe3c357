-- A leaf is placed among those of a layout, or removed from them: from the equation of the store's leaves to the chain, the pairs and what is touched.
use Rattle.std.proofs.Common.{◌≡◌, ◌≢◌, List, [], ◌∷◌, ◌++◌, Some, None, refl, ap, sym, ◌∙◌, subst, append_assoc, inl, option_map}
use Rattle.std.specs.FinMap.{get}
use Rattle.art_model.specs.Prelude.{leaf_name, Nodes, LeafPtr, LeafNode, OpaqueNodePtr, Tree, leaf_node, leaf_names, Holds, AreDistinct, AreLinked, names_of, first_or, last_or, node_at, links_at, pair_of, IsThere, with_leaf, without_leaf, IsIn}
use Rattle.art_model.proofs.lists.Lists.{in_right}
use Rattle.art_model.proofs.stores.Names.{apart_in, taken_distinct, taken_in, takes_leaves}
use Rattle.art_model.proofs.leaves.Links.{Relinked, last_in, first_in}
use Rattle.art_model.proofs.stores.Touches.{Touched}
use Rattle.art_model.proofs.leaves.Leaves.{listed, with_leaf_here, with_leaf_pair, without_leaf_pair, touched_with_leaf, touched_without_leaf}
use Rattle.art_model.proofs.stores.Writes.{node_at-leaf}
use Rattle.art_model.proofs.leaves.Chains.{AreThere, are_there, beside_place, previous_there, next_there, leaf_comes, leaf_goes, relinked_beside}
use Rattle.art_model.proofs.leaves.Taken.{LeafAmong, previous_is, next_is, before_there, after_there}

-- A leaf is placed between those of `xs` and those of `zs`, which are all of the layout's.
pub record LeafPlaced {K V : Type 0} (s t : Nodes K V) (layout : Tree OpaqueNodePtr (K × V)) (xs zs : List OpaqueNodePtr) (n : LeafPtr)
    (x : LeafNode K V) : Type 0 where
  pub list : leaf_names layout ≡ xs ++ zs
  pub last : option_map leaf_name x.previous ≡ last_or xs None
  pub first : option_map leaf_name x.next ≡ first_or zs None
  pub fresh : get s.leaves n ≡ None
  pub leaves : t.leaves ≡ with_leaf s.leaves n x

-- A leaf is removed from between those of `xs` and those of `zs`.
pub record LeafTaken {K V : Type 0} (s t : Nodes K V) (layout : Tree OpaqueNodePtr (K × V)) (xs zs : List OpaqueNodePtr) (n : LeafPtr)
    (x : LeafNode K V) : Type 0 where
  pub among : LeafAmong s layout xs zs n x
  pub leaves : t.leaves ≡ without_leaf s.leaves n x

module _ {K V : Type 0} {s t : Nodes K V} {layout : Tree OpaqueNodePtr (K × V)} {xs zs : List OpaqueNodePtr} {n : LeafPtr} {x : LeafNode K V}
    (holds : Holds (node_at s) layout) (distinct : AreDistinct (names_of layout)) where
  module _ (is : LeafPlaced s t layout xs zs n x) where
    others_there : AreThere s (xs ++ zs)
    others_there = subst (AreThere s) is.list (are_there s layout holds)

    -- its neighbours were in the store
    placed_after : IsThere s.leaves x.previous
    placed_after = previous_there s xs zs x.previous others_there is.last

    placed_before : IsThere s.leaves x.next
    placed_before = next_there s xs zs x.next others_there is.first

    -- its name was free, and it has its pair
    pub placed_was_free : node_at s (leaf_name n) ≡ None
    placed_was_free = node_at-leaf s n ∙ ap (λ o. option_map leaf_node (option_map pair_of o)) is.fresh

    pub placed_node : node_at t (leaf_name n) ≡ Some (leaf_node (pair_of x))
    placed_node =
        node_at-leaf t n ∙ ap (λ o. option_map leaf_node (option_map pair_of o))
        (ap (λ z. get z n) is.leaves ∙ with_leaf_here s.leaves n x (λ e. placed_after n e is.fresh) (λ e. placed_before n e is.fresh))

    -- leaves in the store keep their pairs
    pub placed_pairs : (p : LeafPtr) → get s.leaves p ≢ None → option_map pair_of (get t.leaves p) ≡ option_map pair_of (get s.leaves p)
    placed_pairs p used = ap (λ z. option_map pair_of (get z p)) is.leaves ∙ with_leaf_pair s.leaves n x p (λ e. used (ap (get s.leaves) e ∙ is.fresh))

    -- they are a chain
    pub placed_relinked : Relinked (links_at s) (links_at t) xs (leaf_name n ∷ []) zs
    placed_relinked =
        relinked_beside (leaf_comes s t xs zs n x
        (subst AreDistinct is.list (taken_distinct takes_leaves layout distinct)) others_there is.fresh is.last is.first
        (λ p i. ap (λ z. get z p) is.leaves))

    -- its neighbours have names of the layout
    pub placed_beside : (p : LeafPtr) → IsIn p (listed x.next ++ (listed x.previous ++ [])) → IsIn (leaf_name p) (names_of layout)
    placed_beside p i =
        taken_in takes_leaves layout (leaf_name p)
        (subst (IsIn (leaf_name p)) (sym is.list) (beside_place xs zs x.next x.previous is.first is.last p i))

    -- and at most they are changed
    pub placed_touched : Touched s.leaves t.leaves (n ∷ []) [] (listed x.next ++ (listed x.previous ++ []))
    placed_touched = subst (λ z. Touched s.leaves z (n ∷ []) [] (listed x.next ++ (listed x.previous ++ []))) (sym is.leaves)
        (touched_with_leaf s.leaves n x placed_after placed_before is.fresh)

  module _ (linked : AreLinked (links_at s) None (leaf_names layout) None) (is : LeafTaken s t layout xs zs n x) where
    list_distinct : AreDistinct (xs ++ leaf_name n ∷ zs)
    list_distinct = subst AreDistinct is.among.list (taken_distinct takes_leaves layout distinct)

    -- other leaves keep their pairs
    pub taken_pairs : (p : LeafPtr) → p ≢ n → option_map pair_of (get t.leaves p) ≡ option_map pair_of (get s.leaves p)
    taken_pairs p off = ap (λ z. option_map pair_of (get z p)) is.leaves ∙ without_leaf_pair s.leaves n x p off

    -- they are a chain
    pub taken_relinked : Relinked (links_at s) (links_at t) xs [] zs
    taken_relinked = relinked_beside (leaf_goes s t xs zs n x list_distinct (previous_is holds linked is.among)
        (next_is holds linked is.among) (λ p i. ap (λ z. get z p) is.leaves))

    -- and at most its neighbours are changed
    pub taken_touched : Touched s.leaves t.leaves [] (n ∷ []) (listed x.next ++ (listed x.previous ++ []))
    taken_touched = subst (λ z. Touched s.leaves z [] (n ∷ []) (listed x.next ++ (listed x.previous ++ []))) (sym is.leaves)
        (touched_without_leaf s.leaves n x (before_there holds linked is.among) (after_there holds linked is.among)
        (λ e. absurd (let here = is.among.here in cc))
        (λ e. apart_in xs (leaf_name n ∷ zs) (leaf_name n) list_distinct
        (last_in xs (leaf_name n) (sym (previous_is holds linked is.among) ∙ ap (option_map leaf_name) e)) (inl refl))
        (λ e. apart_in (xs ++ leaf_name n ∷ []) zs (leaf_name n) (subst AreDistinct (sym (append_assoc xs (leaf_name n ∷ []) zs)) list_distinct)
        (in_right (leaf_name n) xs (leaf_name n ∷ []) (inl refl))
        (first_in zs (leaf_name n) (sym (next_is holds linked is.among) ∙ ap (option_map leaf_name) e))))
