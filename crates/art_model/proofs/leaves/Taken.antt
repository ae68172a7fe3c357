-- A leaf among those of a layout, before it is removed: its neighbours.
use Rattle.std.proofs.Common.{◌≡◌, List, [], ◌∷◌, ◌++◌, ℕ, arith, Option, Some, None, refl, ap, sym, ◌∙◌, subst, append_assoc, inl, inr, option_map}
use Rattle.std.specs.FinMap.{get}
use Rattle.art_model.specs.Prelude.{leaf_name, Nodes, LeafPtr, LeafNode, OpaqueNodePtr, Tree, leaf, inner, Subtrees, child, no_child, IsRadix, pairs_of, pairs_below, Links, leaf_names, leaf_names_below, names_of, Holds, HoldsBelow, AreLinked, first_or, last_or, node_at, links_at, pair_of, IsThere, IsIn}
use Rattle.art_model.proofs.lists.Lists.{in_left, in_right, in_either, in_around}
use Rattle.art_model.proofs.stores.Names.{taken_in, takes_leaves}
use Rattle.art_model.proofs.leaves.Links.{link_of}
use Rattle.art_model.proofs.stores.Views.{leaf_there}
use Rattle.art_model.proofs.leaves.Leaves.{listed}
use Rattle.art_model.proofs.leaves.Chains.{AreThere, are_there, beside_place, links_leaf, previous_there, next_there}

module _ {K V : Type 0} (s : Nodes K V) where
  mutual
    -- a leaf of a layout is in the store, with one of the layout's pairs
    pub leaf_at : (t : Tree OpaqueNodePtr (K × V)) → Holds (node_at s) t → (p : LeafPtr) → IsIn (leaf_name p) (leaf_names t) → (y : LeafNode K V) ×
        (get s.leaves p ≡ Some y) × IsIn (pair_of y) (pairs_of t)
    leaf_at (leaf k x) h p (inl e) = let (y, got, same) = leaf_there s p x (ap (node_at s) (sym e) ∙ h) in (y, got, inl (sym same))
    leaf_at (leaf k x) h p (inr i) = absurd i
    leaf_at (inner k head cs) holds p i = leaf_below cs holds.1 p i

    leaf_below : (cs : Subtrees OpaqueNodePtr (K × V)) → HoldsBelow (node_at s) cs → (p : LeafPtr) → IsIn (leaf_name p) (leaf_names_below cs) →
        (y : LeafNode K V) × (get s.leaves p ≡ Some y) × IsIn (pair_of y) (pairs_below cs)
    leaf_below no_child h p i = absurd i
    leaf_below (child b t cs) h p i = elim (in_either (leaf_name p) (leaf_names t) (leaf_names_below cs) i) [
      | inl j ↦ let (y, got, among) = leaf_at t h.0 p j in (y, got, in_left (pair_of y) (pairs_of t) (pairs_below cs) among)
      | inr j ↦ let (y, got, among) = leaf_below cs h.1 p j in (y, got, in_right (pair_of y) (pairs_of t) (pairs_below cs) among)
    ]

-- a radix tree has leaves
pub some_leaf_name : {N A : Type 0} (bytes : A → List ℕ) (P : ℕ) (t : Tree N A) (place : List ℕ) → IsRadix bytes P place t →
    (k : N) × (ks : List N) × (leaf_names t ≡ k ∷ ks)
some_leaf_name bytes P (leaf n x) place h = (n, [], refl)
some_leaf_name bytes P (inner n head no_child) place (part, e, two, up, below) = absurd (omega arith)
some_leaf_name bytes P (inner n head (child b t cs)) place (part, e, two, up, below) =
    let (k, ks, is) = some_leaf_name bytes P t ((place ++ part) ++ b ∷ []) below.0 in
    (k, ks ++ leaf_names_below cs, ap (λ z. z ++ leaf_names_below cs) is)

-- the last of some names is one of them
pub last_of_some : {N : Type 0} (k : N) (ks : List N) (o : Option N) → (j : N) × (last_or (k ∷ ks) o ≡ Some j) × IsIn j (k ∷ ks)
last_of_some k [] o = (k, refl, inl refl)
last_of_some k (l ∷ ks) o = let (j, e, i) = last_of_some l ks (Some k) in (j, e, inr i)

-- The leaf is between those of `xs` and those of `zs`, which with it are all of the layout's.
pub record LeafAmong {K V : Type 0} (s : Nodes K V) (layout : Tree OpaqueNodePtr (K × V)) (xs zs : List OpaqueNodePtr) (n : LeafPtr)
    (x : LeafNode K V) : Type 0 where
  pub list : leaf_names layout ≡ xs ++ leaf_name n ∷ zs
  pub here : get s.leaves n ≡ Some x

module _ {K V : Type 0} {s : Nodes K V} {layout : Tree OpaqueNodePtr (K × V)} {xs zs : List OpaqueNodePtr} {n : LeafPtr} {x : LeafNode K V}
    (holds : Holds (node_at s) layout) (linked : AreLinked (links_at s) None (leaf_names layout) None) (is : LeafAmong s layout xs zs n x) where
  own : ◌≡◌ {A = Links OpaqueNodePtr} (record { previous = option_map leaf_name x.previous; next = option_map leaf_name x.next })
      (record { previous = last_or xs None; next = first_or zs None })
  own = let e = sym (links_leaf s n (Some x) is.here)
      ∙ link_of (links_at s) xs zs (leaf_name n) None None (subst (λ ks. AreLinked (links_at s) None ks None) is.list linked) in cc

  -- the leaf before it is the last of those before
  pub previous_is : option_map leaf_name x.previous ≡ last_or xs None
  previous_is = ap (λ z. z.previous) own

  -- and the one after it the first of those after
  pub next_is : option_map leaf_name x.next ≡ first_or zs None
  next_is = ap (λ z. z.next) own

  others_in : (k : OpaqueNodePtr) → IsIn k (xs ++ zs) → IsIn k (leaf_names layout)
  others_in k i = subst (IsIn k) (sym is.list) (subst (IsIn k) (append_assoc xs (leaf_name n ∷ []) zs) (in_around k xs (leaf_name n ∷ []) zs i))

  others_there : AreThere s (xs ++ zs)
  others_there p i = are_there s layout holds p (others_in (leaf_name p) i)

  -- both are in the store
  pub before_there : IsThere s.leaves x.previous
  before_there = previous_there s xs zs x.previous others_there previous_is

  pub after_there : IsThere s.leaves x.next
  after_there = next_there s xs zs x.next others_there next_is

  -- and have names of the layout
  pub beside_in : (p : LeafPtr) → IsIn p (listed x.next ++ (listed x.previous ++ [])) → IsIn (leaf_name p) (names_of layout)
  beside_in p i = taken_in takes_leaves layout (leaf_name p) (others_in (leaf_name p) (beside_place xs zs x.next x.previous next_is previous_is p i))
