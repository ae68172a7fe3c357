-- What is read off a leaf that a search names.
use Rattle.std.proofs.Common.{◌≡◌, ℕ, ◌-◌, List, refl, ap, sym, ◌∙◌, subst, Option, Some, None, IsSome, is_some, option_copied, Bor, option_map}
use Rattle.std.specs.FinMap.{get}
use Rattle.art_model.specs.Prelude.{leaf_name, Nodes, LeafPtr, OpaqueNodePtr, IsCanonicalTree, are_same, HasFirstLeaf, HasLastLeaf, first_of, last_of, of_key, has_key, with_key, ForTree, pair_of, Tree, leaf}
use Rattle.art_model.proofs.stores.Canonical.{tree_radix}
use Rattle.art_model.proofs.leaves.LeavesFound.{leaf_found}
use Rattle.art_model.proofs.pairs.Puts.{any_is_first}
use Rattle.art_model.proofs.stores.StoreLaws.{has_one_map}
use Rattle.art_changing.specs.MapAnswers.{value_at}
use Rattle.art_map.specs.MapChanges.{NamesPair}
use Rattle.art_changing.specs.MapPairs.{HoldsPairs, pairs_at}
use Rattle.art_changing.proofs.MapPuts.{at_some, is_some-map}

module _ {K V : Type 0} (bytes : K → List ℕ) (P : ℕ) {s : Nodes K V} {name : OpaqueNodePtr} where
  -- the first leaf of a tree has the first pair, and the last leaf the last one
  pub first_named : {pairs : List (K × V)} {layout : Tree OpaqueNodePtr (K × V)} (p : LeafPtr) → IsCanonicalTree (of_key bytes) P s name pairs layout →
      HasFirstLeaf layout (leaf_name p) → NamesPair layout (first_of pairs) p
  first_named p by first = (first.pair, sym (ap first_of (tree_radix by).1) ∙ first.pair_is, first.has)

  pub last_named : {pairs : List (K × V)} {layout : Tree OpaqueNodePtr (K × V)} (p : LeafPtr) → IsCanonicalTree (of_key bytes) P s name pairs layout →
      HasLastLeaf layout (leaf_name p) → NamesPair layout (last_of pairs) p
  last_named p by last = (last.pair, sym (ap last_of (tree_radix by).1) ∙ last.pair_is, last.has)

  module _ {root : Option OpaqueNodePtr} {len : ℕ} {p : LeafPtr} (e : root ≡ Some name) (is : HoldsPairs (of_key bytes) P s root len (pairs_at s root)) where
    module _ (wanted : List (K × V) → Option (K × V)) (named : ForTree (of_key bytes) P s name (λ pairs layout. NamesPair layout (wanted pairs) p)) where
      -- the leaf of the pair is in the store
      pub named_there : IsSome (get s.leaves p)
      named_there =
          let has = at_some e is in
          let (x, some, has_leaf) = named (pairs_at s root) has.layout has.by in
          let (node, there, its) = leaf_found (of_key bytes) P has.by has_leaf in
          rw there refl

      -- and has the pair
      pub named_pair : {y : K × V} {before : List (K × V)} → option_map pair_of (get s.leaves p) ≡ Some y → pairs_at s root ≡ before → Some y ≡ wanted before
      named_pair read view =
          let has = at_some e is in
          let (x, some, has_leaf) = named (pairs_at s root) has.layout has.by in
          let (node, there, its) = leaf_found (of_key bytes) P has.by has_leaf in
          sym read ∙ ap (option_map pair_of) there ∙ ap Some its ∙ sym some ∙ ap wanted view

  module _ {root : Option OpaqueNodePtr} {len : ℕ} (e : root ≡ Some name) (is : HoldsPairs (of_key bytes) P s root len (pairs_at s root)) where
    -- what holds of the map's pairs holds of its tree's
    pub tree_has : (Q : List (K × V) → Type 0) {before : List (K × V)} → pairs_at s root ≡ before → Q before →
        ForTree (of_key bytes) P s name (λ pairs _. Q pairs)
    tree_has Q view holds pairs layout by =
        let has = at_some e is in
        let same = has_one_map _ _ _ _ _ _ layout has.layout by has.by in
        subst Q (sym (sym same.0 ∙ view)) holds

    -- a search finds the pair that is wanted, or nothing if there is none
    pub found_in : (wanted : List (K × V) → Option (K × V)) {found : Option (K × V)} → ForTree (of_key bytes) P s name (λ pairs _. found ≡ wanted pairs) →
        {before : List (K × V)} → pairs_at s root ≡ before → found ≡ wanted before
    found_in wanted read view = let has = at_some e is in read (pairs_at s root) has.layout has.by ∙ ap wanted view

-- a value is found exactly if the key is stored
pub value_stored : {K V : Type 0} (bytes : K → List ℕ) (key : List ℕ) (pairs : List (K × V)) →
    is_some (value_at bytes key pairs) ≡ has_key (of_key bytes) key pairs
value_stored bytes key pairs = is_some-map (λ x. x.1) (first_of (with_key (of_key bytes) key pairs)) ∙ sym (any_is_first (λ x. are_same key (bytes x.0)) pairs)

-- a borrow exists exactly where its item does
pub copied_some : {A : Type 0} (o : Option (Bor A)) → is_some o ≡ is_some (option_copied o)
copied_some None = refl
copied_some (Some x) = refl
