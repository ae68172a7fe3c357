-- What the pairs of sound states decide.
use Rattle.std.proofs.Common.{◌≡◌, ℕ, List, [], refl, ap, sym, ◌∙◌, subst, Option, Some, None, option_map}
use Rattle.art_model.specs.Prelude.{Nodes, OpaqueNodePtr, IsCanonicalTree, name_of, of_key, pairs_of, unmarked, IsRootOf, Tree, tree_of}
use Rattle.art_model.proofs.stores.StoreLaws.{have_same_tree}
use Rattle.art_running.specs.Steps.{pairs_in}

module _ {K V : Type 0} (bytes : K → List ℕ) (P : ℕ) (s z : Nodes K V) where
  -- a tree has pairs
  has_pairs : (t : Nodes K V) (root : OpaqueNodePtr) (layout : Tree OpaqueNodePtr (K × V)) →
      IsCanonicalTree (of_key bytes) P t root (pairs_of layout) layout → pairs_of layout ≡ [] → ⊥
  has_pairs t root layout by none =
      let built = sym by.is_tree ∙ ap (λ xs. tree_of (of_key bytes) xs P 0) none in absurd cc

  -- the pairs of a tree, or of none, decide it up to names
  pub same_pairs_same_tree : (one other : Option (Tree OpaqueNodePtr (K × V))) →
      IsRootOf (of_key bytes) P s (option_map name_of one) (pairs_in one) one →
      IsRootOf (of_key bytes) P z (option_map name_of other) (pairs_in other) other →
      pairs_in other ≡ pairs_in one → option_map unmarked other ≡ option_map unmarked one
  same_pairs_same_tree None None is are same = refl
  same_pairs_same_tree None (Some u) is are same = absurd (has_pairs z (name_of u) u are same)
  same_pairs_same_tree (Some t) None is are same = absurd (has_pairs s (name_of t) t is (sym same))
  same_pairs_same_tree (Some t) (Some u) is are same =
      ap Some (have_same_tree (of_key bytes) P s z (name_of t) (name_of u) (pairs_of t) t u is
      (subst (λ pairs. IsCanonicalTree (of_key bytes) P z (name_of u) pairs u) same are))
