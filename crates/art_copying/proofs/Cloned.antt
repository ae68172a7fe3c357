-- What is stated of a clone, from the copy of a canonical tree.
use Rattle.std.proofs.Common.{ℕ, List, [], Some, None, Result, IfOk, refl, sym, subst}
use Rattle.std.proofs.lemmas.Result.{IfOk-weaker}
use Rattle.art_model.specs.Prelude.{IsPairClone, leaf_name, Nodes, OpaqueNodePtr, KeepsApart, IsCanonical, IsCanonicalTree, AreClones, KeepsOthers, names_of, HasFirstLeaf, HasLastLeaf, of_key, HaveChildren, pairs_of, ForTree, IsCanonicalRoot, IsFullTree, Tree}
use Rattle.art_parts.specs.Keys.{KeepBytes}
use Rattle.art_model.proofs.stores.Apart.{tree_apart}
use Rattle.art_model.proofs.radix.Copies.{copied_tree}
use Rattle.art_model.proofs.stores.Gains.{came_others}
use Rattle.art_model.proofs.leaves.LeafEnds.{first_is_there, last_is_there}
use Rattle.art_model.proofs.stores.StoreLaws.{has_children, has_one_map}
use Rattle.art_copying.specs.declared.clone.CloneResult.{CloneResult}
use Rattle.art_copying.specs.Cloned.{IsCopied}

module _ {K V : Type 0} (bytes : K → List _) (P : _) (is_key_clone : K → K → Type 0) (is_value_clone : V → V → Type 0)
    (keep : KeepBytes bytes is_key_clone) {s old new : Nodes K V} {root : OpaqueNodePtr} {pairs : List (K × V)}
    {layout : Tree OpaqueNodePtr (K × V)} {done : CloneResult}
    (is : IsCanonicalTree (of_key bytes) P s root pairs layout) (copied : IsCopied (IsPairClone is_key_clone is_value_clone) layout old new done) where
  -- the copy is canonical for clones of the pairs
  cloned_tree : AreClones is_key_clone is_value_clone pairs (pairs_of copied.copy) ×
      IsCanonicalTree (of_key bytes) P new done.root (pairs_of copied.copy) copied.copy
  cloned_tree =
      let (clones, tree) =
      copied_tree (IsPairClone is_key_clone is_value_clone) (of_key bytes) P
      (λ x y h. keep x.0 y.0 h.0) copied.copy is copied.same copied.gains in
      (clones, subst (λ n. IsCanonicalTree (of_key bytes) P new n (pairs_of copied.copy) copied.copy) copied.named tree)

  pub cloned_canonical : (copies : List (K × V)) × AreClones is_key_clone is_value_clone pairs copies × IsCanonical (of_key bytes) P new (Some done.root) copies
  cloned_canonical = (pairs_of copied.copy, cloned_tree.0, (copied.copy, cloned_tree.1))

  -- what holds of the copy holds of whatever tree has the root
  of_copy : (Q : Tree OpaqueNodePtr (K × V) → Type 0) → Q copied.copy → ForTree (of_key bytes) P new done.root (λ _ copy. Q copy)
  of_copy Q holds copies copy one =
      subst Q (sym (has_one_map (of_key bytes) P new done.root (pairs_of copied.copy) copies copied.copy copy cloned_tree.1 one).1) holds

  cloned_others : ForTree (of_key bytes) P new done.root (λ _ copy. KeepsOthers old new [] (names_of copy))
  cloned_others = of_copy (λ z. KeepsOthers old new [] (names_of z)) (came_others copied.gains.holds copied.gains.added)

  cloned_apart : KeepsApart (of_key bytes) P old new None (Some done.root)
  cloned_apart = tree_apart (of_key bytes) P old new None (Some done.root) [] (pairs_of copied.copy) None
      (Some copied.copy) refl cloned_tree.1 (came_others copied.gains.holds copied.gains.added)

  full_copy : HaveChildren 1 copied.copy
  full_copy = (has_children (of_key bytes) P new done.root (pairs_of copied.copy) copied.copy cloned_tree.1).1

  cloned_first : ForTree (of_key bytes) P new done.root (λ _ copy. HasFirstLeaf copy (leaf_name done.min_leaf))
  cloned_first = of_copy (λ z. HasFirstLeaf z (leaf_name done.min_leaf)) (first_is_there copied.copy (leaf_name done.min_leaf) full_copy copied.first)

  cloned_last : ForTree (of_key bytes) P new done.root (λ _ copy. HasLastLeaf copy (leaf_name done.max_leaf))
  cloned_last = of_copy (λ z. HasLastLeaf z (leaf_name done.max_leaf)) (last_is_there copied.copy (leaf_name done.max_leaf) full_copy copied.last)

-- what holds where a tree is copied holds where that of a root is
pub each_copied : {K V E : Type 0} {bytes : K × V → List ℕ} {P : ℕ} {IsClone : K × V → K × V → Type 0} {s old new : Nodes K V} {root : OpaqueNodePtr}
    {pairs : List (K × V)} {layout : Tree OpaqueNodePtr (K × V)} (result : Result CloneResult E) {Q : CloneResult → Type 0} →
    IsCanonicalTree bytes P s root pairs layout →
    ((tree : Tree OpaqueNodePtr (K × V)) → IsFullTree s root tree → IfOk result (IsCopied IsClone tree old new)) →
    ((done : CloneResult) → IsCopied IsClone layout old new done → Q done) → IfOk result Q
each_copied {bytes = bytes} {P} {IsClone} {s} {old} {new} {root} {pairs} {layout} result {Q} is copied then =
    IfOk-weaker result (IsCopied IsClone layout old new) Q then (copied layout (has_children bytes P s root pairs layout is))

-- what a clone returns, as it returns the copy of each tree of its root
module _ {K V E : Type 0} (bytes : K → List _) (P : _) (is_key_clone : K → K → Type 0) (is_value_clone : V → V → Type 0) (keep : KeepBytes bytes is_key_clone)
    {s : Nodes K V} (old new : Nodes K V) {root : OpaqueNodePtr} (result : Result CloneResult E) (canonical : IsCanonicalRoot (of_key bytes) P s root)
    (copied : (tree : Tree OpaqueNodePtr (K × V)) → IsFullTree s root tree →
    IfOk result (IsCopied (IsPairClone is_key_clone is_value_clone) tree old new)) where
  pub others_kept : IfOk result (λ done. ForTree (of_key bytes) P new done.root (λ _ copy. KeepsOthers old new [] (names_of copy)))
  others_kept = let (pairs, layout, is) = canonical in each_copied result is copied (λ done one. cloned_others bytes P is_key_clone is_value_clone keep is one)

  pub apart_kept : IfOk result (λ done. KeepsApart (of_key bytes) P old new None (Some done.root))
  apart_kept = let (pairs, layout, is) = canonical in each_copied result is copied (λ done one. cloned_apart bytes P is_key_clone is_value_clone keep is one)

  pub first_named : IfOk result (λ done. ForTree (of_key bytes) P new done.root (λ _ copy. HasFirstLeaf copy (leaf_name done.min_leaf)))
  first_named = let (pairs, layout, is) = canonical in each_copied result is copied (λ done one. cloned_first bytes P is_key_clone is_value_clone keep is one)

  pub last_named : IfOk result (λ done. ForTree (of_key bytes) P new done.root (λ _ copy. HasLastLeaf copy (leaf_name done.max_leaf)))
  last_named = let (pairs, layout, is) = canonical in each_copied result is copied (λ done one. cloned_last bytes P is_key_clone is_value_clone keep is one)
