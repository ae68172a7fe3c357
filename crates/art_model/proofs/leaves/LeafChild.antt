-- A leaf among the children of a node: the names of the node with it and without it.
use Rattle.std.proofs.Common.{◌≡◌, ℕ, [], ◌∷◌, sym, subst, ◌⊎◌, inl, inr}
use Rattle.art_model.specs.Prelude.{leaf, inner, Subtrees, child, NodeHeader, join, names_of, names_below, IsIn}
use Rattle.art_model.proofs.changes.InPlace.{AreNames}
use Rattle.art_model.proofs.lists.Lists.{in_left, in_right, in_either}
use Rattle.art_model.proofs.places.Paths.{names_below-join}

module _ {N A : Type 0} (l r : Subtrees N A) (b : ℕ) (n : N) (x : A) where
  -- the leaf's name is one of those below the node
  pub leaf_below : (k : N) → n ≡ k → IsIn k (names_below (join l (child b (leaf n x) r)))
  leaf_below k e = subst (IsIn k) (sym (names_below-join l (child b (leaf n x) r))) (in_right k (names_below l) (n ∷ names_below r) (inl e))

  -- and so are the others
  pub others_below : (k : N) → IsIn k (names_below (join l r)) → IsIn k (names_below (join l (child b (leaf n x) r)))
  others_below k i = subst (IsIn k) (sym (names_below-join l (child b (leaf n x) r)))
      (elim (in_either k (names_below l) (names_below r) (subst (IsIn k) (names_below-join l r) i)) [
        | inl j ↦ in_left k (names_below l) (n ∷ names_below r) j
        | inr j ↦ in_right k (names_below l) (n ∷ names_below r) (inr j)
      ])

  -- there is no third
  pub leaf_or_other : (k : N) → IsIn k (names_below (join l (child b (leaf n x) r))) → IsIn k (names_below (join l r)) ⊎ (n ≡ k)
  leaf_or_other k i = elim (in_either k (names_below l) (n ∷ names_below r) (subst (IsIn k) (names_below-join l (child b (leaf n x) r)) i)) [
    | inl j ↦ inl (subst (IsIn k) (sym (names_below-join l r)) (in_left k (names_below l) (names_below r) j))
    | inr (inl e) ↦ inr e
    | inr (inr j) ↦ inl (subst (IsIn k) (sym (names_below-join l r)) (in_right k (names_below l) (names_below r) j))
  ]

  -- the leaf is added
  pub names_with_leaf : (m : N) (h g : NodeHeader) →
      AreNames (names_of (inner m h (join l r))) (names_of (inner m g (join l (child b (leaf n x) r)))) (n ∷ []) [] []
  names_with_leaf m h g = record {
    placed_in = λ k i. elim i [ inl e ↦ inr (leaf_below k e) | inr j ↦ absurd j ];
    freed_in = λ k i. absurd i;
    changed_in = λ k i. absurd i;
    old_stays = λ k i. elim i [ inl e ↦ inl (inl e) | inr j ↦ inl (inr (others_below k j)) ];
    new_comes = λ k i. elim i [ inl e ↦ inl (inl e) | inr j ↦ elim (leaf_or_other k j) [ inl o ↦ inl (inr o) | inr e ↦ inr (inl e) ] ];
  }

  -- the leaf is added, and another node replaces the one above it
  pub names_with_both : (m node : N) (h g : NodeHeader) →
      AreNames (names_of (inner m h (join l r))) (names_of (inner node g (join l (child b (leaf n x) r)))) (n ∷ node ∷ []) (m ∷ []) []
  names_with_both m node h g = record {
    placed_in = λ k i. elim i [ inl e ↦ inr (leaf_below k e) | inr (inl e) ↦ inl e | inr (inr j) ↦ absurd j ];
    freed_in = λ k i. elim i [ inl e ↦ inl e | inr j ↦ absurd j ];
    changed_in = λ k i. absurd i;
    old_stays = λ k i. elim i [ inl e ↦ inr (inl e) | inr j ↦ inl (inr (others_below k j)) ];
    new_comes = λ k i. elim i [ inl e ↦ inr (inr (inl e)) | inr j ↦ elim (leaf_or_other k j) [ inl o ↦ inl (inr o) | inr e ↦ inr (inl e) ] ];
  }
