-- The only leaf of a tree is removed, from the equations of the store's maps.
use Rattle.std.proofs.Common.{◌≡◌, ℕ, List, [], ◌∷◌, ◌++◌, Option, Some, None, refl, ap₂, sym, subst, arith, inr, option_map}
use Rattle.art_model.specs.Prelude.{leaf_name, Nodes, LeafPtr, LeafNode, OpaqueNodePtr, leaf, node_at, links_at, pair_of, ChangesInPlace, TouchesAtMost}
use Rattle.art_model.proofs.stores.Canonical.{IsLaidOut}
use Rattle.art_model.proofs.changes.InPlace.{in_place}
use Rattle.art_model.proofs.stores.Touches.{Touched, footprint_of, touches_at_most, touched_none}
use Rattle.art_model.proofs.leaves.Leaves.{listed}
use Rattle.art_model.proofs.leaves.Placed.{LeafTaken, taken_touched}
use Rattle.art_model.proofs.leaves.Taken.{previous_is, next_is}

nothing_beside : (o : Option LeafPtr) → option_map leaf_name o ≡ None → listed o ≡ []
nothing_beside None e = refl
nothing_beside (Some p) e = absurd cc

module _ {K V : Type 0} {bytes : K × V → List ℕ} {P : ℕ} {s t : Nodes K V} {root : OpaqueNodePtr} {pairs : List (K × V)} {n : LeafPtr} {x : LeafNode K V}
    (old : IsLaidOut bytes P (node_at s) (links_at s) root pairs (leaf (leaf_name n) (pair_of x)))
    (taken : LeafTaken s t (leaf (leaf_name n) (pair_of x)) [] [] n x) (inners : t.inners ≡ s.inners) where
  touched_leaves : Touched s.leaves t.leaves [] (n ∷ []) []
  touched_leaves =
      subst (Touched s.leaves t.leaves [] (n ∷ [])) (ap₂ (λ (a b : List LeafPtr). a ++ (b ++ []))
      (nothing_beside x.next (next_is old.holds old.linked taken.among)) (nothing_beside x.previous (previous_is old.holds old.linked taken.among)))
      (taken_touched old.holds old.distinct old.linked taken)

  touched_inners : Touched s.inners t.inners [] [] []
  touched_inners = subst (λ z. Touched s.inners z [] [] []) (sym inners) (touched_none s.inners)

  -- one name is freed
  pub emptied_touches : TouchesAtMost 0 1 0 s t
  emptied_touches = touches_at_most s t 0 1 0 touched_leaves touched_inners tt tt tt (omega arith) (omega arith) (omega arith)

  -- and what is outside the tree stays
  pub emptied_in_place : ChangesInPlace bytes s t (Some (leaf (leaf_name n) (pair_of x))) None
  emptied_in_place = in_place (footprint_of s t touched_leaves touched_inners tt tt tt) P
      (record {
        placed_in = λ k i. absurd i;
        freed_in = λ k i. i;
        changed_in = λ k i. absurd i;
        old_stays = λ k i. inr i;
        new_comes = λ k i. absurd i;
      }) (λ e f i j. absurd j) (λ e f i j. absurd j)
