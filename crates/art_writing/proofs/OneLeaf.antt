-- A tree of one leaf, where there was no tree.
use Rattle.std.proofs.Common.{◌≡◌, ℕ, List, [], ◌∷◌, refl, ap, sym, ◌∙◌, subst, Some, None, inr, option_map, option_and_then}
use Rattle.std.specs.FinMap.{get, insert}
use Rattle.art_model.specs.Prelude.{leaf_name, Nodes, take_leaf, LeafNode, LeafPtr, Leaf, IsCanonicalTree, ChangesInPlace, of_key, IsCanonicalRoot, held_leaf, tree_node, links_of, leaf, KeepsApart}
use Rattle.art_parts.proofs.NameLemmas.{leaf_cmp_total, leaf_cmp-IsAntisymmetric}
use Rattle.art_nodes.proofs.StoreChanges.{leaf_here}
use Rattle.art_model.proofs.stores.Apart.{tree_apart}
use Rattle.art_model.proofs.stores.Canonical.{canonical_from}
use Rattle.art_model.proofs.changes.InPlace.{others_kept}
use Rattle.art_model.proofs.stores.Touches.{Touched, touched_none, then_placed, footprint_of}
use Rattle.art_writing.specs.Inserted.{unlinked_leaf}
use Rattle.art_writing.specs.ParentWrites.{IsPlanted}

-- a leaf without siblings that is placed begins a tree
pub placed_alone : {K V : Type 0} (s : Nodes K V) {t : Nodes K V} {n : LeafPtr} {x : K × V} {made : LeafNode K V} → get s.leaves n ≡ None →
    t.leaves ≡ insert s.leaves n made →
    t.inners ≡ s.inners → t.promise ≡ take_leaf s.promise → made ≡ unlinked_leaf x → IsPlanted s t n x
placed_alone s {n = n} fresh placed inners promise is =
    record { fresh = fresh; leaves = placed ∙ ap (insert s.leaves n) is; inners = inners; promise = promise }

module _ {K V : Type 0} (bytes : K → List ℕ) (P : ℕ) {s t : Nodes K V} {n : LeafPtr} {x : K × V} (is : IsPlanted s t n x) where
  there : get t.leaves n ≡ Some (unlinked_leaf x)
  there = ap (λ m. get m n) is.leaves ∙ leaf_here s.leaves n (unlinked_leaf x)

  -- the leaf is the canonical tree of its pair
  pub planted : IsCanonicalTree (of_key bytes) P t (leaf_name n) (x ∷ []) (leaf (leaf_name n) x)
  planted = canonical_from (record {
    named = refl;
    radix = (bytes x.0, refl);
    pairs_are = refl;
    holds = ap (λ o. option_map (tree_node Leaf) (option_map held_leaf o)) there;
    distinct = (tt, tt);
    linked = (ap (λ o. option_and_then links_of (option_map held_leaf o)) there, tt);
  })

  pub planted_root : IsCanonicalRoot (of_key bytes) P t (leaf_name n)
  planted_root = (x ∷ [], leaf (leaf_name n) x, planted)

  -- one leaf is new, and nothing else
  pub leaves_touched : Touched s.leaves t.leaves (n ∷ []) [] []
  leaves_touched = subst (λ m. Touched s.leaves m (n ∷ []) [] []) (sym is.leaves)
      (then_placed leaf_cmp_total leaf_cmp-IsAntisymmetric (touched_none s.leaves) n (unlinked_leaf x) is.fresh (λ i. i))

  pub inners_touched : Touched s.inners t.inners [] [] []
  inners_touched = subst (λ m. Touched s.inners m [] [] []) (sym is.inners) (touched_none s.inners)

  -- every other name holds what it held
  pub in_place : ChangesInPlace (of_key bytes) s t None (Some (leaf (leaf_name n) x))
  in_place = record {
    leaves = λ a b k m i j e. absurd i;
    inners = λ kind whole k m i j. absurd i;
    others = others_kept (footprint_of s t leaves_touched inners_touched tt tt tt)
        (record { placed_in = λ k i. i; freed_in = λ k i. i; changed_in = λ k i. i; old_stays = λ k i. absurd i; new_comes = λ k i. inr i });
  }

  -- so every existing tree is disjoint from the new one
  pub planted_apart : KeepsApart (of_key bytes) P s t None (Some (leaf_name n))
  planted_apart = tree_apart (of_key bytes) P s t None (Some (leaf_name n)) [] (x ∷ []) None (Some (leaf (leaf_name n) x)) refl planted in_place.others
