-- What an iterator has left after the returned leaf is freed.
use Rattle.std.proofs.Common.{◌≡◌, ◌≢◌, ℕ, ◌-◌, List, [], ◌∷◌, ◌++◌, length, refl, ap, sym, ◌∙◌, subst, inl, inr, Option, Some, None, option_map, option_and_then}
use Rattle.std.specs.FinMap as map
use Rattle.art_model.specs.Prelude.{leaf_name, Nodes, LeafNode, LeafPtr, OpaqueNodePtr, IsIn, AreDistinct, AreLinked, first_or, first_of, last_of, without_first, without_last, links_at, links_of, pair_of}
use Rattle.art_nodes.proofs.StoreChanges.{leaf_gone_elsewhere}
use Rattle.art_model.proofs.lists.Lists.{each_in}
use Rattle.art_model.proofs.stores.Names.{apart_in}
use Rattle.art_model.proofs.leaves.Segments.{but_last}
use Rattle.art_reading.specs.Iterators.{IsIteratorOf, IsWalk, pairs_from, pairs_left}
use Rattle.art_reading.proofs.Iterators.{goes_on, linked_leaf}
use Rattle.art_reading.proofs.PairsLeft.{from_there, first_first, first_step, first_walk, last_step, last_walk}
use Rattle.art_copying.proofs.Freed.{leaf_freed}

-- the first of distinct names is not one of the others, and neither is the last
off_first : {N : Type 0} (names : List N) (k : N) → AreDistinct names → Some k ≡ first_of names → IsIn k (without_first names) → ⊥
off_first [] k distinct e i = absurd cc
off_first (x ∷ xs) k distinct e i = each_in (λ y. x ≢ y) k xs distinct.0 i cc

off_last : {N : Type 0} (names : List N) (k : N) → AreDistinct names → Some k ≡ last_of names → IsIn k (without_last names) → ⊥
off_last [] k distinct e i = absurd cc
off_last (x ∷ xs) k distinct e i =
    apart_in (without_last (x ∷ xs)) (k ∷ []) k (subst AreDistinct (but_last x xs k (sym e)) distinct) i (inl refl)

module _ {K V : Type 0} (s t : Nodes K V) (p : LeafPtr) (leaves : t.leaves ≡ map.remove s.leaves p) (inners : t.inners ≡ s.inners) where
  mutual
    unfolding pairs_from

    same_chain : (names : List OpaqueNodePtr) (before after o : Option OpaqueNodePtr) (q : Option LeafPtr) → AreLinked (links_at s) before names after →
        option_map leaf_name q ≡ first_or names o → (IsIn (leaf_name p) names → ⊥) → pairs_from t (length names) q ≡ pairs_from s (length names) q
    same_chain [] before after o q linked e off = refl
    same_chain (n ∷ ns) before after o None linked e off = absurd cc
    same_chain (n ∷ ns) before after o (Some q) linked e off =
        let same : leaf_name q ≡ n = cc in
        let (node, there, previous, next) =
        linked_leaf (map.get s.leaves q) _ (subst (λ k. links_at s k ≡ Some (record { previous = before; next = first_or ns after }))
        (sym same) linked.0) in
        let stays : map.get t.leaves q ≡ Some node =
        ap (λ m. map.get m q) leaves ∙ leaf_gone_elsewhere s.leaves p q (λ f. off (inl (sym same ∙ ap leaf_name f))) ∙ there in
        from_there t q node (length ns) stays ∙ ap (λ xs. pair_of node ∷ xs) (same_chain ns (Some n) after after node.next linked.1 next (λ i. off (inr i)))
        ∙ sym (from_there s q node (length ns) there)

  -- an iterator continues without the freed leaf
  module _ {walk : Option (LeafPtr × LeafPtr)} {len : ℕ} (w : IsWalk s walk len) (off : IsIn (leaf_name p) w.names → ⊥) where
    walk_stays : IsWalk t walk len
    walk_stays = record {
      names = w.names;
      is = goes_on s t walk w.names w.is (λ n i. ap (option_and_then links_of)
          ((leaf_freed {s = s} {t = t} p leaves inners).beside n (λ j. elim j [ inl e ↦ off (subst (λ k. IsIn k w.names) (sym e) i) | inr z ↦ z ]) (λ z. z)));
      len_is = w.len_is;
    }

  -- with the same pairs
  same_left : (walk : Option (LeafPtr × LeafPtr)) (len : ℕ) (w : IsWalk s walk len) → (IsIn (leaf_name p) w.names → ⊥) →
      pairs_left t walk len ≡ pairs_left s walk len
  same_left None len w off =
      ap (λ n. pairs_from t n None) w.len_is
      ∙ same_chain w.names w.is.segment.before w.is.segment.after None None w.is.segment.linked (ap (λ ns. first_or ns None) (sym w.is.ends)) off
      ∙ ap (λ n. pairs_from s n None) (sym w.len_is)
  same_left (Some (a, b)) len w off =
      ap (λ n. pairs_from t n (Some a)) w.len_is
      ∙ same_chain w.names w.is.segment.before w.is.segment.after None (Some a) w.is.segment.linked (first_first s w.names (leaf_name a) w.is.ends.0) off
      ∙ ap (λ n. pairs_from s n (Some a)) (sym w.len_is)

  module _ {walk left : Option (LeafPtr × LeafPtr)} {len : ℕ} {node : LeafNode K V} (w : IsWalk s walk len) (there : map.get s.leaves p ≡ Some node) where
    module _ (after : (names : List OpaqueNodePtr) → IsIteratorOf s walk names → IsIteratorOf s left (without_first names))
        (first : (names : List OpaqueNodePtr) → IsIteratorOf s walk names → Some (leaf_name p) ≡ first_of names) where
      -- after the first leaf is freed
      pub first_out_walk : IsWalk t left (len - 1)
      unfolding first_walk
      first_out_walk = walk_stays (first_walk w after {p = p} first) (off_first w.names (leaf_name p) w.is.segment.distinct (first w.names w.is))

      pub first_out : pairs_left s walk len ≡ pair_of node ∷ pairs_left t left (len - 1)
      unfolding first_walk
      first_out =
          first_step w after {p = p} {pair = pair_of node} first (ap (option_map pair_of) there)
          ∙ ap (λ xs. pair_of node ∷ xs) (sym (same_left left (len - 1) (first_walk w after {p = p} first)
          (off_first w.names (leaf_name p) w.is.segment.distinct (first w.names w.is))))

    module _ (after : (names : List OpaqueNodePtr) → IsIteratorOf s walk names → IsIteratorOf s left (without_last names))
        (last : (names : List OpaqueNodePtr) → IsIteratorOf s walk names → Some (leaf_name p) ≡ last_of names) where
      -- after the last leaf is freed
      pub last_out_walk : IsWalk t left (len - 1)
      unfolding last_walk
      last_out_walk = walk_stays (last_walk w after {p = p} last) (off_last w.names (leaf_name p) w.is.segment.distinct (last w.names w.is))

      pub last_out : pairs_left s walk len ≡ pairs_left t left (len - 1) ++ pair_of node ∷ []
      unfolding last_walk
      last_out =
          last_step w after {p = p} last {pair = pair_of node} (ap (option_map pair_of) there)
          ∙ ap (λ xs. xs ++ pair_of node ∷ []) (sym
          (same_left left (len - 1) (last_walk w after {p = p} last)
          (off_last w.names (leaf_name p) w.is.segment.distinct (last w.names w.is))))
