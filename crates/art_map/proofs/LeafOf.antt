-- Each leaf in the store of a map is one of the tree.
use Rattle.std.proofs.Common.{◌≡◌, ◌≢◌, ◌⊎◌, ℕ, List, [], ◌∷◌, Option, Some, None, refl, ap, sym, ◌∙◌, subst, inl, inr, option_map}
use Rattle.std.specs.FinMap.{get}
use Rattle.art_model.specs.Prelude.{Nodes, leaf_name, LeafNode, LeafPtr, Leaf, OpaqueNodePtr, IsIn, names_in, Holds, HoldsBelow, names_of, names_below, slots_of, HasLeaf, of_key, Frame, plug, join, IsRootOf, content_at, held_leaf, node_at, NodeHeader, Tree, leaf, inner, Subtrees, child, no_child}
use Rattle.art_model.specs.Gains.{as_leaf}
use Rattle.art_model.proofs.leaves.Leaves.{same_leaf}
use Rattle.art_model.proofs.leaves.LeavesFound.{leaf_found}
use Rattle.art_model.proofs.lists.Lists.{in_either}
use Rattle.art_model.proofs.stores.Views.{leaf_name_is, leaf_or}
use Rattle.art_map.specs.MapChanges.{NamesLeafOf}
use Rattle.art_changing.specs.MapPairs.{HoldsPairs}

module _ {N A : Type 0} where
  -- the children before one, that one, and those after it
  join_one : (l : Subtrees N A) (b : ℕ) (t : Tree N A) (r : Subtrees N A) → join (join l (child b t no_child)) r ≡ join l (child b t r)
  join_one no_child b t r = refl
  join_one (child c u l) b t r = ap (child c u) (join_one l b t r)

module _ {K V : Type 0} (s : Nodes K V) (p : LeafPtr) (whole : Tree OpaqueNodePtr (K × V)) where
  -- the tree has the leaf, or none of these names is the leaf's
  abbrev IsLeafOr : List OpaqueNodePtr → Type 0
  IsLeafOr names = (IsIn (leaf_name p) names → ⊥) ⊎ ((x : K × V) × HasLeaf whole (leaf_name p) x)

  mutual
    sought : (t : Tree OpaqueNodePtr (K × V)) (above : List (Frame OpaqueNodePtr (K × V))) → Holds (node_at s) t → plug above t ≡ whole → IsLeafOr (names_of t)
    sought (leaf n x) above h e = go (leaf_or n)
      where
        go : ((q : LeafPtr) × (n ≡ leaf_name q)) ⊎ (n.kind ≢ Leaf) → IsLeafOr (n ∷ [])
        go (inl (q, is)) = elim (same_leaf q p) [
          | inl here ↦ inr (x, record { path = above; whole = subst (λ k. plug above (leaf k x) ≡ whole) (is ∙ ap leaf_name here) e })
          | inr off ↦ inl (λ i. elim i [ inl same ↦ off (ap as_leaf (sym is ∙ same)) | inr none ↦ none ])
        ]
        go (inr off) = inl (λ i. elim i [ inl same ↦ off (ap (λ z. z.kind) same) | inr none ↦ none ])
    sought (inner n h cs) above holds e = elim (sought_below n h no_child cs above holds.1 e) [
      | inl off ↦ inl (λ i. elim i [ inl same ↦ leaf_name_is s p h (slots_of cs) (ap (node_at s) (sym same) ∙ holds.0) | inr below ↦ off below ])
      | inr found ↦ inr found
    ]

    sought_below : (n : OpaqueNodePtr) (h : NodeHeader) (l cs : Subtrees OpaqueNodePtr (K × V))
        (above : List (Frame OpaqueNodePtr (K × V))) → HoldsBelow (node_at s) cs →
        plug above (inner n h (join l cs)) ≡ whole → IsLeafOr (names_below cs)
    sought_below n h l no_child above holds e = inl (λ i. i)
    sought_below n h l (child b t cs) above holds e =
        both (sought t (record { mark = n; header = h; left = l; byte = b; right = cs } ∷ above) holds.0 e)
        (sought_below n h (join l (child b t no_child)) cs above holds.1 (ap (λ ds. plug above (inner n h ds)) (join_one l b t cs) ∙ e))
      where
        both : IsLeafOr (names_of t) → IsLeafOr (names_below cs) → IsLeafOr (names_below (child b t cs))
        both (inr found) others = inr found
        both (inl off) (inr found) = inr found
        both (inl off) (inl none) = inl (λ i. elim (in_either (leaf_name p) (names_of t) (names_below cs) i) [ inl j ↦ off j | inr j ↦ none j ])

module _ {K V : Type 0} (bytes : K → List ℕ) (P : ℕ) {s : Nodes K V} {p : LeafPtr} {node : LeafNode K V} (there : get s.leaves p ≡ Some node) where
  -- so it is the leaf of its key
  pub leaf_of_map : {root : Option OpaqueNodePtr} {len : ℕ} {pairs : List (K × V)} → HoldsPairs (of_key bytes) P s root len pairs →
      NamesLeafOf bytes P s root (bytes node.key) p
  leaf_of_map {root} {len} {pairs} is = go root is.tree is.canonical is.no_other
    where
      in_use : content_at s (leaf_name p) ≡ None → ⊥
      in_use none = let used = ap (option_map held_leaf) there in absurd cc

      go : (root : Option OpaqueNodePtr) (tree : Option (Tree OpaqueNodePtr (K × V))) → IsRootOf (of_key bytes) P s root pairs tree →
          ((name : OpaqueNodePtr) → (IsIn name (names_in tree) → ⊥) → content_at s name ≡ None) → NamesLeafOf bytes P s root (bytes node.key) p
      go None None none other = absurd (in_use (other (leaf_name p) (λ i. i)))
      go None (Some layout) is other = absurd is
      go (Some name) None is other = absurd is
      go (Some name) (Some layout) by other = elim (sought s p layout layout [] by.stands.0.holds refl) [
        | inl off ↦ absurd (in_use (other (leaf_name p) off))
        | inr (x, has) ↦
            let (found, here, its) = leaf_found (of_key bytes) P by has in
            let same : Some node ≡ Some found = sym there ∙ here in
            let own : node ≡ found = cc in
            record {
              name = name;
              pairs = pairs;
              layout = layout;
              pair = x;
              root_is = refl;
              by = by;
              has = has;
              key_is = ap (λ z. bytes z.0) (sym its) ∙ ap (λ z. bytes z.key) (sym own);
            }
      ]
