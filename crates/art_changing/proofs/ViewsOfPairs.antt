-- The pairs read off a store are those that the root is canonical for.
use Rattle.std.proofs.Common.{◌≡◌, ℕ, zero, suc, ◌≤◌, List, [], ◌++◌, refl, ap, ap₂, sym, ◌∙◌, subst, arith, Option, Some, None, option_map}
use Rattle.std.specs.FinMap as map
use Rattle.art_model.specs.Prelude.{Nodes, leaf_cmp, inner_cmp, NodeType, Node4, Node16, Node48, Node256, Leaf, OpaqueNodePtr, IsCanonical, IsIn, tree_height, height_below, KeepsOthers, Node, name_of, slots_of, Holds, HoldsBelow, IsMap, pairs_of, pairs_below, IsRootOf, Held, held_leaf, held_inner, content_at, content_in, node_at, Tree, leaf, inner, Subtrees, child, no_child}
use Rattle.art_model.proofs.stores.Canonical.{tree_radix}
use Rattle.art_model.proofs.stores.Heights.{enough_steps}
use Rattle.art_changing.specs.MapPairs.{all_below, pairs_within, pairs_at, HoldsPairs}

module _ {N A : Type 0} (at : N → Option (Node N A)) where
  mutual
    unfolding pairs_within

    pairs_are : (t : Tree N A) (steps : ℕ) → Holds at t → tree_height t ≤ steps → pairs_within at steps (name_of t) ≡ pairs_of t
    pairs_are (leaf n x) zero h enough = rw h refl
    pairs_are (leaf n x) (suc steps) h enough = rw h refl
    pairs_are (inner n h cs) zero holds enough = absurd (omega arith)
    pairs_are (inner n h cs) (suc steps) holds enough = rw holds.0 (pairs_below_are cs steps holds.1 (omega arith))

    pairs_below_are : (cs : Subtrees N A) (steps : ℕ) → HoldsBelow at cs → height_below cs ≤ steps →
        all_below (pairs_within at steps) (slots_of cs) ≡ pairs_below cs
    pairs_below_are no_child steps h enough = refl
    pairs_below_are (child b t cs) steps h enough = ap₂ (λ xs ys. xs ++ ys) (pairs_are t steps h.0 (omega arith)) (pairs_below_are cs steps h.1 (omega arith))

module _ {K V : Type 0} (bytes : K × V → List ℕ) (P : ℕ) (s : Nodes K V) where
  mutual
    unfolding pairs_at

    -- the pairs of a root
    pub view_is : (root : Option OpaqueNodePtr) (tree : Option (Tree OpaqueNodePtr (K × V))) {pairs : List (K × V)} →
        IsRootOf bytes P s root pairs tree → pairs_at s root ≡ pairs
    view_is None None is = sym is
    view_is None (Some t) is = absurd is
    view_is (Some root) None is = absurd is
    view_is (Some root) (Some t) by =
        ap (pairs_within (node_at s) (map.len s.inners)) (sym by.stands.0.named)
        ∙ pairs_are (node_at s) t (map.len s.inners) by.stands.0.holds (enough_steps s t by.stands.0.holds by.stands.0.distinct)
        ∙ (tree_radix by).1

  -- the tree of a canonical root
  pub with_tree : (root : Option OpaqueNodePtr) (pairs : List (K × V)) → IsCanonical bytes P s root pairs →
      (tree : Option (Tree OpaqueNodePtr (K × V))) × IsRootOf bytes P s root pairs tree
  with_tree None pairs is = (None, is)
  with_tree (Some root) pairs is = (Some is.0, is.1)

  -- the pairs that are held are a map
  pub map_held : {root : Option OpaqueNodePtr} {len : ℕ} {pairs : List (K × V)} → HoldsPairs bytes P s root len pairs → IsMap bytes pairs
  map_held {root} {len} {pairs} is = go root is.tree is.canonical
    where
      go : (root : Option OpaqueNodePtr) (tree : Option (Tree OpaqueNodePtr (K × V))) → IsRootOf bytes P s root pairs tree → IsMap bytes pairs
      go None None none = subst (IsMap bytes) (sym none) tt
      go None (Some t) is = absurd is
      go (Some root) None is = absurd is
      go (Some root) (Some t) by = by.is_map

  -- so what a contract sees of them is one
  pub view_sorted : {root : Option OpaqueNodePtr} {len : ℕ} {seen : List (K × V)} → HoldsPairs bytes P s root len (pairs_at s root) →
      pairs_at s root ≡ seen → IsMap bytes seen
  view_sorted is view_is = subst (IsMap bytes) view_is (map_held is)

  -- a store that holds pairs holds those read off it
  pub holds : {root : Option OpaqueNodePtr} {len : ℕ} {pairs : List (K × V)} → HoldsPairs bytes P s root len pairs →
      HoldsPairs bytes P s root len (pairs_at s root)
  holds {root} {len} {pairs} is = subst (HoldsPairs bytes P s root len) (sym (view_is root is.tree is.canonical)) is

  pub view_of : {root : Option OpaqueNodePtr} {len : ℕ} {pairs : List (K × V)} → HoldsPairs bytes P s root len pairs → pairs_at s root ≡ pairs
  view_of {root} is = view_is root is.tree is.canonical

-- the store has no names but the new tree's, if it had none but the old one's
pub none_other : {K V : Type 0} {s t : Nodes K V} {old new : List OpaqueNodePtr} → KeepsOthers s t old new →
    ((name : OpaqueNodePtr) → (IsIn name old → ⊥) → content_at s name ≡ None) →
    (name : OpaqueNodePtr) → (IsIn name new → ⊥) → content_at t name ≡ None
none_other {K} {V} {s} {t} {old} {new} keeps none name out = go (content_at t name) refl
  where
    go : (found : Option (Held K V)) → content_at t name ≡ found → content_at t name ≡ None
    go None e = e
    go (Some x) e =
        let beside : IsIn name old → ⊥ = λ was. let free = keeps.gone name was out in absurd cc in
        keeps.beside name beside out ∙ none name beside

-- an empty store holds nothing
module _ {K V : Type 0} (s : Nodes K V) (leaves : s.leaves ≡ map.empty) (inners : s.inners ≡ map.empty) where
  free_in : (kind : NodeType) (slot : ℕ) → content_in s kind slot ≡ None
  free_in Leaf slot =
      ap (λ m. option_map held_leaf (map.get m (record { slot = slot }))) leaves
      ∙ ap (option_map held_leaf) (map.get-empty leaf_cmp (record { slot = slot }))
  free_in Node4 slot =
      ap (λ m. option_map held_inner (map.get m (record { kind = Node4; slot = slot }))) inners
      ∙ ap (option_map held_inner) (map.get-empty inner_cmp (record { kind = Node4; slot = slot }))
  free_in Node16 slot =
      ap (λ m. option_map held_inner (map.get m (record { kind = Node16; slot = slot }))) inners
      ∙ ap (option_map held_inner) (map.get-empty inner_cmp (record { kind = Node16; slot = slot }))
  free_in Node48 slot =
      ap (λ m. option_map held_inner (map.get m (record { kind = Node48; slot = slot }))) inners
      ∙ ap (option_map held_inner) (map.get-empty inner_cmp (record { kind = Node48; slot = slot }))
  free_in Node256 slot =
      ap (λ m. option_map held_inner (map.get m (record { kind = Node256; slot = slot }))) inners
      ∙ ap (option_map held_inner) (map.get-empty inner_cmp (record { kind = Node256; slot = slot }))

  pub none_held : (name : OpaqueNodePtr) → content_at s name ≡ None
  none_held name = free_in name.kind name.slot

  pub new_holds : (bytes : K × V → List ℕ) (P : ℕ) → HoldsPairs bytes P s None 0 []
  new_holds bytes P = record { tree = None; canonical = refl; no_other = λ name out. none_held name; len_is = refl }
