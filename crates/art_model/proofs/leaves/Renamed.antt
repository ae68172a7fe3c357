-- A canonical root stays canonical when the leaves of its tree are renamed.
use Rattle.std.proofs.Common.{◌≡◌, ◌≢◌, ℕ, List, [], ◌∷◌, map, Option, Some, None, option_map, option_and_then, IsSomeAnd, refl, ap, sym, ◌∙◌, subst, ◌⊎◌, inl, inr}
use Rattle.std.specs.List.{AllByRecursion as Each}
use Rattle.std.specs.FinMap.{get}
use Rattle.art_model.specs.Prelude.{Inner, Nodes, leaf_name, LeafNode, LeafPtr, NodeType, Node4, Node16, Node48, Node256, Leaf, OpaqueNodePtr, IsCanonicalTree, IsIn, AreDistinct, AreLinked, Links, first_or, leaf_names, leaf_node, inner_node, names_of, first_of, Held, content_at, held_leaf, held_inner, links_at, links_of, node_at, pair_of, Tree, NodeHeader, as_inner}
use Rattle.art_inner.specs.InnerRenamed.{renamed_in, child_renamed, children_renamed, inner_renamed}
use Rattle.art_nodes.specs.Renamed.{AreRenamed, IsRow, leaf_renamed}
use Rattle.art_model.proofs.leaves.Chains.{links_leaf, links_inner}
use Rattle.art_model.proofs.leaves.LeafEnds.{first_or_of}
use Rattle.art_model.proofs.leaves.OtherNames.{IsOwn, distinct_renamed, holds_renamed, linked_renamed, links_renamed, leaf_names-renamed, name_of-renamed, names_of-renamed, renamed, unmarked-renamed}
use Rattle.art_model.proofs.lists.Lists.{each_from, each_map, in_map, out_map}
use Rattle.art_model.proofs.stores.Names.{taken_in, takes_leaves}
use Rattle.art_model.proofs.stores.Gains.{leaf_among}
use Rattle.art_model.proofs.stores.Views.{held_in_inner, leaf_or}
use Rattle.art_model.proofs.stores.Writes.{inner_at, leaf_name_one, node_at-inner, node_at-leaf, shown}

-- ---- the row of a tree's leaves

optional_leaf_one : (o q : Option LeafPtr) → option_map leaf_name o ≡ option_map leaf_name q → o ≡ q
optional_leaf_one None None e = refl
optional_leaf_one None (Some q) e = absurd cc
optional_leaf_one (Some p) None e = absurd cc
optional_leaf_one (Some p) (Some q) e = ap Some (leaf_name_one p q cc)

first_or-leaves : (row : List LeafPtr) → first_or (map leaf_name row) None ≡ option_map leaf_name (first_of row)
first_or-leaves [] = refl
first_or-leaves (p ∷ row) = refl

-- the first name of a row is that of the first leaf
pub first_named : {names : List OpaqueNodePtr} {first : LeafPtr} (row : List LeafPtr) → names ≡ map leaf_name row →
    first_of names ≡ Some (leaf_name first) → first_of row ≡ Some first
first_named {names} {first} row names_are is =
    optional_leaf_one (first_of row) (Some first) (sym (first_or-leaves row) ∙ first_or_of (map leaf_name row) ∙ ap first_of (sym names_are) ∙ is)

module _ {K V : Type 0} (s : Nodes K V) where
  -- a leaf with these links is between the leaves that they name
  linked_leaf : (o : Option (LeafNode K V)) (before after : Option LeafPtr) →
      option_and_then links_of (option_map held_leaf o) ≡ Some (record { previous = option_map leaf_name before; next = option_map leaf_name after }) →
      IsSomeAnd o (λ leaf. (leaf.previous ≡ before) × (leaf.next ≡ after))
  linked_leaf None before after e = absurd cc
  linked_leaf (Some leaf) before after e =
      let l : ◌≡◌ {A = Links OpaqueNodePtr} (record { previous = option_map leaf_name leaf.previous; next = option_map leaf_name leaf.next })
      (record { previous = option_map leaf_name before; next = option_map leaf_name after }) = cc in
      (optional_leaf_one leaf.previous before (ap (λ z. z.previous) l), optional_leaf_one leaf.next after (ap (λ z. z.next) l))

  -- Linked leaves are in a row.
  pub record HasRow (before : Option LeafPtr) (names : List OpaqueNodePtr) : Type 0 where
    pub row : List LeafPtr
    pub is_row : IsRow s.leaves before row
    pub names_are : names ≡ map leaf_name row

  -- what has links is a leaf
  leaf_linked : (n : OpaqueNodePtr) (links : Links OpaqueNodePtr) → links_at s n ≡ Some links → (p : LeafPtr) × (n ≡ leaf_name p)
  leaf_linked n links some = elim (leaf_or n) [
    | inl found ↦ found
    | inr off ↦ let none = links_inner s n off in absurd cc
  ]

  -- one more leaf before the others
  row_from : (before : Option LeafPtr) (p : LeafPtr) (ns : List OpaqueNodePtr) →
      links_at s (leaf_name p) ≡ Some (record { previous = option_map leaf_name before; next = first_or ns None }) → HasRow (Some p) ns →
      HasRow before (leaf_name p ∷ ns)
  row_from before p ns links rest =
      let next : first_or ns None ≡ option_map leaf_name (first_of rest.row) = ap (λ z. first_or z None) rest.names_are ∙ first_or-leaves rest.row in
      record {
        row = p ∷ rest.row;
        is_row = (
          linked_leaf (get s.leaves p) before (first_of rest.row)
              (sym (links_leaf s p (get s.leaves p) refl) ∙ links ∙ ap (λ o. Some (record { previous = option_map leaf_name before; next = o })) next),
          rest.is_row,
        );
        names_are = ap (λ ks. leaf_name p ∷ ks) rest.names_are;
      }

  -- the row of linked leaves, from the one after a leaf on
  pub row_of : (before : Option LeafPtr) (names : List OpaqueNodePtr) → AreLinked (links_at s) (option_map leaf_name before) names None → HasRow before names
  row_of before [] h = record { row = []; is_row = tt; names_are = refl }
  row_of before (n ∷ ns) h =
      let (p, is) = leaf_linked n _ h.0 in
      subst (λ k. HasRow before (k ∷ ns)) (sym is)
      (row_from before p ns (ap (links_at s) (sym is) ∙ h.0) (row_of (Some p) ns (subst (λ k. AreLinked (links_at s) (Some k) ns None) is h.1)))

-- ---- what is held under the new names

-- an inner node keeps its name
pub inner_stays : (rename : LeafPtr → LeafPtr) (kind : NodeType) (slot : ℕ) → kind ≢ Leaf → renamed_in rename kind slot ≡ record { kind = kind; slot = slot }
inner_stays rename Leaf slot off = absurd (off refl)
inner_stays rename Node4 slot off = refl
inner_stays rename Node16 slot off = refl
inner_stays rename Node48 slot off = refl
inner_stays rename Node256 slot off = refl

-- a neighbour of a leaf has its new name
optional_renamed : (rename : LeafPtr → LeafPtr) (o : Option LeafPtr) →
    option_map leaf_name (option_map rename o) ≡ option_map (child_renamed rename) (option_map leaf_name o)
optional_renamed rename None = refl
optional_renamed rename (Some p) = refl

-- where no inner node is none is renamed
inner_none : {K V : Type 0} (rename : LeafPtr → LeafPtr) (o : Option Inner) →
    ◌≡◌ {A = Option (Held K V)} (option_map held_inner o) None → ◌≡◌ {A = Option (Held K V)} (option_map held_inner (option_map (inner_renamed rename) o)) None
inner_none rename None e = refl
inner_none rename (Some node) e = absurd cc

module _ {K V : Type 0} (rename : LeafPtr → LeafPtr) where
  -- a leaf keeps its pair
  same_pair : (o : Option (LeafNode K V)) → option_map pair_of (option_map (leaf_renamed rename) o) ≡ option_map pair_of o
  same_pair None = refl
  same_pair (Some leaf) = refl

  -- and names its neighbours by their new names
  links_of-renamed : (o : Option (LeafNode K V)) → option_and_then links_of (option_map held_leaf (option_map (leaf_renamed rename) o)) ≡
      option_map (links_renamed (child_renamed rename)) (option_and_then links_of (option_map held_leaf o))
  links_of-renamed None = refl
  links_of-renamed (Some leaf) = let before = optional_renamed rename leaf.previous in let after = optional_renamed rename leaf.next in cc

module _ {K V : Type 0} {rename : LeafPtr → LeafPtr} {row : List LeafPtr} {s t : Nodes K V} (are : AreRenamed rename row s t) where
  -- under its new name a leaf is unchanged
  same_leaf_node : (p : LeafPtr) → IsIn p row → node_at t (child_renamed rename (leaf_name p)) ≡ node_at s (leaf_name p)
  same_leaf_node p i = node_at-leaf t (rename p) ∙ ap (λ o. option_map leaf_node (option_map pair_of o)) (are.leaves p i)
      ∙ ap (option_map leaf_node) (same_pair rename (get s.leaves p)) ∙ sym (node_at-leaf s p)

  -- it names its neighbours by their new names
  links_follow : (p : LeafPtr) → IsIn p row →
      links_at t (child_renamed rename (leaf_name p)) ≡ option_map (links_renamed (child_renamed rename)) (links_at s (leaf_name p))
  links_follow p i = links_leaf t (rename p) _ (are.leaves p i) ∙ links_of-renamed rename (get s.leaves p)

  -- an inner node names its children so
  children_follow : (n : OpaqueNodePtr) (h : NodeHeader) (slots : List (ℕ × OpaqueNodePtr)) → node_at s n ≡ Some (inner_node h slots) →
      node_at t (child_renamed rename n) ≡ Some (inner_node h (children_renamed rename slots))
  children_follow n h slots e =
      let (off, node, there, head, below) = inner_at s n h slots e in
      ap (node_at t) (inner_stays rename n.kind n.slot off)
      ∙ node_at-inner t n off (Some (inner_renamed rename node)) (are.inners (as_inner n) ∙ ap (option_map (inner_renamed rename)) there)
      ∙ shown head (ap (children_renamed rename) below)

  module _ {bytes : K × V → List ℕ} {P : ℕ} {root : OpaqueNodePtr} {pairs : List (K × V)} {layout : Tree OpaqueNodePtr (K × V)}
      (by : IsCanonicalTree bytes P s root pairs layout) (names_are : leaf_names layout ≡ map leaf_name row) where
    -- what holds of each leaf of the row holds of those of the layout
    each_leaf : (Q : OpaqueNodePtr → Type 0) → ((p : LeafPtr) → IsIn p row → Q (leaf_name p)) → Each Q (leaf_names layout)
    each_leaf Q h = subst (Each Q) (sym names_are) (each_map leaf_name Q row (each_from (λ p. Q (leaf_name p)) row h))

    in_row : (p : LeafPtr) → IsIn (leaf_name p) (names_of layout) → IsIn p row
    in_row p i =
        let (q, j, is) = out_map leaf_name (leaf_name p) row (subst (IsIn (leaf_name p)) names_are (leaf_among s layout by.stands.0.holds p i)) in
        subst (λ z. IsIn z row) (leaf_name_one q p is) j

    -- each node of the layout has a name of its own
    own_names : IsOwn (child_renamed rename) (names_of layout)
    own_names n k i j e = elim (leaf_or n) [
      | inl (p, n_is) ↦ elim (leaf_or k) [
        | inl (q, k_is) ↦
            let same : leaf_name (rename p) ≡ leaf_name (rename q) = ap (child_renamed rename) (sym n_is) ∙ e ∙ ap (child_renamed rename) k_is in
            n_is ∙ ap leaf_name (are.distinct p q (in_row p (subst (λ z. IsIn z (names_of layout)) n_is i))
            (in_row q (subst (λ z. IsIn z (names_of layout)) k_is j)) (leaf_name_one _ _ same)) ∙ sym k_is
        | inr off ↦ absurd (off (ap (λ z. z.kind) (sym (inner_stays rename k.kind k.slot off) ∙ sym e ∙ ap (child_renamed rename) n_is)))
      ]
      | inr off ↦ elim (leaf_or k) [
        | inl (q, k_is) ↦ absurd (off (ap (λ z. z.kind) (sym (inner_stays rename n.kind n.slot off) ∙ e ∙ ap (child_renamed rename) k_is)))
        | inr non ↦ sym (inner_stays rename n.kind n.slot off) ∙ e ∙ inner_stays rename k.kind k.slot non
      ]
    ]

    -- the root stays canonical for its pairs, with the layout under the new names
    pub canonical_renamed : IsCanonicalTree bytes P t (child_renamed rename root) pairs (renamed (child_renamed rename) layout)
    canonical_renamed =
        let f = child_renamed rename in
        let old = by.stands.0 in
        record {
          is_map = by.is_map;
          tree = by.tree;
          is_tree = by.is_tree;
          stands = (
            record {
              named = name_of-renamed f layout ∙ ap f old.named;
              holds = holds_renamed f (node_at s) (node_at t) children_follow layout (each_leaf (λ n. node_at t (f n) ≡ node_at s n) same_leaf_node) old.holds;
              distinct = subst AreDistinct (sym (names_of-renamed f layout)) (distinct_renamed f (names_of layout) own_names old.distinct);
            },
            unmarked-renamed f layout ∙ by.stands.1,
          );
          linked = subst (λ ns. AreLinked (links_at t) None ns None) (sym (leaf_names-renamed f layout))
              (linked_renamed f (links_at s) (links_at t) (leaf_names layout) None None
              (each_leaf (λ n. links_at t (f n) ≡ option_map (links_renamed f) (links_at s n)) links_follow) by.linked);
        }

    -- and where nothing was outside the tree, nothing is
    pub none_beside : ((name : OpaqueNodePtr) → (IsIn name (names_of layout) → ⊥) → content_at s name ≡ None) →
        (name : OpaqueNodePtr) → (IsIn name (names_of (renamed (child_renamed rename) layout)) → ⊥) → content_at t name ≡ None
    none_beside none name out = go (leaf_or name)
      where
        out_of : (old : OpaqueNodePtr) → child_renamed rename old ≡ name → IsIn old (names_of layout) → ⊥
        out_of old is i = out (subst (IsIn name) (sym (names_of-renamed (child_renamed rename) layout))
            (subst (λ z. IsIn z (map (child_renamed rename) (names_of layout))) is (in_map (child_renamed rename) old (names_of layout) i)))

        no_leaf : (p : LeafPtr) → name ≡ leaf_name p → (o : Option (LeafNode K V)) → get t.leaves p ≡ o → o ≡ None
        no_leaf p is None e = refl
        no_leaf p is (Some leaf) e =
            let (old, i, same) = are.no_other p leaf e in
            absurd (out_of (leaf_name old) (ap leaf_name same ∙ sym is)
            (taken_in takes_leaves layout (leaf_name old) (subst (IsIn (leaf_name old)) (sym names_are) (in_map leaf_name old row i))))

        go : ((p : LeafPtr) × (name ≡ leaf_name p)) ⊎ (name.kind ≢ Leaf) → content_at t name ≡ None
        go (inl (p, is)) = ap (content_at t) is ∙ ap (option_map held_leaf) (no_leaf p is (get t.leaves p) refl)
        go (inr off) =
            held_in_inner t name.kind name.slot off
            ∙ ap (option_map held_inner) (are.inners (as_inner name))
            ∙ inner_none rename (get s.inners (as_inner name))
            (sym (held_in_inner s name.kind name.slot off) ∙ none name (out_of name (inner_stays rename name.kind name.slot off)))
