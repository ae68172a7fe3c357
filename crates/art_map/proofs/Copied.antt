-- A store with another one's inner nodes and clones of its leaves, under the same names, holds clones of the pairs.
use Rattle.std.proofs.Common.{◌≡◌, ℕ, List, [], ◌∷◌, ◌++◌, length, refl, ap, ap₂, sym, ◌∙◌, subst, Option, Some, None, option_map, option_and_then}
use Rattle.std.specs.FinMap as map
use Rattle.std.proofs.lemmas.List.Elements.{length_all_zip}
use Rattle.art_model.specs.Prelude.{Inner, IsPairClone, LeafNode, NodeType, Node4, Node16, Node48, Node256, Leaf, OpaqueNodePtr, Nodes, IsCopy, AreCopies, AreClones, IsIn, names_in, Node, leaf_node, inner_node, name_of, names_of, names_below, leaf_names, leaf_names_below, slots_of, Holds, HoldsBelow, AreDistinct, AreLinked, of_key, pairs_of, IsRootOf, Held, held_leaf, held_inner, content_at, content_in, node_at, links_at, links_of, tree_node, Tree, leaf, inner, Subtrees, child, no_child}
use Rattle.art_nodes.specs.StoreClones.{AreLeafCopies, IsCopyThere}
use Rattle.art_parts.specs.Keys.{KeepBytes}
use Rattle.art_model.proofs.radix.Copies.{copied_pairs, copied_radix}
use Rattle.art_model.proofs.stores.Canonical.{laid_out, canonical_from}
use Rattle.art_map.specs.MapChanges.{HoldsClones}
use Rattle.art_changing.specs.MapPairs.{HoldsPairs, pairs_at}
use Rattle.art_changing.proofs.ViewsOfPairs.{holds, view_of}

module _ {N A : Type 0} (IsClone : A → A → Type 0) where
  -- a leaf with a clone of the pair, or the same
  abbrev IsNodeCopy : Option (Node N A) → Option (Node N A) → Type 0
  IsNodeCopy None copy = copy ≡ None
  IsNodeCopy (Some (leaf_node x)) copy = (y : A) × IsClone x y × (copy ≡ Some (leaf_node y))
  IsNodeCopy (Some (inner_node h slots)) copy = copy ≡ Some (inner_node h slots)

  module _ (at copied : N → Option (Node N A)) (each : (n : N) → IsNodeCopy (at n) (copied n)) where
    -- The second tree is a copy of the first one, with the same names, and is held.
    record IsHeldCopy (t u : Tree N A) : Type 0 where
      same : IsCopy IsClone t u
      holds : Holds copied u
      named : name_of u ≡ name_of t
      names : names_of u ≡ names_of t
      leaves : leaf_names u ≡ leaf_names t

    -- The same for children.
    record AreHeldCopies (cs ds : Subtrees N A) : Type 0 where
      same : AreCopies IsClone cs ds
      holds : HoldsBelow copied ds
      slots : slots_of ds ≡ slots_of cs
      names : names_below ds ≡ names_below cs
      leaves : leaf_names_below ds ≡ leaf_names_below cs

    under : (n : N) (o : Option (Node N A)) → at n ≡ o → IsNodeCopy o (copied n)
    under n o is = subst (λ o. IsNodeCopy o (copied n)) is (each n)

    mutual
      -- a tree that is held has a copy with its names
      held_copy : (t : Tree N A) → Holds at t → (u : Tree N A) × IsHeldCopy t u
      held_copy (leaf n x) is =
          let (y, clone, there) = under n (Some (leaf_node x)) is in
          (leaf n y, record { same = clone; holds = there; named = refl; names = refl; leaves = refl })
      held_copy (inner n h cs) is =
          let (ds, of) = held_copies cs is.1 in (
            inner n h ds,
            record {
              same = (refl, of.same);
              holds = (under n (Some (inner_node h (slots_of cs))) is.0 ∙ ap (λ slots. Some (inner_node h slots)) (sym of.slots), of.holds);
              named = refl;
              names = ap (λ ns. n ∷ ns) of.names;
              leaves = of.leaves;
            },
          )

      held_copies : (cs : Subtrees N A) → HoldsBelow at cs → (ds : Subtrees N A) × AreHeldCopies cs ds
      held_copies no_child is = (no_child, record { same = tt; holds = tt; slots = refl; names = refl; leaves = refl })
      held_copies (child b t cs) is =
          let (u, of) = held_copy t is.0 in
          let (ds, rest) = held_copies cs is.1 in (
            child b u ds,
            record {
              same = (refl, of.same, rest.same);
              holds = (of.holds, rest.holds);
              slots = ap₂ (λ n slots. (b, n) ∷ slots) of.named rest.slots;
              names = ap₂ (λ ns ms. ns ++ ms) of.names rest.names;
              leaves = ap₂ (λ ns ms. ns ++ ms) of.leaves rest.leaves;
            },
          )

module _ {K V : Type 0} (is_key_clone : K → K → Type 0) (is_value_clone : V → V → Type 0) where
  -- the same for one leaf
  leaf_copy : (node copy : Option (LeafNode K V)) → IsCopyThere is_key_clone is_value_clone node copy →
      IsNodeCopy (IsPairClone is_key_clone is_value_clone) (option_map (tree_node Leaf) (option_map held_leaf node))
      (option_map (tree_node Leaf) (option_map held_leaf copy))
  leaf_copy None copy is = rw is refl
  leaf_copy (Some node) None is = absurd is
  leaf_copy (Some node) (Some copy) is = (_, (is.key, is.value), refl)

  leaf_links : (node copy : Option (LeafNode K V)) → IsCopyThere is_key_clone is_value_clone node copy →
      option_and_then links_of (option_map held_leaf copy) ≡ option_and_then links_of (option_map held_leaf node)
  leaf_links None copy is = rw is refl
  leaf_links (Some node) None is = absurd is
  leaf_links (Some node) (Some copy) is = rw (is.previous, is.next) refl

  leaf_free : (node copy : Option (LeafNode K V)) → IsCopyThere is_key_clone is_value_clone node copy → option_map held_leaf node ≡ None →
      option_map held_leaf copy ≡ None
  leaf_free None copy is none = rw is refl
  leaf_free (Some node) copy is none = absurd cc

  -- an inner node is its own copy
  same_copy : (kind : NodeType) (node copy : Option Inner) → copy ≡ node →
      IsNodeCopy (IsPairClone is_key_clone is_value_clone) (option_map (tree_node kind) (option_map held_inner node))
      (option_map (tree_node kind) (option_map held_inner copy))
  same_copy kind None copy is = rw is refl
  same_copy kind (Some node) copy is = rw is refl

  -- the inner node of a kind in a slot
  abbrev held : NodeType → ℕ → Nodes K V → Option (Held K V)
  held kind slot nodes = option_map held_inner (map.get nodes.inners (record { kind = kind; slot = slot }))

  module _ (s t : Nodes K V) (leaves : AreLeafCopies is_key_clone is_value_clone s.leaves t.leaves) (inners : t.inners ≡ s.inners) where
    same_inner : (kind : NodeType) (slot : ℕ) → map.get t.inners (record { kind = kind; slot = slot }) ≡ map.get s.inners (record { kind = kind; slot = slot })
    same_inner kind slot = ap (λ m. map.get m (record { kind = kind; slot = slot })) inners

    same_held : (kind : NodeType) (slot : ℕ) → held kind slot t ≡ held kind slot s
    same_held kind slot = ap (option_map held_inner) (same_inner kind slot)

    copy_in : (kind : NodeType) (slot : ℕ) →
        IsNodeCopy (IsPairClone is_key_clone is_value_clone) (option_map (tree_node kind) (content_in s kind slot))
        (option_map (tree_node kind) (content_in t kind slot))
    copy_in Leaf slot = leaf_copy _ _ (leaves (record { slot = slot }))
    copy_in Node4 slot = same_copy Node4 _ _ (same_inner Node4 slot)
    copy_in Node16 slot = same_copy Node16 _ _ (same_inner Node16 slot)
    copy_in Node48 slot = same_copy Node48 _ _ (same_inner Node48 slot)
    copy_in Node256 slot = same_copy Node256 _ _ (same_inner Node256 slot)

    links_in : (kind : NodeType) (slot : ℕ) → option_and_then links_of (content_in t kind slot) ≡ option_and_then links_of (content_in s kind slot)
    links_in Leaf slot = leaf_links _ _ (leaves (record { slot = slot }))
    links_in Node4 slot = ap (option_and_then links_of) (same_held Node4 slot)
    links_in Node16 slot = ap (option_and_then links_of) (same_held Node16 slot)
    links_in Node48 slot = ap (option_and_then links_of) (same_held Node48 slot)
    links_in Node256 slot = ap (option_and_then links_of) (same_held Node256 slot)

    free_in : (kind : NodeType) (slot : ℕ) → content_in s kind slot ≡ None → content_in t kind slot ≡ None
    free_in Leaf slot none = leaf_free _ _ (leaves (record { slot = slot })) none
    free_in Node4 slot none = same_held Node4 slot ∙ none
    free_in Node16 slot none = same_held Node16 slot ∙ none
    free_in Node48 slot none = same_held Node48 slot ∙ none
    free_in Node256 slot none = same_held Node256 slot ∙ none

    same_links : links_at t ≡ links_at s
    same_links = λ i name. links_in name.kind name.slot i

    module _ (bytes : K → List ℕ) (P : ℕ) (keep : KeepBytes bytes is_key_clone) where
      -- clones of the pairs are held
      copies_held : {root : Option OpaqueNodePtr} {len : ℕ} {pairs : List (K × V)} → HoldsPairs (of_key bytes) P s root len pairs →
          HoldsClones bytes P pairs is_key_clone is_value_clone t root len
      copies_held {root} {len} {pairs} is = go root is.tree is.canonical is.no_other
        where
          go : (root : Option OpaqueNodePtr) (tree : Option (Tree OpaqueNodePtr (K × V))) → IsRootOf (of_key bytes) P s root pairs tree →
              ((name : OpaqueNodePtr) → (IsIn name (names_in tree) → ⊥) → content_at s name ≡ None) →
              HoldsClones bytes P pairs is_key_clone is_value_clone t root len
          go None None none other = (
            [],
            subst (λ xs. AreClones is_key_clone is_value_clone xs []) (sym none) tt,
            record { tree = None; canonical = refl; no_other = λ name out. free_in name.kind name.slot (other name out); len_is = is.len_is ∙ ap length none },
          )
          go None (Some layout) none other = absurd none
          go (Some name) None none other = absurd none
          go (Some name) (Some layout) by other =
              let laid = laid_out by in
              let (copy, of) = held_copy (IsPairClone is_key_clone is_value_clone) (node_at s) (node_at t) (λ n. copy_in n.kind n.slot) layout laid.holds in
              let are : AreClones is_key_clone is_value_clone pairs (pairs_of copy) =
              subst (λ xs. AreClones is_key_clone is_value_clone xs (pairs_of copy)) laid.pairs_are
              (copied_pairs (IsPairClone is_key_clone is_value_clone) layout copy of.same) in (
                pairs_of copy,
                are,
                record {
                  tree = Some copy;
                  canonical = canonical_from (record {
                    named = of.named ∙ laid.named;
                    radix = copied_radix (IsPairClone is_key_clone is_value_clone) (of_key bytes) P
                        (λ x y clone. keep x.0 y.0 clone.0) layout copy [] of.same laid.radix;
                    pairs_are = refl;
                    holds = of.holds;
                    distinct = subst AreDistinct (sym of.names) laid.distinct;
                    linked = subst (λ names. AreLinked (links_at t) None names None) (sym of.leaves)
                        (subst (λ links. AreLinked links None (leaf_names layout) None) (sym same_links) laid.linked);
                  });
                  no_other = λ n out. free_in n.kind n.slot (other n (λ was. out (subst (IsIn n) (sym of.names) was)));
                  len_is = is.len_is ∙ length_all_zip (IsPairClone is_key_clone is_value_clone) _ _ are;
                },
              )

      -- and they are those read off the store
      pub copies_read : {root : Option OpaqueNodePtr} {len : ℕ} → HoldsPairs (of_key bytes) P s root len (pairs_at s root) →
          AreClones is_key_clone is_value_clone (pairs_at s root) (pairs_at t root) × HoldsPairs (of_key bytes) P t root len (pairs_at t root)
      copies_read {root} is =
          let (copies, are, held) = copies_held is in
          (subst (AreClones is_key_clone is_value_clone (pairs_at s root)) (sym (view_of (of_key bytes) P t held)) are, holds (of_key bytes) P t held)
