-- the trails, descents and readings that show each fault
use Rattle.std.proofs.Common.{T, ◌≡◌, ℕ, List, [], ◌∷◌, Some, None, refl, ap, inl, inr, arith, option_map, option_and_then, Less}
use Rattle.std.specs.FinMap as map
use Rattle.art_model.specs.Prelude.{Inner, child_at, Nodes, leaf_cmp, inner_cmp, InnerPtr, LeafNode, LeafPtr, Node4, Leaf, OpaqueNodePtr, Reaches, IsFront, inner_node, leaf_node, Links, IsLayout, held_leaf, held_inner, tree_node, links_of, node_at, links_at, leaf}
use Rattle.art_model.specs.Examples.{Key, bytes_of_pair, of_length, node4, leaf_at}
use Rattle.art_model.specs.FaultExamples.{store_of, leaf_in, leaf_between, node4_over, looped, shared, self_linked, linked_to_nothing, misplaced, unreadable, misstored}
use Rattle.art_model.proofs.examples.faults_of_small_stores.Goals as goal

module _ (leaves : List (LeafPtr × LeafNode Key ℕ)) (inners : List (InnerPtr × Inner)) where
  -- a leaf as it is seen
  shown_leaf : (slot : ℕ) → T (map.is_sorted leaf_cmp leaves) →
      node_at (store_of leaves inners) (leaf_at slot) ≡ option_map (tree_node Leaf) (option_map held_leaf (map.find leaf_cmp (leaf_in slot) leaves))
  shown_leaf slot sorted = ap (λ o. option_map (tree_node Leaf) (option_map held_leaf o)) (map.get-from_sorted leaf_cmp leaves (leaf_in slot) sorted)

  -- its links
  shown_links : (slot : ℕ) → T (map.is_sorted leaf_cmp leaves) →
      links_at (store_of leaves inners) (leaf_at slot) ≡ option_and_then links_of (option_map held_leaf (map.find leaf_cmp (leaf_in slot) leaves))
  shown_links slot sorted = ap (λ o. option_and_then links_of (option_map held_leaf o)) (map.get-from_sorted leaf_cmp leaves (leaf_in slot) sorted)

  -- an inner node as it is seen
  shown_node : (slot : ℕ) → T (map.is_sorted inner_cmp inners) →
      node_at (store_of leaves inners) (node4 slot)
      ≡ option_map (tree_node Node4) (option_map held_inner (map.find inner_cmp (record { kind = Node4; slot = slot }) inners))
  shown_node slot sorted =
      ap (λ o. option_map (tree_node Node4) (option_map held_inner o))
      (map.get-from_sorted inner_cmp inners (record { kind = Node4; slot = slot }) sorted)

-- the root is reached by no step, at no bytes
abbrev at_root : (s : Nodes Key ℕ) (root : OpaqueNodePtr) → Reaches bytes_of_pair 2 s root [] root
at_root s root = record { steps = []; is_trail = tt; ends = refl; is_read = refl }

-- a child of the root, which has an empty prefix, is reached at its byte
abbrev at_child : (s : Nodes Key ℕ) (slots : List (ℕ × OpaqueNodePtr)) (b : ℕ) (name : OpaqueNodePtr) →
    node_at s (node4 0) ≡ Some (inner_node (of_length 0 []) slots) → child_at slots b ≡ Some name → Reaches bytes_of_pair 2 s (node4 0) (b ∷ []) name
at_child s slots b name there has = record {
  steps = (b, name) ∷ [];
  is_trail = ((of_length 0 [], slots, there, has), tt);
  ends = refl;
  is_read = ([], (of_length 0 [], slots, there, inl (omega arith, refl)), refl);
}

-- lists of different beginnings
no_step : {b : ℕ} {bs : List ℕ} → [] ≡ b ∷ bs → ⊥
no_step same = absurd cc

one_is_not_two : ◌≡◌ {A = List ℕ} (1 ∷ []) (2 ∷ []) → ⊥
one_is_not_two same = absurd cc

no_link : {name : OpaqueNodePtr} → Some name ≡ None → ⊥
no_link same = absurd cc

looped_node : node_at looped (node4 0) ≡ Some (inner_node (of_length 0 []) ((5, node4 0) ∷ []))
looped_node = shown_node [] (node4_over 0 0 [] ((5, node4 0) ∷ []) ∷ []) 0 tt

pub returns-clause-dead_root : goal.returns-clause-dead_root
returns-clause-dead_root c = (shown_leaf [] (node4_over 0 0 [] ((5, node4 0) ∷ []) ∷ []) 0 tt, inl (at_root looped (leaf_at 0)))

pub returns-clause-dead_sibling : goal.returns-clause-dead_sibling
returns-clause-dead_sibling c =
    let leaves : List (LeafPtr × LeafNode Key ℕ) = leaf_between 0 (Some 7) (1 ∷ []) None ∷ [] in
    let links : Links OpaqueNodePtr = record { previous = Some (leaf_at 7); next = None } in (
      shown_leaf leaves [] 7 tt,
      inr (
        leaf_at 0,
        (1 ∷ [], 0),
        Less,
        (at_root linked_to_nothing (leaf_at 0), shown_leaf leaves [] 0 tt),
        (links, shown_links leaves [] 0 tt, inl (refl, refl)),
      ),
    )

pub returns-clause-own_child : goal.returns-clause-own_child
returns-clause-own_child c = (at_root looped (node4 0), at_child looped ((5, node4 0) ∷ []) 5 (node4 0) looped_node refl, no_step, refl)

pub returns-clause-shared_leaf : goal.returns-clause-shared_leaf
returns-clause-shared_leaf c =
    let slots : List (ℕ × OpaqueNodePtr) = (1, leaf_at 0) ∷ (2, leaf_at 0) ∷ [] in
    let there = shown_node (leaf_between 0 None (1 ∷ []) None ∷ []) (node4_over 0 0 [] slots ∷ []) 0 tt in
    (at_child shared slots 1 (leaf_at 0) there refl, at_child shared slots 2 (leaf_at 0) there refl, one_is_not_two, refl)

misplaced_node : node_at misplaced (node4 0) ≡ Some (inner_node (of_length 0 []) ((1, leaf_at 0) ∷ []))
misplaced_node = shown_node (leaf_between 0 None (2 ∷ []) None ∷ []) (node4_over 0 0 [] ((1, leaf_at 0) ∷ []) ∷ []) 0 tt

pub returns-clause-one_child : goal.returns-clause-one_child
returns-clause-one_child c = (node4 0, of_length 0 [], (1, leaf_at 0) ∷ [], (at_root misplaced (node4 0), misplaced_node), refl, refl, omega arith)

pub returns-clause-other_byte : goal.returns-clause-other_byte
returns-clause-other_byte c =
    let there = shown_leaf (leaf_between 0 None (2 ∷ []) None ∷ []) (node4_over 0 0 [] ((1, leaf_at 0) ∷ []) ∷ []) 0 tt in
    (leaf_at 0, (2 ∷ [], 0), (at_child misplaced ((1, leaf_at 0) ∷ []) 1 (leaf_at 0) misplaced_node refl, there), refl, no_front)
  where
    no_front : IsFront (1 ∷ []) (2 ∷ []) → ⊥
    no_front (rest, same) = absurd cc

self_linked_leaf : node_at self_linked (leaf_at 0) ≡ Some (leaf_node (1 ∷ [], 0))
self_linked_leaf = shown_leaf (leaf_between 0 None (1 ∷ []) (Some 0) ∷ []) [] 0 tt

self_linked_links : links_at self_linked (leaf_at 0) ≡ Some (record { previous = None; next = Some (leaf_at 0) })
self_linked_links = shown_links (leaf_between 0 None (1 ∷ []) (Some 0) ∷ []) [] 0 tt

pub returns-clause-own_next : goal.returns-clause-own_next
returns-clause-own_next c =
    let x : Key × ℕ = (1 ∷ [], 0) in
    let links : Links OpaqueNodePtr = record { previous = None; next = Some (leaf_at 0) } in (
      [],
      leaf_at 0,
      leaf_at 0,
      x,
      x,
      (at_root self_linked (leaf_at 0), self_linked_leaf),
      (links, self_linked_links, inr (refl, refl)),
      self_linked_leaf,
      refl,
      refl,
      refl,
      λ same. absurd cc,
    )

pub returns-clause-false_link : goal.returns-clause-false_link
returns-clause-false_link c =
    let x : Key × ℕ = (1 ∷ [], 0) in
    let layout : IsLayout (node_at self_linked) (leaf_at 0) (leaf (leaf_at 0) x) = record { named = refl; holds = self_linked_leaf; distinct = (tt, tt) } in
    (leaf (leaf_at 0) x, [], [], leaf_at 0, x, layout, refl, self_linked_leaf, refl, refl, self_linked_links, λ same. no_link (ap (λ links. links.next) same))

pub returns-clause-no_leaf : goal.returns-clause-no_leaf
returns-clause-no_leaf c =
    let slots : List (ℕ × OpaqueNodePtr) = (5, node4 0) ∷ [] in
    let there = shown_node [] (node4_over 0 4 (1 ∷ 1 ∷ []) slots ∷ []) 0 tt in
    let h = of_length 4 (1 ∷ 1 ∷ []) in
    (h, slots, (at_root unreadable (node4 0), there), omega arith, (node4 0 ∷ [], ((h, 5, [], there), tt), inr (inr (inl (λ apart. apart.0.0 refl)))))

pub returns-clause-stored : goal.returns-clause-stored
returns-clause-stored c =
    let slots : List (ℕ × OpaqueNodePtr) = (5, leaf_at 0) ∷ (6, leaf_at 1) ∷ [] in
    let h = of_length 4 (1 ∷ 2 ∷ []) in
    let leaves : List (LeafPtr × LeafNode Key ℕ) =
    leaf_between 0 None (1 ∷ 1 ∷ 1 ∷ 1 ∷ 5 ∷ []) (Some 1) ∷ leaf_between 1 (Some 0) (1 ∷ 1 ∷ 1 ∷ 1 ∷ 6 ∷ []) None ∷ [] in
    let there = shown_node leaves (node4_over 0 4 (1 ∷ 2 ∷ []) slots ∷ []) 0 tt in
    let least = shown_leaf leaves (node4_over 0 4 (1 ∷ 2 ∷ []) slots ∷ []) 0 tt in
    let x : Key × ℕ = (1 ∷ 1 ∷ 1 ∷ 1 ∷ 5 ∷ [], 0) in
    let part : List ℕ = 1 ∷ 1 ∷ 1 ∷ 1 ∷ [] in (
      node4 0,
      h,
      slots,
      (at_root misstored (node4 0), there),
      omega arith,
      (
        part,
        (
          h,
          slots,
          there,
          inr (
            omega arith,
            (x, (leaf_at 0 ∷ [], ((h, 5, (6, leaf_at 1) ∷ [], there), tt), least), omega arith, refl),
          ),
        ),
        refl,
        refl,
        λ same. absurd cc,
      ),
    )
