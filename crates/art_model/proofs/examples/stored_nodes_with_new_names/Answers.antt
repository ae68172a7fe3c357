-- what each store holds under a name, and the names that differ
use Rattle.std.proofs.Common.{T, ◌≡◌, ◌≢◌, ◌∙◌, ℕ, cond, is_eq, List, [], ◌∷◌, get_or, Option, Some, None, refl, sym, ap, subst, inl, inr, arith, option_map, Ordering, Less, Equal, Greater}
use Rattle.std.specs.FinMap as map
use Rattle.art_model.specs.Prelude.{Inner, leaf_cmp, inner_cmp, InnerPtr, LeafNode, LeafPtr, NodeType, Node4, Node16, Node48, Node256, Leaf, OpaqueNodePtr, IsIn, Footprint, names_of, Held, held_leaf, held_inner, content_at}
use Rattle.art_model.specs.Examples.{Key, bytes_of_pair, node4, leaf_at}
use Rattle.art_model.specs.FaultExamples.{store_of, leaf_in, leaf_between, node4_over}
use Rattle.art_model.specs.Kept.{KeepsLeaves, KeepsInners}
use Rattle.art_model.specs.NameExamples.{two_keys, tree_of_two, three_keys, tree_of_three}
use Rattle.art_model.proofs.examples.stored_nodes_with_new_names.Goals as goal

-- the leaves and the inner node of each store
abbrev Entry : Type 0
Entry = LeafPtr × LeafNode Key ℕ

abbrev least : ℕ → Entry
least first = leaf_between first None (1 ∷ []) (Some 2)

abbrev middle : ℕ → Entry
middle first = leaf_between 2 (Some first) (2 ∷ []) (Some 3)

abbrev new : Entry
new = leaf_between 3 (Some 2) (3 ∷ []) None

abbrev last : Entry
last = leaf_between 2 (Some 1) (2 ∷ []) None

abbrev two_leaves : List Entry
two_leaves = least 1 ∷ last ∷ []

abbrev two_inners : List (InnerPtr × Inner)
two_inners = node4_over 0 0 [] ((1, leaf_at 1) ∷ (2, leaf_at 2) ∷ []) ∷ []

abbrev three_leaves : ℕ → List Entry
three_leaves first = least first ∷ middle first ∷ new ∷ []

abbrev three_inners : ℕ → ℕ → List (InnerPtr × Inner)
three_inners first node = node4_over node 0 [] ((1, leaf_at first) ∷ (2, leaf_at 2) ∷ (3, leaf_at 3) ∷ []) ∷ []

module _ (leaves : List (LeafPtr × LeafNode Key ℕ)) (inners : List (InnerPtr × Inner)) where
  -- the leaf in a slot
  leaf_held : (slot : ℕ) → T (map.is_sorted leaf_cmp leaves) →
      content_at (store_of leaves inners) (leaf_at slot) ≡ option_map held_leaf (map.find leaf_cmp (leaf_in slot) leaves)
  leaf_held slot sorted = ap (option_map held_leaf) (map.get-from_sorted leaf_cmp leaves (leaf_in slot) sorted)

  -- the inner node of a kind in a slot
  inner_held : (kind : NodeType) (slot : ℕ) → T (map.is_sorted inner_cmp inners) →
      ◌≡◌ {A = Option (Held Key ℕ)} (option_map held_inner (map.get (store_of leaves inners).inners (record { kind = kind; slot = slot })))
      (option_map held_inner (map.find inner_cmp (record { kind = kind; slot = slot }) inners))
  inner_held kind slot sorted =
      ap (λ o. option_map held_inner o) (map.get-from_sorted inner_cmp inners (record { kind = kind; slot = slot }) sorted)

-- what is in the map is not nothing
is_there : {node : Held Key ℕ} {there : Option (Held Key ℕ)} → there ≡ Some node → there ≢ None
is_there some none = absurd cc

-- a list is searched past an entry of another key
past : {K X : Type 0} (R : K → K → Ordering) (q : K) (e : K × X) (es : List (K × X)) → (R q e.0 ≡ Equal → ⊥) → map.find R q (e ∷ es) ≡ map.find R q es
past R q e es apart =
    elim (R q e.0) as (λ o. (o ≡ Equal → ⊥) → cond (is_eq o) (Some e.1) (map.find R q es) ≡ map.find R q es) [
      | Less ↦ λ other. refl
      | Equal ↦ λ other. absurd (other refl)
      | Greater ↦ λ other. refl
    ] apart

past_leaf : (slot : ℕ) (e : Entry) (es : List Entry) → (slot ≡ e.0.slot → ⊥) →
    map.find leaf_cmp (leaf_in slot) (e ∷ es) ≡ map.find leaf_cmp (leaf_in slot) es
past_leaf slot e es apart = past leaf_cmp (leaf_in slot) e es (λ same. apart (map.nat_cmp-IsAntisymmetric slot e.0.slot same))

no_node4 : (slot a : ℕ) (slots : List (ℕ × OpaqueNodePtr)) → (slot ≡ a → ⊥) →
    ◌≡◌ {A = Option Inner} (map.find inner_cmp (record { kind = Node4; slot = slot }) (node4_over a 0 [] slots ∷ [])) None
no_node4 slot a slots apart =
    past inner_cmp (record { kind = Node4; slot = slot }) (node4_over a 0 [] slots) [] (λ same. apart (map.nat_cmp-IsAntisymmetric slot a same))

-- no leaf of two keys and of three keys is in another slot
no_leaf_of_two : (slot : ℕ) → (slot ≡ 1 → ⊥) → (slot ≡ 2 → ⊥) → content_at two_keys (leaf_at slot) ≡ None
no_leaf_of_two slot a b =
    leaf_held two_leaves two_inners slot tt ∙ ap (λ o. option_map held_leaf o) (past_leaf slot (least 1) (last ∷ []) a ∙ past_leaf slot last [] b)

no_leaf_of_three : (first node : ℕ) → T (map.is_sorted leaf_cmp (three_leaves first)) → (slot : ℕ) →
    (slot ≡ first → ⊥) → (slot ≡ 2 → ⊥) → (slot ≡ 3 → ⊥) → content_at (three_keys first node) (leaf_at slot) ≡ None
no_leaf_of_three first node sorted slot a b c =
    leaf_held (three_leaves first) (three_inners first node) slot sorted
    ∙ ap (λ o. option_map held_leaf o)
    (past_leaf slot (least first) (middle first ∷ new ∷ []) a ∙ past_leaf slot (middle first) (new ∷ []) b ∙ past_leaf slot new [] c)

-- the same of their inner nodes
no_node_of_two : (slot : ℕ) → (slot ≡ 0 → ⊥) → content_at two_keys (node4 slot) ≡ None
no_node_of_two slot a =
    inner_held two_leaves two_inners Node4 slot tt ∙ ap (λ o. option_map held_inner o) (no_node4 slot 0 ((1, leaf_at 1) ∷ (2, leaf_at 2) ∷ []) a)

no_node_of_three : (first node slot : ℕ) → (slot ≡ node → ⊥) → content_at (three_keys first node) (node4 slot) ≡ None
no_node_of_three first node slot a =
    inner_held (three_leaves first) (three_inners first node) Node4 slot tt
    ∙ ap (λ o. option_map held_inner o) (no_node4 slot node ((1, leaf_at first) ∷ (2, leaf_at 2) ∷ (3, leaf_at 3) ∷ []) a)

-- the leaf under a new name: two names are placed, one is freed, and two change
others_leaf : (kind : NodeType) (slot : ℕ) →
    (IsIn (record { kind = kind; slot = slot }) (leaf_at 0 ∷ leaf_at 3 ∷ []) → ⊥) →
    (IsIn (record { kind = kind; slot = slot }) (leaf_at 1 ∷ []) → ⊥) →
    (IsIn (record { kind = kind; slot = slot }) (leaf_at 2 ∷ node4 0 ∷ []) → ⊥) →
    content_at (three_keys 0 0) (record { kind = kind; slot = slot }) ≡ content_at two_keys (record { kind = kind; slot = slot })
others_leaf Leaf slot p f c =
    no_leaf_of_three 0 0 tt slot (λ e. p (inl (ap leaf_at (sym e)))) (λ e. c (inl (ap leaf_at (sym e)))) (λ e. p (inr (inl (ap leaf_at (sym e)))))
    ∙ sym (no_leaf_of_two slot (λ e. f (inl (ap leaf_at (sym e)))) (λ e. c (inl (ap leaf_at (sym e)))))
others_leaf Node4 slot p f c =
    no_node_of_three 0 0 slot (λ e. c (inr (inl (ap node4 (sym e))))) ∙ sym (no_node_of_two slot (λ e. c (inr (inl (ap node4 (sym e))))))
others_leaf Node16 slot p f c = inner_held (three_leaves 0) (three_inners 0 0) Node16 slot tt ∙ sym (inner_held two_leaves two_inners Node16 slot tt)
others_leaf Node48 slot p f c = inner_held (three_leaves 0) (three_inners 0 0) Node48 slot tt ∙ sym (inner_held two_leaves two_inners Node48 slot tt)
others_leaf Node256 slot p f c = inner_held (three_leaves 0) (three_inners 0 0) Node256 slot tt ∙ sym (inner_held two_leaves two_inners Node256 slot tt)

-- the leaves after the first one hold nothing in another slot; the first one is the same in both
beside_first : (slot : ℕ) → (slot ≡ 2 → ⊥) → (slot ≡ 3 → ⊥) →
    map.find leaf_cmp (leaf_in slot) (three_leaves 1) ≡ map.find leaf_cmp (leaf_in slot) two_leaves
beside_first slot b c =
    ap (λ o. cond (is_eq (leaf_cmp (leaf_in slot) (leaf_in 1))) (Some (least 1).1) o)
    (past_leaf slot (middle 1) (new ∷ []) b ∙ past_leaf slot new [] c ∙ sym (past_leaf slot last [] b))

-- the inner node under a new name: two names are placed, one is freed, and one changes
others_inner : (kind : NodeType) (slot : ℕ) →
    (IsIn (record { kind = kind; slot = slot }) (leaf_at 3 ∷ node4 1 ∷ []) → ⊥) →
    (IsIn (record { kind = kind; slot = slot }) (node4 0 ∷ []) → ⊥) →
    (IsIn (record { kind = kind; slot = slot }) (leaf_at 2 ∷ []) → ⊥) →
    content_at (three_keys 1 1) (record { kind = kind; slot = slot }) ≡ content_at two_keys (record { kind = kind; slot = slot })
others_inner Leaf slot p f c =
    leaf_held (three_leaves 1) (three_inners 1 1) slot tt
    ∙ ap (λ o. option_map held_leaf o) (beside_first slot (λ e. c (inl (ap leaf_at (sym e)))) (λ e. p (inl (ap leaf_at (sym e)))))
    ∙ sym (leaf_held two_leaves two_inners slot tt)
others_inner Node4 slot p f c =
    no_node_of_three 1 1 slot (λ e. p (inr (inl (ap node4 (sym e))))) ∙ sym (no_node_of_two slot (λ e. f (inl (ap node4 (sym e)))))
others_inner Node16 slot p f c = inner_held (three_leaves 1) (three_inners 1 1) Node16 slot tt ∙ sym (inner_held two_leaves two_inners Node16 slot tt)
others_inner Node48 slot p f c = inner_held (three_leaves 1) (three_inners 1 1) Node48 slot tt ∙ sym (inner_held two_leaves two_inners Node48 slot tt)
others_inner Node256 slot p f c = inner_held (three_leaves 1) (three_inners 1 1) Node256 slot tt ∙ sym (inner_held two_leaves two_inners Node256 slot tt)

pub returns-clause-few_for_a_leaf : goal.returns-clause-few_for_a_leaf
returns-clause-few_for_a_leaf c =
    let before = leaf_held two_leaves two_inners in
    let after = leaf_held (three_leaves 0) (three_inners 0 0) in
    let step : Footprint two_keys (three_keys 0 0) (leaf_at 0 ∷ leaf_at 3 ∷ []) (leaf_at 1 ∷ []) (leaf_at 2 ∷ node4 0 ∷ []) = record {
      are_placed = ((before 0 tt, is_there (after 0 tt)), ((before 3 tt, is_there (after 3 tt)), tt));
      are_freed = ((is_there (before 1 tt), after 1 tt), tt);
      are_changed = (
        (is_there (before 2 tt), is_there (after 2 tt)),
        ((is_there (inner_held two_leaves two_inners Node4 0 tt), is_there (inner_held (three_leaves 0) (three_inners 0 0) Node4 0 tt)), tt),
      );
      others = λ name. others_leaf name.kind name.slot;
    } in
    (_, _, _, step, omega arith, omega arith, omega arith)

pub returns-clause-few_for_an_inner_node : goal.returns-clause-few_for_an_inner_node
returns-clause-few_for_an_inner_node c =
    let before = leaf_held two_leaves two_inners in
    let after = leaf_held (three_leaves 1) (three_inners 1 1) in
    let step : Footprint two_keys (three_keys 1 1) (leaf_at 3 ∷ node4 1 ∷ []) (node4 0 ∷ []) (leaf_at 2 ∷ []) = record {
      are_placed = (
        (before 3 tt, is_there (after 3 tt)),
        ((inner_held two_leaves two_inners Node4 1 tt, is_there (inner_held (three_leaves 1) (three_inners 1 1) Node4 1 tt)), tt),
      );
      are_freed = ((is_there (inner_held two_leaves two_inners Node4 0 tt), inner_held (three_leaves 1) (three_inners 1 1) Node4 0 tt), tt);
      are_changed = ((is_there (before 2 tt), is_there (after 2 tt)), tt);
      others = λ name. others_inner name.kind name.slot;
    } in
    (_, _, _, step, omega arith, omega arith, omega arith)

-- different slots
one_is_not_zero : ◌≡◌ {A = OpaqueNodePtr} (leaf_at 0) (leaf_at 1) → ⊥
one_is_not_zero same = let slots : ◌≡◌ {A = ℕ} 0 1 = ap (λ name. name.slot) same in omega arith

node_is_another : ◌≡◌ {A = OpaqueNodePtr} (node4 1) (node4 0) → ⊥
node_is_another same = let slots : ◌≡◌ {A = ℕ} 1 0 = ap (λ name. name.slot) same in omega arith

pub returns-clause-a_leaf_is_renamed : goal.returns-clause-a_leaf_is_renamed
returns-clause-a_leaf_is_renamed c changed =
    one_is_not_zero (changed.leaves (1 ∷ [], 0) (1 ∷ [], 0) (leaf_at 1) (leaf_at 0) (inl refl) (inl refl) refl)

pub returns-clause-an_inner_node_is_renamed : goal.returns-clause-an_inner_node_is_renamed
returns-clause-an_inner_node_is_renamed c changed =
    node_is_another (changed.inners Node4 [] (node4 0) (node4 1) (inl refl) (inl refl))

-- a leaf of the one tree and one of the other with the same key have the same name, where equal keys have
keep : (k l : Key) (p q : OpaqueNodePtr) {x y : Key × ℕ} {n m : OpaqueNodePtr} →
    ◌≡◌ {A = (Key × ℕ) × OpaqueNodePtr} ((k, 0), p) (x, n) → ◌≡◌ {A = (Key × ℕ) × OpaqueNodePtr} ((l, 0), q) (y, m) →
    y.0 ≡ x.0 → (l ≡ k → q ≡ p) → m ≡ n
keep k l p q a b same names =
    sym (ap (λ e. e.1) b) ∙ names (ap (λ e. e.0.0) b ∙ same ∙ sym (ap (λ e. e.0.0) a)) ∙ ap (λ e. e.1) a

-- keys of one byte
other_key : (a b : ℕ) → (a ≡ b → ⊥) → ◌≡◌ {A = List ℕ} (a ∷ []) (b ∷ []) → ⊥
other_key a b apart same = apart (ap (λ key. get_or key 0 0) same)

leaves_stay : KeepsLeaves bytes_of_pair (Some tree_of_two) (Some (tree_of_three 1 0))
leaves_stay x y n m (inl a) (inl b) same = keep (1 ∷ []) (1 ∷ []) (leaf_at 1) (leaf_at 1) a b same (λ e. refl)
leaves_stay x y n m (inl a) (inr (inl b)) same = keep (1 ∷ []) (2 ∷ []) (leaf_at 1) (leaf_at 2) a b same (λ e. absurd (other_key 2 1 (λ f. omega arith) e))
leaves_stay x y n m (inl a) (inr (inr (inl b))) same =
    keep (1 ∷ []) (3 ∷ []) (leaf_at 1) (leaf_at 3) a b same (λ e. absurd (other_key 3 1 (λ f. omega arith) e))
leaves_stay x y n m (inr (inl a)) (inl b) same = keep (2 ∷ []) (1 ∷ []) (leaf_at 2) (leaf_at 1) a b same (λ e. absurd (other_key 1 2 (λ f. omega arith) e))
leaves_stay x y n m (inr (inl a)) (inr (inl b)) same = keep (2 ∷ []) (2 ∷ []) (leaf_at 2) (leaf_at 2) a b same (λ e. refl)
leaves_stay x y n m (inr (inl a)) (inr (inr (inl b))) same =
    keep (2 ∷ []) (3 ∷ []) (leaf_at 2) (leaf_at 3) a b same (λ e. absurd (other_key 3 2 (λ f. omega arith) e))
leaves_stay x y n m (inl a) (inr (inr (inr none))) same = elim none [ ]
leaves_stay x y n m (inr (inl a)) (inr (inr (inr none))) same = elim none [ ]
leaves_stay x y n m (inr (inr none)) _ same = elim none [ ]

inners_stay : KeepsInners bytes_of_pair (Some tree_of_two) (Some (tree_of_three 1 0))
inners_stay kind whole n m (inl a) (inl b) = sym (ap (λ e. e.2) b) ∙ ap (λ e. e.2) a
inners_stay kind whole n m (inl a) (inr none) = elim none [ ]
inners_stay kind whole n m (inr none) _ = elim none [ ]

-- names of the first tree are names of the second
still_in : (name : OpaqueNodePtr) → IsIn name (names_of tree_of_two) → IsIn name (names_of (tree_of_three 1 0))
still_in name (inl p) = inl p
still_in name (inr (inl p)) = inr (inl p)
still_in name (inr (inr (inl p))) = inr (inr (inl p))
still_in name (inr (inr (inr none))) = elim none [ ]

others_stay : (kind : NodeType) (slot : ℕ) →
    (IsIn (record { kind = kind; slot = slot }) (names_of tree_of_two) → ⊥) →
    (IsIn (record { kind = kind; slot = slot }) (names_of (tree_of_three 1 0)) → ⊥) →
    content_at (three_keys 1 0) (record { kind = kind; slot = slot }) ≡ content_at two_keys (record { kind = kind; slot = slot })
others_stay Leaf slot o n =
    no_leaf_of_three 1 0 tt slot (λ e. n (inr (inl (ap leaf_at (sym e))))) (λ e. n (inr (inr (inl (ap leaf_at (sym e))))))
    (λ e. n (inr (inr (inr (inl (ap leaf_at (sym e)))))))
    ∙ sym (no_leaf_of_two slot (λ e. n (inr (inl (ap leaf_at (sym e))))) (λ e. n (inr (inr (inl (ap leaf_at (sym e)))))))
others_stay Node4 slot o n =
    no_node_of_three 1 0 slot (λ e. n (inl (ap node4 (sym e)))) ∙ sym (no_node_of_two slot (λ e. n (inl (ap node4 (sym e)))))
others_stay Node16 slot o n = inner_held (three_leaves 1) (three_inners 1 0) Node16 slot tt ∙ sym (inner_held two_leaves two_inners Node16 slot tt)
others_stay Node48 slot o n = inner_held (three_leaves 1) (three_inners 1 0) Node48 slot tt ∙ sym (inner_held two_leaves two_inners Node48 slot tt)
others_stay Node256 slot o n = inner_held (three_leaves 1) (three_inners 1 0) Node256 slot tt ∙ sym (inner_held two_leaves two_inners Node256 slot tt)

comes_in : (name : OpaqueNodePtr) → IsIn name (names_of (tree_of_three 1 0)) → (IsIn name (names_of tree_of_two) → ⊥) → content_at two_keys name ≡ None
comes_in name (inl p) o = absurd (o (inl p))
comes_in name (inr (inl p)) o = absurd (o (inr (inl p)))
comes_in name (inr (inr (inl p))) o = absurd (o (inr (inr (inl p))))
comes_in name (inr (inr (inr (inl p)))) o = subst (λ z. content_at two_keys z ≡ None) p (leaf_held two_leaves two_inners 3 tt)
comes_in name (inr (inr (inr (inr none)))) o = elim none [ ]

pub returns-clause-all_names_stay : goal.returns-clause-all_names_stay
returns-clause-all_names_stay c = record {
  leaves = leaves_stay;
  inners = inners_stay;
  others = record {
    beside = λ name. others_stay name.kind name.slot;
    gone = λ name is gone. absurd (gone (still_in name is));
    taken = comes_in;
  };
}
