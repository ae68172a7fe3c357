-- The pairs that an iterator over leaves has left.
use Rattle.std.proofs.Common.{◌≡◌, ℕ, suc, ◌+◌, ◌-◌, List, [], ◌∷◌, ◌++◌, length, refl, ap, ap₂, sym, ◌∙◌, subst, arith, length-append, append_assoc, Option, Some, None, true, is_some, option_map}
use Rattle.std.specs.FinMap as map
use Rattle.art_model.specs.Prelude.{leaf_name, Inner, Nodes, LeafNode, LeafPtr, NodeType, Node4, Node16, Node48, Node256, Leaf, OpaqueNodePtr, IsCanonicalTree, AreLinked, first_or, leaf_node, leaf_names, leaf_names_below, Holds, HoldsBelow, HasFirstLeaf, HasLastLeaf, first_of, last_of, without_first, without_last, pairs_of, pairs_below, held_leaf, held_inner, content_in, tree_node, links_at, node_at, pair_of, Tree, leaf, inner, Subtrees, child, no_child}
use Rattle.art_model.specs.Gains.{as_leaf}
use Rattle.art_model.proofs.stores.Canonical.{tree_radix}
use Rattle.art_model.proofs.places.Paths.{length-leaf_names}
use Rattle.art_model.proofs.leaves.Segments.{but_last, tree_segment}
use Rattle.art_model.proofs.stores.Views.{leaf_there}
use Rattle.art_reading.specs.Iterators.{IsIteratorOf, IsWalk, pairs_from, pairs_left}
use Rattle.art_reading.proofs.Iterators.{empty_iterator, linked_leaf}

no_inner : {K V : Type 0} (kind : NodeType) (o : Option Inner) (x : K × V) →
    option_map (tree_node {K = K} {V = V} kind) (option_map held_inner o) ≡ Some (leaf_node x) → ⊥
no_inner kind None x e = absurd cc
no_inner kind (Some n) x e = absurd cc

module _ {K V : Type 0} (s : Nodes K V) where
  -- a name that stands for a leaf is that of a leaf, which is in the store
  pub leaf_used : (kind : NodeType) (slot : ℕ) (x : K × V) → option_map (tree_node kind) (content_in s kind slot) ≡ Some (leaf_node x) →
      (kind ≡ Leaf) × (is_some (map.get s.leaves (record { slot = slot })) ≡ true)
  leaf_used Leaf slot x e = (refl, go (map.get s.leaves (record { slot = slot })) e)
    where
      go : (o : Option (LeafNode K V)) → option_map (tree_node Leaf) (option_map held_leaf o) ≡ Some (leaf_node x) → is_some o ≡ true
      go None e = absurd cc
      go (Some l) e = refl
  leaf_used Node4 slot x e = absurd (no_inner Node4 (map.get s.inners (record { kind = Node4; slot = slot })) x e)
  leaf_used Node16 slot x e = absurd (no_inner Node16 (map.get s.inners (record { kind = Node16; slot = slot })) x e)
  leaf_used Node48 slot x e = absurd (no_inner Node48 (map.get s.inners (record { kind = Node48; slot = slot })) x e)
  leaf_used Node256 slot x e = absurd (no_inner Node256 (map.get s.inners (record { kind = Node256; slot = slot })) x e)

  -- the pairs of the leaves under these names
  abbrev pub one_pair : Option (LeafNode K V) → List (K × V)
  one_pair None = []
  one_pair (Some node) = pair_of node ∷ []

  read_pair : (o : Option (LeafNode K V)) (pair : K × V) → option_map pair_of o ≡ Some pair → one_pair o ≡ pair ∷ []
  read_pair None pair e = absurd cc
  read_pair (Some node) pair e = let same : pair_of node ≡ pair = cc in ap (λ x. x ∷ []) same

  abbrev pub named_pairs : List OpaqueNodePtr → List (K × V)
  named_pairs [] = []
  named_pairs (n ∷ ns) = one_pair (map.get s.leaves (as_leaf n)) ++ named_pairs ns

  named_append : (xs ys : List OpaqueNodePtr) → named_pairs (xs ++ ys) ≡ named_pairs xs ++ named_pairs ys
  named_append [] ys = refl
  named_append (x ∷ xs) ys =
      ap (λ z. one_pair (map.get s.leaves (as_leaf x)) ++ z) (named_append xs ys)
      ∙ sym (append_assoc (one_pair (map.get s.leaves (as_leaf x))) (named_pairs xs) (named_pairs ys))

  pub from_there : (p : LeafPtr) (node : LeafNode K V) (n : ℕ) → map.get s.leaves p ≡ Some node →
      pairs_from s (suc n) (Some p) ≡ pair_of node ∷ pairs_from s n node.next
  unfolding pairs_from
  from_there p node n there = ap (λ o. let r : List (K × V) = elim o [ None ↦ [] | Some other ↦ pair_of other ∷ pairs_from s n other.next ] in r) there

  mutual
    unfolding pairs_from

    -- a list of linked leaves gives the pairs of its names
    chained : (names : List OpaqueNodePtr) (before after o : Option OpaqueNodePtr) (p : Option LeafPtr) → AreLinked (links_at s) before names after →
        option_map leaf_name p ≡ first_or names o → pairs_from s (length names) p ≡ named_pairs names
    chained [] before after o p linked e = refl
    chained (n ∷ ns) before after o None linked e = absurd cc
    chained (n ∷ ns) before after o (Some p) linked e =
        let same : leaf_name p ≡ n = cc in
        let (node, there, previous, next) =
        linked_leaf (map.get s.leaves p) _ (subst (λ k. links_at s k ≡ Some (record { previous = before; next = first_or ns after }))
        (sym same) linked.0) in
        let at : as_leaf n ≡ p = ap as_leaf (sym same) in
        from_there p node (length ns) there ∙ ap (λ xs. pair_of node ∷ xs) (chained ns (Some n) after after node.next linked.1 next)
        ∙ sym (ap (λ o. one_pair o ++ named_pairs ns) (ap (map.get s.leaves) at ∙ there))

  pub first_first : (names : List OpaqueNodePtr) (n : OpaqueNodePtr) → first_of names ≡ Some n → Some n ≡ first_or names None
  first_first [] n e = absurd cc
  first_first (x ∷ xs) n e = sym e

  -- so an iterator has the pairs of its names left
  pub left_are : (walk : Option (LeafPtr × LeafPtr)) (names : List OpaqueNodePtr) (len : ℕ) → IsIteratorOf s walk names →
      len ≡ length names → pairs_left s walk len ≡ named_pairs names
  left_are None names len is counted =
      ap (λ n. pairs_from s n None) counted ∙ chained names is.segment.before is.segment.after None None is.segment.linked
      (ap (λ ns. first_or ns None) (sym is.ends))
  left_are (Some (a, b)) names len is counted =
      ap (λ n. pairs_from s n (Some a)) counted
      ∙ chained names is.segment.before is.segment.after None (Some a) is.segment.linked (first_first names (leaf_name a) is.ends.0)

  mutual
    unfolding pairs_from

    -- and as many of them
    chained_len : (names : List OpaqueNodePtr) (before after o : Option OpaqueNodePtr) (p : Option LeafPtr) → AreLinked (links_at s) before names after →
        option_map leaf_name p ≡ first_or names o → length (pairs_from s (length names) p) ≡ length names
    chained_len [] before after o p linked e = refl
    chained_len (n ∷ ns) before after o None linked e = absurd cc
    chained_len (n ∷ ns) before after o (Some p) linked e =
        let same : leaf_name p ≡ n = cc in
        let (node, there, previous, next) =
        linked_leaf (map.get s.leaves p) _ (subst (λ k. links_at s k ≡ Some (record { previous = before; next = first_or ns after }))
        (sym same) linked.0) in
        ap length (from_there p node (length ns) there) ∙ ap suc (chained_len ns (Some n) after after node.next linked.1 next)

  -- an iterator has as many pairs left as its length says
  pub left_len : (walk : Option (LeafPtr × LeafPtr)) (len : ℕ) → IsWalk s walk len → length (pairs_left s walk len) ≡ len
  left_len None len w =
      ap (λ n. length (pairs_from s n None)) w.len_is ∙ chained_len w.names w.is.segment.before w.is.segment.after None None w.is.segment.linked
      (ap (λ ns. first_or ns None) (sym w.is.ends)) ∙ sym w.len_is
  left_len (Some (a, b)) len w =
      ap (λ n. length (pairs_from s n (Some a))) w.len_is
      ∙ chained_len w.names w.is.segment.before w.is.segment.after None (Some a) w.is.segment.linked
      (first_first w.names (leaf_name a) w.is.ends.0) ∙ sym w.len_is

  mutual
    leaves_named : (t : Tree OpaqueNodePtr (K × V)) → Holds (node_at s) t → named_pairs (leaf_names t) ≡ pairs_of t
    leaves_named (leaf n x) h =
        let is_leaf : leaf_name (as_leaf n) ≡ n =
        ap (λ kind. let r : OpaqueNodePtr = record { kind = kind; slot = n.slot } in r) (sym (leaf_used n.kind n.slot x h).0) in
        let (node, there, pair) = leaf_there s (as_leaf n) x (ap (node_at s) is_leaf ∙ h) in
        rw there (ap (λ y. y ∷ []) pair)
    leaves_named (inner n h cs) holds = leaves_named_below cs holds.1

    leaves_named_below : (cs : Subtrees OpaqueNodePtr (K × V)) → HoldsBelow (node_at s) cs → named_pairs (leaf_names_below cs) ≡ pairs_below cs
    leaves_named_below no_child h = refl
    leaves_named_below (child b t cs) h =
        named_append (leaf_names t) (leaf_names_below cs) ∙ ap₂ (λ xs ys. xs ++ ys) (leaves_named t h.0) (leaves_named_below cs h.1)

  -- the first of the names gives the first of the pairs
  pub first_left : (names : List OpaqueNodePtr) (p : LeafPtr) (pair : K × V) → Some (leaf_name p) ≡ first_of names →
      option_map pair_of (map.get s.leaves p) ≡ Some pair →
      named_pairs names ≡ pair ∷ named_pairs (without_first names)
  first_left [] p pair e read = absurd cc
  first_left (n ∷ ns) p pair e read = let same : n ≡ leaf_name p = cc in rw same (ap (λ xs. xs ++ named_pairs ns) (read_pair (map.get s.leaves p) pair read))

  -- and the last of them the last one
  pub last_left : (names : List OpaqueNodePtr) (p : LeafPtr) (pair : K × V) → Some (leaf_name p) ≡ last_of names →
      option_map pair_of (map.get s.leaves p) ≡ Some pair →
      named_pairs names ≡ named_pairs (without_last names) ++ pair ∷ []
  last_left [] p pair e read = absurd cc
  last_left (n ∷ ns) p pair e read =
      ap named_pairs (but_last n ns (leaf_name p) (sym e)) ∙ named_append (without_last (n ∷ ns)) (leaf_name p ∷ [])
      ∙ ap (λ xs. named_pairs (without_last (n ∷ ns)) ++ (xs ++ [])) (read_pair (map.get s.leaves p) pair read)

-- a list with a first name, or with a last one, has one more than the others
pub less_first : {N : Type 0} (names : List N) (n : N) → Some n ≡ first_of names → length names ≡ length (without_first names) + 1
less_first [] n e = absurd cc
less_first (x ∷ xs) n e = omega arith

pub less_last : {N : Type 0} (names : List N) (n : N) → Some n ≡ last_of names → length names ≡ length (without_last names) + 1
less_last [] n e = absurd cc
less_last (x ∷ xs) n e = ap length (but_last x xs n (sym e)) ∙ length-append (without_last (x ∷ xs)) (n ∷ [])

-- a list without a first element is empty, and so is one without a last one
pub none_first : {N : Type 0} (xs : List N) → None ≡ first_of xs → xs ≡ []
none_first [] e = refl
none_first (x ∷ xs) e = absurd cc

pub none_last : {N : Type 0} (xs : List N) → None ≡ last_of xs → xs ≡ []
none_last [] e = refl
none_last (x ∷ []) e = absurd cc
none_last (x ∷ y ∷ ys) e = let none : y ∷ ys ≡ [] = none_last (y ∷ ys) e in absurd cc

module _ {K V : Type 0} {s : Nodes K V} {walk left : Option (LeafPtr × LeafPtr)} {len : ℕ} (w : IsWalk s walk len) where
  -- if an iterator has no name left, there is no pair
  ended : (without : List OpaqueNodePtr → List OpaqueNodePtr) → without [] ≡ [] → IsIteratorOf s left (without w.names) → w.names ≡ [] →
      (pairs_left s walk len ≡ []) × (pairs_left s left len ≡ [])
  ended without nothing after none =
      let gone : without w.names ≡ [] = ap without none ∙ nothing in
      let empty : len ≡ 0 = w.len_is ∙ ap length none in
      (left_are s walk [] len (subst (IsIteratorOf s walk) none w.is) empty, left_are s left [] len (subst (IsIteratorOf s left) gone after) empty)

  module _ (after : (names : List OpaqueNodePtr) → IsIteratorOf s walk names → IsIteratorOf s left (without_first names)) where
    pub first_ended : ((names : List OpaqueNodePtr) → IsIteratorOf s walk names → None ≡ first_of names) →
        (pairs_left s walk len ≡ []) × (pairs_left s left len ≡ [])
    first_ended e = ended without_first refl (after w.names w.is) (none_first w.names (e w.names w.is))

    pub first_step : {p : LeafPtr} {pair : K × V} → ((names : List OpaqueNodePtr) → IsIteratorOf s walk names → Some (leaf_name p) ≡ first_of names) →
        option_map pair_of (map.get s.leaves p) ≡ Some pair → pairs_left s walk len ≡ pair ∷ pairs_left s left (len - 1)
    first_step {p} {pair} e read =
        let less = less_first w.names (leaf_name p) (e w.names w.is) in
        let counted = w.len_is in
        left_are s walk w.names len w.is counted ∙ first_left s w.names p pair (e w.names w.is) read
        ∙ ap (λ xs. pair ∷ xs) (sym (left_are s left (without_first w.names) (len - 1) (after w.names w.is) (omega arith)))

    unfoldable pub first_walk : {p : LeafPtr} →
        ((names : List OpaqueNodePtr) → IsIteratorOf s walk names → Some (leaf_name p) ≡ first_of names) → IsWalk s left (len - 1)
    first_walk {p} e =
        let less = less_first w.names (leaf_name p) (e w.names w.is) in
        let counted = w.len_is in
        record { names = without_first w.names; is = after w.names w.is; len_is = omega arith }

  module _ (after : (names : List OpaqueNodePtr) → IsIteratorOf s walk names → IsIteratorOf s left (without_last names)) where
    pub last_ended : ((names : List OpaqueNodePtr) → IsIteratorOf s walk names → None ≡ last_of names) →
        (pairs_left s walk len ≡ []) × (pairs_left s left len ≡ [])
    last_ended e = ended without_last refl (after w.names w.is) (none_last w.names (e w.names w.is))

    module _ {p : LeafPtr} (e : (names : List OpaqueNodePtr) → IsIteratorOf s walk names → Some (leaf_name p) ≡ last_of names) where
      unfoldable pub last_walk : IsWalk s left (len - 1)
      last_walk =
          let less = less_last w.names (leaf_name p) (e w.names w.is) in
          let counted = w.len_is in
          record { names = without_last w.names; is = after w.names w.is; len_is = omega arith }

      pub last_step : {pair : K × V} → option_map pair_of (map.get s.leaves p) ≡ Some pair → pairs_left s walk len ≡ pairs_left s left (len - 1) ++ pair ∷ []
      last_step {pair} read =
          let less = less_last w.names (leaf_name p) (e w.names w.is) in
          let counted = w.len_is in
          left_are s walk w.names len w.is counted ∙ last_left s w.names p pair (e w.names w.is) read
          ∙ ap (λ xs. xs ++ pair ∷ []) (sym (left_are s left (without_last w.names) (len - 1) (after w.names w.is) (omega arith)))

module _ {K V : Type 0} {bytes : K × V → List ℕ} {P : ℕ} {s : Nodes K V} {root : OpaqueNodePtr} {pairs : List (K × V)} {layout : Tree OpaqueNodePtr (K × V)}
    (by : IsCanonicalTree bytes P s root pairs layout) where
  -- the iterator from the first leaf of a tree to the last one
  pub whole_walk : {p q : LeafPtr} → HasFirstLeaf layout (leaf_name p) → HasLastLeaf layout (leaf_name q) → IsIteratorOf s (Some (p, q)) (leaf_names layout)
  whole_walk first last = record { ends = (first.name_is, last.name_is); segment = tree_segment layout by.stands.0.distinct by.linked }

  pub whole_len : length (leaf_names layout) ≡ length pairs
  whole_len = length-leaf_names layout ∙ ap length (tree_radix by).1

  pub whole_pairs : {p q : LeafPtr} {len : ℕ} → HasFirstLeaf layout (leaf_name p) → HasLastLeaf layout (leaf_name q) → len ≡ length pairs →
      pairs_left s (Some (p, q)) len ≡ pairs
  whole_pairs {p} {q} {len} first last counted =
      left_are s (Some (p, q)) (leaf_names layout) len (whole_walk first last) (counted ∙ sym whole_len)
      ∙ leaves_named s layout by.stands.0.holds ∙ (tree_radix by).1

-- an empty iterator has no pairs left
pub none_left : {K V : Type 0} (s : Nodes K V) → pairs_left s None 0 ≡ []
none_left s = left_are s None [] 0 empty_iterator refl
