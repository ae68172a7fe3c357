-- A store that gains or loses a tree: what is held under each name then, and how a gained tree grows by a child.
use Rattle.std.proofs.Common.{◌≡◌, ◌≢◌, ℕ, ◌<◌, List, [], ◌∷◌, ◌++◌, map, Option, Some, None, refl, ap, sym, ◌∙◌, subst, append-nil, append_assoc, inl, inr, option_map, option_and_then}
use Rattle.std.specs.List.{AllByRecursion as Each}
use Rattle.std.specs.FinMap.{get, insert}
use Rattle.std.proofs.lemmas.Bool.{lt-ltb}
use Rattle.std.proofs.lemmas.List.{map-append}
use Rattle.art_model.specs.Prelude.{with_child, Inner, put_child, leaf_name, inner_name, Nodes, change, Leaf, LeafPtr, LeafNode, InnerPtr, OpaqueNodePtr, Tree, leaf, inner, Subtrees, child, no_child, NodeHeader, join, bytes_of, leaf_node, inner_node, name_of, slots_of, names_of, names_below, leaf_names, leaf_names_below, inner_names, inner_names_below, Holds, HoldsBelow, AreDistinct, AreLinked, first_or, last_or, content_at, held_leaf, held_inner, tree_node, node_at, links_at, links_of, pair_of, header_at, Leaves, as_inner, with_links_around, change_some, with_next, with_previous, IsIn, KeepsOthers, Frees, without, Gains}
use Rattle.art_parts.proofs.NameLemmas.{leaf_cmp_total, inner_cmp_total, leaf_cmp-IsAntisymmetric, inner_cmp-IsAntisymmetric}
use Rattle.art_nodes.proofs.StoreChanges.{leaf_here, inner_here, inner_changed_here, inner_changed_elsewhere}
use Rattle.art_model.specs.Gains.{as_leaf, Loses}
use Rattle.art_model.proofs.leaves.Chains.{links_leaf, relinked_beside}
use Rattle.art_model.proofs.leaves.Leaves.{joined_pair}
use Rattle.art_model.proofs.leaves.Links.{link_up, linked-frame, first_in, last_in}
use Rattle.art_model.proofs.lists.Lists.{each_in, each_from, in_left, in_right, in_either, in_map, out_map}
use Rattle.art_model.proofs.stores.Names.{IsTaken, all_taken, taken_in, taken_distinct, takes_leaves, takes_inners}
use Rattle.art_model.proofs.lists.Pairwises.{Pairwise-append}
use Rattle.art_model.proofs.places.Paths.{names_below-join, leaf_names_below-join}
use Rattle.art_model.proofs.stores.Stores.{frame, frame_below, HoldsBelow-join}
use Rattle.art_model.proofs.stores.Views.{leaf_or, held_in_inner, leaf_name_is, inner_name_is, same_leaf, same_inner_held}
use Rattle.art_model.proofs.stores.Without.{is_without, without_in, without_off, without_new, without_both, without_changed}
use Rattle.art_model.proofs.stores.Writes.{node_at-leaf, node_at-inner, inner_at, inner_name_one, shown, same_inner}

-- ---- which names of a tree are those of leaves, and which those of inner nodes

module _ {K V : Type 0} (s : Nodes K V) where
  mutual
    -- a leaf's name among those of all nodes is among those of the leaves
    pub leaf_among : (t : Tree OpaqueNodePtr (K × V)) → Holds (node_at s) t → (p : LeafPtr) → IsIn (leaf_name p) (names_of t) →
        IsIn (leaf_name p) (leaf_names t)
    leaf_among (leaf n x) h p i = i
    leaf_among (inner n g cs) holds p (inl e) = absurd (leaf_name_is s p g (slots_of cs) (ap (node_at s) (sym e) ∙ holds.0))
    leaf_among (inner n g cs) holds p (inr i) = leaf_among_below cs holds.1 p i

    leaf_among_below : (cs : Subtrees OpaqueNodePtr (K × V)) → HoldsBelow (node_at s) cs → (p : LeafPtr) →
        IsIn (leaf_name p) (names_below cs) → IsIn (leaf_name p) (leaf_names_below cs)
    leaf_among_below no_child h p i = absurd i
    leaf_among_below (child b t cs) h p i = elim (in_either (leaf_name p) (names_of t) (names_below cs) i) [
      | inl j ↦ in_left (leaf_name p) (leaf_names t) (leaf_names_below cs) (leaf_among t h.0 p j)
      | inr j ↦ in_right (leaf_name p) (leaf_names t) (leaf_names_below cs) (leaf_among_below cs h.1 p j)
    ]

  mutual
    -- and one of another kind is among those of the inner nodes
    inner_among : (t : Tree OpaqueNodePtr (K × V)) → Holds (node_at s) t → (k : OpaqueNodePtr) → k.kind ≢ Leaf → IsIn k (names_of t) → IsIn k (inner_names t)
    inner_among (leaf n x) h k off (inl e) = absurd (inner_name_is s (as_inner k) x off (ap (node_at s) (sym e) ∙ h))
    inner_among (leaf n x) h k off (inr i) = absurd i
    inner_among (inner n g cs) holds k off (inl e) = inl e
    inner_among (inner n g cs) holds k off (inr i) = inr (inner_among_below cs holds.1 k off i)

    inner_among_below : (cs : Subtrees OpaqueNodePtr (K × V)) → HoldsBelow (node_at s) cs → (k : OpaqueNodePtr) → k.kind ≢ Leaf →
        IsIn k (names_below cs) → IsIn k (inner_names_below cs)
    inner_among_below no_child h k off i = absurd i
    inner_among_below (child b t cs) h k off i = elim (in_either k (names_of t) (names_below cs) i) [
      | inl j ↦ in_left k (inner_names t) (inner_names_below cs) (inner_among t h.0 k off j)
      | inr j ↦ in_right k (inner_names t) (inner_names_below cs) (inner_among_below cs h.1 k off j)
    ]

  mutual
    -- the names of the leaves are leaves' names
    leaf_kind : (t : Tree OpaqueNodePtr (K × V)) → Holds (node_at s) t → (k : OpaqueNodePtr) → IsIn k (leaf_names t) → (p : LeafPtr) × (k ≡ leaf_name p)
    leaf_kind (leaf n x) h k (inl e) =
        elim (leaf_or k) [ inl found ↦ found | inr off ↦ absurd (inner_name_is s (as_inner k) x off (ap (node_at s) (sym e) ∙ h)) ]
    leaf_kind (leaf n x) h k (inr i) = absurd i
    leaf_kind (inner n g cs) holds k i = leaf_kind_below cs holds.1 k i

    leaf_kind_below : (cs : Subtrees OpaqueNodePtr (K × V)) → HoldsBelow (node_at s) cs → (k : OpaqueNodePtr) →
        IsIn k (leaf_names_below cs) → (p : LeafPtr) × (k ≡ leaf_name p)
    leaf_kind_below no_child h k i = absurd i
    leaf_kind_below (child b t cs) h k i =
        elim (in_either k (leaf_names t) (leaf_names_below cs) i) [ inl j ↦ leaf_kind t h.0 k j | inr j ↦ leaf_kind_below cs h.1 k j ]

  mutual
    -- and those of the inner nodes are not
    inner_kind : (t : Tree OpaqueNodePtr (K × V)) → Holds (node_at s) t → (k : OpaqueNodePtr) → IsIn k (inner_names t) → k.kind ≢ Leaf
    inner_kind (leaf n x) h k i = absurd i
    inner_kind (inner n g cs) holds k (inl e) =
        elim (leaf_or k) [
          | inl (p, is) ↦ absurd (leaf_name_is s p g (slots_of cs)
              (ap (node_at s) (sym (e ∙ is)) ∙ holds.0))
          | inr off ↦ off
        ]
    inner_kind (inner n g cs) holds k (inr i) = inner_kind_below cs holds.1 k i

    inner_kind_below : (cs : Subtrees OpaqueNodePtr (K × V)) → HoldsBelow (node_at s) cs → (k : OpaqueNodePtr) → IsIn k (inner_names_below cs) → k.kind ≢ Leaf
    inner_kind_below no_child h k i = absurd i
    inner_kind_below (child b t cs) h k i =
        elim (in_either k (inner_names t) (inner_names_below cs) i) [ inl j ↦ inner_kind t h.0 k j | inr j ↦ inner_kind_below cs h.1 k j ]

-- ---- what is held under each name

module _ {K V : Type 0} {s t : Nodes K V} {tree : Tree OpaqueNodePtr (K × V)} (holds : Holds (node_at s) tree) (lost : Loses s t tree) where
  -- nothing under a name of the tree
  lost_in : (k : OpaqueNodePtr) → IsIn k (names_of tree) → content_at t k ≡ None
  lost_in k i = elim (leaf_or k) [
    | inl (p, e) ↦ subst (λ z. content_at t z ≡ None) (sym e) (ap (option_map held_leaf) (ap (λ z. get z p) lost.leaves
        ∙ without_in leaf_cmp_total leaf_cmp-IsAntisymmetric s.leaves (map as_leaf (leaf_names tree)) p
        (in_map as_leaf (leaf_name p) (leaf_names tree) (leaf_among s tree holds p (subst (λ z. IsIn z (names_of tree)) e i)))))
    | inr off ↦ held_in_inner t k.kind k.slot off ∙ ap (option_map held_inner) (ap (λ z. get z (as_inner k)) lost.inners
        ∙ without_in inner_cmp_total inner_cmp-IsAntisymmetric s.inners (map as_inner (inner_names tree)) (as_inner k)
        (in_map as_inner k (inner_names tree) (inner_among s tree holds k off i)))
  ]

  -- a leaf of another name is unchanged
  leaf_off : (p : LeafPtr) → (IsIn (leaf_name p) (names_of tree) → ⊥) → get t.leaves p ≡ get s.leaves p
  leaf_off p off = ap (λ z. get z p) lost.leaves ∙ without_off leaf_cmp_total leaf_cmp-IsAntisymmetric s.leaves (map as_leaf (leaf_names tree)) p (λ i.
      let (k, j, e) = out_map as_leaf p (leaf_names tree) i in
      let (q, is) = leaf_kind s tree holds k j in
      let same : k ≡ leaf_name p = is ∙ ap leaf_name (sym (ap as_leaf is) ∙ e) in
      off (taken_in takes_leaves tree (leaf_name p) (subst (λ z. IsIn z (leaf_names tree)) same j)))

  -- and so is an inner node
  inner_off : (k : OpaqueNodePtr) → (IsIn k (names_of tree) → ⊥) → get t.inners (as_inner k) ≡ get s.inners (as_inner k)
  inner_off k off = ap (λ z. get z (as_inner k)) lost.inners
      ∙ without_off inner_cmp_total inner_cmp-IsAntisymmetric s.inners (map as_inner (inner_names tree)) (as_inner k) (λ i.
      let (m, j, e) = out_map as_inner (as_inner k) (inner_names tree) i in
      off (taken_in takes_inners tree k (subst (λ z. IsIn z (inner_names tree)) (inner_name_one m k e) j)))

  -- under another name is what was before
  lost_off : (k : OpaqueNodePtr) → (IsIn k (names_of tree) → ⊥) → content_at t k ≡ content_at s k
  lost_off k off = elim (leaf_or k) [
    | inl (p, e) ↦ subst (λ z. content_at t z ≡ content_at s z) (sym e)
        (ap (option_map held_leaf) (leaf_off p (λ i. off (subst (λ z. IsIn z (names_of tree)) (sym e) i))))
    | inr kind ↦ held_in_inner t k.kind k.slot kind ∙ ap (option_map held_inner) (inner_off k off) ∙ sym (held_in_inner s k.kind k.slot kind)
  ]

  -- and the other way round they are added
  pub came_others : KeepsOthers t s [] (names_of tree)
  came_others = record { beside = λ k _ off. sym (lost_off k off); gone = λ k i _. absurd i; taken = λ k i _. lost_in k i }

inner_now : {K V : Type 0} (t : Nodes K V) (q : InnerPtr) → q.kind ≢ Leaf → (o : Option Inner) →
    content_at t (inner_name q) ≡ option_map held_inner o → get t.inners q ≡ o
inner_now {K} {V} t q off o e = same_inner_held K V (get t.inners q) o (sym (held_in_inner t q.kind q.slot off) ∙ e)

-- where exactly a tree's names were removed, the maps are those without them
module _ {K V : Type 0} {s t : Nodes K V} {tree : Tree OpaqueNodePtr (K × V)} (holds : Holds (node_at s) tree) (freed : Frees (names_of tree) s t) where
  pub frees_lost : ((q : InnerPtr) → q.kind ≡ Leaf → get t.inners q ≡ get s.inners q) → Loses s t tree
  frees_lost improper = record {
    leaves = is_without leaf_cmp_total leaf_cmp-IsAntisymmetric s.leaves t.leaves (map as_leaf (leaf_names tree))
        (λ p i.
        let (k, j, e) = out_map as_leaf p (leaf_names tree) i in
        let (q, is) = leaf_kind s tree holds k j in
        let same : k ≡ leaf_name p = is ∙ ap leaf_name (sym (ap as_leaf is) ∙ e) in
        same_leaf (get t.leaves p) None (freed.gone (leaf_name p)
        (taken_in takes_leaves tree (leaf_name p) (subst (λ z. IsIn z (leaf_names tree)) same j)) (λ z. z)))
        (λ p off. same_leaf (get t.leaves p) (get s.leaves p)
        (freed.beside (leaf_name p) (λ i. off (in_map as_leaf (leaf_name p) (leaf_names tree) (leaf_among s tree holds p i))) (λ z. z)));
    inners = is_without inner_cmp_total inner_cmp-IsAntisymmetric s.inners t.inners (map as_inner (inner_names tree))
        (λ q i.
        let (k, j, e) = out_map as_inner q (inner_names tree) i in
        let same : k ≡ inner_name q = ap inner_name e in
        let in_tree : IsIn (inner_name q) (inner_names tree) = subst (λ z. IsIn z (inner_names tree)) same j in
        inner_now t q (inner_kind s tree holds (inner_name q) in_tree) None
        (freed.gone (inner_name q) (taken_in takes_inners tree (inner_name q) in_tree) (λ z. z)))
        (λ q off. elim (leaf_or (inner_name q)) [
          | inl (p, e) ↦ improper q (ap (λ z. z.kind) e)
          | inr kind ↦ inner_now t q kind (get s.inners q) (freed.beside (inner_name q)
              (λ i. off (in_map as_inner (inner_name q) (inner_names tree) (inner_among s tree holds (inner_name q) kind i))) (λ z. z)
              ∙ held_in_inner s q.kind q.slot kind)
        ]);
  }

-- ---- trees that are gained

module _ {K V : Type 0} {old new : Nodes K V} where
  -- a single leaf
  pub gained_leaf : (p : LeafPtr) (x : LeafNode K V) → x.previous ≡ None → x.next ≡ None → get old.leaves p ≡ None →
      new.leaves ≡ insert old.leaves p x → new.inners ≡ old.inners → Gains old new (leaf (leaf_name p) (pair_of x))
  gained_leaf p x first last free leaves inners =
      let here : get new.leaves p ≡ Some x = ap (λ z. get z p) leaves ∙ leaf_here old.leaves p x in
      record {
        holds = node_at-leaf new p ∙ ap (λ o. option_map leaf_node (option_map pair_of o)) here;
        distinct = (tt, tt);
        linked = (links_leaf new p (Some x) here ∙ rw (first, last) refl, tt);
        added = record {
          leaves = without_new leaf_cmp_total leaf_cmp-IsAntisymmetric old.leaves p x free
              ∙ ap (λ z. without z (p ∷ [])) (sym leaves);
          inners = sym inners;
        };
      }

  -- an inner node without a child
  pub gained_inner : (p : InnerPtr) (x : Inner) → p.kind ≢ Leaf → x.children ≡ [] → get old.inners p ≡ None → new.inners ≡ insert old.inners p x →
      new.leaves ≡ old.leaves → Gains old new (inner (inner_name p) (header_at p.kind x) no_child)
  gained_inner p x off none free inners leaves =
      let here : get new.inners p ≡ Some x = ap (λ z. get z p) inners ∙ inner_here old.inners p x in
      record {
        holds = (node_at-inner new (inner_name p) off (Some x) here ∙ shown refl none, tt);
        distinct = (tt, tt);
        linked = tt;
        added = record {
          leaves = sym leaves;
          inners = without_new inner_cmp_total inner_cmp-IsAntisymmetric old.inners p x free
              ∙ ap (λ z. without z (p ∷ [])) (sym inners);
        };
      }

module _ {N A : Type 0} where
  -- names of joined children's inner nodes
  inner_names_below-join : (cs : Subtrees N A) (b : ℕ) (u : Tree N A) →
      inner_names_below (join cs (child b u no_child)) ≡ inner_names_below cs ++ inner_names u
  inner_names_below-join no_child b u = append-nil (inner_names u)
  inner_names_below-join (child c t cs) b u = rw (inner_names_below-join cs b u) (sym (append_assoc (inner_names t) (inner_names_below cs) (inner_names u)))

-- a child appended to all others
put_child-last : {A : Type 0} (l : Subtrees OpaqueNodePtr A) (b : ℕ) (t : Tree OpaqueNodePtr A) → Each (λ c. c < b) (bytes_of l) →
    put_child (slots_of l) b (name_of t) ≡ slots_of (join l (child b t no_child))
put_child-last no_child b t low = refl
put_child-last (child c u l) b t low = rw (lt-ltb c b low.0) (ap (λ z. (c, name_of u) ∷ z) (put_child-last l b t low.1))

-- An inner node that was gained has got a child: a tree that was gained after it.
pub record GainsChild {K V : Type 0} (old mid next new : Nodes K V) (name : OpaqueNodePtr) (header : NodeHeader) (cs : Subtrees OpaqueNodePtr (K × V))
    (b : ℕ) (u : Tree OpaqueNodePtr (K × V)) (last : Option LeafPtr) (first : LeafPtr) : Type 0 where
  pub so_far : Gains old mid (inner name header cs)
  pub more : Gains mid next u
  pub low : Each (λ c. c < b) (bytes_of cs)
  pub last_is : option_map leaf_name last ≡ last_or (leaf_names_below cs) None
  pub first_is : Some (leaf_name first) ≡ first_or (leaf_names u) None
  pub leaves : new.leaves ≡ with_links_around next.leaves last (Some first) (Some first) last
  pub inners : new.inners ≡ change next.inners (as_inner name) (with_child b (name_of u))

module _ {K V : Type 0} {old mid next new : Nodes K V} {name : OpaqueNodePtr} {header : NodeHeader} {cs : Subtrees OpaqueNodePtr (K × V)} {b : ℕ}
    {u : Tree OpaqueNodePtr (K × V)} {last : Option LeafPtr} {first : LeafPtr} (is : GainsChild old mid next new name header cs b u last first) where
  abbrev others : List OpaqueNodePtr
  others = leaf_names_below cs

  -- no name of the child is one of the node's tree
  child_apart : (k : OpaqueNodePtr) → IsIn k (name ∷ names_below cs) → IsIn k (names_of u) → ⊥
  child_apart k i j =
      each_in (IsTaken (node_at mid)) k (name ∷ names_below cs) (all_taken (node_at mid) (inner name header cs) is.so_far.holds) i
      (ap (option_map (tree_node k.kind)) (lost_in is.more.holds is.more.added k j))

  -- the node's tree is unchanged
  child_held : (k : OpaqueNodePtr) → IsIn k (name ∷ names_below cs) → content_at next k ≡ content_at mid k
  child_held k i = sym (lost_off is.more.holds is.more.added k (child_apart k i))

  pub child_seen : (k : OpaqueNodePtr) → IsIn k (name ∷ names_below cs) → node_at next k ≡ node_at mid k
  child_seen k i = ap (option_map (tree_node k.kind)) (child_held k i)

  -- and all but the node are seen as they were once the child is added
  child_put : (k : OpaqueNodePtr) → k ≢ name → node_at new k ≡ node_at next k
  child_put k off = elim (leaf_or k) [
    | inl (p, e) ↦ subst (λ z. node_at new z ≡ node_at next z) (sym e)
        (node_at-leaf new p ∙ ap (option_map leaf_node)
        (ap (λ z. option_map pair_of (get z p)) is.leaves ∙ joined_pair next.leaves last (Some first) (Some first) last p)
        ∙ sym (node_at-leaf next p))
    | inr kind ↦ same_inner next new k kind (ap (λ z. get z (as_inner k)) is.inners ∙
        inner_changed_elsewhere next.inners (as_inner name) (as_inner k) (with_child b (name_of u)) (λ e. off (inner_name_one k name e)))
  ]

  parent_seen : node_at new name ≡ Some (inner_node header (slots_of (join cs (child b u no_child))))
  parent_seen =
      let (off, x, there, head, below) = inner_at next name header (slots_of cs) (child_seen name (inl refl) ∙ is.so_far.holds.0) in
      node_at-inner new name off (Some (with_child b (name_of u) x))
      (ap (λ z. get z (as_inner name)) is.inners ∙ inner_changed_here next.inners (as_inner name) (with_child b (name_of u)) x there)
      ∙ shown head (ap (λ z. put_child z b (name_of u)) below ∙ put_child-last cs b u is.low)

  name_not_below : Each (λ k. name ≢ k) (names_below cs ++ names_of u)
  name_not_below = each_from (λ k. name ≢ k) (names_below cs ++ names_of u) (λ k i e. elim (in_either k (names_below cs) (names_of u) i) [
    | inl j ↦ each_in (λ z. name ≢ z) k (names_below cs) is.so_far.distinct.0 j e
    | inr j ↦ child_apart k (inl e) j
  ])

  child_names : names_of (inner name header (join cs (child b u no_child))) ≡ name ∷ names_below cs ++ names_of u
  child_names = ap (λ z. name ∷ z) (names_below-join cs (child b u no_child) ∙ ap (λ z. names_below cs ++ z) (append-nil (names_of u)))

  child_leaves : leaf_names_below (join cs (child b u no_child)) ≡ others ++ leaf_names u
  child_leaves = leaf_names_below-join cs (child b u no_child) ∙ ap (λ z. others ++ z) (append-nil (leaf_names u))

  child_distinct : AreDistinct (name ∷ names_below cs ++ names_of u)
  child_distinct = (
    name_not_below,
    Pairwise-append ◌≢◌ (names_below cs) (names_of u) is.so_far.distinct.1 is.more.distinct
        (each_from (λ k. Each (λ m. k ≢ m) (names_of u)) (names_below cs)
        (λ k i. each_from (λ m. k ≢ m) (names_of u) (λ m j e. child_apart k (inr i) (subst (λ z. IsIn z (names_of u)) (sym e) j)))),
  )

  leaves_distinct : AreDistinct (others ++ leaf_names u)
  leaves_distinct = subst AreDistinct child_leaves
      (taken_distinct takes_leaves (inner name header (join cs (child b u no_child))) (subst AreDistinct (sym child_names) child_distinct))

  child_linked : AreLinked (links_at new) None (others ++ leaf_names u) None
  child_linked = subst (λ z. AreLinked (links_at new) None (z ++ leaf_names u) None) (append-nil others)
      (link_up (links_at next) (links_at new) others [] (leaf_names u) leaves_distinct
      (relinked_beside {s = next} {t = new} {after = Some first} {next = Some first} (record {
        distinct = leaves_distinct;
        before_is = is.last_is;
        after_is = is.first_is;
        next_is = is.first_is;
        previous_is = is.last_is;
        inside = tt;
        leaves = λ p i. ap (λ z. get z p) is.leaves;
      }))
      (linked-frame (links_at mid) (links_at next) others None None
      (each_from (λ k. links_at next k ≡ links_at mid k) others
      (λ k i. ap (option_and_then links_of) (child_held k (taken_in takes_leaves (inner name header cs) k i)))) is.so_far.linked)
      is.more.linked)

  -- the node's tree has the child
  pub gained_child : Gains old new (inner name header (join cs (child b u no_child)))
  gained_child = record {
    holds = (
      parent_seen,
      HoldsBelow-join (node_at new) cs (child b u no_child)
          (frame_below (node_at next) (node_at new) cs (each_from (λ k. node_at new k ≡ node_at next k) (names_below cs)
          (λ k i. child_put k (λ e. each_in (λ z. name ≢ z) k (names_below cs) is.so_far.distinct.0 i (sym e))))
          (frame_below (node_at mid) (node_at next) cs
          (each_from (λ k. node_at next k ≡ node_at mid k) (names_below cs) (λ k i. child_seen k (inr i))) is.so_far.holds.1)) (
            frame (node_at next) (node_at new) u (each_from (λ k. node_at new k ≡ node_at next k) (names_of u)
                (λ k i. child_put k (λ e. child_apart k (inl (sym e)) i))) is.more.holds,
            tt,
          ),
    );
    distinct = subst AreDistinct (sym child_names) child_distinct;
    linked = subst (λ z. AreLinked (links_at new) None z None) (sym child_leaves) child_linked;
    added = record {
      leaves = without_both leaf_cmp_total leaf_cmp-IsAntisymmetric old.leaves mid.leaves next.leaves (map as_leaf others)
          (map as_leaf (leaf_names u)) is.so_far.added.leaves is.more.added.leaves
          ∙ ap (without next.leaves) (sym (map-append as_leaf others (leaf_names u)) ∙ ap (map as_leaf) (sym child_leaves))
          ∙ sym (ap (λ z. without z all_leaves) is.leaves ∙ without_some (change_some next.leaves last (with_next (Some first))) (Some first)
          (with_previous last) all_leaves first_listed ∙ without_some next.leaves last (with_next (Some first)) all_leaves last_listed);
      inners = without_both inner_cmp_total inner_cmp-IsAntisymmetric old.inners mid.inners next.inners (map as_inner (name ∷ inner_names_below cs))
          (map as_inner (inner_names u)) is.so_far.added.inners is.more.added.inners
          ∙ ap (without next.inners) (ap (λ z. as_inner name ∷ z)
          (sym (map-append as_inner (inner_names_below cs) (inner_names u)) ∙ ap (map as_inner) (sym (inner_names_below-join cs b u))))
          ∙ sym (ap (λ z. without z all_inners) is.inners
          ∙ without_changed inner_cmp_total inner_cmp-IsAntisymmetric next.inners (as_inner name)
          (with_child b (name_of u)) all_inners (inl refl));
    };
  }
    where
      all_leaves : List LeafPtr
      all_leaves = map as_leaf (leaf_names_below (join cs (child b u no_child)))

      all_inners : List InnerPtr
      all_inners = as_inner name ∷ map as_inner (inner_names_below (join cs (child b u no_child)))

      without_some : (m : Leaves K V) (o : Option LeafPtr) (f : LeafNode K V → LeafNode K V) (ns : List LeafPtr) →
          ((p : LeafPtr) → o ≡ Some p → IsIn p ns) → without (change_some m o f) ns ≡ without m ns
      without_some m None f ns i = refl
      without_some m (Some p) f ns i = without_changed leaf_cmp_total leaf_cmp-IsAntisymmetric m p f ns (i p refl)

      first_listed : (p : LeafPtr) → Some first ≡ Some p → IsIn p all_leaves
      first_listed p e = in_map as_leaf (leaf_name p) (leaf_names_below (join cs (child b u no_child))) (subst (IsIn (leaf_name p)) (sym child_leaves)
          (in_right (leaf_name p) others (leaf_names u) (first_in (leaf_names u) (leaf_name p) (sym is.first_is ∙ ap (option_map leaf_name) e))))

      last_listed : (p : LeafPtr) → last ≡ Some p → IsIn p all_leaves
      last_listed p e = in_map as_leaf (leaf_name p) (leaf_names_below (join cs (child b u no_child))) (subst (IsIn (leaf_name p)) (sym child_leaves)
          (in_left (leaf_name p) others (leaf_names u) (last_in others (leaf_name p) (sym is.last_is ∙ ap (option_map leaf_name) e))))
