-- No fault that a check may find is true of a canonical root.
use Rattle.std.proofs.Common.{append_assoc, map, ◌≡◌, ◌≢◌, ℕ, ◌+◌, ◌<◌, ◌≤◌, List, [], ◌∷◌, ◌++◌, length, take, refl, ap, ap₂, sym, ◌∙◌, arith, subst, length-append, Option, Some, None, ◌⊎◌, inl, inr, Ordering, Less, Greater}
use Rattle.std.proofs.lemmas.List.{length-take-le}
use Rattle.std.proofs.lemmas.Cmp.{nat_list_cmp_total}
use Rattle.std.specs.Cmp.Lexicographic.{slice_cmp}
use Rattle.std.specs.Ordering.{nat_cmp, ordering_reverse}
use Rattle.art_model.specs.Prelude.{child_at, kind_least, Nodes, NodeType, Node4, Node16, Node48, Node256, Leaf, OpaqueNodePtr, wrong_children_count, IsTrueOf, Reaches, HasSibling, StoresOthers, IsUnreadable, IsIn, IsFront, Precedes, Node, Links, leaf_node, inner_node, name_of, names_of, names_below, leaf_names, entries_of, entries_below, slots_of, AreDistinct, Holds, HoldsBelow, first_or, last_or, AreLinked, IsMap, join, bytes_of, pairs_of, IsRadix, AreRadix, node_at, links_at, end_of, IsDescent, IsTrail, IsReadAs, HasPrefix, Tree, leaf, inner, Subtrees, child, no_child, NodeHeader, kind_of}
use Rattle.std.specs.List.{AllByRecursion as Each}
use Rattle.art_model.specs.Faults.{Fault, loop_found, prefix_mismatch, empty_tree_with_len, leaf_sibling_wrong_order, wrong_sibling_links, dead_name, unreadable_prefix, stored_prefix_mismatch, out_of_memory, IsLoop, HasWrongOrder, HasWrongCount, HasForeignKey, HasWrongLinks, IsDead, EndsBadly}
use Rattle.art_model.specs.Trails.{way_of, HasChild}
use Rattle.art_model.proofs.stores.Canonical.{IsLaidOut}
use Rattle.std.proofs.lemmas.List.{map-append}
use Rattle.art_model.proofs.keys.KeyLaws.{before_less}
use Rattle.art_model.proofs.leaves.LeafEnds.{first_or_of, last_or_of}
use Rattle.art_model.proofs.leaves.Links.{first_in, last_in, link_of}
use Rattle.art_model.proofs.lists.Lists.{Each-append, Each-left, Each-right, each_in, in_either, in_left, in_right, in_map, out_map}
use Rattle.art_model.proofs.stores.Names.{own_name}
use Rattle.art_model.proofs.lists.Pairwises.{Pairwise-before, Pairwise-after, Pairwise-in, Pairwise-left, Pairwise-right}
use Rattle.art_model.proofs.places.Paths.{leaf_names-leaves, names_below-join, pairs_of-leaves}
use Rattle.art_model.proofs.places.OnWay.{child_under}
use Rattle.art_model.proofs.stores.Stores.{HoldsBelow-right}
use Rattle.art_model.proofs.radix.Radix.{AreRadix-right, radix_map}
use Rattle.art_model.proofs.stores.Slots.{length-slots_of, kind_of-least}
use Rattle.art_model.proofs.stores.StoreLaws.{has_one_layout}
use Rattle.art_model.proofs.places.TrailEnds.{IsSub, descent_apart, descent_front, descent_sub, is_held, prefix_front, read_whole, trail_sub}

-- a tree's node has at least its kind's minimum of children
enough : (kind : NodeType) (n : ℕ) → kind ≡ kind_of n → 2 ≤ n → n < kind_least kind → ⊥
enough Node4 n e two few = omega arith
enough Node16 n e two few = kind_of-least Node16 n (λ f. cc) few e
enough Node48 n e two few = kind_of-least Node48 n (λ f. cc) few e
enough Node256 n e two few = kind_of-least Node256 n (λ f. cc) few e
enough Leaf n e two few = omega arith

-- ---- a leaf among the leaves of a tree
module _ {A : Type 0} (at : OpaqueNodePtr → Option (Node OpaqueNodePtr A)) where
  -- an entry's leaf is in the store
  abbrev IsHeldAs : A × OpaqueNodePtr → Type 0
  IsHeldAs e = at e.1 ≡ Some (leaf_node e.0)

  mutual
    leaves_held : (t : Tree OpaqueNodePtr A) → Holds at t → Each IsHeldAs (entries_of t)
    leaves_held (leaf n x) h = (h, tt)
    leaves_held (inner n h cs) holds = below_held cs holds.1

    below_held : (cs : Subtrees OpaqueNodePtr A) → HoldsBelow at cs → Each IsHeldAs (entries_below cs)
    below_held no_child h = tt
    below_held (child b t cs) h = Each-append IsHeldAs (entries_of t) (entries_below cs) (leaves_held t h.0) (below_held cs h.1)

  mutual
    leaf_split : (t : Tree OpaqueNodePtr A) (k : OpaqueNodePtr) (x : A) → Holds at t → IsIn k (names_of t) → at k ≡ Some (leaf_node x) →
        (before after : List (A × OpaqueNodePtr)) × (entries_of t ≡ before ++ (x, k) ∷ after)
    leaf_split (leaf n y) k x holds (inl e) there = let f = ap at e in let same : y ≡ x = cc in ([], [], ap₂ (λ z m. (z, m) ∷ []) same e)
    leaf_split (leaf n y) k x holds (inr i) there = absurd i
    leaf_split (inner n h cs) k x holds (inl e) there = let f = ap at e in let g = holds.0 in absurd cc
    leaf_split (inner n h cs) k x holds (inr i) there = below_split cs k x holds.1 i there

    below_split : (cs : Subtrees OpaqueNodePtr A) (k : OpaqueNodePtr) (x : A) → HoldsBelow at cs → IsIn k (names_below cs) →
        at k ≡ Some (leaf_node x) → (before after : List (A × OpaqueNodePtr)) × (entries_below cs ≡ before ++ (x, k) ∷ after)
    below_split no_child k x holds i there = absurd i
    below_split (child b t cs) k x holds i there = elim (in_either k (names_of t) (names_below cs) i) [
      | inl j ↦ let (before, after, e) =
          leaf_split t k x holds.0 j there in (
            before,
            after ++ entries_below cs,
            ap (λ l. l ++ entries_below cs) e
                ∙ append_assoc before ((x, k) ∷ after) (entries_below cs),
          )
      | inr j ↦ let (before, after, e) = below_split cs k x holds.1 j there in
          (entries_of t ++ before, after, ap (λ l. entries_of t ++ l) e ∙ sym (append_assoc (entries_of t) before ((x, k) ∷ after)))
    ]

-- ---- paths in a tree
module _ {A : Type 0} where
  -- the name is in the tree under this byte
  abbrev IsUnderByte : ℕ → OpaqueNodePtr → Subtrees OpaqueNodePtr A → Type 0
  IsUnderByte b k no_child = ⊥
  IsUnderByte b k (child d t ds) = ((d ≡ b) × IsIn k (names_of t)) ⊎ IsUnderByte b k ds

  under_there : (l : Subtrees OpaqueNodePtr A) (b : ℕ) (u : Tree OpaqueNodePtr A) (r : Subtrees OpaqueNodePtr A) (k : OpaqueNodePtr) →
      IsIn k (names_of u) → IsUnderByte b k (join l (child b u r))
  under_there no_child b u r k i = inl (refl, i)
  under_there (child d t ds) b u r k i = inr (under_there ds b u r k i)

  under_below : (cs : Subtrees OpaqueNodePtr A) (b : ℕ) (k : OpaqueNodePtr) → IsUnderByte b k cs → IsIn k (names_below cs)
  under_below no_child b k u = absurd u
  under_below (child d t ds) b k (inl u) = in_left k (names_of t) (names_below ds) u.1
  under_below (child d t ds) b k (inr u) = in_right k (names_of t) (names_below ds) (under_below ds b k u)

  -- no name is under two bytes
  one_byte : (cs : Subtrees OpaqueNodePtr A) (b c : ℕ) (k : OpaqueNodePtr) → AreDistinct (names_below cs) → IsUnderByte b k cs → IsUnderByte c k cs → b ≡ c
  one_byte no_child b c k apart u v = absurd u
  one_byte (child d t ds) b c k apart (inl u) (inl v) = sym u.0 ∙ v.0
  one_byte (child d t ds) b c k apart (inl u) (inr v) = absurd (Pairwise-in ◌≢◌ (names_of t) (names_below ds) k k apart u.1 (under_below ds c k v) refl)
  one_byte (child d t ds) b c k apart (inr u) (inl v) = absurd (Pairwise-in ◌≢◌ (names_of t) (names_below ds) k k apart v.1 (under_below ds b k u) refl)
  one_byte (child d t ds) b c k apart (inr u) (inr v) = one_byte ds b c k (Pairwise-right ◌≢◌ (names_of t) (names_below ds) apart) u v

  module _ (at : OpaqueNodePtr → Option (Node OpaqueNodePtr A)) (bytes : A → List ℕ) (P : ℕ) where
    -- The first step of a trail from an inner node leads to one of its children, which has a tree.
    record IsFirst (cs : Subtrees OpaqueNodePtr A) (front : List ℕ) (step : ℕ × OpaqueNodePtr) : Type 0 where
      tree : Tree OpaqueNodePtr A
      left : Subtrees OpaqueNodePtr A
      right : Subtrees OpaqueNodePtr A
      whole : cs ≡ join left (child step.0 tree right)
      named : name_of tree ≡ step.1
      holds : Holds at tree
      radix : IsRadix bytes P (front ++ step.0 ∷ []) tree
      apart : AreDistinct (names_below cs) → AreDistinct (names_of tree)

    first_step : (n : OpaqueNodePtr) (h : NodeHeader) (cs : Subtrees OpaqueNodePtr A) (place : List ℕ) (step : ℕ × OpaqueNodePtr) →
        Holds at (inner n h cs) → (radix : IsRadix bytes P place (inner n h cs)) → HasChild at n step → IsFirst cs (place ++ radix.0) step
    first_step n h cs place step holds radix (k, slots, there, under) =
        let f = holds.0 in
        let same : slots ≡ slots_of cs = cc in
        let c = child_under cs step.0 step.1 radix.3 (subst (λ l. child_at l step.0 ≡ Some step.1) same under) in
        let held = HoldsBelow-right at c.left (child step.0 c.tree c.right) (subst (HoldsBelow at) c.whole holds.1) in
        let below =
        AreRadix-right bytes P (place ++ radix.0) c.left (child step.0 c.tree c.right)
        (subst (AreRadix bytes P (place ++ radix.0)) c.whole radix.4) in
        record {
          tree = c.tree;
          left = c.left;
          right = c.right;
          whole = c.whole;
          named = c.named;
          holds = held.0;
          radix = below.0;
          apart = λ d. Pairwise-left ◌≢◌ (names_of c.tree) (names_below c.right)
              (Pairwise-right ◌≢◌ (names_below c.left) (names_below (child step.0 c.tree c.right))
              (subst AreDistinct (ap names_below c.whole ∙ names_below-join c.left (child step.0 c.tree c.right)) d));
        }

    -- a trail ends in the tree
    trail_in : (t : Tree OpaqueNodePtr A) (place : List ℕ) (steps : List (ℕ × OpaqueNodePtr)) → Holds at t → IsRadix bytes P place t →
        IsTrail at (name_of t) steps → IsIn (end_of (name_of t) steps) (names_of t)
    trail_in (leaf n x) place [] holds radix trail = inl refl
    trail_in (inner n h cs) place [] holds radix trail = inl refl
    trail_in (leaf n x) place (s ∷ ss) holds radix ((h, slots, there, under), trail) = absurd cc
    trail_in (inner n h cs) place (s ∷ ss) holds radix trail =
        let c = first_step n h cs place s holds radix trail.0 in
        let i = trail_in c.tree ((place ++ radix.0) ++ s.0 ∷ []) ss c.holds c.radix (subst (λ m. IsTrail at m ss) (sym c.named) trail.1) in
        inr (under_below cs s.0 (end_of s.1 ss) (subst (IsUnderByte s.0 (end_of s.1 ss)) (sym c.whole)
        (under_there c.left s.0 c.tree c.right (end_of s.1 ss) (subst (λ m. IsIn (end_of m ss) (names_of c.tree)) c.named i))))

    -- below an inner node, under the byte of its first step
    trail_under : (n : OpaqueNodePtr) (h : NodeHeader) (cs : Subtrees OpaqueNodePtr A) (place : List ℕ) (s : ℕ × OpaqueNodePtr)
        (ss : List (ℕ × OpaqueNodePtr)) → Holds at (inner n h cs) → IsRadix bytes P place (inner n h cs) → IsTrail at n (s ∷ ss) →
        IsUnderByte s.0 (end_of s.1 ss) cs
    trail_under n h cs place s ss holds radix trail =
        let c = first_step n h cs place s holds radix trail.0 in
        let i = trail_in c.tree ((place ++ radix.0) ++ s.0 ∷ []) ss c.holds c.radix (subst (λ m. IsTrail at m ss) (sym c.named) trail.1) in
        subst (IsUnderByte s.0 (end_of s.1 ss)) (sym c.whole)
        (under_there c.left s.0 c.tree c.right (end_of s.1 ss) (subst (λ m. IsIn (end_of m ss) (names_of c.tree)) c.named i))

    -- trails in a tree that end at one name have one path
    one_way : (t : Tree OpaqueNodePtr A) (place : List ℕ) (steps others : List (ℕ × OpaqueNodePtr)) → Holds at t → IsRadix bytes P place t →
        AreDistinct (names_of t) → IsTrail at (name_of t) steps → IsTrail at (name_of t) others →
        end_of (name_of t) steps ≡ end_of (name_of t) others → way_of steps ≡ way_of others
    one_way t place [] [] holds radix apart one two e = refl
    one_way (leaf n x) place (s ∷ ss) others holds radix apart ((h, slots, there, under), trail) two e = absurd cc
    one_way (leaf n x) place [] (o ∷ os) holds radix apart one ((h, slots, there, under), trail) e = absurd cc
    one_way (inner n h cs) place [] (o ∷ os) holds radix apart one two e =
        absurd (each_in (λ k. n ≢ k) (end_of o.1 os) (names_below cs) apart.0
        (under_below cs o.0 (end_of o.1 os) (trail_under n h cs place o os holds radix two)) e)
    one_way (inner n h cs) place (s ∷ ss) [] holds radix apart one two e =
        absurd (each_in (λ k. n ≢ k) (end_of s.1 ss) (names_below cs) apart.0
        (under_below cs s.0 (end_of s.1 ss) (trail_under n h cs place s ss holds radix one)) (sym e))
    one_way (inner n h cs) place (s ∷ ss) (o ∷ os) holds radix apart one two e =
        let byte : s.0 ≡ o.0 =
        one_byte cs s.0 o.0 (end_of s.1 ss) apart.1 (trail_under n h cs place s ss holds radix one)
        (subst (λ k. IsUnderByte o.0 k cs) (sym e) (trail_under n h cs place o os holds radix two)) in
        let c = first_step n h cs place s holds radix one.0 in
        let (k, slots, there, under) = one.0 in
        let (l, more, here, beside) = two.0 in
        let slots_are : more ≡ slots = cc in
        let same : o.1 ≡ s.1 = let z = sym beside ∙ ap₂ child_at slots_are (sym byte) ∙ under in cc in
        let rest =
        one_way c.tree ((place ++ radix.0) ++ s.0 ∷ []) ss os c.holds c.radix (c.apart apart.1) (subst (λ m. IsTrail at m ss) (sym c.named) one.1)
        (subst (λ m. IsTrail at m os) (same ∙ sym c.named) two.1) (ap (λ m. end_of m ss) c.named ∙ e ∙ ap (λ m. end_of m os) (same ∙ sym c.named)) in
        ap₂ (λ b w. b ∷ w) byte rest

module _ {K V : Type 0} (bytes : K × V → List ℕ) (P : ℕ) (s : Nodes K V) (root : OpaqueNodePtr) (pairs : List (K × V))
    (layout : Tree OpaqueNodePtr (K × V)) (laid : IsLaidOut bytes P (node_at s) (links_at s) root pairs layout) where
  -- what is reached is a part of the tree, at its place
  reached_sub : {place : List ℕ} {name : OpaqueNodePtr} → Reaches bytes P s root place name → IsSub (node_at s) bytes P layout place name
  reached_sub {place} {name} reach =
      subst (IsSub (node_at s) bytes P layout place) (ap (λ n. end_of n reach.steps) laid.named ∙ reach.ends)
      (trail_sub (node_at s) bytes P layout [] place reach.steps laid.holds laid.radix
      (subst (λ n. IsTrail (node_at s) n reach.steps) (sym laid.named) reach.is_trail)
      (subst (λ n. IsReadAs (node_at s) bytes P [] n reach.steps place) (sym laid.named) reach.is_read))

  -- An inner node that is reached, with its children.
  record IsInner (place : List ℕ) (name : OpaqueNodePtr) (h : NodeHeader) (slots : List (ℕ × OpaqueNodePtr)) : Type 0 where
    mark : OpaqueNodePtr
    children : Subtrees OpaqueNodePtr (K × V)
    named : mark ≡ name
    holds : Holds (node_at s) (inner mark h children)
    radix : IsRadix bytes P place (inner mark h children)
    slots_are : slots ≡ slots_of children

  reached_inner : {place : List ℕ} {name : OpaqueNodePtr} {h : NodeHeader} {slots : List (ℕ × OpaqueNodePtr)} → Reaches bytes P s root place name →
      node_at s name ≡ Some (inner_node h slots) → IsInner place name h slots
  reached_inner {place} {name} {h} {slots} reach there =
      let sub = reached_sub reach in
      go sub.tree sub.named sub.holds sub.radix
    where
      go : (t : Tree OpaqueNodePtr (K × V)) → name_of t ≡ name → Holds (node_at s) t → IsRadix bytes P place t → IsInner place name h slots
      go (leaf n x) named holds radix = let e = ap (node_at s) named ∙ there in absurd cc
      go (inner n k cs) named holds radix =
          let e = ap (node_at s) named ∙ there in
          let f = holds.0 in
          let same : k ≡ h = cc in
          record {
            mark = n;
            children = cs;
            named = named;
            holds = subst (λ z. Holds (node_at s) (inner n z cs)) same holds;
            radix = subst (λ z. IsRadix bytes P place (inner n z cs)) same radix;
            slots_are = cc;
          }

  no_foreign_key : (place key : List ℕ) → HasForeignKey bytes P s root place key → ⊥
  no_foreign_key place key (name, x, (reach, there), is, off) =
      let sub = reached_sub reach in
      off (subst (IsFront place) is (descent_front (node_at s) bytes P sub.tree place [] x sub.holds sub.radix tt (ap (node_at s) sub.named ∙ there)))

  stores_no_others : (place stored actual : List ℕ) → StoresOthers bytes P s root place stored actual → ⊥
  stores_no_others place stored actual (name, h, slots, (reach, there), more, (part, has, is, own, off)) =
      let node = reached_inner reach there in
      let part_is : part ≡ node.radix.0 =
      read_whole (node_at s) bytes P node.mark h node.children place part node.holds node.radix
      (subst (λ m. HasPrefix (node_at s) bytes P (length place) m part) (sym node.named) has) in
      let long : length node.radix.0 ≡ h.length_of = sym (ap (λ z. z.length_of) node.radix.1) in
      let kept : stored ≡ take P node.radix.0 = sym is ∙ ap (λ z. z.stored) node.radix.1 in
      let count : length stored ≡ P = ap length kept ∙ length-take-le P node.radix.0 (omega (arith, long, more)) in
      off (sym own ∙ ap₂ (λ i l. take i l) count part_is ∙ sym kept)

  no_wrong_links : (key : List ℕ) (expected actual : Links OpaqueNodePtr) → HasWrongLinks bytes P s root key expected actual → ⊥
  no_wrong_links key expected actual (other, before, after, name, x, is, names, there, key_is, wanted, own, off) =
      let same : other ≡ layout =
      has_one_layout (node_at s) root layout other (record { named = laid.named; holds = laid.holds; distinct = laid.distinct }) is in
      let linked = subst (λ ns. AreLinked (links_at s) None ns None) (sym (ap leaf_names same) ∙ names) laid.linked in
      let links = link_of (links_at s) before after name None None linked in
      let found : Some actual ≡ Some expected =
      sym own ∙ links ∙ ap₂ (λ p n. let l : Links OpaqueNodePtr = record { previous = p; next = n } in Some l) (last_or_of before)
      (first_or_of after) ∙ ap Some (sym wanted) in
      off cc

  -- a node has at least its kind's minimum of children
  no_wrong_count : (place : List ℕ) (kind : NodeType) (n : ℕ) → HasWrongCount bytes P s root place kind n → ⊥
  no_wrong_count place kind n (name, h, slots, (reach, there), kind_is, count, few) =
      let node = reached_inner reach there in
      let many : length (bytes_of node.children) ≡ n = sym (length-slots_of node.children) ∙ ap length (sym node.slots_are) ∙ count in
      let own : kind ≡ kind_of n = sym kind_is ∙ ap (λ z. z.kind) node.radix.1 ∙ ap kind_of many in
      enough kind n own (subst (λ i. 2 ≤ i) many node.radix.2) few

  -- a name that is reached is in use
  no_dead_node : (place : List ℕ) (name : OpaqueNodePtr) → Reaches bytes P s root place name → node_at s name ≡ None → ⊥
  no_dead_node place name reach gone = let sub = reached_sub reach in is_held (node_at s) bytes P sub.tree sub.holds (ap (node_at s) sub.named ∙ gone)

  no_unreadable : (place : List ℕ) (name : OpaqueNodePtr) → IsUnreadable bytes P s root place name → ⊥
  no_unreadable place name (h, slots, (reach, there), more, (ns, descent, bad)) =
      let sub = reached_sub reach in
      go sub.tree sub.named sub.holds sub.radix (sub.apart laid.distinct) (subst (λ n. IsDescent (node_at s) n ns) (sym sub.named) descent)
      (subst (λ n. EndsBadly bytes P s root n ns (length place + h.length_of)) (sym sub.named) bad)
    where
      childless : (h : NodeHeader) (u : Tree OpaqueNodePtr (K × V)) (deeper : List ℕ) → Holds (node_at s) u → IsRadix bytes P deeper u →
          node_at s (name_of u) ≡ Some (inner_node h []) → ⊥
      childless h (leaf n x) deeper holds radix e = absurd cc
      childless h (inner n k cs) deeper holds radix e =
          let f = holds.0 in
          let none : slots_of cs ≡ [] = cc in
          let l = radix.2 in
          let m = sym (length-slots_of cs) ∙ ap length none in
          omega arith

      go : (t : Tree OpaqueNodePtr (K × V)) → name_of t ≡ name → Holds (node_at s) t → IsRadix bytes P place t → AreDistinct (names_of t) →
          IsDescent (node_at s) (name_of t) ns → EndsBadly bytes P s root (name_of t) ns (length place + h.length_of) → ⊥
      go t named holds radix apart down (inl gone) =
          let (deeper, u, is, held, own) =
          descent_sub (node_at s) bytes P t place ns holds radix down in is_held (node_at s) bytes P u held (ap (node_at s) is ∙ gone)
      go t named holds radix apart down (inr (inl (k, e))) =
          let (deeper, u, is, held, own) = descent_sub (node_at s) bytes P t place ns holds radix down in childless k u deeper held own (ap (node_at s) is ∙ e)
      go t named holds radix apart down (inr (inr (inl loop))) = loop (descent_apart (node_at s) bytes P t ns holds apart down)
      go (leaf n y) named holds radix apart down (inr (inr (inr short))) = let e = ap (node_at s) named ∙ there in absurd cc
      go (inner n k cs) named holds radix apart down (inr (inr (inr (x, bottom, short)))) =
          let e = ap (node_at s) named ∙ there in
          let f = holds.0 in
          let same : k ≡ h = cc in
          let long : length radix.0 ≡ h.length_of = sym (ap (λ z. z.length_of) radix.1) ∙ ap (λ z. z.length_of) same in
          let (rest, whole) = prefix_front (node_at s) bytes P n k cs place ns x holds radix down bottom in
          let count = ap length whole ∙ length-append (place ++ radix.0) rest in
          let both = length-append place radix.0 in
          omega arith

  -- A sibling that a leaf names is an entry before it or after it.
  abbrev pub IsBeside : K × V → Ordering → OpaqueNodePtr → Type 0
  IsBeside x order sibling =
      (e : (K × V) × OpaqueNodePtr) × (e.1 ≡ sibling) × (node_at s e.1 ≡ Some (leaf_node e.0)) ×
      (((order ≡ Less) × Precedes (bytes e.0) (bytes x)) ⊎ ((order ≡ Greater) × Precedes (bytes x) (bytes e.0)))

  pub siblings : {place : List ℕ} {name : OpaqueNodePtr} {x : K × V} (order : Ordering) (sibling : OpaqueNodePtr) →
      Reaches bytes P s root place name → node_at s name ≡ Some (leaf_node x) → HasSibling bytes P s root name order sibling → IsBeside x order sibling
  siblings {place} {name} {x} order sibling reach there (links, own, side) =
      let sub = reached_sub reach in
      let (before, after, parts) =
      leaf_split (node_at s) layout name x laid.holds
      (sub.within name (subst (λ n. IsIn n (names_of sub.tree)) sub.named (own_name sub.tree))) there in
      let names : leaf_names layout ≡ map (λ e. e.1) before ++ name ∷ map (λ e. e.1) after =
      sym (leaf_names-leaves layout) ∙ ap (map (λ e. e.1)) parts ∙ map-append (λ e. e.1) before ((x, name) ∷ after) in
      let xs : pairs_of layout ≡ map (λ e. e.0) before ++ x ∷ map (λ e. e.0) after =
      sym (pairs_of-leaves layout) ∙ ap (map (λ e. e.0)) parts ∙ map-append (λ e. e.0) before ((x, name) ∷ after) in
      let linked = link_of (links_at s) (map (λ e. e.1) before) (map (λ e. e.1) after) name None None
      (subst (λ ns. AreLinked (links_at s) None ns None) names laid.linked) in
      let is : links ≡ record { previous = last_or (map (λ e. e.1) before) None; next = first_or (map (λ e. e.1) after) None } = cc in
      let held = subst (Each (IsHeldAs (node_at s))) parts (leaves_held (node_at s) layout laid.holds) in
      let order_is = subst (IsMap bytes) xs (radix_map bytes P layout [] laid.radix) in
      elim side [
        | inl (o, e) ↦
            let (k, i, same) = out_map (λ z. z.1) sibling before (last_in (map (λ z. z.1) before) sibling (sym (ap (λ l. l.previous) is) ∙ e)) in (
              k,
              same,
              each_in (IsHeldAs (node_at s)) k before (Each-left (IsHeldAs (node_at s)) before ((x, name) ∷ after) held) i,
              inl (
                o,
                each_in (λ z. Precedes (bytes z) (bytes x)) k.0 (map (λ z. z.0) before)
                    (Pairwise-before (λ a b. Precedes (bytes a) (bytes b)) (map (λ z. z.0) before) (map (λ z. z.0) after) x order_is)
                    (in_map (λ z. z.0) k before i),
              ),
            )
        | inr (o, e) ↦
            let (k, i, same) = out_map (λ z. z.1) sibling after (first_in (map (λ z. z.1) after) sibling (sym (ap (λ l. l.next) is) ∙ e)) in (
              k,
              same,
              each_in (IsHeldAs (node_at s)) k after (Each-right (IsHeldAs (node_at s)) before ((x, name) ∷ after) held).1 i,
              inr (
                o,
                each_in (λ z. Precedes (bytes x) (bytes z)) k.0 (map (λ z. z.0) after)
                    (Pairwise-after (λ a b. Precedes (bytes a) (bytes b)) (map (λ z. z.0) before) (map (λ z. z.0) after) x order_is)
                    (in_map (λ z. z.0) k after i),
              ),
            )
      ]

  no_dead_name : (place : List ℕ) (name : OpaqueNodePtr) → IsDead bytes P s root place name → ⊥
  no_dead_name place name (gone, inl reach) = no_dead_node place name reach gone
  no_dead_name place name (gone, inr (leaf_name, x, order, (reach, there), sibling)) =
      let (e, same, held, side) = siblings order name reach there sibling in
      let f = ap (node_at s) same in
      absurd cc

  no_wrong_order : (sibling_key leaf_key : List ℕ) (expected actual : Ordering) → HasWrongOrder bytes P s root sibling_key leaf_key expected actual → ⊥
  no_wrong_order sibling_key leaf_key expected actual (place, name, sibling, x, y, (reach, there), has, here, own, its, compared, off) =
      let (e, same, held, side) = siblings expected sibling reach there has in
      let f = ap (node_at s) same in
      let z : e.0 ≡ y = cc in
      let keys : slice_cmp nat_cmp (bytes e.0) (bytes x) ≡ actual = ap₂ (slice_cmp nat_cmp) (ap bytes z ∙ own) its ∙ compared in
      elim side [
        | inl (o, before) ↦ off (sym keys ∙ before_less (slice_cmp nat_cmp (bytes e.0) (bytes x)) before.0 ∙ sym o)
        | inr (o, after) ↦ off (sym keys ∙ nat_list_cmp_total.antisymm (bytes e.0) (bytes x)
            ∙ ap ordering_reverse (before_less (slice_cmp nat_cmp (bytes x) (bytes e.0)) after.0) ∙ sym o)
      ]

  no_loop : (name : OpaqueNodePtr) (first later : List ℕ) → IsLoop bytes P s root name first later → ⊥
  no_loop name first later (one, other, off, before) =
      off (one_way (node_at s) bytes P layout [] one.steps other.steps laid.holds laid.radix laid.distinct
      (subst (λ n. IsTrail (node_at s) n one.steps) (sym laid.named) one.is_trail)
      (subst (λ n. IsTrail (node_at s) n other.steps) (sym laid.named) other.is_trail)
      (ap (λ n. end_of n one.steps) laid.named ∙ one.ends ∙ sym other.ends ∙ ap (λ n. end_of n other.steps) (sym laid.named)))

  -- the only fault that is true of a canonical root is out of memory, which reports nothing
  pub no_fault : (fault : Fault) → IsTrueOf bytes P s root fault → fault ≡ out_of_memory
  no_fault (loop_found name first later) is = absurd (no_loop name first later is)
  no_fault (wrong_children_count place kind n) is = absurd (no_wrong_count place kind n is)
  no_fault (prefix_mismatch place key) is = absurd (no_foreign_key place key is)
  no_fault empty_tree_with_len is = absurd is
  no_fault (leaf_sibling_wrong_order sibling_key leaf_key expected actual) is = absurd (no_wrong_order sibling_key leaf_key expected actual is)
  no_fault (wrong_sibling_links leaf_key expected actual) is = absurd (no_wrong_links leaf_key expected actual is)
  no_fault (dead_name place name) is = absurd (no_dead_name place name is)
  no_fault (unreadable_prefix place name) is = absurd (no_unreadable place name is)
  no_fault (stored_prefix_mismatch place stored actual) is = absurd (stores_no_others place stored actual is)
  no_fault out_of_memory is = refl
