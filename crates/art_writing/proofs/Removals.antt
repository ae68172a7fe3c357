-- The removal of a leaf that is the root, or that is below a node with one other child.
use Rattle.std.proofs.Common.{◌≡◌, ◌≢◌, ℕ, suc, ◌+◌, ◌≤◌, ◌<◌, cond, nat_lt, List, [], ◌∷◌, ◌++◌, length, Option, Some, None, IsSome, option_map}
use Rattle.std.proofs.Common.{IfSome, IsSomeAnd, slice_get, refl, ap, ap₂, sym, ◌∙◌, subst, arith, append-nil, length-append, ◌⊎◌, inl, inr}
use Rattle.std.specs.List.{AllByRecursion as Each}
use Rattle.std.specs.FinMap.{get, remove}
use Rattle.std.proofs.lemmas.Bool.{lt-ltb, le-ltb}
use Rattle.art_model.specs.Prelude.{with_child, with_header, without_child, Inner, remove_child, Prefix, leaf_name, Nodes, change, Leaf, LeafPtr, InnerPtr, LeafNode, OpaqueNodePtr, IsCanonicalTree, IsIn, ChangesInPlace, IsFront, slots_of, name_of, leaf_names, leaf_names_below, Holds, last_or, first_or, remove_key, Frame, plug, leaves_before, leaves_after, IsRadix, bytes_of, join, pairs_of, IsRootOf, node_at, links_at, pair_of, Tree, leaf, inner, Subtrees, child, no_child, Inners, as_inner, parent_of, without_leaf, with_child_at}
use Rattle.art_inner.specs.Inner as nodes
use Rattle.art_parts.specs.Headers as headers
use Rattle.art_parts.proofs.HeaderLaws.{header_by_parts}
use Rattle.art_nodes.proofs.StoreChanges.{inner_gone_elsewhere}
use Rattle.art_model.proofs.stores.Canonical.{IsLaidOut, laid_out}
use Rattle.art_model.proofs.changes.Changes.{child_left}
use Rattle.art_model.proofs.changes.Changes as changes
use Rattle.art_model.proofs.changes.Compressed.{Compressed, with_prefix, prefix_written, prefix_at, compressed, compressed_touches, compressed_in_place, above_same, off_node, v_held}
use Rattle.art_model.proofs.stores.Names.{own_name}
use Rattle.art_model.proofs.changes.Emptied.{emptied_touches, emptied_in_place}
use Rattle.art_model.proofs.lists.Lists.{each_in}
use Rattle.art_model.proofs.leaves.Links.{last_or-append}
use Rattle.art_model.proofs.leaves.Leaves.{named_leaf}
use Rattle.art_model.proofs.changes.OutOf.{with_leaf_in, hole, high, leaf_among, low, one_more, parent_is, slots_left}
use Rattle.art_model.proofs.places.Paths.{IsHole}
use Rattle.art_model.proofs.leaves.Placed.{LeafTaken}
use Rattle.art_model.proofs.radix.Radix.{only_child}
use Rattle.art_model.proofs.radix.Rebuild.{radix_below}
use Rattle.art_model.proofs.stores.Stores.{IsParent, path_holds}
use Rattle.art_model.proofs.leaves.Taken.{LeafAmong, previous_is, next_is, before_there, after_there, leaf_at, some_leaf_name, last_of_some}
use Rattle.art_model.proofs.stores.Views.{leaf_there, leaf_or, inner_name_is}
use Rattle.art_model.proofs.stores.Writes.{inner_at, parent_ready, inner_name_one}
use Rattle.art_writing.specs.Deleted.{LeadsTo, TouchesFor, parent_change, no_parent, is_compressed}
use Rattle.art_writing.specs.Inserted.{unlinked_leaf}
use Rattle.art_reading.specs.PathSteps.{last_step, path_of, up, root_with}
use Rattle.art_writing.specs.TakenOut.{IsLeafTaken}
use Rattle.art_writing.specs.ParentWrites.{HasChild, LinksAreThere}
use Rattle.art_writing.proofs.RemovedLeaves.{IsBelow, is_below, change_is, compressed_most, deleted_below, has_child}
use Rattle.art_writing.proofs.Deletions.{IsDeleted, some_same, taken_since}
use Rattle.art_writing.proofs.Ways.{last_step-path_of, last_step-up, root_with-up, root_after_at}
use Rattle.art_writing.specs.declared.delete.DeletePoint.{DeletePoint}
use Rattle.art_writing.specs.declared.delete.DeleteResult.{DeleteResult}
use Rattle.art_reading.specs.declared.path.TreePath.{TreePath}
use Rattle.art_reading.specs.declared.path.TreePath.TheVariants.{Root}

-- ---- a leaf that is the root

-- The point's leaf is the whole tree.
pub record IsAlone {K V : Type 0} (bytes : K × V → List ℕ) (P : ℕ) (s : Nodes K V) (root : OpaqueNodePtr) (pairs : List (K × V))
    (layout : Tree OpaqueNodePtr (K × V)) (x : K × V) (point : DeletePoint) : Type 0 where
  pub node : LeafNode K V
  pub here : get s.leaves point.leaf_node_ptr ≡ Some node
  pub pair : pair_of node ≡ x
  pub whole : leaf (leaf_name point.leaf_node_ptr) (pair_of node) ≡ layout
  pub laid : IsLaidOut bytes P (node_at s) (links_at s) root pairs (leaf (leaf_name point.leaf_node_ptr) (pair_of node))
  pub path_is : point.path ≡ Root

module _ {K V : Type 0} {bytes : K × V → List ℕ} {P : ℕ} {s : Nodes K V} {root : OpaqueNodePtr} {pairs : List (K × V)}
    {layout : Tree OpaqueNodePtr (K × V)} {x : K × V} {point : DeletePoint} where
  pub is_alone : IsCanonicalTree bytes P s root pairs layout → LeadsTo layout x point → last_step point.path ≡ None →
      IsAlone bytes P s root pairs layout x point
  is_alone by leads step = frames leads.path leads.whole leads.path_is
    where
      frames : (fs : List (Frame OpaqueNodePtr (K × V))) → plug fs (leaf (leaf_name point.leaf_node_ptr) x) ≡ layout →
          point.path ≡ path_of fs → IsAlone bytes P s root pairs layout x point
      frames (f ∷ fs) whole path_is = let last : ◌≡◌ {A = Option (InnerPtr × ℕ)} None (Some (as_inner f.mark, f.byte)) =
          sym step ∙ ap last_step path_is ∙ last_step-path_of (f ∷ fs) in absurd cc
      frames [] whole path_is =
          let (node, here, pair) = leaf_there s point.leaf_node_ptr x (subst (Holds (node_at s)) (sym whole) by.stands.0.holds) in
          let all : leaf (leaf_name point.leaf_node_ptr) (pair_of node) ≡ layout = ap (leaf (leaf_name point.leaf_node_ptr)) pair ∙ whole in
          record {
            node = node;
            here = here;
            pair = pair;
            whole = all;
            laid = subst (IsLaidOut bytes P (node_at s) (links_at s) root pairs) (sym all) (laid_out by);
            path_is = path_is;
          }

  module _ (at : IsAlone bytes P s root pairs layout x point) where
    alone_among : LeafAmong s (leaf (leaf_name point.leaf_node_ptr) (pair_of at.node)) [] [] point.leaf_node_ptr at.node
    alone_among = record { list = refl; here = at.here }

    -- it is in the store, and has no neighbours
    pub alone_ready : IsSome (get s.leaves point.leaf_node_ptr) × LinksAreThere s.leaves point.leaf_node_ptr
    alone_ready = rw at.here (refl, (before_there at.laid.holds at.laid.linked alone_among, after_there at.laid.holds at.laid.linked alone_among))

    module _ {t : Nodes K V} {done : DeleteResult K V} (taken : IsLeafTaken s t point None done) where
      goes : LeafTaken s t (leaf (leaf_name point.leaf_node_ptr) (pair_of at.node)) [] [] point.leaf_node_ptr at.node
      goes = record { among = alone_among; leaves = (taken_since s refl at.here taken).0 }

      -- no tree is left, and one name is freed
      pub alone_deleted : parent_change s point.path ≡ no_parent → IsDeleted bytes P s t root point x pairs layout done
      alone_deleted told = record {
        tree = None;
        canonical = subst (λ r. IsRootOf bytes P t r (remove_key bytes (bytes x) pairs) None) (sym taken.root_is)
            (ap (remove_key bytes (bytes x)) (sym at.laid.pairs_are ∙ ap (λ y. y ∷ []) at.pair) ∙ changes.alone bytes x);
        deleted = (taken_since s refl at.here taken).1 ∙ ap unlinked_leaf at.pair;
        root_is = rw at.path_is taken.root_is;
        kept = subst (λ tree. ChangesInPlace bytes s t (Some tree) None) at.whole (emptied_in_place at.laid goes taken.inners);
        touches = subst (λ told. TouchesFor told s t) (sym told) (emptied_touches at.laid goes taken.inners);
      }

-- ---- a leaf below a node with one other child

module _ {A : Type 0} where
  -- one child on both sides is on the right or on the left
  sides : (l r : Subtrees OpaqueNodePtr A) (c : ℕ) (v : Tree OpaqueNodePtr A) → join l r ≡ child c v no_child →
      (r ≡ child c v no_child) ⊎ (l ≡ child c v no_child)
  sides no_child r c v e = inl e
  sides (child d u no_child) r c v e = inr cc
  sides (child d u (child f w l)) r c v e = absurd cc

  -- the keys below a node start with its whole prefix
  whole_way : (bytes : A → List ℕ) (P : ℕ) (place : List ℕ) (w : Tree OpaqueNodePtr A) (radix : IsRadix bytes P place w) →
      Each (λ x. IsFront (place ++ prefix_at bytes P place w radix) (bytes x)) (pairs_of w)
  whole_way bytes P place (leaf k y) radix = (subst (λ z. IsFront z (bytes y)) (sym (append-nil place)) radix, tt)
  whole_way bytes P place (inner k head cs) radix = radix_below bytes P cs (place ++ radix.0) radix.4

-- The point's leaf is below a node that has one other child, `v` under the byte `c`.
pub record IsOneOfTwo {K V : Type 0} (bytes : K × V → List ℕ) (P : ℕ) (s : Nodes K V) (root : OpaqueNodePtr) (pairs : List (K × V))
    (layout : Tree OpaqueNodePtr (K × V)) (x : K × V) (point : DeletePoint) (parent : InnerPtr) (byte : ℕ) : Type 0 where
  pub at : IsBelow bytes P s root pairs layout x point parent byte
  pub place : List ℕ
  pub hole : IsHole bytes P at.above place (with_leaf_in at.frame point.leaf_node_ptr at.node) (bytes (pair_of at.node))
  pub c : ℕ
  pub v : Tree OpaqueNodePtr (K × V)
  pub one : join at.frame.left at.frame.right ≡ child c v no_child

module _ {K V : Type 0} {bytes : K × V → List ℕ} {P : ℕ} {s : Nodes K V} {root : OpaqueNodePtr} {pairs : List (K × V)}
    {layout : Tree OpaqueNodePtr (K × V)} {x : K × V} {point : DeletePoint} {parent : InnerPtr} {byte : ℕ} where
  pub is_one_of_two : IsCanonicalTree bytes P s root pairs layout → LeadsTo layout x point → last_step point.path ≡ Some (parent, byte) →
      parent_change s point.path ≡ is_compressed → IsOneOfTwo bytes P s root pairs layout x point parent byte
  is_one_of_two by leads step told =
      let at = is_below by leads step in
      let (place, in_hole) = hole at.below in
      let few = compressed_most at.frame.mark.kind (suc (length (bytes_of (join at.frame.left at.frame.right)))) (change_is at is_compressed step told) in
      let many = in_hole.radix.2 in
      let count = one_more at.below in
      let (c, v, one) = only_child (join at.frame.left at.frame.right) (omega arith) in
      record { at = at; place = place; hole = in_hole; c = c; v = v; one = one }

  module _ (two : IsOneOfTwo bytes P s root pairs layout x point parent byte) where
    abbrev at : IsBelow bytes P s root pairs layout x point parent byte
    at = two.at

    -- the child that is left is a radix tree
    left_radix : IsRadix bytes P ((two.place ++ two.hole.radix.0) ++ two.c ∷ []) two.v
    left_radix =
        (child_left bytes P two.place two.hole.radix.0 at.frame.left at.frame.right at.frame.byte two.c (leaf_name point.leaf_node_ptr)
        (pair_of at.node) two.v two.hole.radix.3 two.hole.radix.4 two.one).0

    -- its own whole prefix
    left_prefix : List ℕ
    left_prefix = prefix_at bytes P ((two.place ++ two.hole.radix.0) ++ two.c ∷ []) two.v left_radix

    -- the inner nodes when the node is removed and the child has its prefix
    pub lengthened_inners : Inners
    lengthened_inners =
        prefix_written P (two.hole.radix.0 ++ two.c ∷ prefix_at bytes P ((two.place ++ two.hole.radix.0) ++ two.c ∷ []) two.v left_radix)
        two.v (remove s.inners (as_inner at.frame.mark))

    is_compressed_to : (t : Nodes K V) → t.leaves ≡ without_leaf s.leaves point.leaf_node_ptr at.node →
        t.inners ≡ with_child_at (parent_of at.above) (name_of two.v) lengthened_inners →
        Compressed bytes P s t at.above two.place at.frame.mark at.frame.header at.frame.left at.frame.right at.frame.byte
        point.leaf_node_ptr at.node two.c two.v
    unfolding lengthened_inners
    is_compressed_to t leaves inners =
        record {
          hole = two.hole;
          one = two.one;
          radix = left_radix;
          taken = record { among = leaf_among at.below at.here; leaves = leaves };
          inners = inners;
        }

    -- it was so before any write
    is_compressed_at : Compressed bytes P s (record
        s {
          leaves = without_leaf s.leaves point.leaf_node_ptr at.node;
          inners = with_child_at (parent_of at.above) (name_of two.v) lengthened_inners;
        }) at.above two.place at.frame.mark at.frame.header at.frame.left at.frame.right at.frame.byte point.leaf_node_ptr at.node two.c two.v
    is_compressed_at =
        is_compressed_to (record s {
          leaves = without_leaf s.leaves point.leaf_node_ptr at.node;
          inners = with_child_at (parent_of at.above) (name_of two.v) lengthened_inners;
        }) refl refl

    left_held : Holds (node_at s) two.v
    left_held = v_held at.below.laid is_compressed_at

    -- the child that is left is another node
    left_other : name_of two.v ≢ at.frame.mark
    left_other = off_node at.below.laid is_compressed_at (name_of two.v) (own_name two.v)

    -- ---- the node when it is removed

    -- without the leaf it has the one child
    other_left : (any : Inner) → get s.inners parent ≡ Some any → (without_child byte any).children ≡ (two.c, name_of two.v) ∷ []
    other_left any is =
        let (off, own, got, head, kids) = parent_is at.below in
        let same : any ≡ own = some_same (sym is ∙ ap (get s.inners) (sym at.parent_is) ∙ got) in
        ap (remove_child any.children) (sym at.byte_is) ∙ slots_left at.below any.children (ap (λ z. z.children) same ∙ kids) ∙ ap slots_of two.one

    -- its header is that of its whole prefix
    own_header : (any : Inner) → get s.inners parent ≡ Some any → any.prefix ≡ headers.header_of P two.hole.radix.0
    own_header any is =
        let (off, own, got, head, kids) = parent_is at.below in
        let same : any ≡ own = some_same (sym is ∙ ap (get s.inners) (sym at.parent_is) ∙ got) in
        let shown = head ∙ two.hole.radix.1 in
        header_by_parts P two.hole.radix.0 any.prefix (ap (λ z. z.prefix.len) same ∙ ap (λ z. z.length_of) shown)
        (ap (λ z. z.prefix.stored) same ∙ ap (λ z. z.stored) shown)

    parent_found : (node : Inner) × (get s.inners parent ≡ Some node)
    parent_found = let (off, node, got, head, kids) = parent_is at.below in (node, ap (get s.inners) (sym at.parent_is) ∙ got)

    -- so it may be removed by its other child
    pub one_left : IsSomeAnd (get s.inners parent) (λ node. length (without_child byte node).children ≡ 1)
    one_left =
        let (node, there) = parent_found in
        subst (λ o. IsSomeAnd o (λ node. length (without_child byte node).children ≡ 1)) (sym there) (ap length (other_left node there))

    -- The parent is removed, and its header is returned, and its other child with the byte.
    pub record IsOtherTaken (u : Nodes K V) (header : Prefix) (d : ℕ) (other : OpaqueNodePtr) : Type 0 where
      pub leaves : u.leaves ≡ s.leaves
      pub inners : u.inners ≡ remove s.inners parent
      pub answered : IfSome (get s.inners parent) (λ node. without_child byte node ≡ with_child d other (nodes.childless header))

    module _ {u : Nodes K V} {header : Prefix} {d : ℕ} {other : OpaqueNodePtr} (taken : IsOtherTaken u header d other) where
      made_of : without_child byte parent_found.0 ≡ with_child d other (nodes.childless header)
      made_of = subst (λ o. IfSome o (λ node. without_child byte node ≡ with_child d other (nodes.childless header))) parent_found.1 taken.answered

      other_at : ◌≡◌ {A = ℕ × OpaqueNodePtr} (d, other) (two.c, name_of two.v)
      other_at = some_same (ap (λ (z : Inner). slice_get z.children 0) (sym made_of) ∙ ap (λ z. slice_get z 0) (other_left parent_found.0 parent_found.1))

      byte_is : d ≡ two.c
      byte_is = ap (λ z. z.0) other_at

      pub other_is : other ≡ name_of two.v
      other_is = ap (λ z. z.1) other_at

      header_is : header ≡ headers.header_of P two.hole.radix.0
      header_is = ap (λ (z : Inner). z.prefix) (sym made_of) ∙ own_header parent_found.0 parent_found.1

    -- ---- a leaf below the child that is left

    -- The name is that of such a leaf, whose key is long enough for both prefixes.
    record IsBelowOther (p : LeafPtr) : Type 0 where
      pub leaf : LeafNode K V
      pub here : get s.leaves p ≡ Some leaf
      pub long : length two.hole.radix.0 + 1 + length left_prefix ≤ length (bytes (pair_of leaf))

    below_other : (p : LeafPtr) → IsIn (leaf_name p) (leaf_names two.v) → IsBelowOther p
    unfolding left_prefix
    below_other p i =
        let (y, got, i) = leaf_at s two.v left_held p i in
        let place = (two.place ++ two.hole.radix.0) ++ two.c ∷ [] in
        let (r, e) = each_in (λ z. IsFront (place ++ prefix_at bytes P place two.v left_radix) (bytes z)) (pair_of y) (pairs_of two.v)
        (whole_way bytes P place two.v left_radix) i in
        let all = ap length e in
        let a = length-append (place ++ prefix_at bytes P place two.v left_radix) r in let b = length-append place (prefix_at bytes P place two.v left_radix) in
        let d = length-append (two.place ++ two.hole.radix.0) (two.c ∷ []) in let f = length-append two.place two.hole.radix.0 in
        record { leaf = y; here = got; long = omega arith }

    -- The successor of the removed leaf, or its predecessor, is such a leaf.
    beside_other : (p : LeafPtr) × (cond (nat_lt byte two.c) at.node.next at.node.previous ≡ Some p) × IsBelowOther p
    beside_other = elim (sides at.frame.left at.frame.right two.c two.v two.one) [
      | inl e ↦
          let less : byte < two.c = subst (λ z. z < two.c) at.byte_is (subst (λ cs. Each (λ d. at.frame.byte < d) (bytes_of cs)) e (high at.below)).0 in
          let first : option_map leaf_name at.node.next ≡ Some some.0 =
          next_is at.below.laid.holds at.below.laid.linked (leaf_among at.below at.here) ∙
          ap (λ cs. first_or (leaf_names_below cs ++ leaves_after at.above) None) e ∙ ap (λ ks. first_or ((ks ++ []) ++ leaves_after at.above) None) some.2 in
          let (p, is, named) = named_leaf at.node.next some.0 first in (
            p,
            ap (λ t. cond t at.node.next at.node.previous) (lt-ltb byte two.c less)
                ∙ is,
            below_other p (subst (λ ks. IsIn (leaf_name p) ks) (sym some.2) (inl named)),
          )
      | inr e ↦
          let less : two.c < byte = subst (λ z. two.c < z) at.byte_is (subst (λ cs. Each (λ d. d < at.frame.byte) (bytes_of cs)) e (low at.below)).0 in
          let (j, end, i) = last_of_some some.0 some.1 (last_or (leaves_before at.above) None) in
          let last : option_map leaf_name at.node.previous ≡ Some j =
          previous_is at.below.laid.holds at.below.laid.linked (leaf_among at.below at.here)
          ∙ last_or-append (leaves_before at.above) (leaf_names_below at.frame.left) None
          ∙ ap (λ ks. last_or ks (last_or (leaves_before at.above) None)) (ap leaf_names_below e ∙ append-nil (leaf_names two.v) ∙ some.2) ∙ end in
          let (p, is, named) = named_leaf at.node.previous j last in (
            p,
            ap (λ t. cond t at.node.next at.node.previous) (le-ltb byte two.c (omega arith)) ∙
                is,
            below_other p (subst (λ ks. IsIn (leaf_name p) ks) (sym some.2) (subst (λ k. IsIn k (some.0 ∷ some.1)) named i)),
          )
    ]
      where
        some : (k : OpaqueNodePtr) × (ks : List OpaqueNodePtr) × (leaf_names two.v ≡ k ∷ ks)
        some = some_leaf_name bytes P two.v ((two.place ++ two.hole.radix.0) ++ two.c ∷ []) left_radix

    module _ {u : Nodes K V} {header : Prefix} {d : ℕ} {other : OpaqueNodePtr} (taken : IsOtherTaken u header d other) where
      -- such a leaf is found
      pub beside_ready : IsSomeAnd (get u.leaves point.leaf_node_ptr) (λ leaf. IsSome (cond (nat_lt byte d) leaf.next leaf.previous))
      beside_ready =
          subst (λ z. IsSomeAnd (get z point.leaf_node_ptr) (λ leaf. IsSome (cond (nat_lt byte d) leaf.next leaf.previous))) (sym taken.leaves)
          (subst (λ o. IsSomeAnd o (λ leaf. IsSome (cond (nat_lt byte d) leaf.next leaf.previous))) (sym at.here)
          (subst (λ z. IsSome (cond (nat_lt byte z) at.node.next at.node.previous)) (sym (byte_is taken)) (subst IsSome (sym beside_other.1) refl)))

      -- and the prefix of the child that is left may be written
      pub may_lengthen : (p : LeafPtr) → IfSome (get u.leaves point.leaf_node_ptr) (λ leaf. cond (nat_lt byte d) leaf.next leaf.previous ≡ Some p) →
          other.kind ≢ Leaf → IsSomeAnd (get u.leaves p)
          (λ leaf. IsSomeAnd (get u.inners (as_inner other)) (λ node. header.len + 1 + node.prefix.len ≤ length (bytes (pair_of leaf))))
      unfolding left_prefix
      may_lengthen p found kind =
          let next : cond (nat_lt byte two.c) at.node.next at.node.previous ≡ Some p =
          subst (λ z. cond (nat_lt byte z) at.node.next at.node.previous ≡ Some p) (byte_is taken)
          (subst (λ o. IfSome o (λ leaf. cond (nat_lt byte d) leaf.next leaf.previous ≡ Some p))
          (ap (λ z. get z point.leaf_node_ptr) taken.leaves ∙ at.here) found) in
          let (q, found, below) = beside_other in
          let same : q ≡ p = some_same (sym found ∙ next) in
          let leaf_is : get u.leaves p ≡ Some below.leaf = ap (λ z. get z p) taken.leaves ∙ ap (get s.leaves) (sym same) ∙ below.here in
          let (node, got, len) = its_prefix two.v left_radix left_held (subst (λ (z : OpaqueNodePtr). z.kind ≢ Leaf) (other_is taken) kind) in
          let gone : get u.inners (as_inner other) ≡ Some node =
          ap (λ z. get z (as_inner other)) taken.inners ∙ ap (λ z. get (remove s.inners parent) (as_inner z)) (other_is taken)
          ∙ inner_gone_elsewhere s.inners parent (as_inner (name_of two.v))
          (λ e. left_other (inner_name_one (name_of two.v) at.frame.mark (e ∙ sym at.parent_is))) ∙ got in
          let front_len = ap (λ z. z.len) (header_is taken) in
          let long = below.long in
          let fits : header.len + 1 + node.prefix.len ≤ length (bytes (pair_of below.leaf)) = omega arith in
          rw (leaf_is, gone) fits
        where
          its_prefix : (w : Tree OpaqueNodePtr (K × V)) (radix : IsRadix bytes P ((two.place ++ two.hole.radix.0) ++ two.c ∷ []) w) →
              Holds (node_at s) w → (name_of w).kind ≢ Leaf →
              (node : Inner) × (get s.inners (as_inner (name_of w)) ≡ Some node) ×
              (node.prefix.len ≡ length (prefix_at bytes P ((two.place ++ two.hole.radix.0) ++ two.c ∷ []) w radix))
          its_prefix (leaf k y) radix held kind = absurd (inner_name_is s (as_inner k) y kind held)
          its_prefix (inner k head cs) radix held kind =
              let (off, node, got, is, kids) = inner_at s k head (slots_of cs) held.0 in
              (node, got, ap (λ z. z.length_of) (is ∙ radix.1))

      -- and then the inner nodes are these
      pub lengthened_is : (now : Inners) → (other.kind ≡ Leaf → now ≡ u.inners) →
          (other.kind ≢ Leaf → (first rest : List ℕ) → header ≡ headers.header_of P first →
          IfSome (get u.inners (as_inner other)) (λ node. node.prefix ≡ headers.header_of P rest) →
          now ≡ change u.inners (as_inner other) (with_header (headers.header_of P (first ++ d ∷ rest)))) →
          now ≡ lengthened_inners
      unfolding lengthened_inners
      lengthened_is now as_leaf as_inner_node = go two.v left_radix left_held left_other (other_is taken)
        where
          removed : u.inners ≡ remove s.inners (as_inner at.frame.mark)
          removed = taken.inners ∙ ap (remove s.inners) (sym at.parent_is)

          go : (w : Tree OpaqueNodePtr (K × V)) (radix : IsRadix bytes P ((two.place ++ two.hole.radix.0) ++ two.c ∷ []) w) →
              Holds (node_at s) w → name_of w ≢ at.frame.mark → other ≡ name_of w →
              now ≡ prefix_written P (two.hole.radix.0 ++ two.c ∷ prefix_at bytes P ((two.place ++ two.hole.radix.0) ++ two.c ∷ []) w radix)
              w (remove s.inners (as_inner at.frame.mark))
          go (leaf k y) radix held off is = elim (leaf_or other) [
            | inl (p, e) ↦ as_leaf (ap (λ (z : OpaqueNodePtr). z.kind) e) ∙ removed
            | inr kind ↦ absurd (inner_name_is s (as_inner k) y (subst (λ (z : OpaqueNodePtr). z.kind ≢ Leaf) is kind) held)
          ]
          go (inner k head cs) radix held off is =
              let (kind, node, got, head_is, kids) = inner_at s k head (slots_of cs) held.0 in
              let there : get u.inners (as_inner other) ≡ Some node =
              ap (λ z. get z (as_inner other)) removed ∙ ap (λ z. get (remove s.inners (as_inner at.frame.mark)) (as_inner z)) is
              ∙ inner_gone_elsewhere s.inners (as_inner at.frame.mark) (as_inner k) (λ e. off (inner_name_one k at.frame.mark e)) ∙ got in
              let prefix : node.prefix ≡ headers.header_of P radix.0 =
              header_by_parts P radix.0 node.prefix (ap (λ z. z.length_of) (head_is ∙ radix.1)) (ap (λ z. z.stored) (head_is ∙ radix.1)) in
              as_inner_node (subst (λ (z : OpaqueNodePtr). z.kind ≢ Leaf) (sym is) kind) two.hole.radix.0 radix.0 (header_is taken)
              (subst (λ o. IfSome o (λ node. node.prefix ≡ headers.header_of P radix.0)) (sym there) prefix)
              ∙ ap₂ (λ (inners : Inners) (b : ℕ). change inners (as_inner other)
              (with_header (headers.header_of P (two.hole.radix.0 ++ b ∷ radix.0)))) removed (byte_is taken)
              ∙ ap (λ z. change (remove s.inners (as_inner at.frame.mark)) (as_inner z)
              (with_header (headers.header_of P (two.hole.radix.0 ++ two.c ∷ radix.0)))) is

    above_is : (k : OpaqueNodePtr) → IsParent at.above k → get lengthened_inners (as_inner k) ≡ get s.inners (as_inner k)
    unfolding lengthened_inners is_compressed_at is_compressed_to
    above_is k e = above_same at.below.laid is_compressed_at k e

    -- the node above has a child where the parent was
    pub above_ready : (inners : Inners) (path : TreePath) → inners ≡ lengthened_inners → path ≡ up point.path → HasChild inners (last_step path)
    above_ready inners path is path_is = subst (HasChild inners) (sym (ap last_step (path_is ∙ ap up at.path_is) ∙ last_step-up at.frame at.above))
        (has_child s.inners inners at.frame.mark at.above (parent_ready bytes P s at.above two.place at.frame.mark two.hole.path
        (path_holds (node_at s) at.above (with_leaf_in at.frame point.leaf_node_ptr at.node) at.below.laid.holds).0)
        (λ k e. ap (λ z. get z (as_inner k)) is ∙ above_is k e))

    -- ---- what is done

    module _ {w t : Nodes K V} {path : TreePath} {other new : OpaqueNodePtr} {inners : Inners} {done : DeleteResult K V}
        (leaves : w.leaves ≡ s.leaves) (path_up : path ≡ up point.path) (is : other ≡ name_of two.v) (lengthened : inners ≡ lengthened_inners)
        (written : w.inners ≡ with_child_at (last_step path) other inners) (taken : IsLeafTaken w t point (Some new) done) where
      is_compressed_now : Compressed bytes P s t at.above two.place at.frame.mark at.frame.header at.frame.left at.frame.right at.frame.byte
          point.leaf_node_ptr at.node two.c two.v
      is_compressed_now = is_compressed_to t (taken_since s leaves at.here taken).0 (taken.inners ∙ written ∙
          ap (λ o. with_child_at o other inners) (ap last_step (path_up ∙ ap up at.path_is) ∙ last_step-up at.frame at.above)
          ∙ ap₂ (with_child_at (parent_of at.above)) is lengthened)

      -- the tree without the leaf
      pub two_deleted : parent_change s point.path ≡ is_compressed → new ≡ root_with path root other → IsDeleted bytes P s t root point x pairs layout done
      unfolding is_compressed_now is_compressed_to
      two_deleted told named =
          deleted_below at leaves taken (name_of two.v)
          (plug at.above (with_prefix P (two.hole.radix.0 ++ two.c
          ∷ prefix_at bytes P ((two.place ++ two.hole.radix.0) ++ two.c ∷ []) two.v left_radix) two.v)) is_compressed told
          (named ∙ ap₂ (λ q k. root_with q root k) (path_up ∙ ap up at.path_is) is ∙ root_with-up at.frame at.above root (name_of two.v))
          (root_after_at at.frame is_compressed at.above root (name_of two.v) (λ e. absurd cc))
          (compressed at.below.laid is_compressed_now) (compressed_in_place at.below.laid is_compressed_now)
          (compressed_touches at.below.laid is_compressed_now)
