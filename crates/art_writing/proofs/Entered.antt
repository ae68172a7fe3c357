-- a leaf added below an inner node, as an insertion: the point's node, where the leaf is placed, and what the writes leave
use Rattle.std.proofs.Common.{◌≡◌, ◌≢◌, ℕ, ◌<◌, List, [], ◌∷◌, ◌++◌, length, drop, get_or, Option, Some, None, IsSome, IsSomeAnd, IfSome, option_map}
use Rattle.std.proofs.Common.{refl, leb, ap, sym, ◌∙◌, subst, arith, append_assoc, length-append, false, inl}
use Rattle.std.specs.List.{AllByRecursion as Each}
use Rattle.std.specs.FinMap as map
use Rattle.art_model.specs.Prelude.{Inner, child_at, kind_capacity, leaf_name, inner_name, Nodes, Leaf, InnerPtr, LeafPtr, OpaqueNodePtr, IsCanonicalTree, IsFront, are_same, ChangesInPlace, slots_of, first_of, with_key, replace_key, Frame, plug, depth_of, prefix_of, IsRadix, AreRadix, bytes_of, join, pairs_of, pairs_below, node_at, links_at, Tree, leaf, inner, Subtrees, child, no_child, NodeHeader, kind_of, as_inner, parent_of}
use Rattle.art_nodes.proofs.StoreChanges.{inner_gone_elsewhere}
use Rattle.art_model.proofs.changes.AddedChild.{ChildAdded, split_at}
use Rattle.art_model.proofs.stores.Canonical.{IsLaidOut, laid_out, canonical_from}
use Rattle.art_model.proofs.places.InHole.{with_key-hole}
use Rattle.art_model.proofs.changes.Inserted.{IsGap}
use Rattle.art_model.proofs.keys.Keys.{same_related}
use Rattle.art_model.proofs.lists.Lists.{Each-append, Each-weaker, after_front, filter_none}
use Rattle.art_model.proofs.places.OnWay.{front_byte}
use Rattle.art_model.proofs.places.Paths as paths
use Rattle.art_model.proofs.places.Paths.{IsHole}
use Rattle.art_model.proofs.places.Places.{prefix_is}
use Rattle.art_model.proofs.pairs.Puts.{put-new, put_reply-new, stored_for-new}
use Rattle.art_model.proofs.radix.Radix.{bytes_of-join}
use Rattle.art_model.proofs.radix.Rebuild.{radix_way}
use Rattle.art_model.proofs.stores.Slots.{length-slots_of}
use Rattle.art_model.proofs.stores.Stores.{IsParent, path_holds, hole_distinct, parent_apart}
use Rattle.art_model.proofs.radix.TreeLaws.{have_two_children, one_child}
use Rattle.art_model.proofs.stores.Writes.{inner_at, inner_name_one, parent_ready}
use Rattle.art_reading.specs.declared.end_node.InsertKind.TheVariants.{IntoExisting}
use Rattle.art_writing.specs.declared.insert.InsertParentNodeChange.TheVariants.{NewParent}
use Rattle.art_writing.specs.declared.insert.InsertPoint.{InsertPoint}
use Rattle.art_writing.specs.declared.insert.InsertResult.{InsertResult}
use Rattle.art_reading.specs.declared.path.TreePath.{TreePath}
use Rattle.art_writing.specs.Inserted.{HasInserted, IsChange, IsPointIn, Touches, unlinked_leaf, is_full}
use Rattle.art_reading.specs.EndNodes.{IsKindOf}
use Rattle.art_reading.specs.PathSteps.{last_step, path_of, root_with}
use Rattle.art_writing.specs.ParentWrites.{ComesBetween, HasChild, HasGap}
use Rattle.art_writing.specs.Points.{AnswersTo}
use Rattle.art_writing.proofs.LeftByPoints.{IsInserted}
use Rattle.art_writing.proofs.Answered.{placed_end}
use Rattle.art_writing.proofs.Standing.{answers_to}
use Rattle.art_reading.proofs.Partings.{unrelated_after}
use Rattle.art_writing.proofs.Ways.{last_step-path_of, root_with-path_of, root_told}

-- ---- the point's node

-- the node to which a leaf is added, with the gap among its children at the key's byte
pub record IsEntry {K V : Type 0} (bytes : K × V → List ℕ) (P : ℕ) (p : InnerPtr) (layout : Tree OpaqueNodePtr (K × V)) (key : List ℕ)
    (path : TreePath) (b : ℕ) : Type 0 where
  pub frames : List (Frame OpaqueNodePtr (K × V))
  pub place : List ℕ
  pub header : NodeHeader
  pub left : Subtrees OpaqueNodePtr (K × V)
  pub right : Subtrees OpaqueNodePtr (K × V)
  pub whole : plug frames (inner (inner_name p) header (join left right)) ≡ layout
  pub gap : IsGap bytes P frames place (inner_name p) header left right b key
  pub path_is : path ≡ path_of frames

module _ {K V : Type 0} {bytes : K × V → List ℕ} {P : ℕ} {s : Nodes K V} {point : InsertPoint} {p : InnerPtr} {key : List ℕ}
    (into : point.insert_kind ≡ IntoExisting p) where
  -- at the end of the point's path
  pub entry_at : {pairs : List (K × V)} {layout : Tree OpaqueNodePtr (K × V)} (at : AnswersTo bytes P layout key point) {b : ℕ} →
      b ≡ get_or key point.key_bytes_used 0 → IsCanonicalTree bytes P s point.root pairs layout →
      (e : IsEntry bytes P p layout key point.path b) × (e.frames ≡ at.path)
  entry_at {pairs} {layout} answers_at {b} byte by =
      let a = placed_end by answers_at.is_end in
      let fs = answers_at.path in
      let node = answers_at.node in
      let ((front, used, long), (header, children, is, none)) = subst (IsKindOf bytes P key node (depth_of fs) point.key_bytes_used) into answers_at.kind_is in
      let own = subst (IsRadix bytes P a.place) is a.hole.radix in
      let split = split_at children b own.3 (ap (child_at (slots_of children)) byte ∙ none) in
      let here : node ≡ inner (inner_name p) header (join split.left split.right) = is ∙ ap (inner (inner_name p) header) split.whole in
      let hole : IsHole bytes P fs a.place (inner (inner_name p) header (join split.left split.right)) key =
      subst (λ z. IsHole bytes P fs a.place z key) here a.hole in
      let part = hole.radix.0 in
      let prefix : prefix_of bytes (depth_of fs) node ≡ part =
      ap (λ d. prefix_of bytes d node) a.deep ∙ ap (prefix_of bytes (length a.place)) here
      ∙ prefix_is bytes P (inner_name p) header (join split.left split.right) a.place hole.radix in
      let (rest, key_is) = hole.front in
      let (after, rest_is) = front in
      let on_way : IsFront (a.place ++ part) key = (
        after,
        key_is ∙ ap (λ z. a.place ++ z) (sym (after_front a.place key rest key_is) ∙ ap (λ d. drop d key) (sym a.deep) ∙ rest_is ∙
            ap (λ z. z ++ after) prefix) ∙ sym (append_assoc a.place part after),
      ) in
      let deep = a.deep in
      let count = ap length prefix in
      let sum = length-append a.place part in
      let used_is : point.key_bytes_used ≡ length (a.place ++ part) = omega arith in (
        record {
          frames = fs;
          place = a.place;
          header = header;
          left = split.left;
          right = split.right;
          whole = ap (plug fs) (sym here) ∙ answers_at.is_end.whole;
          gap = record {
            hole = hole;
            front = subst (λ z. IsFront ((a.place ++ part) ++ z ∷ []) key) (ap (λ d. get_or key d 0) (sym used_is) ∙ sym byte)
                (front_byte (a.place ++ part) key on_way (omega arith));
            low = split.low;
            high = split.high;
          };
          path_is = answers_at.path_is;
        },
        refl,
      )

module _ {K V : Type 0} {bytes : K × V → List ℕ} {P : ℕ} {s : Nodes K V} {point : InsertPoint} {p : InnerPtr} {key : List ℕ}
    (answers : IsPointIn bytes P s key point) (into : point.insert_kind ≡ IntoExisting p) where
  pub entry : {pairs : List (K × V)} {layout : Tree OpaqueNodePtr (K × V)} {b : ℕ} → b ≡ get_or key point.key_bytes_used 0 →
      IsCanonicalTree bytes P s point.root pairs layout → IsEntry bytes P p layout key point.path b
  entry byte by = (entry_at into (answers_to answers by) byte by).0

module _ {K V : Type 0} {bytes : K × V → List ℕ} {P : ℕ} {s : Nodes K V} {p : InnerPtr} {root : OpaqueNodePtr} {pairs : List (K × V)}
    {layout : Tree OpaqueNodePtr (K × V)} {key : List ℕ} {path : TreePath} {b : ℕ} (by : IsCanonicalTree bytes P s root pairs layout)
    (e : IsEntry bytes P p layout key path b) where
  abbrev entered : Tree OpaqueNodePtr (K × V)
  entered = inner (inner_name p) e.header (join e.left e.right)

  -- the tree as a path with the node in its hole
  pub entry_laid : IsLaidOut bytes P (node_at s) (links_at s) root pairs (plug e.frames (inner (inner_name p) e.header (join e.left e.right)))
  entry_laid = subst (IsLaidOut bytes P (node_at s) (links_at s) root pairs) (sym e.whole) (laid_out by)

  own_node : (p.kind ≢ Leaf) × (node : Inner) × (map.get s.inners p ≡ Some node) × (node.children ≡ slots_of (join e.left e.right))
  own_node =
      let (off, node, got, head, kids) =
      inner_at s (inner_name p) e.header (slots_of (join e.left e.right)) (path_holds (node_at s) e.frames entered entry_laid.holds).1.0 in
      (off, node, got, kids)

  -- its kind is that of the number of its children
  pub entry_kind : p.kind ≡ kind_of (length (bytes_of (join e.left e.right)))
  entry_kind =
      let (off, node, got, head, kids) =
      inner_at s (inner_name p) e.header (slots_of (join e.left e.right)) (path_holds (node_at s) e.frames entered entry_laid.holds).1.0 in
      ap (λ (z : NodeHeader). z.kind) (head ∙ e.gap.hole.radix.1)

  -- whether it is full
  pub entry_full : is_full s p ≡ leb (kind_capacity p.kind) (length (bytes_of (join e.left e.right)))
  entry_full =
      let (off, node, got, kids) = own_node in
      rw (got, is_full) (ap (leb (kind_capacity p.kind)) (ap length kids ∙ length-slots_of (join e.left e.right)))

  pub entry_inner : p.kind ≢ Leaf
  entry_inner = own_node.0

  pub entry_met : IsSome (map.get s.inners p)
  entry_met = let (off, node, got, kids) = own_node in rw got refl

  -- what is known of the number of its children
  pub entry_count : (Q : ℕ → Type 0) → Q (length (bytes_of (join e.left e.right))) → IsSomeAnd (map.get s.inners p) (λ node. Q (length node.children))
  entry_count Q q = let (off, node, got, kids) = own_node in rw got (subst Q (sym (ap length kids ∙ length-slots_of (join e.left e.right))) q)

  -- it has a gap at the byte
  pub entry_gap : HasGap s p b e.left e.right
  entry_gap = record {
    header = e.header;
    full = (
      record {
        named = refl;
        holds = (path_holds (node_at s) e.frames entered entry_laid.holds).1;
        distinct = hole_distinct (node_at s)
            (node_at s) e.frames entered entry_laid.holds entry_laid.distinct;
      },
      one_child entered (have_two_children bytes P e.place entered e.gap.hole.radix),
    );
    rising = e.gap.hole.radix.3;
    low = e.gap.low;
    high = e.gap.high;
  }

  -- the parent is another node, and has the node as a child
  pub entry_parent : HasChild (map.remove s.inners p) (last_step path)
  entry_parent = subst (λ z. HasChild (map.remove s.inners p) (last_step z)) (sym e.path_is)
      (subst (HasChild (map.remove s.inners p)) (sym (last_step-path_of e.frames)) (go e.frames refl))
    where
      go : (fs : List (Frame OpaqueNodePtr (K × V))) → e.frames ≡ fs → HasChild (map.remove s.inners p) (parent_of fs)
      go [] is = tt
      go (f ∷ fs) is =
          let up = subst (λ z. IsParent z f.mark) (sym is) refl in
          let ready =
          subst (λ z. IfSome (parent_of z) (λ q. IsSomeAnd (map.get s.inners q.0) (λ node. child_at node.children q.1 ≡ Some (inner_name p)))) is
          (parent_ready bytes P s e.frames e.place (inner_name p) e.gap.hole.path (path_holds (node_at s) e.frames entered entry_laid.holds).0) in
          let off : as_inner f.mark ≢ p =
          λ same. parent_apart (node_at s) (node_at s) e.frames entered entry_laid.holds entry_laid.distinct f.mark up
          (inl (sym (inner_name_one f.mark (inner_name p) same))) in
          subst (λ o. IsSomeAnd o (λ node. IsSome (child_at node.children f.byte)))
          (sym (inner_gone_elsewhere s.inners p (as_inner f.mark) off)) (some (map.get s.inners (as_inner f.mark)) ready)
        where
          some : (o : Option Inner) → IsSomeAnd o (λ node. child_at node.children f.byte ≡ Some (inner_name p)) →
              IsSomeAnd o (λ node. IsSome (child_at node.children f.byte))
          some None h = h
          some (Some node) h = rw h refl

  -- no pair below has the key
  unequal : (cs : Subtrees OpaqueNodePtr (K × V)) → AreRadix bytes P (e.place ++ e.gap.hole.radix.0) cs → Each (λ c. c ≢ b) (bytes_of cs) →
      Each (λ x. are_same key (bytes x) ≡ false) (pairs_below cs)
  unequal no_child h off = tt
  unequal (child c t cs) h off =
      let front = e.place ++ e.gap.hole.radix.0 in
      Each-append (λ x. are_same key (bytes x) ≡ false) (pairs_of t) (pairs_below cs)
      (Each-weaker (λ x. IsFront (front ++ c ∷ []) (bytes x)) (λ x. are_same key (bytes x) ≡ false)
      (λ x f. same_related key (bytes x) (unrelated_after front b c key (bytes x) e.gap.front f (λ same. off.0 (sym same)))) (pairs_of t)
      (radix_way bytes P t (front ++ c ∷ []) h.0))
      (unequal cs h.1 off.1)

  -- so nothing is replaced
  entry_reply : first_of (with_key bytes key pairs) ≡ None
  entry_reply =
      let others = subst (Each (λ c. c ≢ b)) (sym (bytes_of-join e.left e.right)) (Each-append (λ c. c ≢ b) (bytes_of e.left) (bytes_of e.right)
      (Each-weaker (λ c. c < b) (λ c. c ≢ b) (λ c l same. omega arith) (bytes_of e.left) e.gap.low)
      (Each-weaker (λ c. b < c) (λ c. c ≢ b) (λ c l same. omega arith) (bytes_of e.right) e.gap.high)) in
      ap (λ xs. first_of (with_key bytes key xs)) (sym entry_laid.pairs_are) ∙
      ap first_of (with_key-hole bytes P e.frames e.place key entered e.gap.hole.path e.gap.hole.front ∙
      filter_none (λ x. are_same key (bytes x)) (pairs_below (join e.left e.right)) (unequal (join e.left e.right) e.gap.hole.radix.4 others))

-- ---- what is inserted

module _ {K V : Type 0} {bytes : K × V → List ℕ} {P : ℕ} {s t : Nodes K V} {point : InsertPoint} {p k : InnerPtr} {pairs : List (K × V)}
    {layout : Tree OpaqueNodePtr (K × V)} {b : ℕ} {n : LeafPtr} {new : K × V} where
  -- the node, or its larger replacement, has the leaf as a child
  pub entered_inserted : {root : OpaqueNodePtr} {done : InsertResult K V} (by : IsCanonicalTree bytes P s point.root pairs layout)
      (into : point.insert_kind ≡ IntoExisting p) (e : IsEntry bytes P p layout (bytes new) point.path b) →
      ChildAdded bytes P s t point.root pairs e.frames (inner_name p) (inner_name k) e.header e.left e.right b (leaf_name n) new →
      root ≡ paths.root_with e.frames point.root (inner_name k) →
      done ≡ record { leaf_node_ptr = n; existing_leaf = None; new_root = root; parent_node_change = NewParent k b } →
      Touches point.insert_kind s t → IsInserted bytes P s t point new pairs layout e.frames done
  entered_inserted {root} by into e added root_is done_is few =
      let tree = plug e.frames (inner (inner_name k) added.header (join e.left (child b (leaf (leaf_name n) new) e.right))) in
      let frame : Frame OpaqueNodePtr (K × V) = record { mark = inner_name k; header = added.header; left = e.left; byte = b; right = e.right } in
      subst (IsInserted bytes P s t point new pairs layout e.frames) (sym done_is) (record {
        tree = tree;
        canonical = canonical_from (subst (λ ps. IsLaidOut bytes P (node_at t) (links_at t) root ps tree) (sym (put-new bytes new pairs (entry_reply by e)))
            (subst (λ r. IsLaidOut bytes P (node_at t) (links_at t) r (replace_key bytes new pairs) tree) (sym root_is) added.laid));
        inserted =
            subst (λ x. HasInserted tree point x (record {
              leaf_node_ptr = n;
              existing_leaf = None;
              new_root = root;
              parent_node_change = NewParent k b;
            }))
            (sym (stored_for-new bytes new pairs (entry_reply by e))) (record {
              path = frame ∷ e.frames;
              whole = refl;
              change = subst (λ kind. IsChange kind (Some (k, b)) (NewParent k b)) (sym into) refl;
              root = root_is ∙ sym (ap (λ path. root_with path point.root (inner_name k)) e.path_is ∙
                  root_with-path_of e.frames point.root (inner_name k)) ∙ root_told point point.path k b;
            });
        below = record { frame = frame; mark = refl; byte_is = refl; whole = refl };
        replaced = ap (option_map unlinked_leaf) (sym (put_reply-new bytes new pairs (entry_reply by e)));
        kept = subst (λ z. ChangesInPlace bytes s t (Some z) (Some tree)) e.whole added.kept;
        touches = few;
      })

-- neighbours that are right for a key are right for the same bytes
pub beside_for : {K V : Type 0} {s : Nodes K V} {p : InnerPtr} {text key : List ℕ} (used : ℕ) {previous next : Option LeafPtr} → text ≡ key →
    ((left : Subtrees OpaqueNodePtr (K × V)) (right : Subtrees OpaqueNodePtr (K × V)) → HasGap s p (get_or key used 0) left right →
    ComesBetween s left right previous next) →
    (left : Subtrees OpaqueNodePtr (K × V)) (right : Subtrees OpaqueNodePtr (K × V)) → HasGap s p (get_or text used 0) left right →
    ComesBetween s left right previous next
beside_for {s = s} {p} used same beside left right gap = beside left right (subst (λ l. HasGap s p (get_or l used 0) left right) same gap)
