-- The leaf of a delete point below its parent, and what its removal leaves.
use Rattle.std.proofs.Common.{◌≡◌, ◌≢◌, ℕ, suc, ◌<◌, ◌≤◌, List, [], ◌∷◌, length, Bool, true, false, cond, leb, refl, ap, sym, ◌∙◌, subst, arith, Option, Some, None, IsSome, is_some, IfSome, IsSomeAnd}
use Rattle.std.specs.FinMap.{get, insert, remove}
use Rattle.std.proofs.lemmas.Bool.{leb-true, leb-false, lt-leb}
use Rattle.art_model.specs.Prelude.{without_child, Inner, child_at, remove_child, kind_capacity, kind_least, smaller_kind, leaf_name, inner_name, Nodes, change, NodeType, Node4, Node16, Node48, Node256, Leaf, InnerPtr, LeafNode, OpaqueNodePtr, IsCanonicalTree, ChangesInPlace, name_of, remove_key, Frame, plug, bytes_of, join, IsRootOf, node_at, links_at, pair_of, Tree, leaf, child, Inners, as_inner, parent_of, with_child_at, without_leaf}
use Rattle.art_parts.specs.Kinds.{next_smaller}
use Rattle.art_nodes.proofs.StoreChanges.{inner_fresh_differs, inner_gone_elsewhere}
use Rattle.art_model.proofs.stores.Canonical.{IsLaidOut, laid_out, canonical_from}
use Rattle.art_model.proofs.changes.OutOf.{HasLeafBelow, ParentStays, ParentShrinks, with_leaf_in, links_there, parent_is, one_more}
use Rattle.art_model.proofs.changes.OutOf.{slots_left, room_in_smaller, above_same, above_holds, hole, left_out, stays_laid_out}
use Rattle.art_model.proofs.changes.OutOf.{stays_in_place, stays_touches, shrunk, shrinks_laid_out, shrinks_in_place, shrinks_touches}
use Rattle.art_model.proofs.places.Paths.{root_with as root_of}
use Rattle.art_model.proofs.stores.Slots.{length-slots_of}
use Rattle.art_model.proofs.stores.Stores.{IsParent}
use Rattle.art_model.proofs.stores.Writes.{parent_ready}
use Rattle.art_writing.specs.declared.delete.DeletePoint.{DeletePoint}
use Rattle.art_writing.specs.declared.delete.DeleteResult.{DeleteResult}
use Rattle.art_writing.specs.Deleted.{IsRootAfter, LeadsTo, TouchesFor, ParentChange, change_of, parent_change, no_parent, keeps, shrinks, is_compressed}
use Rattle.art_reading.specs.declared.path.TreePath.{TreePath}
use Rattle.art_writing.specs.Inserted.{unlinked_leaf}
use Rattle.art_reading.specs.PathSteps.{last_step, path_of, up, root_with}
use Rattle.art_writing.specs.TakenOut.{IsLeafTaken, IsLetGo, IsTakenOut}
use Rattle.art_writing.specs.ParentWrites.{HasChild, LinksAreThere}
use Rattle.art_writing.proofs.Deletions.{IsDeleted, leaf_at, some_same, taken_since}
use Rattle.art_writing.proofs.Ways.{last_step-path_of, last_step-up, root_with-up, root_after_at, root_kept_at}

-- ---- what a parent's change implies for its number of children

refused : {X : Type 0} (t : Bool) (a b : X) → a ≢ b → cond t a b ≡ b → t ≡ false
refused true a b off e = absurd (off e)
refused false a b off e = refl

passed : {X : Type 0} (t : Bool) (a b c : X) → b ≢ c → cond t a b ≡ c → t ≡ true
passed true a b c off e = refl
passed false a b c off e = absurd (off e)

neither : {X : Type 0} (t : Bool) (a b c : X) → a ≢ c → b ≢ c → cond t a b ≡ c → ⊥
neither true a b c off non e = off e
neither false a b c off non e = non e

-- a parent that keeps its kind has more children than the kind's minimum
keeps_spare : (kind : NodeType) (count : ℕ) → change_of kind count ≡ keeps → kind_least kind < count
keeps_spare Node4 count e = leb-false count 2 (refused (leb count 2) is_compressed keeps (λ f. absurd cc) e)
keeps_spare Node16 count e = leb-false count 5 (refused (leb count 5) (shrinks Node4) keeps (λ f. absurd cc) e)
keeps_spare Node48 count e = leb-false count 17 (refused (leb count 17) (shrinks Node16) keeps (λ f. absurd cc) e)
keeps_spare Node256 count e = leb-false count 49 (refused (leb count 49) (shrinks Node48) keeps (λ f. absurd cc) e)
keeps_spare Leaf count e = leb-false count 0 (refused (leb count 0) (shrinks Leaf) keeps (λ f. absurd cc) e)

-- one that shrinks has the minimum, and is no Node4
shrinks_least : (kind to : NodeType) (count : ℕ) → change_of kind count ≡ shrinks to → (kind ≢ Node4) × (count ≤ kind_least kind)
shrinks_least Node4 to count e = let t = passed (leb count 2) is_compressed keeps (shrinks to) (λ f. absurd cc) e in absurd (cc (e, t))
shrinks_least Node16 to count e = ((λ f. absurd cc), leb-true count 5 (passed (leb count 5) (shrinks Node4) keeps (shrinks to) (λ f. absurd cc) e))
shrinks_least Node48 to count e = ((λ f. absurd cc), leb-true count 17 (passed (leb count 17) (shrinks Node16) keeps (shrinks to) (λ f. absurd cc) e))
shrinks_least Node256 to count e = ((λ f. absurd cc), leb-true count 49 (passed (leb count 49) (shrinks Node48) keeps (shrinks to) (λ f. absurd cc) e))
shrinks_least Leaf to count e = ((λ f. absurd cc), leb-true count 0 (passed (leb count 0) (shrinks Leaf) keeps (shrinks to) (λ f. absurd cc) e))

-- ---- what becomes of a parent, by its kind and its number of children

-- of one in the store
pub change_seen : {K V : Type 0} (s : Nodes K V) (path : TreePath) {parent : InnerPtr} {byte : ℕ} {node : Inner} {kind : NodeType} →
    last_step path ≡ Some (parent, byte) →
    get s.inners parent ≡ Some node → kind ≡ parent.kind → parent_change s path ≡ change_of kind (length node.children)
change_seen s path {parent} {node = node} step got kind_is =
    ap (λ (o : Option (InnerPtr × ℕ)). elim o as (λ _. ParentChange) [
      | None ↦ no_parent
      | Some p ↦
          elim (get s.inners p.0) as (λ _. ParentChange) [ None ↦ no_parent | Some i ↦ change_of p.0.kind (length i.children) ]
    ]) step
    ∙ ap (λ (o : Option Inner). elim o as (λ _. ParentChange) [ None ↦ no_parent | Some i ↦ change_of parent.kind (length i.children) ]) got
    ∙ ap (λ k. change_of k (length node.children)) (sym kind_is)

-- it keeps its kind
pub change-keeps : (kind : NodeType) (count : ℕ) → kind_least kind < count → change_of kind count ≡ keeps
change-keeps Node4 count more = rw (lt-leb count 2 more) refl
change-keeps Node16 count more = rw (lt-leb count 5 more) refl
change-keeps Node48 count more = rw (lt-leb count 17 more) refl
change-keeps Node256 count more = rw (lt-leb count 49 more) refl
change-keeps Leaf count more = rw (lt-leb count 0 more) refl

-- the kind to which one shrinks is that of an inner node
pub smaller_is : (kind to : NodeType) → next_smaller kind ≡ Some to → (to ≡ smaller_kind kind) × (to ≢ Leaf)
smaller_is Node4 to e = absurd cc
smaller_is Node16 to e = (cc, λ f. absurd cc)
smaller_is Node48 to e = (cc, λ f. absurd cc)
smaller_is Node256 to e = (cc, λ f. absurd cc)
smaller_is Leaf to e = absurd cc

-- a node that is compressed has at most two children
pub compressed_most : (kind : NodeType) (count : ℕ) → change_of kind count ≡ is_compressed → count ≤ 2
compressed_most Node4 count e = leb-true count 2 (passed (leb count 2) is_compressed keeps is_compressed (λ f. absurd cc) e)
compressed_most Node16 count e = absurd (neither (leb count 5) (shrinks Node4) keeps is_compressed (λ f. absurd cc) (λ f. absurd cc) e)
compressed_most Node48 count e = absurd (neither (leb count 17) (shrinks Node16) keeps is_compressed (λ f. absurd cc) (λ f. absurd cc) e)
compressed_most Node256 count e = absurd (neither (leb count 49) (shrinks Node48) keeps is_compressed (λ f. absurd cc) (λ f. absurd cc) e)
compressed_most Leaf count e = absurd (neither (leb count 0) (shrinks Leaf) keeps is_compressed (λ f. absurd cc) (λ f. absurd cc) e)

-- ---- the parent's child

-- a node that has this child has one
some_child : (name : OpaqueNodePtr) (b : ℕ) (o : Option Inner) → IsSomeAnd o (λ node. child_at node.children b ≡ Some name) →
    IsSomeAnd o (λ node. IsSome (child_at node.children b))
some_child name b None has = has
some_child name b (Some node) has = ap is_some has

-- the innermost node of a path that is unchanged has a child where it had the hole
pub has_child : {A : Type 0} (old new : Inners) (name : OpaqueNodePtr) (fs : List (Frame OpaqueNodePtr A)) →
    IfSome (parent_of fs) (λ p. IsSomeAnd (get old p.0) (λ node. child_at node.children p.1 ≡ Some name)) →
    ((k : OpaqueNodePtr) → IsParent fs k → get new (as_inner k) ≡ get old (as_inner k)) → HasChild new (parent_of fs)
has_child old new name [] has same = tt
has_child old new name (f ∷ fs) has same =
    subst (λ o. IsSomeAnd o (λ node. IsSome (child_at node.children f.byte))) (sym (same f.mark refl))
    (some_child name f.byte (get old (as_inner f.mark)) has)

-- ---- the leaf below its parent

-- The point's leaf is in the store, in the hole of its parent's frame.
pub record IsBelow {K V : Type 0} (bytes : K × V → List ℕ) (P : ℕ) (s : Nodes K V) (root : OpaqueNodePtr) (pairs : List (K × V))
    (layout : Tree OpaqueNodePtr (K × V)) (x : K × V) (point : DeletePoint) (parent : InnerPtr) (byte : ℕ) : Type 0 where
  pub frame : Frame OpaqueNodePtr (K × V)
  pub above : List (Frame OpaqueNodePtr (K × V))
  pub node : LeafNode K V
  pub here : get s.leaves point.leaf_node_ptr ≡ Some node
  pub pair : pair_of node ≡ x
  pub whole : plug above (with_leaf_in frame point.leaf_node_ptr node) ≡ layout
  pub below : HasLeafBelow bytes P s root pairs frame above point.leaf_node_ptr node
  pub path_is : point.path ≡ path_of (frame ∷ above)
  pub parent_is : as_inner frame.mark ≡ parent
  pub byte_is : frame.byte ≡ byte

-- The parent was freed, and a smaller node placed without the child.
pub record IsSmaller {K V : Type 0} (u v : Nodes K V) (parent : InnerPtr) (byte : ℕ) (q : InnerPtr) : Type 0 where
  pub kind : q.kind ≡ smaller_kind parent.kind
  pub fresh : get u.inners q ≡ None
  pub inners : IfSome (get u.inners parent) (λ node. v.inners ≡ insert (remove u.inners parent) q (without_child byte node))

module _ {K V : Type 0} {bytes : K × V → List ℕ} {P : ℕ} {s : Nodes K V} {root : OpaqueNodePtr} {pairs : List (K × V)}
    {layout : Tree OpaqueNodePtr (K × V)} {x : K × V} {point : DeletePoint} {parent : InnerPtr} {byte : ℕ} where
  pub is_below : IsCanonicalTree bytes P s root pairs layout → LeadsTo layout x point → last_step point.path ≡ Some (parent, byte) →
      IsBelow bytes P s root pairs layout x point parent byte
  is_below by leads step = frames leads.path leads.whole leads.path_is
    where
      frames : (fs : List (Frame OpaqueNodePtr (K × V))) → plug fs (leaf (leaf_name point.leaf_node_ptr) x) ≡ layout →
          point.path ≡ path_of fs → IsBelow bytes P s root pairs layout x point parent byte
      frames [] whole path_is = let none = sym step ∙ ap last_step path_is in absurd cc
      frames (f ∷ fs) whole path_is =
          let (node, here, pair) = leaf_at by leads in
          let last : ◌≡◌ {A = InnerPtr × ℕ} (as_inner f.mark, f.byte) (parent, byte) =
          some_same (sym (last_step-path_of (f ∷ fs)) ∙ ap last_step (sym path_is) ∙ step) in
          let all : plug fs (with_leaf_in f point.leaf_node_ptr node) ≡ layout =
          ap (λ z. plug (f ∷ fs) (leaf (leaf_name point.leaf_node_ptr) z)) pair ∙ whole in
          record {
            frame = f;
            above = fs;
            node = node;
            here = here;
            pair = pair;
            whole = all;
            below = record { laid = subst (IsLaidOut bytes P (node_at s) (links_at s) root pairs) (sym all) (laid_out by) };
            path_is = path_is;
            parent_is = ap (λ p. p.0) last;
            byte_is = ap (λ p. p.1) last;
          }

  module _ (at : IsBelow bytes P s root pairs layout x point parent byte) where
    -- its neighbours are in the store
    leaf_ready : IsSome (get s.leaves point.leaf_node_ptr) × LinksAreThere s.leaves point.leaf_node_ptr
    leaf_ready = rw at.here (refl, links_there at.below at.here)

    -- so after writes that change no leaf it is no longer a child of the parent
    pub let_go : {u : Nodes K V} {new : Option OpaqueNodePtr} → u.leaves ≡ s.leaves →
        ((t : Nodes K V) → (done : DeleteResult K V) → IsLeafTaken u t point new done → IsTakenOut bytes P s t root point done) →
        IsLetGo bytes P s u root point new
    let_go leaves taken =
        let ready = subst (λ m. IsSome (get m point.leaf_node_ptr) × LinksAreThere m point.leaf_node_ptr) (sym leaves) leaf_ready in
        record { leaf = ready.0; beside = ready.1; taken = taken }

    -- the parent as the store has it
    parent_there : (node : Inner) × (get s.inners parent ≡ Some node) × (parent.kind ≢ Leaf) ×
        (length node.children ≡ suc (length (bytes_of (join at.frame.left at.frame.right))))
    parent_there =
        let (off, node, got, head, kids) = parent_is at.below in (
          node,
          ap (get s.inners) (sym at.parent_is) ∙ got,
          subst (λ (p : InnerPtr). p.kind ≢ Leaf) at.parent_is off,
          ap length kids ∙ length-slots_of (join at.frame.left
              (child at.frame.byte (leaf (leaf_name point.leaf_node_ptr) (pair_of at.node)) at.frame.right)) ∙ one_more at.below,
        )

    -- what becomes of the parent is determined by its number of children
    pub change_is : (to : ParentChange) → last_step point.path ≡ Some (parent, byte) → parent_change s point.path ≡ to →
        change_of at.frame.mark.kind (suc (length (bytes_of (join at.frame.left at.frame.right)))) ≡ to
    change_is to step is =
        let (node, got, off, count) = parent_there in
        let told : parent_change s point.path ≡ change_of parent.kind (length node.children) = change_seen s point.path step got refl in
        ap (λ (p : InnerPtr). change_of p.kind (suc (length (bytes_of (join at.frame.left at.frame.right))))) at.parent_is
        ∙ ap (change_of parent.kind) (sym count) ∙ sym told ∙ is

    -- ---- after writes that change no leaf the leaf is removed

    module _ {w t : Nodes K V} {new : OpaqueNodePtr} {done : DeleteResult K V} (leaves : w.leaves ≡ s.leaves)
        (taken : IsLeafTaken w t point (Some new) done) where
      leaves_without : t.leaves ≡ without_leaf s.leaves point.leaf_node_ptr at.node
      leaves_without = (taken_since s leaves at.here taken).0

      -- what is done, by the tree that is left, and the name in the parent's place
      pub deleted_below : (name : OpaqueNodePtr) (tree : Tree OpaqueNodePtr (K × V)) (to : ParentChange) → parent_change s point.path ≡ to →
          new ≡ root_of at.above root name →
          IsRootAfter to (path_of (at.frame ∷ at.above)) root (Some (root_of at.above root name)) →
          IsLaidOut bytes P (node_at t) (links_at t) (root_of at.above root name) (remove_key bytes (bytes (pair_of at.node)) pairs) tree →
          ChangesInPlace bytes s t (Some (plug at.above (with_leaf_in at.frame point.leaf_node_ptr at.node))) (Some tree) → TouchesFor to s t →
          IsDeleted bytes P s t root point x pairs layout done
      deleted_below name tree to is named root_is laid kept touches =
          let answered : done.new_root ≡ Some (root_of at.above root name) = taken.root_is ∙ ap Some named in
          record {
            tree = Some tree;
            canonical = subst (λ r. IsRootOf bytes P t r (remove_key bytes (bytes x) pairs) (Some tree)) (sym answered)
                (canonical_from (subst (λ y. IsLaidOut bytes P (node_at t) (links_at t) (root_of at.above root name)
                (remove_key bytes (bytes y) pairs) tree) at.pair laid));
            deleted = (taken_since s leaves at.here taken).1 ∙ ap unlinked_leaf at.pair;
            root_is = subst (λ r. IsRootAfter (parent_change s point.path) point.path root r) (sym answered)
                (subst (λ path. IsRootAfter (parent_change s point.path) path root (Some (root_of at.above root name))) (sym at.path_is)
                (subst (λ change. IsRootAfter change (path_of (at.frame ∷ at.above)) root (Some (root_of at.above root name))) (sym is) root_is));
            kept = subst (λ l. ChangesInPlace bytes s t (Some l) (Some tree)) at.whole kept;
            touches = subst (λ change. TouchesFor change s t) (sym is) touches;
          }

    -- ---- the parent stays

    module _ {w t : Nodes K V} {done : DeleteResult K V} (leaves : w.leaves ≡ s.leaves) (inners : w.inners ≡ change s.inners parent (without_child byte))
        (taken : IsLeafTaken w t point (Some root) done) (step : last_step point.path ≡ Some (parent, byte)) (is : parent_change s point.path ≡ keeps) where
      parent_stays : ParentStays s t at.frame point.leaf_node_ptr at.node
      parent_stays = record {
        goes = record { here = at.here; leaves = leaves_without leaves taken };
        spare =
            let more = keeps_spare at.frame.mark.kind (suc (length (bytes_of (join at.frame.left at.frame.right))))
            (change_is keeps step is) in omega arith;
        inners = taken.inners ∙ inners ∙ ap (λ p. change s.inners p (without_child byte)) (sym at.parent_is)
            ∙ ap (λ b. change s.inners (as_inner at.frame.mark) (without_child b)) (sym at.byte_is);
      }

      pub child_deleted : IsDeleted bytes P s t root point x pairs layout done
      child_deleted =
          let same : root_of at.above root at.frame.mark ≡ root = same_root at.above at.below.laid.named in
          deleted_below leaves taken at.frame.mark (plug at.above (left_out at.below parent_stays)) keeps is (sym same)
          (subst (λ r. IsRootAfter keeps (path_of (at.frame ∷ at.above)) root (Some r)) (sym same) (root_kept_at at.frame at.above root))
          (stays_laid_out at.below parent_stays) (stays_in_place at.below parent_stays) (stays_touches at.below parent_stays)
        where
          same_root : (fs : List (Frame OpaqueNodePtr (K × V))) →
              name_of (plug fs (with_leaf_in at.frame point.leaf_node_ptr at.node)) ≡ root → root_of fs root at.frame.mark ≡ root
          same_root [] e = e
          same_root (g ∷ gs) e = refl

    -- ---- a smaller node replaces the parent, after a reservation that changes no node

    module _ (u : Nodes K V) (same : u.inners ≡ s.inners) (to : NodeType) (step : last_step point.path ≡ Some (parent, byte))
        (is : parent_change s point.path ≡ shrinks to) where
      fewest : (at.frame.mark.kind ≢ Node4) × (length (bytes_of (join at.frame.left at.frame.right)) < kind_least at.frame.mark.kind)
      fewest =
          let (larger, least) =
          shrinks_least at.frame.mark.kind to (suc (length (bytes_of (join at.frame.left at.frame.right))))
          (change_is (shrinks to) step is) in
          (larger, omega arith)

      -- the smaller kind has room for the parent's other children
      pub shrinks_fit : (parent.kind ≢ Node4) ×
          IsSomeAnd (get u.inners parent) (λ node. length (without_child byte node).children ≤ kind_capacity (smaller_kind parent.kind))
      shrinks_fit =
          let (off, node, got, head, kids) = parent_is at.below in
          let left : length (remove_child node.children byte) ≡ length (bytes_of (join at.frame.left at.frame.right)) =
          ap (λ b. length (remove_child node.children b)) (sym at.byte_is) ∙ ap length (slots_left at.below node.children kids)
          ∙ length-slots_of (join at.frame.left at.frame.right) in
          let there : get u.inners parent ≡ Some node = ap (λ m. get m parent) same ∙ ap (get s.inners) (sym at.parent_is) ∙ got in
          let fit : length (remove_child node.children byte) ≤ kind_capacity (smaller_kind at.frame.mark.kind) =
          subst (λ n. n ≤ kind_capacity (smaller_kind at.frame.mark.kind)) (sym left)
          (room_in_smaller at.frame.mark.kind (length (bytes_of (join at.frame.left at.frame.right))) fewest.0 fewest.1) in (
            subst (λ (p : InnerPtr). p.kind ≢ Node4) at.parent_is fewest.0,
            subst (λ o. IsSomeAnd o (λ node. length (without_child byte node).children ≤ kind_capacity (smaller_kind parent.kind))) (sym there)
                (subst (λ (p : InnerPtr). length (remove_child node.children byte) ≤ kind_capacity (smaller_kind p.kind)) at.parent_is fit),
          )

      placed_is : (q : InnerPtr) (node : Inner) →
          insert (remove u.inners parent) q (without_child byte node)
          ≡ insert (remove s.inners (as_inner at.frame.mark)) q (without_child at.frame.byte node)
      placed_is q node =
          ap (λ m. insert (remove m parent) q (without_child byte node)) same
          ∙ ap (λ p. insert (remove s.inners p) q (without_child byte node)) (sym at.parent_is)
          ∙ ap (λ b. insert (remove s.inners (as_inner at.frame.mark)) q (without_child b node)) (sym at.byte_is)

      module _ {v : Nodes K V} {q : InnerPtr} (smaller : IsSmaller u v parent byte q) where
        own : Inner
        own = parent_there.0

        own_there : get u.inners parent ≡ Some own
        unfolding own
        own_there = ap (λ m. get m parent) same ∙ parent_there.1

        inners_are : v.inners ≡ insert (remove s.inners (as_inner at.frame.mark)) q (without_child at.frame.byte own)
        inners_are =
            subst (λ o. IfSome o (λ node. v.inners ≡ insert (remove u.inners parent) q (without_child byte node)))
            own_there smaller.inners ∙ placed_is q own

        parent_shrinks : {t : Nodes K V} → t.leaves ≡ without_leaf s.leaves point.leaf_node_ptr at.node →
            t.inners ≡ with_child_at (last_step (up point.path)) (inner_name q) v.inners →
            ParentShrinks s t at.frame at.above point.leaf_node_ptr at.node q own
        unfolding own
        parent_shrinks leaves placed = record {
          goes = record { here = at.here; leaves = leaves };
          least = fewest.1;
          larger = fewest.0;
          kind = smaller.kind ∙ ap (λ (p : InnerPtr). smaller_kind p.kind) (sym at.parent_is);
          there = ap (get s.inners) at.parent_is ∙ parent_there.1;
          fresh = ap (λ p. get (remove s.inners p) q) at.parent_is ∙ ap (λ m. get (remove m parent) q) (sym same) ∙
              inner_gone_elsewhere u.inners parent q (λ e. inner_fresh_differs u.inners q parent own smaller.fresh own_there (sym e)) ∙ smaller.fresh;
          inners = placed ∙ ap (λ path. with_child_at (last_step (up path)) (inner_name q) v.inners) at.path_is ∙
              ap (λ above. with_child_at above (inner_name q) v.inners) (last_step-up at.frame at.above)
              ∙ ap (with_child_at (parent_of at.above) (inner_name q)) inners_are;
        }

        -- before it is written, the grandparent has a child under its byte
        pub above_ready : HasChild v.inners (last_step (up point.path))
        above_ready =
            let t : Nodes K V = record v {
              leaves = without_leaf s.leaves point.leaf_node_ptr at.node;
              inners = with_child_at (last_step (up point.path)) (inner_name q) v.inners;
            } in
            subst (HasChild v.inners) (sym (ap (λ path. last_step (up path)) at.path_is ∙ last_step-up at.frame at.above))
            (has_child s.inners v.inners at.frame.mark at.above
            (parent_ready bytes P s at.above (hole at.below).0 at.frame.mark (hole at.below).1.path (above_holds at.below))
            (λ k above. ap (λ m. get m (as_inner k)) inners_are ∙ above_same at.below (parent_shrinks {t = t} refl refl) k above))

        -- then the grandparent, where there is one, has it as its child
        pub parent_deleted : {w t : Nodes K V} {new : OpaqueNodePtr} {done : DeleteResult K V} → w.leaves ≡ s.leaves →
            w.inners ≡ with_child_at (last_step (up point.path)) (inner_name q) v.inners →
            new ≡ root_with (up point.path) root (inner_name q) → IsLeafTaken w t point (Some new) done → IsDeleted bytes P s t root point x pairs layout done
        parent_deleted {t = t} leaves placed named taken =
            let shrinks_to : ParentShrinks s t at.frame at.above point.leaf_node_ptr at.node q own =
            parent_shrinks (leaves_without leaves taken) (taken.inners ∙ placed) in
            deleted_below leaves taken (inner_name q) (plug at.above (shrunk at.below shrinks_to)) (shrinks to) is
            (named ∙ ap (λ path. root_with (up path) root (inner_name q)) at.path_is ∙ root_with-up at.frame at.above root (inner_name q))
            (root_after_at at.frame (shrinks to) at.above root (inner_name q) (λ e. absurd cc))
            (shrinks_laid_out at.below shrinks_to) (shrinks_in_place at.below shrinks_to) (shrinks_touches at.below shrinks_to)
