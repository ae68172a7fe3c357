-- A branch at the end of a point's path: what the store has there before the branch is placed, and after.
use Rattle.std.proofs.Common.{◌≡◌, ◌≢◌, ℕ, List, [], ◌∷◌, ◌++◌, length, take, Option, Some, None, IsSome, IsSomeAnd, IfSome, is_some, refl, option_map}
use Rattle.std.proofs.Common.{ap, ap₂, sym, ◌∙◌, subst, cond, ltb, Bool, true, false, append_assoc, append-nil}
use Rattle.std.specs.List.{AllByRecursion as Each}
use Rattle.std.specs.FinMap.{get, insert}
use Rattle.art_model.specs.Prelude.{with_child, Inner, childless, child_at, Prefix, leaf_name, inner_name, Nodes, InnerPtr, LeafNode, OpaqueNodePtr, IsCanonicalTree, IsIn, ChangesInPlace, IsFront, are_related, are_same, name_of, names_of, leaf_names, with_key, replace_key, related_to, first_of, Frame, plug, fill, leaves_before, leaves_after, depth_of, least_key, pairs_of, node_at, links_at, Tree, leaf, inner, child, no_child, canonical_header, IsThere, with_child_at, with_leaf, parent_of}
use Rattle.art_model.proofs.changes.PlacedBranches.{BranchStored, branch_in_place}
use Rattle.art_model.proofs.stores.Canonical.{IsLaidOut, laid_out, canonical_from}
use Rattle.art_model.proofs.leaves.Chains.{AreThere, are_there, previous_there, next_there}
use Rattle.art_model.proofs.changes.Changes.{two_children}
use Rattle.art_model.proofs.lists.Filters.{filter_filter}
use Rattle.art_model.proofs.changes.Inserted.{BranchInserted, branch_inserted}
use Rattle.art_model.proofs.keys.Keys.{front_related, same_equal}
use Rattle.art_model.proofs.lists.Lists.{Each-weaker, each_in, filter_none}
use Rattle.art_model.proofs.places.Paths as paths
use Rattle.art_model.proofs.places.Paths.{IsHole, radix_plug, leaf_names-plug, same_pairs_of, related_at}
use Rattle.art_model.proofs.places.PlaceLaws.{depth_is}
use Rattle.art_model.proofs.places.Places.{place_is, taken}
use Rattle.art_model.proofs.pairs.Puts.{put-new, put_reply-new, stored_for-new}
use Rattle.art_model.proofs.radix.Rebuild.{radix_way}
use Rattle.art_model.proofs.stores.Stores.{path_holds}
use Rattle.art_model.proofs.stores.Touches.{Touched, IsInner}
use Rattle.art_model.proofs.stores.Writes.{parent_ready}
use Rattle.art_writing.specs.declared.insert.InsertParentNodeChange.{InsertParentNodeChange}
use Rattle.art_writing.specs.declared.insert.InsertParentNodeChange.TheVariants.{NewParent}
use Rattle.art_writing.specs.declared.insert.InsertPoint.{InsertPoint}
use Rattle.art_writing.specs.declared.insert.InsertResult.{InsertResult}
use Rattle.art_writing.specs.declared.insert.branch.Branch.{Branch}
use Rattle.art_writing.specs.Branches.{ForEnd, IsBranch, IsBranchPlaced}
use Rattle.art_writing.specs.Inserted.{HasInserted, IsBelow, IsChange, Touches, unlinked_leaf, root_after}
use Rattle.art_writing.specs.Points.{AnswersTo}
use Rattle.art_writing.specs.ParentWrites.{HasChild}
use Rattle.art_reading.specs.PathSteps.{last_step, root_with}
use Rattle.art_writing.proofs.LeftByPoints.{IsInserted}
use Rattle.art_reading.proofs.Partings.{unrelated_after}
use Rattle.art_writing.proofs.Ways.{last_step-path_of, root_with-path_of, root_told}

-- ---- the end of a point's path

-- the leaves before a new one and those after it, which is adjacent to those in the hole
leaf_list : {N A : Type 0} (fs : List (Frame N A)) (t : Tree N A) (first : Bool) →
    leaf_names (plug fs t) ≡ (leaves_before fs ++ cond first (leaf_names t) []) ++ (cond first [] (leaf_names t) ++ leaves_after fs)
leaf_list fs t true = leaf_names-plug fs t
leaf_list fs t false = leaf_names-plug fs t ∙ simp append_assoc

module _ {K V : Type 0} {bytes : K × V → List ℕ} {P : ℕ} {s : Nodes K V} {key : List ℕ} {point : InsertPoint} {pairs : List (K × V)}
    {layout : Tree OpaqueNodePtr (K × V)} (by : IsCanonicalTree bytes P s point.root pairs layout) (at : AnswersTo bytes P layout key point) where
  -- the whole is laid out
  pub end_laid : IsLaidOut bytes P (node_at s) (links_at s) point.root pairs (plug at.path at.node)
  end_laid = subst (IsLaidOut bytes P (node_at s) (links_at s) point.root pairs) (sym at.is_end.whole) (laid_out by)

  -- the place is a prefix of the key
  pub end_hole : IsHole bytes P at.path (take (depth_of at.path) key) at.node key
  end_hole =
      let (place, path, radix) = radix_plug bytes P at.path at.node end_laid.radix in
      let depth = depth_is bytes P at.path place path in
      let front : IsFront place key =
      subst (λ w. IsFront w key) (ap (λ d. take d (least_key bytes at.node)) depth ∙ place_is bytes P at.node place radix)
      at.is_end.is_front in
      subst (λ w. IsHole bytes P at.path w at.node key) (sym (ap (λ d. take d key) depth ∙ taken place key front))
      (record { path = path; radix = radix; front = front })

  -- and as long as the path is deep
  pub end_depth : depth_of at.path ≡ length (take (depth_of at.path) key)
  end_depth = depth_is bytes P at.path (take (depth_of at.path) key) end_hole.path

  -- the parent has a child under its byte
  pub end_parent : HasChild s.inners (last_step point.path)
  end_parent =
      subst (HasChild s.inners) (sym (ap last_step at.path_is ∙ last_step-path_of at.path))
      (has (parent_of at.path) (parent_ready bytes P s at.path (take (depth_of at.path) key) (name_of at.node) end_hole.path
      (path_holds (node_at s) at.path at.node end_laid.holds).0))
    where
      some : (o : Option Inner) (b : ℕ) → IsSomeAnd o (λ node. child_at node.children b ≡ Some (name_of at.node)) →
          IsSomeAnd o (λ node. IsSome (child_at node.children b))
      some None b h = h
      some (Some node) b h = ap is_some h

      has : (o : Option (InnerPtr × ℕ)) → IfSome o
          (λ p. IsSomeAnd (get s.inners p.0) (λ node. child_at node.children p.1 ≡ Some (name_of at.node))) → HasChild s.inners o
      has None h = tt
      has (Some p) h = some (get s.inners p.0) p.1 h

  module _ {branch : Branch P} (is : IsBranch bytes key at.path at.node branch) where
    ends_there : AreThere s ((leaves_before at.path ++ cond (ltb branch.old_byte branch.new_byte) (leaf_names at.node) []) ++
        (cond (ltb branch.old_byte branch.new_byte) [] (leaf_names at.node) ++ leaves_after at.path))
    ends_there = subst (AreThere s) (leaf_list at.path at.node (ltb branch.old_byte branch.new_byte)) (are_there s (plug at.path at.node) end_laid.holds)

    -- the neighbours of the new leaf are in the store
    pub previous_is_there : IsThere s.leaves branch.previous
    previous_is_there =
        previous_there s (leaves_before at.path ++ cond (ltb branch.old_byte branch.new_byte) (leaf_names at.node) [])
        (cond (ltb branch.old_byte branch.new_byte) [] (leaf_names at.node) ++ leaves_after at.path) branch.previous ends_there is.previous

    pub next_is_there : IsThere s.leaves branch.next
    next_is_there =
        next_there s (leaves_before at.path ++ cond (ltb branch.old_byte branch.new_byte) (leaf_names at.node) [])
        (cond (ltb branch.old_byte branch.new_byte) [] (leaf_names at.node) ++ leaves_after at.path) branch.next ends_there is.next

-- what is read is right for the key
pub read_for : {K V : Type 0} {bytes : K × V → List ℕ} {P : ℕ} {s : Nodes K V} {point : InsertPoint} {text key : List ℕ} {branch : Branch P} →
    text ≡ key → ForEnd bytes P s text point (λ path node. IsBranch bytes text path node branch) →
    ForEnd bytes P s key point (λ path node. IsBranch bytes key path node branch)
read_for {bytes = bytes} {P} {s} {point} {branch = branch} same read =
    subst (λ k. ForEnd bytes P s k point (λ path node. IsBranch bytes k path node branch)) same read

-- ---- the branch is placed

module _ {K V : Type 0} {bytes : K × V → List ℕ} {P : ℕ} {s : Nodes K V} {point : InsertPoint} {pairs : List (K × V)}
    {layout : Tree OpaqueNodePtr (K × V)} {pair : K × V} (by : IsCanonicalTree bytes P s point.root pairs layout)
    (at : AnswersTo bytes P layout (bytes pair) point) {branch : Branch P} (is : IsBranch bytes (bytes pair) at.path at.node branch)
    {mid t : Nodes K V} {old : OpaqueNodePtr} {done : InsertResult K V} (placed : IsBranchPlaced mid t point old branch pair done) where
  abbrev new_leaf : LeafNode K V
  new_leaf = record { key = pair.0; value = pair.1; previous = branch.previous; next = branch.next }

  -- the store's equations, where the leaves were the same before, and the inner nodes except for those that were touched
  pub branch_stored : {touched : List InnerPtr} → mid.leaves ≡ s.leaves → Touched s.inners mid.inners [] [] touched → Each IsInner touched →
      ((k : InnerPtr) → IsIn k touched → IsIn (inner_name k) (names_of at.node)) → name_of at.node ≡ old →
      BranchStored bytes P s t at.path (take (depth_of at.path) (bytes pair)) at.node placed.node done.leaf_node_ptr is.part branch.old_byte
      branch.new_byte (record { key = pair.0; value = pair.1; previous = branch.previous; next = branch.next }) mid.inners touched
  branch_stored {touched} leaves touches kinds in_node named = record {
    hole = end_hole by at;
    front = is.new_way;
    apart = is.apart;
    placed = record {
      list = leaf_list at.path at.node (ltb branch.old_byte branch.new_byte);
      last = is.previous;
      first = is.next;
      fresh = ap (λ m. get m done.leaf_node_ptr) (sym leaves) ∙ placed.leaf_was_free;
      leaves = placed.leaves ∙ ap (λ m. with_leaf m done.leaf_node_ptr new_leaf) leaves;
    };
    kind = placed.kind;
    fresh = sym (touches.others placed.node (λ i. i) (λ i. i) (λ i.
        (each_in (λ k. (get s.inners k ≢ None) × (get mid.inners k ≢ None))
        placed.node touched touches.are_changed i).1 placed.node_was_free)) ∙ placed.node_was_free;
    touches = touches;
    are_inner = kinds;
    in_tree = in_node;
    inners = placed.inners ∙ ap₂ (λ step node. with_child_at step (inner_name placed.node) (insert mid.inners placed.node node))
        (ap last_step at.path_is ∙ last_step-path_of at.path)
        (ap₂ (λ (name : OpaqueNodePtr) (header : Prefix). with_child branch.new_byte (leaf_name done.leaf_node_ptr)
        (with_child branch.old_byte name (childless header))) (sym named) is.header);
  }

  module _ {u : Tree OpaqueNodePtr (K × V)} (new : BranchInserted bytes P (node_at s) (node_at t) (links_at s) (links_at t) at.path
      (take (depth_of at.path) (bytes pair)) at.node u (inner_name placed.node)
      (leaf_name done.leaf_node_ptr) is.part branch.old_byte branch.new_byte pair) where
    abbrev grown : Tree OpaqueNodePtr (K × V)
    grown = inner (inner_name placed.node) (canonical_header P is.part 2)
        (two_children branch.old_byte u branch.new_byte (leaf (leaf_name done.leaf_node_ptr) pair))

    -- no pair has the key
    none_stored : first_of (with_key bytes (bytes pair) pairs) ≡ None
    none_stored =
        let key = bytes pair in
        let front = take (depth_of at.path) key ++ is.part in
        let ways : Each (λ y. IsFront (front ++ branch.old_byte ∷ []) (bytes y)) (pairs_of at.node) =
        subst (Each (λ y. IsFront (front ++ branch.old_byte ∷ []) (bytes y))) (same_pairs_of at.node u new.same_entries)
        (radix_way bytes P u (front ++ branch.old_byte ∷ []) new.radix) in
        let none : related_to bytes key (pairs_of at.node) ≡ [] = filter_none (λ y. are_related key (bytes y)) (pairs_of at.node)
        (Each-weaker (λ y. IsFront (front ++ branch.old_byte ∷ []) (bytes y)) (λ y. are_related key (bytes y) ≡ false)
        (λ y way. unrelated_after front branch.new_byte branch.old_byte key (bytes y) is.new_way way (λ e. is.apart (sym e))) (pairs_of at.node) ways) in
        let whole : related_to bytes key pairs ≡ [] =
        ap (related_to bytes key) (sym (end_laid by at).pairs_are)
        ∙ related_at bytes P at.path (take (depth_of at.path) key) key at.node (end_hole by at).path (end_hole by at).front ∙ none in
        ap first_of (sym (filter_filter (λ y. are_same key (bytes y)) (λ y. are_related key (bytes y)) (λ y e. both key (bytes y) e) pairs)
        ∙ ap (with_key bytes key) whole)
      where
        both : (a b : List ℕ) → are_same a b ≡ true → are_related a b ≡ true
        both a b e = front_related a b ([], same_equal a b e ∙ sym (append-nil a))

    -- the leaf's path
    abbrev leaf_frame : Bool → Frame OpaqueNodePtr (K × V)
    leaf_frame first =
        record {
          mark = inner_name placed.node;
          header = canonical_header P is.part 2;
          left = cond first (child branch.old_byte u no_child) no_child;
          byte
              = branch.new_byte;
          right = cond first no_child (child branch.old_byte u no_child);
        }

    -- the pair is inserted
    pub branch_done : ((parent : InnerPtr × ℕ) (told : InsertParentNodeChange) → told ≡ NewParent parent.0 parent.1 →
        IsChange point.insert_kind (Some parent) told) →
        {touched : List InnerPtr} → BranchStored bytes P s t at.path (take (depth_of at.path) (bytes pair)) at.node placed.node done.leaf_node_ptr
        is.part branch.old_byte branch.new_byte (record { key = pair.0; value = pair.1; previous = branch.previous; next = branch.next }) mid.inners touched →
        Touches point.insert_kind s t → IsInserted bytes P s t point pair pairs layout at.path done
    branch_done branches stored few = record {
      tree = plug at.path grown;
      canonical = canonical_from (subst (λ ps. IsLaidOut bytes P (node_at t) (links_at t) done.new_root ps (plug at.path grown))
          (sym (put-new bytes pair pairs none_stored))
          (subst (λ r. IsLaidOut bytes P (node_at t) (links_at t) r (replace_key bytes pair pairs) (plug at.path grown)) root
          (branch_inserted (end_laid by at) new)));
      inserted = subst (λ x. HasInserted (plug at.path grown) point x done) (sym (stored_for-new bytes pair pairs none_stored)) (record {
        path = leaf_frame (ltb branch.old_byte branch.new_byte) ∷ at.path;
        whole = ap (plug at.path) (filled (ltb branch.old_byte branch.new_byte));
        change = branches (placed.node, branch.new_byte) done.parent_node_change placed.change;
        root = placed.root ∙ root_told point point.path placed.node branch.new_byte ∙ ap (root_after point) (sym placed.change);
      });
      below = subst (IsBelow at.path (plug at.path grown) pair done.leaf_node_ptr) (sym placed.change) (record {
        frame = leaf_frame (ltb branch.old_byte branch.new_byte);
        mark = refl;
        byte_is = refl;
        whole = ap (plug at.path) (filled (ltb branch.old_byte branch.new_byte));
      });
      replaced = placed.existing ∙ sym (ap (option_map unlinked_leaf) (put_reply-new bytes pair pairs none_stored));
      kept = subst (λ tree. ChangesInPlace bytes s t (Some tree) (Some (plug at.path grown))) at.is_end.whole (branch_in_place (end_laid by at) stored new);
      touches = few;
    }
      where
        root : paths.root_with at.path point.root (inner_name placed.node) ≡ done.new_root
        root = sym (root_with-path_of at.path point.root (inner_name placed.node))
            ∙ ap (λ path. root_with path point.root (inner_name placed.node)) (sym at.path_is) ∙ sym placed.root

        filled : (first : Bool) → fill (leaf_frame first) (leaf (leaf_name done.leaf_node_ptr) pair) ≡ inner (inner_name placed.node)
            (canonical_header P is.part 2) (cond first (child branch.old_byte u (child branch.new_byte (leaf (leaf_name done.leaf_node_ptr) pair) no_child))
            (child branch.new_byte (leaf (leaf_name done.leaf_node_ptr) pair) (child branch.old_byte u no_child)))
        filled true = refl
        filled false = refl
