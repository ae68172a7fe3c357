-- What follows from a deletion's record for each clause of an applied point, and what a store has at a point: the leaf and its parent.
use Rattle.std.proofs.Common.{◌≡◌, ◌≢◌, ℕ, List, [], ◌∷◌, refl, ap, sym, ◌∙◌, subst, true, Option, Some, None, IsSome, IfSome, IsSomeAnd, option_map}
use Rattle.std.specs.FinMap.{get}
use Rattle.art_model.specs.Prelude.{leaf_name, Nodes, take_inner, NodeType, InnerPtr, LeafNode, OpaqueNodePtr, IsCanonicalTree, IsCanonical, ChangesInPlace, leaf_node, Node, Holds, are_same, IsMap, first_of, remove_key, remove_reply, with_key, without_first, Frame, plug, HoldsPath, promise_after, IsCanonicalRoot, IsRootOf, node_at, pair_of, Tree, leaf, as_inner, parent_of, without_leaf}
use Rattle.art_model.proofs.stores.Apart.{tree_apart}
use Rattle.art_model.proofs.lists.Filters.{filter_passes}
use Rattle.art_model.proofs.keys.Keys.{same_equal}
use Rattle.art_model.proofs.pairs.MapLaws.{first_is_removed_by_key, last_is_removed_by_key}
use Rattle.art_model.proofs.pairs.Puts.{first_has}
use Rattle.art_model.proofs.stores.Stores.{path_holds}
use Rattle.art_model.proofs.stores.StoreLaws.{has_one_map}
use Rattle.art_model.proofs.stores.Writes.{node_at-leaf, parent_there}
use Rattle.art_writing.specs.declared.delete.DeletePoint.{DeletePoint}
use Rattle.art_writing.specs.declared.delete.DeleteResult.{DeleteResult}
use Rattle.art_writing.specs.Deleted.{IsDeletePointIn, IsRootAfter, LeadsTo, ParentChange, TouchesFor, parent_change, placed_by, placed_for_deletion, no_parent, keeps, shrinks, is_compressed}
use Rattle.art_writing.specs.Inserted.{unlinked_leaf}
use Rattle.art_writing.specs.TakenOut.{IsLeafTaken, IsTakenOut}
use Rattle.art_reading.specs.PathSteps.{last_step}
use Rattle.art_reading.proofs.PartNodes.{some_there}
use Rattle.art_writing.proofs.Reserved.{nothing_after, taken_unasked}
use Rattle.art_writing.proofs.Ways.{last_step-path_of}

-- the same value is stored
pub some_same : {X : Type 0} {x y : X} → ◌≡◌ {A = Option X} (Some x) (Some y) → x ≡ y
some_same e = cc

module _ {K V : Type 0} {bytes : K × V → List ℕ} {P : ℕ} {s : Nodes K V} {root : OpaqueNodePtr} {pairs : List (K × V)}
    {layout : Tree OpaqueNodePtr (K × V)} (by : IsCanonicalTree bytes P s root pairs layout) {x : K × V} {point : DeletePoint}
    (leads : LeadsTo layout x point) where
  whole_holds : Holds (node_at s) (plug leads.path (leaf (leaf_name point.leaf_node_ptr) x))
  whole_holds = subst (Holds (node_at s)) (sym leads.whole) by.stands.0.holds

  -- the point's leaf is in the store, with the pair
  pub leaf_at : (node : LeafNode K V) × (get s.leaves point.leaf_node_ptr ≡ Some node) × (pair_of node ≡ x)
  leaf_at = shown (get s.leaves point.leaf_node_ptr) refl
    where
      seen_as : (o : Option (LeafNode K V)) → get s.leaves point.leaf_node_ptr ≡ o →
          ◌≡◌ {A = Option (Node OpaqueNodePtr (K × V))} (option_map leaf_node (option_map pair_of o)) (Some (leaf_node x))
      seen_as o is =
          ap (λ z. option_map leaf_node (option_map pair_of z)) (sym is) ∙ sym (node_at-leaf s point.leaf_node_ptr) ∙
          (path_holds (node_at s) leads.path (leaf (leaf_name point.leaf_node_ptr) x) whole_holds).1

      shown : (o : Option (LeafNode K V)) → get s.leaves point.leaf_node_ptr ≡ o →
          (node : LeafNode K V) × (get s.leaves point.leaf_node_ptr ≡ Some node) × (pair_of node ≡ x)
      shown None is = let e = seen_as None is in absurd cc
      shown (Some node) is = let e = seen_as (Some node) is in (node, is, cc)

  -- and so is the parent
  pub parent_at : {parent : InnerPtr} {byte : ℕ} → last_step point.path ≡ Some (parent, byte) → IsSome (get s.inners parent)
  parent_at {parent} {byte} step =
      some_there (get s.inners parent) (λ gone.
      above leads.path (path_holds (node_at s) leads.path (leaf (leaf_name point.leaf_node_ptr) x) whole_holds).0
      (sym (last_step-path_of leads.path) ∙ ap last_step (sym leads.path_is) ∙ step) (sym gone))
    where
      above : (fs : List (Frame OpaqueNodePtr (K × V))) → HoldsPath (node_at s) (leaf_name point.leaf_node_ptr) fs →
          parent_of fs ≡ Some (parent, byte) → get s.inners parent ≢ None
      above [] holds e = absurd cc
      above (f ∷ fs) holds e =
          let step_is : ◌≡◌ {A = InnerPtr × ℕ} (as_inner f.mark, f.byte) (parent, byte) = some_same e in
          let same : as_inner f.mark ≡ parent = ap (λ p. p.0) step_is in
          subst (λ p. get s.inners p ≢ None) same (parent_there bytes P s (f ∷ fs) (leaf_name point.leaf_node_ptr) holds f.mark refl).1

-- a root that is left is canonical
some_root : {K V : Type 0} (bytes : K × V → List ℕ) (P : ℕ) (s : Nodes K V) (root : Option OpaqueNodePtr) (pairs : List (K × V)) →
    IsCanonical bytes P s root pairs → IfSome root (IsCanonicalRoot bytes P s)
some_root bytes P s None pairs is = tt
some_root bytes P s (Some root) pairs (layout, by) = (pairs, layout, by)

-- the removed leaf, as it was before writes that change no leaf
pub taken_since : {K V : Type 0} (s : Nodes K V) {w t : Nodes K V} {point : DeletePoint} {root : Option OpaqueNodePtr}
    {done : DeleteResult K V} {node : LeafNode K V} →
    w.leaves ≡ s.leaves → get s.leaves point.leaf_node_ptr ≡ Some node → IsLeafTaken w t point root done →
    (t.leaves ≡ without_leaf s.leaves point.leaf_node_ptr node) × (done.deleted_leaf ≡ unlinked_leaf (pair_of node))
taken_since s {t = t} {point} {done = done} leaves here taken = (
  subst (λ o. IsSomeAnd o (λ leaf. t.leaves ≡ without_leaf s.leaves point.leaf_node_ptr leaf)) here
      (subst (λ m. IsSomeAnd (get m point.leaf_node_ptr) (λ leaf. t.leaves ≡ without_leaf m point.leaf_node_ptr leaf)) leaves taken.leaves),
  subst (λ o. IsSomeAnd o (λ leaf. done.deleted_leaf ≡ unlinked_leaf (pair_of leaf))) here
      (subst (λ m. IsSomeAnd (get m point.leaf_node_ptr) (λ leaf. done.deleted_leaf ≡ unlinked_leaf (pair_of leaf))) leaves taken.leaf),
)

-- The root is canonical for the pairs without the point's pair, which is returned as a leaf with no siblings; the rest stays.
pub record IsDeleted {K V : Type 0} (bytes : K × V → List ℕ) (P : ℕ) (s t : Nodes K V) (root : OpaqueNodePtr) (point : DeletePoint) (x : K × V)
    (pairs : List (K × V)) (layout : Tree OpaqueNodePtr (K × V)) (done : DeleteResult K V) : Type 0 where
  pub tree : Option (Tree OpaqueNodePtr (K × V))
  pub canonical : IsRootOf bytes P t done.new_root (remove_key bytes (bytes x) pairs) tree
  pub deleted : done.deleted_leaf ≡ unlinked_leaf x
  pub root_is : IsRootAfter (parent_change s point.path) point.path root done.new_root
  pub kept : ChangesInPlace bytes s t (Some layout) tree
  pub touches : TouchesFor (parent_change s point.path) s t

module _ {K V : Type 0} (bytes : K × V → List ℕ) (P : ℕ) (t : Nodes K V) where
  canonical_root : (rest : List (K × V)) (new : Option OpaqueNodePtr) (tree : Option (Tree OpaqueNodePtr (K × V))) →
      IsRootOf bytes P t new rest tree → IsCanonical bytes P t new rest
  canonical_root rest None None is = is
  canonical_root rest None (Some tree) is = absurd is
  canonical_root rest (Some name) None is = absurd is
  canonical_root rest (Some name) (Some tree) is = (tree, is)

  one_tree : (rest after : List (K × V)) (name : Option OpaqueNodePtr) (tree new : Option (Tree OpaqueNodePtr (K × V))) →
      IsRootOf bytes P t name rest tree → IsRootOf bytes P t name after new → tree ≡ new
  one_tree rest after None None None one two = refl
  one_tree rest after (Some name) (Some tree) (Some new) one two = ap Some (sym (has_one_map bytes P t name rest after tree new one two).1)
  one_tree rest after None (Some tree) new one two = absurd one
  one_tree rest after None None (Some new) one two = absurd two
  one_tree rest after (Some name) None new one two = absurd one
  one_tree rest after (Some name) (Some tree) None one two = absurd two

module _ {A : Type 0} (bytes : A → List ℕ) where
  -- the pair that a removal returns has the key
  reply_key : (key : List ℕ) (pairs : List A) (x : A) → remove_reply bytes key pairs ≡ Some x → bytes x ≡ key
  reply_key key pairs x e =
      same_equal key (bytes x) (first_has (λ y. are_same key (bytes y) ≡ true) (with_key bytes key pairs) x
      (filter_passes (λ y. are_same key (bytes y)) pairs) e)

  -- the first pair of a map is removed by its key
  first_goes : (pairs : List A) (x : A) → IsMap bytes pairs → first_of pairs ≡ Some x → remove_key bytes (bytes x) pairs ≡ without_first pairs
  first_goes [] x is e = absurd cc
  first_goes (y ∷ ys) x is e = subst (λ z. remove_key bytes (bytes z) (y ∷ ys) ≡ ys) (some_same e) (first_is_removed_by_key bytes y ys is)

module _ {K V : Type 0} {bytes : K × V → List ℕ} {P : ℕ} {s t : Nodes K V} {root : OpaqueNodePtr} {point : DeletePoint} where
  -- so the point was applied
  pub taken_out : {done : DeleteResult K V} (answers : IsDeletePointIn bytes P s root point) →
      IsDeleted bytes P s t root point answers.2 answers.0 answers.1 done →
      t.promise ≡ promise_after (placed_for_deletion s point.path) s.promise → IsTakenOut bytes P s t root point done
  taken_out {done} (pairs, layout, x, by, leads) own promise =
      let left = canonical_root bytes P t (remove_key bytes (bytes x) pairs) done.new_root own.tree own.canonical in
      let (node, here, pair) = leaf_at by leads in
      let named : option_map pair_of (get s.leaves point.leaf_node_ptr) ≡ Some (pair_of done.deleted_leaf) =
      ap (option_map pair_of) here ∙ ap Some (pair ∙ sym (ap pair_of own.deleted)) in
      let rest : (ps : List (K × V)) (l : Tree OpaqueNodePtr (K × V)) → IsCanonicalTree bytes P s root ps l →
      IsCanonical bytes P t done.new_root (remove_key bytes (bytes (pair_of done.deleted_leaf)) ps) =
      λ ps l b. rw own.deleted (rw (has_one_map bytes P s root pairs ps layout l by b).0 left) in
      record {
        canonical = rest;
        pair = named;
        sought = λ ps l b key e. subst (λ k. IsCanonical bytes P t done.new_root (remove_key bytes k ps))
            (reply_key bytes key ps (pair_of done.deleted_leaf) (sym e ∙ named)) (rest ps l b);
        first =
            λ ps l b e. subst (IsCanonical bytes P t done.new_root)
            (first_goes bytes ps (pair_of done.deleted_leaf) b.is_map (sym e ∙ named)) (rest ps l b);
        last = λ ps l b e. subst (IsCanonical bytes P t done.new_root)
            (last_is_removed_by_key bytes (pair_of done.deleted_leaf) ps b.is_map (sym e ∙ named)) (rest ps l b);
        left = some_root bytes P t done.new_root (remove_key bytes (bytes x) pairs) left;
        deleted = subst (λ o. IfSome o (λ leaf. done.deleted_leaf ≡ unlinked_leaf (pair_of leaf))) (sym here) (own.deleted ∙ ap unlinked_leaf (sym pair));
        root_is = own.root_is;
        kept = λ ps l b after new is. subst (λ old. ChangesInPlace bytes s t (Some old) new) (sym (has_one_map bytes P s root pairs ps layout l by b).1)
            (subst (ChangesInPlace bytes s t (Some layout))
            (one_tree bytes P t (remove_key bytes (bytes x) pairs) after done.new_root own.tree new own.canonical is) own.kept);
        apart =
            tree_apart bytes P s t (Some root) done.new_root pairs (remove_key bytes (bytes x) pairs)
            (Some layout) own.tree by own.canonical own.kept.others;
        touches = own.touches;
        promise = promise;
      }

  -- where the parent doesn't shrink nothing is placed
  pub taken_out_of : {done : DeleteResult K V} (answers : IsDeletePointIn bytes P s root point) →
      IsDeleted bytes P s t root point answers.2 answers.0 answers.1 done →
      (to : ParentChange) → parent_change s point.path ≡ to → ((kind : NodeType) → to ≢ shrinks kind) → t.promise ≡ s.promise →
      IsTakenOut bytes P s t root point done
  taken_out_of answers own to told stays promise =
      taken_out answers own (promise ∙ nothing_placed (parent_change s point.path) (λ kind e. stays kind (sym told ∙ e)))
    where
      nothing_placed : (change : ParentChange) → ((kind : NodeType) → change ≢ shrinks kind) → s.promise ≡ promise_after (placed_by change) s.promise
      nothing_placed no_parent stays = sym (nothing_after s.promise)
      nothing_placed keeps stays = sym (nothing_after s.promise)
      nothing_placed is_compressed stays = sym (nothing_after s.promise)
      nothing_placed (shrinks kind) stays = absurd (stays kind refl)

  -- where it shrinks the smaller node is placed, from the promise, or voids it
  pub taken_out_with : {done : DeleteResult K V} (answers : IsDeletePointIn bytes P s root point) →
      IsDeleted bytes P s t root point answers.2 answers.0 answers.1 done →
      (kind : NodeType) → parent_change s point.path ≡ shrinks kind → t.promise ≡ take_inner kind s.promise → IsTakenOut bytes P s t root point done
  taken_out_with answers own kind told promise =
      taken_out answers own (promise ∙ subst (λ change. take_inner kind s.promise ≡ promise_after (placed_by change) s.promise) (sym told)
      (taken_unasked kind s.promise))
