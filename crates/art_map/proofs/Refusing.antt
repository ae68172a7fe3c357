-- The first pair for which a closure returns false: its point, and what is left after its removal.
use Rattle.std.proofs.Common.{◌≡◌, ℕ, Bool, true, false, List, [], Option, Some, None, IfSome, refl, ap, sym, ◌∙◌, subst, option_map}
use Rattle.std.specs.Borrow.{MutBor}
use Rattle.std.specs.FinMap.{get}
use Rattle.std.specs.Fn.{Mut}
use Rattle.std.specs.declared.ops.Bound.TheVariants.{Unbounded}
use Rattle.art_model.specs.Prelude.{CalledOnPair, with_value, with_leaf_value, Nodes, leaf_name, LeafNode, LeafPtr, OpaqueNodePtr, IsCanonicalTree, IsMap, first_of, of_key, remove_key, remove_reply, without_first, is_between, ForTree, pair_of, Tree}
use Rattle.art_nodes.specs.LeafCalls.{CallsOnLeaf}
use Rattle.art_nodes.proofs.StoreChanges.{leaf_changed_at}
use Rattle.art_model.proofs.stores.StoreLaws.{has_one_map}
use Rattle.art_reading.specs.Iterators.{IsIteratorOf}
use Rattle.art_reading.proofs.PairsLeft.{named_pairs}
use Rattle.art_writing.specs.Deleted.{IsDeletePoint, IsDeletePointIn, LeadsTo}
use Rattle.art_writing.specs.declared.delete.DeletePoint.{DeletePoint}
use Rattle.art_writing.proofs.KeysFound.{point_some}
use Rattle.art_changing.specs.PairChanges.{HasTaken}
use Rattle.art_map.specs.MapChanges.{HasChanged}
use Rattle.art_changing.specs.MapPairs.{HoldsPairs, pairs_at}
use Rattle.art_map.specs.MapRetain.{CallsUpTo, FindsRefused, HasTakenRefused, TakesRefused, after_pair, is_after, pairs_after}
use Rattle.art_map.proofs.Changed.{Changing, first_after, held_after, keys_after, others_after, those_after}
use Rattle.art_map.proofs.Retained.{passed, stored_once}
use Rattle.art_changing.proofs.MapPuts.{at_root}
use Rattle.art_changing.proofs.ViewsOfPairs.{holds, map_held, view_of}
use denote.Ref.{Bor}

pub same_some : {A : Type 0} {x y : A} → Some x ≡ Some y → x ≡ y
same_some e = cc

module _ {F K V : Type 0} (g : Mut F (Bor K × (MutBor V × Unit {0})) (Bool × (MutBor V × Unit {0}))) (bytes : K → List ℕ) (P : ℕ)
    (last : Option (K × V)) (f : F) where
  -- whether a key is after the last one
  abbrev test : List ℕ → Bool
  test key = is_between (after_pair (of_key bytes) last) Unbounded key

  -- a call that returned true
  abbrev keeps : F → K × V → F → V → Type 0
  keeps s x next value = CalledOnPair g s x true next value

  -- if there is no pair, none is removed
  pub none_refused : (pairs : List (K × V)) → pairs ≡ [] → TakesRefused g bytes last f pairs None f pairs
  none_refused pairs e = subst (λ xs. TakesRefused g bytes last f xs None f xs) (sym e) (record { keys = refl; others = refl; sorted = tt }, (refl, refl))

  module _ {before : List (K × V)} {root : OpaqueNodePtr} {len : ℕ} {first : List (K × V)} (is : first ≡ pairs_after (of_key bytes) last before) where
    -- f returned true for each pair
    pub all_kept : {left : F} {t : Nodes K V} → HasChanged bytes P keeps f first before left t (Some root) len →
        FindsRefused g bytes P last f before None left t root len
    all_kept {left} {t} changed =
        let (those, others) = changed.those test is in
        (changed.holds, (record { keys = changed.keys; others = others; sorted = map_held (of_key bytes) P t changed.holds }, those))

    module _ {next left : F} {s t : Nodes K V} {walk rest : Option (LeafPtr × LeafPtr)} {p : LeafPtr}
        (now : Changing bytes P keeps (Some root) len f first before next s walk)
        (top : Some (leaf_name p) ≡ first_of now.names) (after : IsIteratorOf s rest (without_first now.names)) where
      -- f returned false for the pair of the next leaf
      pub refused_at : {r : Bool} → CallsOnLeaf g p next s r left t → r ≡ false →
          (x : K × V) × HoldsPairs (of_key bytes) P t (Some root) len (pairs_at t (Some root)) ×
          CallsUpTo g bytes last f before (Some x) left (pairs_at t (Some root)) ×
          (node : LeafNode K V) × (get t.leaves p ≡ Some node) × (pair_of node ≡ x)
      refused_at (node, w, there, called, written) refuses =
          let far = now.so_far test is in
          let u = with_leaf_value s p w in
          let held = held_after bytes P keeps (Some root) len f first before now top after node w there in
          subst (λ z. (x : K × V) × HoldsPairs (of_key bytes) P z (Some root) len (pairs_at z (Some root)) ×
          CallsUpTo g bytes last f before (Some x) left (pairs_at z (Some root)) ×
          (leaf : LeafNode K V) × (get z.leaves p ≡ Some leaf) × (pair_of leaf ≡ x)) (sym written) (
            (node.key, w),
            held,
            (
              record {
                keys = keys_after bytes P keeps (Some root) len f first before now top after node w there;
                others = others_after bytes P keeps (Some root) len f first before now top after node w there test far;
                sorted = map_held (of_key bytes) P u held;
              },
              record {
                seen = far.seen;
                done = far.done;
                rest = named_pairs u (without_first now.names);
                value = node.value;
                next = next;
                before_is = sym is ∙ first_after bytes P keeps (Some root) len f first before now top after node w there test far;
                after_is = those_after bytes P keeps (Some root) len f first before now top after node w there test far;
                kept = far.changed;
                refused = subst (λ b. CalledOnPair g next (node.key, node.value) b left w) refuses called;
              },
            ),
            with_value w node,
            leaf_changed_at s.leaves p (with_value w) ∙ ap (option_map (with_value w)) there,
            refl,
          )

  module _ {before : List (K × V)} {t : Nodes K V} {root : OpaqueNodePtr} {len : ℕ} {left : F} {x : K × V}
      (held : HoldsPairs (of_key bytes) P t (Some root) len (pairs_at t (Some root)))
      (up_to : CallsUpTo g bytes last f before (Some x) left (pairs_at t (Some root))) where
    -- the removal of its key returns it
    replied : (all : List (K × V)) → all ≡ pairs_at t (Some root) → remove_reply (of_key bytes) (bytes x.0) all ≡ Some x
    replied all same =
        let stops = up_to.1 in
        let (l, r, is) = passed (is_after (of_key bytes) last) (pairs_at t (Some root)) stops.done stops.rest x stops.after_is in
        ap (remove_reply (of_key bytes) (bytes x.0)) (same ∙ is) ∙ stored_once (of_key bytes) l r x (subst (IsMap (of_key bytes)) is up_to.0.sorted)

    -- so its point is found
    pub finds : (result : Option DeletePoint) →
        ForTree (of_key bytes) P t root (λ all tree. IsDeletePoint tree (remove_reply (of_key bytes) (bytes x.0) all) result) →
        IfSome result (IsDeletePointIn (of_key bytes) P t root) → FindsRefused g bytes P last f before result left t root len
    finds None point applies =
        let has = at_root (of_key bytes) P held in
        absurd (subst (λ reply. IsDeletePoint has.layout reply None) (replied (pairs_at t (Some root)) refl) (point _ has.layout has.by))
    finds (Some p) point applies = (x, held, up_to, λ all tree is. leads all tree is, applies)
      where
        leads : (all : List (K × V)) (tree : Tree OpaqueNodePtr (K × V)) → IsCanonicalTree (of_key bytes) P t root all tree → LeadsTo tree x p
        leads all tree is =
            let has = at_root (of_key bytes) P held in
            let same = has_one_map (of_key bytes) P t root (pairs_at t (Some root)) all has.layout tree has.by is in
            let (y, e, way) = point_some tree p (remove_reply (of_key bytes) (bytes x.0) all) (point all tree is) in
            subst (λ z. LeadsTo tree z p) (same_some (sym e ∙ replied all same.0)) way

  module _ (before : List (K × V)) (left : F) (t : Nodes K V) (root : Option OpaqueNodePtr) (len : ℕ) where
    -- the pair was removed
    pub refused_taken : {x : K × V} {changed : List (K × V)} → CallsUpTo g bytes last f before (Some x) left changed → (y : K × V) →
        HasTaken bytes P (Some x) (remove_key (of_key bytes) (bytes x.0) changed) (Some y) t root len →
        HasTakenRefused g bytes P last f before (Some y) left t root len
    refused_taken {x} {changed} up_to y h =
        subst (λ z. HasTakenRefused g bytes P last f before (Some z) left t root len) (sym (same_some h.1))
        (remove_key (of_key bytes) (bytes x.0) changed, h.0, (changed, up_to, refl))

    module _ (result : Option (K × V)) (h : HasTakenRefused g bytes P last f before result left t root len) where
      pub refused_holds : HoldsPairs (of_key bytes) P t root len (pairs_at t root)
      refused_holds = holds (of_key bytes) P t h.1

      -- in terms of the pairs read off the store
      pub refused_told : {pairs : List (K × V)} → before ≡ pairs → TakesRefused g bytes last f pairs result left (pairs_at t root)
      refused_told same =
          subst (λ after. TakesRefused g bytes last f _ result left after) (sym (view_of (of_key bytes) P t h.1))
          (subst (λ xs. TakesRefused g bytes last f xs result left h.0) same h.2)
