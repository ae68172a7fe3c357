-- What applied points place is what their commands need.
use Rattle.std.proofs.Common.{◌≡◌, ◌≢◌, ℕ, suc, ◌+◌, ◌<◌, ◌≤◌, List, [], ◌∷◌, ◌++◌, length, drop, take, cond, ltb, leb, get_or, slice_get, is_some}
use Rattle.std.proofs.Common.{Bool, true, false, refl, ap, ap₂, sym, ◌∙◌, subst, arith, append_assoc, length-append, Option, Some, None}
use Rattle.std.proofs.Common.{inl, inr}
use Rattle.art_parts.proofs.NameLemmas.{same_kind}
use Rattle.art_model.specs.Prelude.{kind_index, kind_capacity, kind_least, larger_kind, smaller_kind, Inner, child_at, leaf_name, inner_name, Nodes, Promise, InnerPtr, NodeType, Node4, Node16, Node48, Node256, Leaf, OpaqueNodePtr, IsCanonicalTree, IsFront, are_related, are_same, name_of, slots_of, Holds, of_key, first_of, has_key, with_key, put, remove_key, replace_key, Frame, plug, IsPath, least_key, prefix_of, IsRadix, AreRadix, BytesRise, join, bytes_of, pairs_of, pairs_below, node_at, Tree, leaf, inner, Subtrees, child, no_child, NodeHeader, canonical_header, kind_of, as_inner}
use Rattle.art_parts.specs.Kinds.{next_larger}
use Rattle.std.proofs.lemmas.Bool.{cases_Bool, leb-true, leb-false, ne_eqb}
use Rattle.std.proofs.lemmas.Option.{slice_get_within}
use Rattle.std.proofs.Math.Seq.{get_or-append_seam}
use Rattle.std.specs.FinMap.{get}
use Rattle.art_model.proofs.changes.AddedChild.{IsSplit, kind_of-larger, split_at}
use Rattle.art_model.proofs.pairs.Between.{remove_key-between, replace_key-between}
use Rattle.art_model.proofs.stores.Canonical.{tree_radix}
use Rattle.art_model.proofs.changes.Changes.{two_children, branch, trimmed, with_child, exact, alone, raised, merged, child_removed, child_left}
use Rattle.art_model.proofs.keys.Fronts.{ArePart, part_where, related_after, unrelated_part}
use Rattle.art_model.proofs.places.InHole.{with_key-hole}
use Rattle.art_model.proofs.keys.Keys.{front_same, related_sym}
use Rattle.art_model.proofs.lists.Lists.{after_front, front_cut}
use Rattle.art_model.proofs.pairs.MapLaws.{replacement_counts}
use Rattle.art_model.proofs.changes.OutOf.{kind_of-smaller}
use Rattle.art_model.proofs.places.Paths.{IsHole, radix_plug, changed_at, pairs_of-plug}
use Rattle.art_model.proofs.places.PlaceLaws.{depth_is}
use Rattle.art_model.proofs.places.Places.{place_is, prefix_is}
use Rattle.art_model.proofs.pairs.Puts.{any_is_first, put-new, put-old}
use Rattle.art_model.proofs.radix.Radix.{only_child, pairs_below-join, bytes_of-join, AreRadix-right}
use Rattle.art_model.proofs.stores.Slots.{IsInRange, range_of_kind, kind_of-range, kind_of-room, kind_of-full, kind_of-spare, kind_of-least, length-slots_of}
use Rattle.art_model.proofs.stores.Stores.{path_holds}
use Rattle.art_model.proofs.stores.Writes.{inner_at}
use Rattle.art_running.specs.Answers.{Answers}
use Rattle.art_writing.specs.Inserted.{placed_for, is_full}
use Rattle.art_writing.specs.Deleted.{LeadsTo, ParentChange, no_parent, keeps, shrinks, change_of, parent_change, placed_by, placed_for_deletion}
use Rattle.art_reading.specs.Matching.{shared_len}
use Rattle.art_running.specs.Needs.{needs, count_of, inner_count_below, more_of, inner_count}
use Rattle.art_reading.specs.EndNodes.{IsKindOf}
use Rattle.art_writing.specs.Points.{AnswersTo}
use Rattle.art_reading.specs.PathSteps.{path_of}
use Rattle.art_writing.specs.declared.delete.DeletePoint.{DeletePoint}
use Rattle.art_reading.specs.declared.end_node.InsertKind.{InsertKind}
use Rattle.art_reading.specs.declared.end_node.InsertKind.TheVariants.{MismatchPrefix, SplitLeaf, Exact, IntoExisting}
use Rattle.art_writing.specs.declared.insert.InsertPoint.{InsertPoint}
use Rattle.art_running.specs.declared.run.Command.{Command}
use Rattle.art_running.specs.declared.run.Command.TheVariants.{Insert, InsertPrefix, Delete, DeleteMin, DeleteMax, Contains, LongestMatch, Clone}
use Rattle.art_running.specs.declared.run.Reply.TheVariants.{Deleted}
use Rattle.art_running.proofs.KindCounts.{one, count-join, more_in_hole, fewer_in_hole, gains, loses}
use Rattle.art_writing.proofs.Ways.{last_step-path_of}

-- ---- a key that is new, or not

module _ {A : Type 0} (bytes : A → List ℕ) (new : A) (pairs : List A) where
  key_by_length : (n : ℕ) → length (replace_key bytes new pairs) ≡ length pairs + n → cond (has_key bytes (bytes new) pairs) 0 1 ≡ n
  key_by_length n e = go (with_key bytes (bytes new) pairs) refl (let c = replacement_counts bytes new pairs in omega arith)
    where
      go : (found : List A) → with_key bytes (bytes new) pairs ≡ found → n + length (with_key bytes (bytes new) pairs) ≡ 1 →
          cond (has_key bytes (bytes new) pairs) 0 1 ≡ n
      go [] is c =
          let one_is : 1 ≡ n = let l = ap length is in omega arith in
          ap (λ b. cond b 0 1) (any_is_first (λ x. are_same (bytes new) (bytes x)) pairs ∙ ap (λ xs. is_some (first_of xs)) is) ∙ one_is
      go (x ∷ xs) is c =
          let none_is : 0 ≡ n = let l = ap length is in omega arith in
          ap (λ b. cond b 0 1) (any_is_first (λ y. are_same (bytes new) (bytes y)) pairs ∙ ap (λ ys. is_some (first_of ys)) is) ∙ none_is

  -- where the list becomes longer by one, no pair had the key
  none_by_length : length (replace_key bytes new pairs) ≡ length pairs + 1 → first_of (with_key bytes (bytes new) pairs) ≡ None
  none_by_length e = go (with_key bytes (bytes new) pairs) (let c = replacement_counts bytes new pairs in omega arith)
    where
      go : (found : List A) → length found ≡ 0 → first_of found ≡ None
      go [] h = refl
      go (x ∷ xs) h = absurd (omega arith)

-- ---- insertion

module _ {K V : Type 0} (bytes : K → List ℕ) (P : ℕ) (k : K) (v : V) {fs : List (Frame OpaqueNodePtr (K × V))} {place : List ℕ}
    {t : Tree OpaqueNodePtr (K × V)} (hole : IsHole (of_key bytes) P fs place t (bytes k)) (was : IsRadix (of_key bytes) P [] (plug fs t)) where
  -- what is needed for another tree in the hole, where this pair is what is stored for the new one
  module _ (x : K × V) (alike : bytes x.0 ≡ bytes k) (u : Tree OpaqueNodePtr (K × V)) (radix : IsRadix (of_key bytes) P place u)
      (its : pairs_of u ≡ replace_key (of_key bytes) x (pairs_of t)) where
    all_replaced : IsRadix (of_key bytes) P [] (plug fs u) × (pairs_of (plug fs u) ≡ replace_key (of_key bytes) x (pairs_of (plug fs t)))
    all_replaced =
        changed_at (of_key bytes) P fs place hole.path t u radix (bytes x.0) (replace_key (of_key bytes) x)
        (replace_key-between (of_key bytes) x) (subst (IsFront place) (sym alike) hole.front) its

    longer_whole : (n : ℕ) → length (pairs_of u) ≡ length (pairs_of t) + n →
        length (replace_key (of_key bytes) x (pairs_of (plug fs t))) ≡ length (pairs_of (plug fs t)) + n
    longer_whole n e =
        let a = ap length (pairs_of-plug fs u) in
        let b = ap length (pairs_of-plug fs t) in
        let longer : length (pairs_of (plug fs u)) ≡ length (pairs_of (plug fs t)) + n = omega (arith, simp length-append at a, simp length-append at b) in
        ap length (sym all_replaced.1) ∙ longer

    -- a further pair is a new one
    comes_new : length (pairs_of u) ≡ length (pairs_of t) + 1 → first_of (with_key (of_key bytes) (bytes x.0) (pairs_of (plug fs t))) ≡ None
    comes_new e = none_by_length (of_key bytes) x (pairs_of (plug fs t)) (longer_whole 1 e)

    module _ (is : put (of_key bytes) (k, v) (pairs_of (plug fs t)) ≡ replace_key (of_key bytes) x (pairs_of (plug fs t))) where
      all : IsRadix (of_key bytes) P [] (plug fs u) × (pairs_of (plug fs u) ≡ put (of_key bytes) (k, v) (pairs_of (plug fs t)))
      all = (all_replaced.0, all_replaced.1 ∙ sym is)

      leaves_needed : (n : ℕ) → length (pairs_of u) ≡ length (pairs_of t) + n → n ≡ (needs bytes P (Insert k v) (pairs_of (plug fs t))).leaves
      leaves_needed n e = sym (ap (λ z. cond (has_key (of_key bytes) z (pairs_of (plug fs t))) 0 1) (sym alike)
          ∙ key_by_length (of_key bytes) x (pairs_of (plug fs t)) n (longer_whole n e))

      needs_some : (n : ℕ) (a : NodeType) (goes : NodeType → ℕ) → length (pairs_of u) ≡ length (pairs_of t) + n → a ≢ Leaf → goes a ≡ 0 →
          ((kind : NodeType) → count_of kind u + goes kind ≡ count_of kind t + one kind a) →
          ◌≡◌ {A = Promise} (record { leaves = n; inner = Some a }) (needs bytes P (Insert k v) (pairs_of (plug fs t)))
      needs_some n a goes longer proper off h = ap₂ (λ x y. record { leaves = x; inner = y }) (leaves_needed n longer)
          (sym (ap (λ ps. more_of (inner_count bytes P (pairs_of (plug fs t))) (inner_count bytes P ps)) (sym all.1)
          ∙ gains bytes P (plug fs t) (plug fs u) was all.0 a goes proper off (λ kind. more_in_hole fs t u kind (goes kind) (one kind a) (h kind))))

      needs_none : (n : ℕ) → length (pairs_of u) ≡ length (pairs_of t) + n →
          ((kind : NodeType) → count_of kind u ≤ count_of kind t) →
          ◌≡◌ {A = Promise} (record { leaves = n; inner = None }) (needs bytes P (Insert k v) (pairs_of (plug fs t)))
      needs_none n longer h = ap₂ (λ x y. record { leaves = x; inner = y }) (leaves_needed n longer)
          (sym (ap (λ ps. more_of (inner_count bytes P (pairs_of (plug fs t))) (inner_count bytes P ps)) (sym all.1) ∙
          loses bytes P (plug fs t) (plug fs u) was all.0 (λ kind. fewer_in_hole fs t u kind (h kind))))

  -- the same where the pair is the new one and is added to the others
  module _ (u : Tree OpaqueNodePtr (K × V)) (radix : IsRadix (of_key bytes) P place u)
      (its : pairs_of u ≡ replace_key (of_key bytes) (k, v) (pairs_of t)) (longer : length (pairs_of u) ≡ length (pairs_of t) + 1) where
    is_new : put (of_key bytes) (k, v) (pairs_of (plug fs t)) ≡ replace_key (of_key bytes) (k, v) (pairs_of (plug fs t))
    is_new = put-new (of_key bytes) (k, v) (pairs_of (plug fs t)) (comes_new (k, v) refl u radix its longer)

    new_needs_some : (a : NodeType) (goes : NodeType → ℕ) → a ≢ Leaf → goes a ≡ 0 →
        ((kind : NodeType) → count_of kind u + goes kind ≡ count_of kind t + one kind a) →
        ◌≡◌ {A = Promise} (record { leaves = 1; inner = Some a }) (needs bytes P (Insert k v) (pairs_of (plug fs t)))
    new_needs_some a goes proper off h = needs_some (k, v) refl u radix its is_new 1 a goes longer proper off h

    new_needs_none : ((kind : NodeType) → count_of kind u ≤ count_of kind t) →
        ◌≡◌ {A = Promise} (record { leaves = 1; inner = None }) (needs bytes P (Insert k v) (pairs_of (plug fs t)))
    new_needs_none h = needs_none (k, v) refl u radix its is_new 1 longer h

-- no number of children has the kind of a leaf
kind_of-proper : (n : ℕ) → kind_of n ≢ Leaf
kind_of-proper n e = subst (λ k. IsInRange k n) e (range_of_kind n)

-- other kinds are counted apart
one_off : (a b : NodeType) → a ≢ b → one a b ≡ 0
one_off a b off = ap (λ t. cond t 1 0) (ne_eqb (kind_index a) (kind_index b) (λ e. off (same_kind a b e)))

module _ {K V : Type 0} (bytes : K → List ℕ) (P : ℕ) (k : K) (v : V) {fs : List (Frame OpaqueNodePtr (K × V))} {place : List ℕ}
    {t : Tree OpaqueNodePtr (K × V)} (hole : IsHole (of_key bytes) P fs place t (bytes k)) (was : IsRadix (of_key bytes) P [] (plug fs t)) where
  abbrev Branch : Promise
  Branch = record { leaves = 1; inner = Some Node4 }

  -- a branch over the tree and a new leaf, which differ after the place
  branch_needs : (u : Tree OpaqueNodePtr (K × V)) (old : List ℕ) (part : ArePart old hole.front.0) →
      IsRadix (of_key bytes) P ((place ++ part.front) ++ part.x ∷ []) u → pairs_of u ≡ pairs_of t →
      ((kind : NodeType) → count_of kind u ≡ count_of kind t) → Branch ≡ needs bytes P (Insert k v) (pairs_of (plug fs t))
  branch_needs u old part below same counts =
      let new_front : IsFront ((place ++ part.front) ++ part.y ∷ []) (bytes k) = (part.s, hole.front.1 ∙ ap (λ z. place ++ z) part.b_is ∙ simp append_assoc) in
      let (radix, its) = branch (of_key bytes) P place part.front part.x part.y u (name_of u) (name_of u) (k, v) below new_front part.differ in
      new_needs_some bytes P k v hole was (inner (name_of u) (canonical_header P part.front 2) (two_children part.x u part.y (leaf (name_of u) (k, v))))
      radix (its ∙ ap (replace_key (of_key bytes) (k, v)) same)
      (longer (ltb part.x part.y) ∙ ap (λ z. length z + 1) same) Node4 (λ kind. 0) (λ e. absurd cc) refl (λ kind. more kind (ltb part.x part.y) (counts kind))
    where
      longer : (first : Bool) → length (pairs_below
          (cond first (child part.x u (child part.y (leaf (name_of u) (k, v)) no_child))
          (child part.y (leaf (name_of u) (k, v)) (child part.x u no_child)))) ≡ length (pairs_of u) + 1
      longer true = length-append (pairs_of u) ((k, v) ∷ [])
      longer false = let e = length-append (pairs_of u) [] in omega arith

      more : (kind : NodeType) (first : Bool) → count_of kind u ≡ count_of kind t →
          one kind Node4 + inner_count_below kind (cond first (child part.x u (child part.y (leaf (name_of u) (k, v)) no_child))
          (child part.y (leaf (name_of u) (k, v)) (child part.x u no_child))) + 0 ≡ count_of kind t + one kind Node4
      more kind true e = omega arith
      more kind false e = omega arith

  -- a leaf in place of one with its key
  same_needs : (pair : K × V) → t ≡ leaf (name_of t) pair → bytes pair.0 ≡ bytes k →
      ◌≡◌ {A = Promise} (record { leaves = 0; inner = None }) (needs bytes P (Insert k v) (pairs_of (plug fs t)))
  same_needs pair is same =
      let equal : are_same (bytes k) (bytes pair.0) ≡ true = ap (are_same (bytes k)) same ∙ front_same (bytes k) in
      let stored : first_of (with_key (of_key bytes) (bytes k) (pairs_of (plug fs t))) ≡ Some pair =
      ap first_of (with_key-hole (of_key bytes) P fs place (bytes k) t hole.path hole.front)
      ∙ ap (λ z. first_of (with_key (of_key bytes) (bytes k) (pairs_of z))) is ∙ rw equal refl in
      let here : replace_key (of_key bytes) (pair.0, v) (pairs_of t) ≡ (pair.0, v) ∷ [] =
      ap (λ z. replace_key (of_key bytes) (pair.0, v) (pairs_of z)) is ∙ exact (of_key bytes) (pair.0, v) pair refl in
      needs_none bytes P k v hole was (pair.0, v) same (leaf (name_of t) (pair.0, v)) (subst (IsFront place) (sym same) hole.front) (sym here)
      (put-old (of_key bytes) (k, v) (pairs_of (plug fs t)) pair stored) 0
      (let e : length (pairs_of t) ≡ 1 = ap (λ z. length (pairs_of z)) is in omega arith) (λ kind. let none : 0 ≤ count_of kind t = omega arith in none)

  -- a leaf whose key is not related is split
  leaf_needs : (pair : K × V) → t ≡ leaf (name_of t) pair → are_related (bytes k) (bytes pair.0) ≡ false →
      Branch ≡ needs bytes P (Insert k v) (pairs_of (plug fs t))
  leaf_needs pair is off =
      let (old, below) : IsFront place (bytes pair.0) = subst (IsRadix (of_key bytes) P place) is hole.radix in
      let apart : are_related (place ++ old) (place ++ hole.front.0) ≡ false =
      sym (ap₂ are_related below hole.front.1) ∙ related_sym (bytes pair.0) (bytes k) ∙ off in
      let part = unrelated_part old hole.front.0 (sym (related_after place old hole.front.0) ∙ apart) in
      branch_needs t old part (subst (IsRadix (of_key bytes) P ((place ++ part.front) ++ part.x ∷ [])) (sym is)
      (part.r, below ∙ ap (λ z. place ++ z) part.a_is ∙ simp append_assoc)) refl (λ kind. refl)

  module _ (header : NodeHeader) (cs : Subtrees OpaqueNodePtr (K × V)) (is : t ≡ inner (name_of t) header cs) where
    radix_here : IsRadix (of_key bytes) P place (inner (name_of t) header cs)
    radix_here = subst (IsRadix (of_key bytes) P place) is hole.radix

    prefix_here : prefix_of (of_key bytes) (length place) t ≡ radix_here.0
    prefix_here = ap (prefix_of (of_key bytes) (length place)) is ∙ prefix_is (of_key bytes) P (name_of t) header cs place radix_here

    rest_here : drop (length place) (bytes k) ≡ hole.front.0
    rest_here = after_front place (bytes k) hole.front.0 hole.front.1

    -- a prefix from which the key differs is split
    prefix_needs : (m : ℕ) (byte : ℕ) → m ≡ shared_len (prefix_of (of_key bytes) (length place) t) (drop (length place) (bytes k)) →
        slice_get (prefix_of (of_key bytes) (length place) t) m ≡ Some byte → length place + m < length (bytes k) →
        Branch ≡ needs bytes P (Insert k v) (pairs_of (plug fs t))
    prefix_needs m byte shared at short =
        let same : m ≡ shared_len radix_here.0 hole.front.0 = shared ∙ ap₂ shared_len prefix_here rest_here in
        let inside : m < length radix_here.0 = subst (λ z. m < length z) prefix_here (slice_get_within (prefix_of (of_key bytes) (length place) t) m byte at) in
        let long = ap length hole.front.1 in
        let part = part_where radix_here.0 hole.front.0 (omega arith) (omega (arith, simp length-append at long)) in
        let count = length (bytes_of cs) in
        branch_needs (inner (name_of t) (canonical_header P part.r count) cs) radix_here.0 part
        (trimmed (of_key bytes) P place part.front part.r part.x (name_of t) header cs radix_here.2 radix_here.3
        (subst (λ z. AreRadix (of_key bytes) P (place ++ z) cs) part.a_is radix_here.4))
        (ap pairs_of (sym is)) (λ kind. ap (λ h. one kind h + inner_count_below kind cs) (sym (ap (λ h. h.kind) radix_here.1)) ∙ ap (count_of kind) (sym is))

    -- a node gets the leaf as its child under a byte that has none
    module _ (b : ℕ) (none : child_at (slots_of cs) b ≡ None) (front : IsFront ((place ++ radix_here.0) ++ b ∷ []) (bytes k)) where
      split : IsSplit cs b
      split = split_at cs b radix_here.3 none

      abbrev count : ℕ
      count = length (bytes_of (join split.left split.right))

      grown : Tree OpaqueNodePtr (K × V)
      grown = inner (name_of t) (canonical_header P radix_here.0 (suc count)) (join split.left (child b (leaf (name_of t) (k, v)) split.right))

      grown_is : IsRadix (of_key bytes) P place grown × (pairs_of grown ≡ replace_key (of_key bytes) (k, v) (pairs_below (join split.left split.right)))
      unfolding grown
      grown_is =
          with_child (of_key bytes) P place radix_here.0 split.left split.right b (name_of t) (name_of t) (k, v)
          (subst (λ z. BytesRise (bytes_of z)) split.whole radix_here.3) split.low split.high
          (let two = subst (λ z. 2 ≤ length (bytes_of z)) split.whole radix_here.2 in omega arith)
          (subst (AreRadix (of_key bytes) P (place ++ radix_here.0)) split.whole radix_here.4) front

      grown_pairs : pairs_of grown ≡ replace_key (of_key bytes) (k, v) (pairs_of t)
      grown_pairs = grown_is.1 ∙ ap (replace_key (of_key bytes) (k, v)) (ap pairs_below (sym split.whole) ∙ ap pairs_of (sym is))

      longer : length (pairs_of grown) ≡ length (pairs_of t) + 1
      unfolding grown
      longer =
          let a = ap length (pairs_below-join split.left (child b (leaf (name_of t) (k, v)) split.right)) in
          let c = ap length (pairs_below-join split.left split.right) in
          let d : length (pairs_of t) ≡ length (pairs_below (join split.left split.right)) =
          ap (λ z. length (pairs_of z)) is ∙ ap (λ z. length (pairs_below z)) split.whole in
          omega (arith, simp length-append at a, simp length-append at c)

      kind_was : header.kind ≡ kind_of count
      kind_was = ap (λ h. h.kind) radix_here.1 ∙ ap (λ z. kind_of (length (bytes_of z))) split.whole

      more : (kind : NodeType) → count_of kind grown + one kind (kind_of count) ≡ count_of kind t + one kind (kind_of (suc count))
      unfolding grown
      more kind =
          let a = count-join kind split.left (child b (leaf (name_of t) (k, v)) split.right) in
          let c = count-join kind split.left split.right in
          let d : count_of kind t ≡ one kind (kind_of count) + inner_count_below kind (join split.left split.right) =
          ap (count_of kind) is ∙ ap₂ (λ h z. one kind h + inner_count_below kind z) kind_was split.whole in
          omega arith

      child_needs : (s : Nodes K V) (p : InnerPtr) → name_of t ≡ inner_name p → Holds (node_at s) t →
          placed_for s (IntoExisting p) ≡ needs bytes P (Insert k v) (pairs_of (plug fs t))
      child_needs s p named holds =
          let (off, node, got, head, kids) = inner_at s (name_of t) header (slots_of cs) (subst (Holds (node_at s)) is holds).0 in
          let here : get s.inners p ≡ Some node = subst (λ z. get s.inners (as_inner z) ≡ Some node) named got in
          let number : length node.children ≡ count = ap length kids ∙ length-slots_of cs ∙ ap (λ z. length (bytes_of z)) split.whole in
          let own : p.kind ≡ kind_of count = ap (λ (z : OpaqueNodePtr). z.kind) (sym named) ∙ ap (λ h. h.kind) head ∙ kind_was in
          let full_is : is_full s p ≡ leb (kind_capacity p.kind) count =
          subst (λ (o : Option Inner). elim o as (λ _. Bool) [ None ↦ false | Some n ↦ leb (kind_capacity p.kind) (length n.children) ] ≡ leb
          (kind_capacity p.kind) count) (sym here) (ap (leb (kind_capacity p.kind)) number) in
          ap (λ (f : Bool). let z : Promise = record { leaves = 1; inner = cond f (next_larger p.kind) None } in z) full_is
          ∙ go p.kind own (leb (kind_capacity p.kind) count) refl
        where
          stays : (kind : NodeType) → kind ≡ kind_of count → kind ≡ kind_of (suc count) →
              ◌≡◌ {A = Promise} (record { leaves = 1; inner = None }) (needs bytes P (Insert k v) (pairs_of (plug fs t)))
          stays kind own after =
              new_needs_none bytes P k v hole was grown grown_is.0 grown_pairs longer
              (λ z. let m = more z in let o : one z (kind_of count) ≡ one z (kind_of (suc count)) = ap (one z) (sym own ∙ after) in omega arith)

          grows : (kind : NodeType) → kind ≡ kind_of count → kind ≢ Node256 → kind_capacity kind ≤ count →
              ◌≡◌ {A = Promise} (record { leaves = 1; inner = Some (larger_kind kind) }) (needs bytes P (Insert k v) (pairs_of (plug fs t)))
          grows kind own not_last full =
              ap (λ (z : NodeType). let y : Promise = record { leaves = 1; inner = Some z } in y) (kind_of-larger kind count own not_last full)
              ∙ new_needs_some bytes P k v hole was grown grown_is.0 grown_pairs longer (kind_of (suc count)) (λ z. one z (kind_of count))
              (kind_of-proper (suc count)) (one_off (kind_of (suc count)) (kind_of count) (λ same. kind_of-full kind count not_last full (own ∙ sym same))) more

          go : (kind : NodeType) → kind ≡ kind_of count → (full : Bool) → leb (kind_capacity kind) count ≡ full →
              ◌≡◌ {A = Promise} (record { leaves = 1; inner = cond full (next_larger kind) None }) (needs bytes P (Insert k v) (pairs_of (plug fs t)))
          go Node4 own true e = grows Node4 own (λ last. absurd cc) (leb-true 4 count e)
          go Node16 own true e = grows Node16 own (λ last. absurd cc) (leb-true 16 count e)
          go Node48 own true e = grows Node48 own (λ last. absurd cc) (leb-true 48 count e)
          go Node256 own true e = let full = leb-true 256 count e in stays Node256 own (sym (kind_of-range Node256 (suc count) (omega arith)))
          go Leaf own true e = absurd (kind_of-proper count (sym own))
          go kind own false e = stays kind own (kind_of-room kind count own (leb-false (kind_capacity kind) count e))

    -- the byte after the prefix
    into_needs : (used : ℕ) → IsFront (prefix_of (of_key bytes) (length place) t) (drop (length place) (bytes k)) →
        used ≡ length place + length (prefix_of (of_key bytes) (length place) t) → used < length (bytes k) →
        child_at (slots_of cs) (get_or (bytes k) used 0) ≡ None →
        (s : Nodes K V) (p : InnerPtr) → name_of t ≡ inner_name p → Holds (node_at s) t →
        placed_for s (IntoExisting p) ≡ needs bytes P (Insert k v) (pairs_of (plug fs t))
    into_needs used (q, e) is_used short none =
        go q (hole.front.1 ∙ ap (λ z. place ++ z) (sym rest_here ∙ e ∙ ap (λ z. z ++ q) prefix_here) ∙ sym (append_assoc place radix_here.0 q))
        (is_used ∙ ap (λ z. length place + length z) prefix_here)
      where
        go : (r : List ℕ) → bytes k ≡ (place ++ radix_here.0) ++ r → used ≡ length place + length radix_here.0 → (s : Nodes K V) (p : InnerPtr) →
            name_of t ≡ inner_name p → Holds (node_at s) t → placed_for s (IntoExisting p) ≡ needs bytes P (Insert k v) (pairs_of (plug fs t))
        go [] whole at = absurd (let l = ap length whole in omega (arith, simp length-append at l))
        go (b ∷ r) whole at =
            let byte : get_or (bytes k) used 0 ≡ b =
            ap₂ (λ z n. get_or z n 0) whole (at ∙ sym (length-append place radix_here.0))
            ∙ get_or-append_seam (place ++ radix_here.0) b r 0 in
            child_needs b (subst (λ z. child_at (slots_of cs) z ≡ None) byte none) (r, whole ∙ sym (append_assoc (place ++ radix_here.0) (b ∷ []) r))

  -- at the end node of the key
  kind_needs : (s : Nodes K V) (used : ℕ) (kind : InsertKind) → Holds (node_at s) t →
      IsKindOf (of_key bytes) P (bytes k) t (length place) used kind → placed_for s kind ≡ needs bytes P (Insert k v) (pairs_of (plug fs t))
  kind_needs s used (Exact p) holds (at, (pair, is, same)) = same_needs pair (is ∙ ap (λ n. leaf n pair) (sym (ap name_of is))) same
  kind_needs s used (SplitLeaf p new) holds (at, (pair, is, (off, shared))) = leaf_needs pair (is ∙ ap (λ n. leaf n pair) (sym (ap name_of is))) off
  kind_needs s used (MismatchPrefix m p) holds (at, (header, cs, is, (parts, short))) =
      prefix_needs header cs (is ∙ ap (λ n. inner n header cs) (sym (ap name_of is))) m.matched_bytes m.prefix_byte parts.matched parts.byte short
  kind_needs s used (IntoExisting p) holds ((front, at, short), (header, cs, is, none)) =
      into_needs header cs (is ∙ ap (λ n. inner n header cs) (sym (ap name_of is))) used front at short none s p (ap name_of is) holds

-- ---- deletion

-- what becomes of the parent determines which inner node is placed
change_places : (kind : NodeType) (n : ℕ) (more : Option NodeType) → kind ≡ kind_of (suc n) → 1 ≤ n → (n ≡ 1 → None ≡ more) →
    (2 ≤ n → kind_of n ≡ kind_of (suc n) → None ≡ more) → (2 ≤ n → kind_of n ≢ kind_of (suc n) → Some (kind_of n) ≡ more) →
    placed_by (change_of kind (suc n)) ≡ record { leaves = 0; inner = more }
change_places kind n more own some compress keep shrink = go kind own
  where
    told : {x : Option NodeType} → x ≡ more → ◌≡◌ {A = Promise} (record { leaves = 0; inner = x }) (record { leaves = 0; inner = more })
    told e = ap (λ (z : Option NodeType). let y : Promise = record { leaves = 0; inner = z } in y) e

    other : (z : NodeType) → z ≢ Node4 → z ≡ kind_of (suc n) → 2 ≤ n →
        placed_by (cond (leb (suc n) (kind_least z)) (shrinks (smaller_kind z)) keeps) ≡ record { leaves = 0; inner = more }
    other z off is two = elim (cases_Bool (leb (suc n) (kind_least z))) [
      | inl e ↦ rw e (told (ap Some (kind_of-smaller z n off is (let l = leb-true (suc n) (kind_least z) e in omega arith)) ∙
          shrink two (λ same. let l = leb-true (suc n) (kind_least z) e in kind_of-least z n off (omega arith) (is ∙ sym same))))
      | inr e ↦ rw e (told (keep two (let l = leb-false (suc n) (kind_least z) e in sym (kind_of-spare z n is (omega arith)) ∙ is)))
    ]

    go : (z : NodeType) → z ≡ kind_of (suc n) → placed_by (change_of z (suc n)) ≡ record { leaves = 0; inner = more }
    go Node4 is = elim (cases_Bool (leb (suc n) 2)) [
      | inl e ↦ rw e (told (compress (let l = leb-true (suc n) 2 e in omega arith)))
      | inr e ↦ rw e (let l = leb-false (suc n) 2 e in told (keep (omega arith) (sym (kind_of-spare Node4 n is (omega arith)) ∙ is)))
    ]
    go Node16 is = other Node16 (λ e. absurd cc) is (let h = subst (λ z. IsInRange z (suc n)) (sym is) (range_of_kind (suc n)) in let a = h.0 in omega arith)
    go Node48 is = other Node48 (λ e. absurd cc) is (let h = subst (λ z. IsInRange z (suc n)) (sym is) (range_of_kind (suc n)) in let a = h.0 in omega arith)
    go Node256 is = other Node256 (λ e. absurd cc) is (let h = subst (λ z. IsInRange z (suc n)) (sym is) (range_of_kind (suc n)) in omega arith)
    go Leaf is = absurd (kind_of-proper (suc n) (sym is))

-- one child alone
module _ {K V : Type 0} (bytes : K → List ℕ) (P : ℕ) (x : K × V) (n : OpaqueNodePtr) (f : Frame OpaqueNodePtr (K × V))
    (fs : List (Frame OpaqueNodePtr (K × V))) (was : IsRadix (of_key bytes) P [] (plug (f ∷ fs) (leaf n x))) where
  abbrev whole : Tree OpaqueNodePtr (K × V)
  whole = inner f.mark f.header (join f.left (child f.byte (leaf n x) f.right))

  abbrev left_over : ℕ
  left_over = length (bytes_of (join f.left f.right))

  one_more : length (bytes_of (join f.left (child f.byte (leaf n x) f.right))) ≡ suc left_over
  one_more =
      let a = ap length (bytes_of-join f.left (child f.byte (leaf n x) f.right)) in
      let c = ap length (bytes_of-join f.left f.right) in
      omega (arith, simp length-append at a, simp length-append at c)

  abbrev More : Option NodeType
  More = more_of (inner_count bytes P (pairs_of (plug fs whole))) (inner_count bytes P (remove_key (of_key bytes) (bytes x.0) (pairs_of (plug fs whole))))

  module _ (place : List ℕ) (path : IsPath (of_key bytes) P place fs) (own : IsRadix (of_key bytes) P place whole) where
    below_count : (kind : NodeType) → count_of kind whole ≡ one kind f.header.kind + inner_count_below kind (join f.left f.right)
    below_count kind =
        let a = count-join kind f.left (child f.byte (leaf n x) f.right) in
        let c = count-join kind f.left f.right in
        let d : count_of kind whole ≡ one kind f.header.kind + inner_count_below kind (join f.left (child f.byte (leaf n x) f.right)) = refl in
        omega arith

    front : IsFront place (bytes x.0)
    front = front_cut place own.0 (bytes x.0)
        (front_cut (place ++ own.0) (f.byte ∷ []) (bytes x.0)
        (AreRadix-right (of_key bytes) P (place ++ own.0) f.left (child f.byte (leaf n x) f.right) own.4).0)

    module _ (u : Tree OpaqueNodePtr (K × V)) (radix : IsRadix (of_key bytes) P place u)
        (its : pairs_of u ≡ remove_key (of_key bytes) (bytes x.0) (pairs_of whole)) where
      all_left : IsRadix (of_key bytes) P [] (plug fs u) × (pairs_of (plug fs u) ≡ remove_key (of_key bytes) (bytes x.0) (pairs_of (plug fs whole)))
      all_left = changed_at (of_key bytes) P fs place path whole u radix (bytes x.0) (remove_key (of_key bytes) (bytes x.0))
          (remove_key-between (of_key bytes) (bytes x.0)) front its

      none_comes : ((kind : NodeType) → count_of kind u ≤ count_of kind whole) → None ≡ More
      none_comes h =
          sym (ap (λ ps. more_of (inner_count bytes P (pairs_of (plug fs whole))) (inner_count bytes P ps)) (sym all_left.1) ∙
          loses bytes P (plug fs whole) (plug fs u) was all_left.0 (λ kind. fewer_in_hole fs whole u kind (h kind)))

      some_comes : (a : NodeType) (goes : NodeType → ℕ) → a ≢ Leaf → goes a ≡ 0 →
          ((kind : NodeType) → count_of kind u + goes kind ≡ count_of kind whole + one kind a) → Some a ≡ More
      some_comes a goes proper off h =
          sym (ap (λ ps. more_of (inner_count bytes P (pairs_of (plug fs whole))) (inner_count bytes P ps)) (sym all_left.1) ∙
          gains bytes P (plug fs whole) (plug fs u) was all_left.0 a goes proper off (λ kind. more_in_hole fs whole u kind (goes kind) (one kind a) (h kind)))

    header_kind : f.header.kind ≡ kind_of (suc left_over)
    header_kind = ap (λ h. h.kind) own.1 ∙ ap kind_of one_more

    -- two or more children stay
    module _ (two : 2 ≤ left_over) where
      stays : Tree OpaqueNodePtr (K × V)
      stays = inner f.mark (canonical_header P own.0 left_over) (join f.left f.right)

      stays_is : IsRadix (of_key bytes) P place stays × (pairs_of stays ≡ remove_key (of_key bytes) (bytes x.0) (pairs_of whole))
      unfolding stays
      stays_is = child_removed (of_key bytes) P place own.0 f.left f.right f.byte f.mark n x own.3 own.4 two

      keep_places : kind_of left_over ≡ kind_of (suc left_over) → None ≡ More
      unfolding stays
      keep_places same =
          none_comes stays stays_is.0 stays_is.1 (λ kind. let a = below_count kind in let o : one kind (kind_of left_over) ≡ one kind f.header.kind
          = ap (one kind) (same ∙ sym header_kind) in omega arith)

      shrink_places : kind_of left_over ≢ kind_of (suc left_over) → Some (kind_of left_over) ≡ More
      unfolding stays
      shrink_places off =
          some_comes stays stays_is.0 stays_is.1 (kind_of left_over) (λ kind. one kind f.header.kind) (kind_of-proper left_over)
          (one_off (kind_of left_over) f.header.kind (λ e. off (e ∙ header_kind))) (λ kind. let a = below_count kind in omega arith)

    -- one child stays
    compress_places : left_over ≡ 1 → None ≡ More
    compress_places one_left =
        let (c, v, is) = only_child (join f.left f.right) one_left in
        let (radix, its) = child_left (of_key bytes) P place own.0 f.left f.right f.byte c n x v own.3 own.4 is in
        go c v is radix its
      where
        go : (c : ℕ) (v : Tree OpaqueNodePtr (K × V)) → join f.left f.right ≡ child c v no_child →
            IsRadix (of_key bytes) P ((place ++ own.0) ++ c ∷ []) v → pairs_of v ≡ remove_key (of_key bytes) (bytes x.0) (pairs_of whole) → None ≡ More
        go c (leaf k y) is radix its =
            none_comes (leaf k y) (raised (of_key bytes) P place own.0 c k y radix) its
            (λ kind. let z : 0 ≤ count_of kind whole = omega arith in z)
        go c (inner k h cs) is (q, e, two, up, below) its =
            none_comes (inner k (canonical_header P (own.0 ++ c ∷ q) (length (bytes_of cs))) cs)
            (merged (of_key bytes) P place own.0 c q k cs two up below) its (λ kind.
            let a = below_count kind in
            let b : inner_count_below kind (join f.left f.right) ≡ one kind h.kind + inner_count_below kind cs + 0 = ap (inner_count_below kind) is in
            let d : one kind (kind_of (length (bytes_of cs))) ≡ one kind h.kind = ap (λ z. one kind z.kind) (sym e) in
            omega arith)

  -- where the parent is in the store
  parent_places : (s : Nodes K V) → Holds (node_at s) (plug fs whole) → placed_for_deletion s (path_of (f ∷ fs)) ≡ record { leaves = 0; inner = More }
  parent_places s holds =
      let (place, path, own) = radix_plug (of_key bytes) P fs whole was in
      let (off, node, got, head, kids) =
      inner_at s f.mark f.header (slots_of (join f.left (child f.byte (leaf n x) f.right))) (path_holds (node_at s) fs whole holds).1.0 in
      let number : length node.children ≡ suc left_over = ap length kids ∙ length-slots_of (join f.left (child f.byte (leaf n x) f.right)) ∙ one_more in
      let kind : f.mark.kind ≡ kind_of (suc left_over) = ap (λ h. h.kind) head ∙ header_kind place path own in
      let change : parent_change s (path_of (f ∷ fs)) ≡ change_of f.mark.kind (suc left_over) =
      subst (λ (o : Option (InnerPtr × ℕ)). elim o as (λ _. ParentChange) [
        | None ↦ no_parent
        | Some (parent, byte) ↦
            elim (get s.inners parent) as (λ _. ParentChange) [ None ↦ no_parent | Some z ↦ change_of parent.kind (length z.children) ]
      ] ≡ change_of
      f.mark.kind (suc left_over)) (sym (last_step-path_of (f ∷ fs)))
      (subst (λ (o : Option Inner). elim o as (λ _. ParentChange) [ None ↦ no_parent | Some z ↦ change_of f.mark.kind (length z.children) ] ≡
      change_of f.mark.kind (suc left_over)) (sym got) (ap (change_of f.mark.kind) number)) in
      let two : 2 ≤ suc left_over = subst (λ z. 2 ≤ z) one_more own.2 in
      ap placed_by change ∙ change_places f.mark.kind left_over More kind (omega arith) (compress_places place path own)
      (keep_places place path own) (shrink_places place path own)

-- a deletion needs the inner node that is placed
deletion_needs : {K V : Type 0} (IsClone : K × V → K × V → Type 0) (bytes : K → List ℕ) (P : ℕ) (pairs : List (K × V)) (x : K × V) (c : Command K V) →
    Answers bytes IsClone pairs c (Deleted (Some x)) (remove_key (of_key bytes) (bytes x.0) pairs) →
    ◌≡◌ {A = Promise} (record {
      leaves = 0;
      inner = more_of (inner_count bytes P pairs) (inner_count bytes P (remove_key (of_key bytes) (bytes x.0) pairs));
    })
    (needs bytes P c pairs)
deletion_needs IsClone bytes P pairs x (Insert k v) h = absurd h
deletion_needs IsClone bytes P pairs x (InsertPrefix k v) h = absurd h
deletion_needs IsClone bytes P pairs x (Delete key) h =
    ap (λ ps. let y : Promise = record { leaves = 0; inner = more_of (inner_count bytes P pairs) (inner_count bytes P ps) } in y) h.1
deletion_needs IsClone bytes P pairs x DeleteMin h =
    ap (λ ps. let y : Promise = record { leaves = 0; inner = more_of (inner_count bytes P pairs) (inner_count bytes P ps) } in y) h.1
deletion_needs IsClone bytes P pairs x DeleteMax h =
    ap (λ ps. let y : Promise = record { leaves = 0; inner = more_of (inner_count bytes P pairs) (inner_count bytes P ps) } in y) h.1
deletion_needs IsClone bytes P pairs x (Contains key) h = absurd h
deletion_needs IsClone bytes P pairs x Clone h = absurd h
deletion_needs IsClone bytes P pairs x (LongestMatch key) h = absurd h

module _ {K V : Type 0} (bytes : K → List ℕ) (P : ℕ) {s : Nodes K V} {root : OpaqueNodePtr} {layout : Tree OpaqueNodePtr (K × V)}
    (by : IsCanonicalTree (of_key bytes) P s root (pairs_of layout) layout) where
  pub needs_inserted : (k : K) (v : V) (point : InsertPoint) → AnswersTo (of_key bytes) P layout (bytes k) point →
      placed_for s point.insert_kind ≡ needs bytes P (Insert k v) (pairs_of layout)
  needs_inserted k v point at =
      let was : IsRadix (of_key bytes) P [] (plug at.path at.node) = subst (IsRadix (of_key bytes) P []) (sym at.is_end.whole) (tree_radix by).0 in
      let (place, path, own) = radix_plug (of_key bytes) P at.path at.node was in
      let depth = depth_is (of_key bytes) P at.path place path in
      let front : IsFront place (bytes k) =
      subst (λ w. IsFront w (bytes k)) (ap (λ d. take d (least_key (of_key bytes) at.node)) depth
      ∙ place_is (of_key bytes) P at.node place own) at.is_end.is_front in
      let holds = (path_holds (node_at s) at.path at.node (subst (Holds (node_at s)) (sym at.is_end.whole) by.stands.0.holds)).1 in
      subst (λ l. placed_for s point.insert_kind ≡ needs bytes P (Insert k v) (pairs_of l)) at.is_end.whole
      (kind_needs bytes P k v (record { path = path; radix = own; front = front }) was s point.key_bytes_used point.insert_kind holds
      (subst (λ d. IsKindOf (of_key bytes) P (bytes k) at.node d point.key_bytes_used point.insert_kind) depth at.kind_is))

  pub needs_deleted : (IsClone : K × V → K × V → Type 0) (c : Command K V) (x : K × V) (point : DeletePoint) → LeadsTo layout x point →
      Answers bytes IsClone (pairs_of layout) c (Deleted (Some x)) (remove_key (of_key bytes) (bytes x.0) (pairs_of layout)) →
      placed_for_deletion s point.path ≡ needs bytes P c (pairs_of layout)
  needs_deleted IsClone c x point leads answers =
      ap (placed_for_deletion s) leads.path_is ∙ subst (λ l. Answers bytes IsClone (pairs_of l) c (Deleted (Some x))
      (remove_key (of_key bytes) (bytes x.0) (pairs_of l)) → placed_for_deletion s (path_of leads.path) ≡ needs bytes P c (pairs_of l)) leads.whole
      (go leads.path (subst (IsRadix (of_key bytes) P []) (sym leads.whole) (tree_radix by).0)
      (subst (Holds (node_at s)) (sym leads.whole) by.stands.0.holds)) answers
    where
      go : (fs : List (Frame OpaqueNodePtr (K × V))) → IsRadix (of_key bytes) P [] (plug fs (leaf (leaf_name point.leaf_node_ptr) x)) →
          Holds (node_at s) (plug fs (leaf (leaf_name point.leaf_node_ptr) x)) →
          Answers bytes IsClone (pairs_of (plug fs (leaf (leaf_name point.leaf_node_ptr) x))) c (Deleted (Some x))
          (remove_key (of_key bytes) (bytes x.0) (pairs_of (plug fs (leaf (leaf_name point.leaf_node_ptr) x)))) →
          placed_for_deletion s (path_of fs) ≡ needs bytes P c (pairs_of (plug fs (leaf (leaf_name point.leaf_node_ptr) x)))
      go [] was holds takes =
          ap (λ ps. let y : Promise = record { leaves = 0; inner = more_of (inner_count bytes P (x ∷ [])) (inner_count bytes P ps) } in y)
          (sym (alone (of_key bytes) x)) ∙ deletion_needs IsClone bytes P (x ∷ []) x c takes
      go (f ∷ fs) was holds takes =
          parent_places bytes P x (leaf_name point.leaf_node_ptr) f fs was s holds
          ∙ deletion_needs IsClone bytes P (pairs_of (plug (f ∷ fs) (leaf (leaf_name point.leaf_node_ptr) x))) x c takes
