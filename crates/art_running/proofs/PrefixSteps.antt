-- Applied prefix points make steps: what an overwrite needs, and what it touches.
use Rattle.std.proofs.Common.{◌≡◌, ◌≢◌, ℕ, List, [], ◌∷◌, length, leb, eqb, cond, is_some, Option, true, false, not, refl, ap, ap₂, sym, ◌∙◌, subst, arith, Some, None, inl, inr, option_map}
use Rattle.std.proofs.lemmas.Bool.{ne_eqb, lt-leb}
use Rattle.std.specs.List.{AllByRecursion as Each}
use Rattle.art_model.specs.Prelude.{leaf_name, Nodes, Promise, LeafNode, NodeType, Node4, Node16, Node48, Node256, Leaf, OpaqueNodePtr, IsCanonical, IsCanonicalTree, TouchesAtMost, are_related, are_same, ChangesInPlace, of_key, add_in_order, first_of, only_or_count, is_conflict, overwrite, overwrite_reply, related_to, remove_key, remove_related, replace_related, with_key, Frame, plug, is_covered, promise_after, IsRadix, pairs_of, pair_of, leaf}
use Rattle.art_model.specs.Footprints.{TouchesRelated}
use Rattle.art_model.proofs.pairs.Between.{replace_related-between}
use Rattle.art_model.proofs.stores.Canonical.{tree_radix}
use Rattle.art_model.proofs.places.InHole.{with_key-hole}
use Rattle.art_model.proofs.keys.Keys.{not_same}
use Rattle.art_model.proofs.lists.Lists.{filter_none, Each-weaker}
use Rattle.art_model.proofs.places.Paths.{IsHole, changed_at}
use Rattle.art_model.proofs.pairs.PutOver.{free_unrelated, one_went, put_is_overwrite, same_rest}
use Rattle.art_model.proofs.pairs.Puts.{any_is_first, overwrite-new}
use Rattle.art_model.proofs.stores.Views.{leaf_or}
use Rattle.art_running.specs.Needs.{needs, more_of, inner_count}
use Rattle.art_writing.specs.Overwritten.{IsOverwritePointIn, TouchesForNode, TouchesForPrefix, placed_for_overwrite, placed_for_prefix}
use Rattle.art_writing.specs.Points.{AnswersToOverwrite, IsPointFor}
use Rattle.art_writing.specs.Inserted.{unlinked_leaf}
use Rattle.art_running.specs.Steps.{TouchesBy}
use Rattle.art_writing.specs.declared.insert.OverwritePoint.{OverwritePoint}
use Rattle.art_writing.specs.declared.insert.PrefixInsertPoint.{PrefixInsertPoint}
use Rattle.art_writing.specs.declared.insert.PrefixInsertPoint.TheVariants as points
use Rattle.art_running.specs.declared.run.Side.{Side}
use Rattle.art_running.specs.declared.run.Command.TheVariants.{Insert, InsertPrefix}
use Rattle.art_running.specs.declared.run.Reply.TheVariants.{Overwrote, NoMemory}
use Rattle.art_running.proofs.KindCounts.{fewer_in_hole, loses}
use Rattle.art_running.proofs.Moves.{Layout, StepFrom, nothing, own_pairs}
use Rattle.art_running.proofs.Needed.{needs_inserted}
use Rattle.art_writing.proofs.Standing.{tree_stays}
use Rattle.art_writing.proofs.Overwrites.{related_leaf, subtree_at}
use Rattle.art_writing.proofs.RelatedPairs.{IsOne, not_alone, related_count}
use Rattle.art_running.proofs.Stepped.{IsRefused, at_root, insertion_touches, pairs_back, touches_more}

placed_leaf : (kind : NodeType) (count : ℕ) → IsOne kind count → placed_for_overwrite kind ≡ record { leaves = cond (eqb count 1) 0 1; inner = None }
placed_leaf kind count (inl (e, f)) = rw (e, f) refl
placed_leaf kind count (inr (off, two)) = rw (ne_eqb count 1 (λ e. omega arith)) (inner_places kind off)
  where
    inner_places : (k : NodeType) → k ≢ Leaf → placed_for_overwrite k ≡ record { leaves = 1; inner = None }
    inner_places Leaf off = absurd (off refl)
    inner_places Node4 off = refl
    inner_places Node16 off = refl
    inner_places Node48 off = refl
    inner_places Node256 off = refl

module _ {K V : Type 0} (bytes : K → List ℕ) (P : ℕ) {s : Nodes K V} {root : OpaqueNodePtr} {layout : Layout K V}
    (by : IsCanonicalTree (of_key bytes) P s root (pairs_of layout) layout) where
  -- no inner node is placed where a leaf replaces a node
  none_comes : (fs : List (Frame OpaqueNodePtr (K × V))) (place : List ℕ) (node : Layout K V) (x : K × V) → plug fs node ≡ layout →
      IsHole (of_key bytes) P fs place node (bytes x.0) → Each (λ y. are_related (bytes x.0) (bytes y.0) ≡ true) (pairs_of node) →
      Each (λ y. bytes y.0 ≢ bytes x.0) (pairs_of node) →
      more_of (inner_count bytes P (pairs_of layout)) (inner_count bytes P (overwrite (of_key bytes) x (pairs_of layout))) ≡ None
  none_comes fs place node x whole hole related unequal =
      let F = replace_related (of_key bytes) x in
      let its : F (pairs_of node) ≡ x ∷ [] =
      ap (add_in_order (of_key bytes) x) (filter_none (λ y. not (are_related (bytes x.0) (bytes y.0))) (pairs_of node)
      (Each-weaker (λ y. are_related (bytes x.0) (bytes y.0) ≡ true) (λ y. not (are_related (bytes x.0) (bytes y.0)) ≡ false)
      (λ y e. ap not e) (pairs_of node) related)) in
      let new = leaf root x in
      let old : IsRadix (of_key bytes) P [] (plug fs node) = subst (IsRadix (of_key bytes) P []) (sym whole) (tree_radix by).0 in
      let (radix, all) =
      changed_at (of_key bytes) P fs place hole.path node new hole.front (bytes x.0) F
      (replace_related-between (of_key bytes) x) hole.front (sym its) in
      let none = loses bytes P (plug fs node) (plug fs new) old radix (λ k. fewer_in_hole fs node new k (omega arith)) in
      let stored : first_of (with_key (of_key bytes) (bytes x.0) (pairs_of layout)) ≡ None =
      ap (λ l. first_of (with_key (of_key bytes) (bytes x.0) (pairs_of l))) (sym whole)
      ∙ ap first_of (with_key-hole (of_key bytes) P fs place (bytes x.0) node hole.path hole.front
      ∙ filter_none (λ y. are_same (bytes x.0) (bytes y.0)) (pairs_of node)
      (Each-weaker (λ y. bytes y.0 ≢ bytes x.0) (λ y. are_same (bytes x.0) (bytes y.0) ≡ false)
      (λ y off. not_same (bytes x.0) (bytes y.0) (λ e. off (sym e))) (pairs_of node) unequal)) in
      ap (λ ps. more_of (inner_count bytes P (pairs_of layout)) (inner_count bytes P ps)) (overwrite-new (of_key bytes) x (pairs_of layout) stored)
      ∙ subst (λ l. more_of (inner_count bytes P (pairs_of l)) (inner_count bytes P (F (pairs_of l))) ≡ None) whole
      (subst (λ ps. more_of (inner_count bytes P (pairs_of (plug fs node))) (inner_count bytes P ps) ≡ None) all none)

  -- What a point to overwrite states of the pairs.
  pub record Overwrites (k : K) (v : V) (kind : NodeType) : Type 0 where
    pub one : IsOne kind (length (related_to (of_key bytes) (bytes k) (pairs_of layout)))
    pub none : more_of (inner_count bytes P (pairs_of layout)) (inner_count bytes P (overwrite (of_key bytes) (k, v) (pairs_of layout))) ≡ None

  overwrites : (k : K) (v : V) (point : OverwritePoint) → AnswersToOverwrite (of_key bytes) layout (bytes k) point →
      Overwrites k v point.overwrite_point.kind
  overwrites k v point at =
      let here = at_root bytes P by at.root_is in
      let answers : IsOverwritePointIn (of_key bytes) P s (bytes k) point = (pairs_of layout, layout, here, at) in
      let one = related_count (of_key bytes) P by point at in
      elim (leaf_or point.overwrite_point) [
        | inl (p, e) ↦
            let l = related_leaf answers (sym e) here in
            record {
              one = one;
              none = none_comes l.at.path l.at.place (leaf (leaf_name p) (pair_of l.at.shown)) (k, v) l.at.whole l.at.hole
                  (l.related, tt) (λ e. l.unequal (sym e), tt);
            }
        | inr off ↦
            let a = subtree_at answers off here in
            record { one = one; none = none_comes a.path a.place a.node (k, v) a.whole a.hole a.related a.unequal }
      ]

  -- what is placed is what the command needs
  needs_overwritten : (k : K) (v : V) (point : OverwritePoint) → AnswersToOverwrite (of_key bytes) layout (bytes k) point →
      placed_for_overwrite point.overwrite_point.kind ≡ needs bytes P (InsertPrefix k v) (pairs_of layout)
  needs_overwritten k v point at =
      let o = overwrites k v point at in
      placed_leaf point.overwrite_point.kind (length (related_to (of_key bytes) (bytes k) (pairs_of layout))) o.one
      ∙ ap (λ inner. let y : Promise = record {
        leaves = cond (eqb (length (related_to (of_key bytes) (bytes k) (pairs_of layout))) 1) 0 1;
        inner = inner;
      } in y) (sym o.none)

  -- and what is touched is what it may touch
  touches_overwritten : (k : K) (v : V) (point : OverwritePoint) → AnswersToOverwrite (of_key bytes) layout (bytes k) point → (t : Nodes K V) →
      TouchesForNode point.overwrite_point.kind (of_key bytes) (bytes k) s t layout → TouchesBy bytes (Some layout) (InsertPrefix k v) s t
  touches_overwritten k v point at t touches = go point.overwrite_point.kind (overwrites k v point at).one touches
    where
      at_leaf : (kind : NodeType) → kind ≡ Leaf → TouchesForNode kind (of_key bytes) (bytes k) s t layout → TouchesAtMost 2 2 4 s t
      at_leaf kind e h =
          let few : TouchesAtMost 0 0 1 s t = subst (λ q. TouchesForNode q (of_key bytes) (bytes k) s t layout) e h in
          touches_more 0 0 1 2 2 4 (omega arith) (omega arith) (omega arith) few

      below : (kind : NodeType) → kind ≢ Leaf → TouchesForNode kind (of_key bytes) (bytes k) s t layout →
          TouchesRelated (of_key bytes) (bytes k) s t (Some layout)
      below Leaf off h = absurd (off refl)
      below Node4 off h = h
      below Node16 off h = h
      below Node48 off h = h
      below Node256 off h = h

      go : (kind : NodeType) → IsOne kind (length (related_to (of_key bytes) (bytes k) (pairs_of layout))) →
          TouchesForNode kind (of_key bytes) (bytes k) s t layout → TouchesBy bytes (Some layout) (InsertPrefix k v) s t
      go kind (inl (e, f)) h = rw f (at_leaf kind e h)
      go kind (inr (off, two)) h = rw (lt-leb (length (related_to (of_key bytes) (bytes k) (pairs_of layout))) 1 (omega arith)) (below kind off h)

-- ---- points of either kind

one_leaf : {A : Type 0} (xs : List A) → only_or_count xs ≡ (first_of xs, 0) → ◌≡◌ {A = ℕ} (cond (is_some (first_of xs)) 0 1) (cond (eqb (length xs) 1) 0 1)
one_leaf [] e = refl
one_leaf (x ∷ []) e = refl
one_leaf (x ∷ y ∷ xs) e = absurd (let f = ap (λ z. z.0) e in cc)

one_at_most : {A : Type 0} (xs : List A) → only_or_count xs ≡ (first_of xs, 0) → leb (length xs) 1 ≡ true
one_at_most [] e = refl
one_at_most (x ∷ []) e = refl
one_at_most (x ∷ y ∷ xs) e = absurd (let f = ap (λ z. z.0) e in cc)

module _ {K V : Type 0} (bytes : K → List ℕ) (P : ℕ) {s : Nodes K V} {root : OpaqueNodePtr} {layout : Layout K V}
    (by : IsCanonicalTree (of_key bytes) P s root (pairs_of layout) layout) where
  module _ (k : K) (v : V) (free : is_conflict (of_key bytes) (bytes k) (pairs_of layout) ≡ false) where
    same_parts : (remove_related (of_key bytes) (bytes k) (pairs_of layout) ≡ remove_key (of_key bytes) (bytes k) (pairs_of layout)) ×
        (related_to (of_key bytes) (bytes k) (pairs_of layout) ≡ with_key (of_key bytes) (bytes k) (pairs_of layout))
    same_parts = same_rest (of_key bytes) (k, v) (bytes k) (pairs_of layout) (free_unrelated (of_key bytes) (k, v) (bytes k) (pairs_of layout) free)

    one_has : only_or_count (with_key (of_key bytes) (bytes k) (pairs_of layout)) ≡ (first_of (with_key (of_key bytes) (bytes k) (pairs_of layout)), 0)
    one_has = one_went (of_key bytes) (k, v) (bytes k) (pairs_of layout) by.is_map

    -- where no unequal key is related an overwrite needs what a put does
    needs_same : needs bytes P (Insert k v) (pairs_of layout) ≡ needs bytes P (InsertPrefix k v) (pairs_of layout)
    needs_same = ap₂ (λ (leaves : ℕ) (inner : Option NodeType). let y : Promise = record { leaves = leaves; inner = inner } in y)
        (ap (λ b. cond b 0 1) (any_is_first (λ x. are_same (bytes k) (bytes x.0)) (pairs_of layout)) ∙
        one_leaf (with_key (of_key bytes) (bytes k) (pairs_of layout)) one_has ∙ ap (λ xs. cond (eqb (length xs) 1) 0 1) (sym same_parts.1))
        (ap (λ ps. more_of (inner_count bytes P (pairs_of layout)) (inner_count bytes P ps))
        (sym (put_is_overwrite (of_key bytes) (k, v) (pairs_of layout) (free_unrelated (of_key bytes) (k, v) (bytes k) (pairs_of layout) free))))

    few_related : leb (length (related_to (of_key bytes) (bytes k) (pairs_of layout))) 1 ≡ true
    few_related = ap (λ xs. leb (length xs) 1) same_parts.1 ∙ one_at_most (with_key (of_key bytes) (bytes k) (pairs_of layout)) one_has

  needs_prefix : (k : K) (v : V) (point : PrefixInsertPoint) → IsPointFor (of_key bytes) P (bytes k) (pairs_of layout) layout point →
      placed_for_prefix s point ≡ needs bytes P (InsertPrefix k v) (pairs_of layout)
  needs_prefix k v (points.InsertPoint point) (free, at) = needs_inserted bytes P by k v point at ∙ needs_same k v free
  needs_prefix k v (points.OverwritePoint point) (related, at) = needs_overwritten bytes P by k v point at

  touches_prefix : (k : K) (v : V) (point : PrefixInsertPoint) → IsPointFor (of_key bytes) P (bytes k) (pairs_of layout) layout point →
      (t : Nodes K V) → TouchesForPrefix point (of_key bytes) (bytes k) s t layout → TouchesBy bytes (Some layout) (InsertPrefix k v) s t
  touches_prefix k v (points.InsertPoint point) (free, at) t h = rw (few_related k v free) (insertion_touches point.insert_kind h)
  touches_prefix k v (points.OverwritePoint point) (related, at) t h = touches_overwritten bytes P by k v point at t h

-- What an applied prefix point leaves of a tree.
pub record HasAppliedPrefix {K V : Type 0} (bytes : K → List ℕ) (P : ℕ) (s t : Nodes K V) (layout : Layout K V) (pair : K × V)
    (point : PrefixInsertPoint) (after : OpaqueNodePtr) (existing : Option (LeafNode K V)) (count : ℕ) : Type 0 where
  pub canonical : IsCanonical (of_key bytes) P t (Some after) (overwrite (of_key bytes) pair (pairs_of layout))
  pub replaced : existing ≡ option_map unlinked_leaf (overwrite_reply (of_key bytes) pair (pairs_of layout)).0
  pub removed : count ≡ (overwrite_reply (of_key bytes) pair (pairs_of layout)).1
  pub kept : (pairs : List (K × V)) (new : Layout K V) → IsCanonicalTree (of_key bytes) P t after pairs new →
      ChangesInPlace (of_key bytes) s t (Some layout) (Some new)
  pub touches : TouchesForPrefix point (of_key bytes) (bytes pair.0) s t layout
  pub promise : t.promise ≡ promise_after (placed_for_prefix s point) s.promise

module _ {K V : Type 0} {IsClone : K × V → K × V → Type 0} {side : Side} (bytes : K → List ℕ) (P : ℕ) {s t : Nodes K V} {root : OpaqueNodePtr}
    {layout : Layout K V} (by : IsCanonicalTree (of_key bytes) P s root (pairs_of layout) layout) {k : K} {v : V} (point : PrefixInsertPoint) (z : Nodes K V)
    (at : IsPointFor (of_key bytes) P (bytes k) (pairs_of layout) layout point) where
  pub prefix_step : {after : OpaqueNodePtr} {existing : Option (LeafNode K V)} {count : ℕ} →
      HasAppliedPrefix bytes P s t layout (k, v) point after existing count →
      StepFrom bytes P IsClone side s t z (Some layout) (InsertPrefix k v) (Overwrote (option_map pair_of existing) count) (Some after)
  prefix_step {after} {existing} {count} is =
      let (new, by_new) = is.canonical in (
        Some new,
        ap Some by_new.stands.0.named,
        record {
          answers = (
            ap₂ (λ a b. (a, b)) (ap (option_map pair_of) is.replaced
                ∙ pairs_back (overwrite_reply (of_key bytes) (k, v) (pairs_of layout)).0) is.removed,
            (tree_radix by_new).1,
          );
          refuses = tt;
          sound = own_pairs bytes P by_new;
          changes = record {
            side = refl;
            kept = is.kept (overwrite (of_key bytes) (k, v) (pairs_of layout)) new by_new;
            touches = touches_prefix bytes P by k v point at t is.touches;
            other = refl;
          };
          promises = is.promise ∙ ap (λ placed. promise_after placed s.promise) (needs_prefix bytes P by k v point at);
        },
      )

  pub prefix_refused : {pair : K × V} → pair ≡ (k, v) → IsRefused s t (placed_for_prefix s point) →
      StepFrom bytes P IsClone side s t z (Some layout) (InsertPrefix k v) (NoMemory (Some pair)) (Some root)
  prefix_refused handed is = (
    Some layout,
    ap Some by.stands.0.named,
    record {
      answers = (not_alone (of_key bytes) P by (bytes k) (k, v) point at is.uncovered, ap Some handed, refl);
      refuses = λ promised. is.uncovered (ap (λ placed. is_covered placed s.promise) (needs_prefix bytes P by k v point at) ∙ promised);
      sound = own_pairs bytes P (tree_stays is.same by);
      changes = nothing z (Some layout) is.same;
      promises = inr is.void;
    },
  )
