-- What is stated of an applied point, from what holds for each layout of the root.
use Rattle.std.proofs.Common.{◌≡◌, ℕ, List, Some, Ok, Err, false, true, IsTrue, refl, ap, sym, ◌∙◌, subst, option_map}
use Rattle.art_model.specs.Prelude.{Nodes, Promise, no_promise, IsCanonical, ChangesInPlace, of_key, overwrite, put, stored_for, Frame, is_covered, promise_after, ForTree, OpaqueNodePtr}
use Rattle.art_model.proofs.stores.Apart.{tree_apart}
use Rattle.art_model.proofs.pairs.MapLaws.{stored_again}
use Rattle.art_model.proofs.pairs.PutOver.{put_is_overwrite, put_reply_is, was_free}
use Rattle.art_model.proofs.stores.StoreLaws.{has_one_map}
use Rattle.art_writing.specs.declared.insert.InsertPoint.{InsertPoint}
use Rattle.art_writing.specs.declared.insert.InsertResult.{InsertResult}
use Rattle.art_writing.specs.declared.insert.OverwritePoint.{OverwritePoint}
use Rattle.art_writing.specs.declared.insert.PrefixInsertPoint.TheVariants as points
use Rattle.art_writing.specs.declared.insert.PrefixInsertResult.{PrefixInsertResult}
use Rattle.art_writing.specs.declared.insert.PairRefused.{PairRefused}
use Rattle.art_writing.specs.Applied.{IsApplied, IsPrefixApplied, TakesMemory}
use Rattle.art_writing.specs.Inserted.{HasInserted, IsBelow, IsPointIn, unlinked_leaf}
use Rattle.art_writing.specs.Points.{AnswersTo}
use Rattle.art_writing.specs.Overwritten.{HasOverwritten, IsOverwritePointIn}
use Rattle.art_writing.proofs.LeftByPoints.{IsInserted, IsOverwritten}
use Rattle.art_writing.proofs.Standing.{answers_to}

-- ---- allocations

module _ {K V : Type 0} {s t : Nodes K V} {placed : Promise} {pair : K × V} where
  -- what is placed was covered, or is now
  pub granted : {X : Type 0} {done : X} → t.promise ≡ promise_after placed s.promise → TakesMemory s t placed pair (Ok done)
  granted after = record { promise = after; succeeds = λ covered. refl; handed_back = tt; leaves = tt; inners = tt; void = tt }

  -- where it was not covered the call fails, and nothing is promised then
  pub handed_back : {X : Type 0} → (IsTrue (is_covered placed s.promise) → false ≡ true) → t.leaves ≡ s.leaves → t.inners ≡ s.inners → t.promise ≡ no_promise →
      TakesMemory {X = X} s t placed pair (Err (record { key = pair.0; value = pair.1 }))
  handed_back gone leaves inners void = record { promise = tt; succeeds = gone; handed_back = (refl, refl); leaves = leaves; inners = inners; void = void }

  -- a failed allocation is a failure of each call
  pub refused_too : {X Y : Type 0} {refused : PairRefused K V} → TakesMemory {X = X} s t placed pair (Err refused) → TakesMemory {X = Y} s t placed pair (Err refused)
  refused_too is = record { promise = tt; succeeds = is.succeeds; handed_back = is.handed_back; leaves = is.leaves; inners = is.inners; void = is.void }

-- ---- points that are applied

module _ {K V : Type 0} (bytes : K → List ℕ) {P : ℕ} {s t : Nodes K V} {pair : K × V} where
  pub applied : {point : InsertPoint} {done : InsertResult K V} → IsPointIn (of_key bytes) P s (bytes pair.0) point →
      ForTree (of_key bytes) P s point.root (λ pairs layout. (at : AnswersTo (of_key bytes) P layout (bytes pair.0) point) →
      IsInserted (of_key bytes) P s t point pair pairs layout at.path done) →
      IsApplied (of_key bytes) P s t point pair done
  applied {point = point} {done} (pairs, layout, by, answers) all =
      let own = all pairs layout by answers in
      let each : ForTree (of_key bytes) P s point.root (λ ps l. (path : List (Frame OpaqueNodePtr (K × V))) × IsInserted (of_key bytes) P s t point pair ps l path done) =
      (λ ps l b. let at = answers_to (pairs, layout, by, answers) b in (at.path, all ps l b at)) in
      record {
        canonical = λ ps l b. ((each ps l b).1.tree, (each ps l b).1.canonical);
        root = (put (of_key bytes) pair pairs, own.tree, own.canonical);
        leaf = λ after new b.
            let one = has_one_map (of_key bytes) P t done.new_root (put (of_key bytes) pair pairs) after own.tree new own.canonical b in
            subst (λ x. HasInserted new point x done) (sym (ap (stored_for (of_key bytes) pair) one.0 ∙ stored_again bytes pair pairs))
            (subst (λ z. HasInserted z point (stored_for (of_key bytes) pair pairs) done) (sym one.1) own.inserted);
        replaced = λ ps l b. (each ps l b).1.replaced;
        kept = λ ps l b after new c.
            let is = (each ps l b).1 in
            subst (λ z. ChangesInPlace (of_key bytes) s t (Some l) (Some z))
            (sym (has_one_map (of_key bytes) P t done.new_root (put (of_key bytes) pair ps) after is.tree new is.canonical c).1) is.kept;
        below = λ ps l b at after new c.
            let is = all ps l b at in
            subst (λ z. IsBelow at.path z pair done.leaf_node_ptr done.parent_node_change)
            (sym (has_one_map (of_key bytes) P t done.new_root (put (of_key bytes) pair ps) after is.tree new is.canonical c).1) is.below;
        apart = tree_apart (of_key bytes) P s t (Some point.root) (Some done.new_root) pairs (put (of_key bytes) pair pairs) (Some layout)
            (Some own.tree) by own.canonical own.kept.others;
        touches = own.touches;
      }

  -- an insertion is an overwrite, where only an equal key is stored
  pub applied_prefix : {point : InsertPoint} {done : InsertResult K V} → IsApplied (of_key bytes) P s t point pair done →
      IsPrefixApplied (of_key bytes) P s t (points.InsertPoint point) pair (record { insert_result = done; leafs_removed = 0 })
  applied_prefix {done = done} is =
      record {
        canonical = λ pairs layout by.
            let new = is.canonical pairs layout by in
            subst (IsCanonical (of_key bytes) P t (Some done.new_root))
            (sym (put_is_overwrite (of_key bytes) pair pairs (was_free bytes pair pairs new.1.is_map))) new;
        root = is.root;
        leaf = is.leaf;
        replaced = λ pairs layout by.
            is.replaced pairs layout by
            ∙ ap (λ z. option_map unlinked_leaf z.0)
            (sym (put_reply_is (of_key bytes) pair pairs (was_free bytes pair pairs (is.canonical pairs layout by).1.is_map)));
        removed = λ pairs layout by. ap (λ z. z.1)
            (sym (put_reply_is (of_key bytes) pair pairs (was_free bytes pair pairs (is.canonical pairs layout by).1.is_map)));
        kept = is.kept;
        apart = is.apart;
        touches = λ pairs layout by. is.touches;
      }

pub overwritten : {K V : Type 0} {bytes : K × V → List ℕ} {P : ℕ} {s t : Nodes K V} {point : OverwritePoint} {pair : K × V} {key : List ℕ}
    {done : PrefixInsertResult K V} →
    IsOverwritePointIn bytes P s key point → ForTree bytes P s point.root (λ pairs layout. IsOverwritten bytes P s t point pair pairs layout done) →
    IsPrefixApplied bytes P s t (points.OverwritePoint point) pair done
overwritten {bytes = bytes} {P} {s} {t} {point} {pair} {done = done} (pairs, layout, by, answers) all =
    let own = all pairs layout by in
    record {
      canonical = λ ps l b. ((all ps l b).tree, (all ps l b).canonical);
      root = (overwrite bytes pair pairs, own.tree, own.canonical);
      leaf = λ after new b.
          subst (λ z. HasOverwritten z point pair done.insert_result)
          (sym (has_one_map bytes P t done.insert_result.new_root (overwrite bytes pair pairs) after own.tree new own.canonical b).1) own.leaf;
      replaced = λ ps l b. (all ps l b).existing;
      removed = λ ps l b. (all ps l b).removed;
      kept = λ ps l b after new c.
          let is = all ps l b in
          subst (λ z. ChangesInPlace bytes s t (Some l) (Some z))
          (sym (has_one_map bytes P t done.insert_result.new_root (overwrite bytes pair ps) after is.tree new is.canonical c).1) is.kept;
      apart = tree_apart bytes P s t (Some point.root) (Some done.insert_result.new_root) pairs (overwrite bytes pair pairs) (Some layout)
          (Some own.tree) by own.canonical own.kept.others;
      touches = λ ps l b. (all ps l b).touches;
    }
