-- Footprints: what each write to a map touches, one write after another, and what the writes to both maps of a store touch together.
use Rattle.std.proofs.Common.{◌≡◌, ◌≢◌, ℕ, ◌+◌, ◌≤◌, List, [], ◌∷◌, ◌++◌, length, map, Bool, true, false, cond, Option, Some, None, IsSome, refl, ap, ap₂, sym, ◌∙◌, subst, length-append, inl, inr, option_map, Ordering}
use Rattle.std.specs.List.{AllByRecursion as Each}
use Rattle.std.proofs.lemmas.List.{length-map}
use Rattle.std.specs.Ordering.{eq_by_cmp}
use Rattle.std.specs.Cmp.{IsTotalOrder}
use Rattle.std.specs.FinMap.{FinMap, IsAntisymmetric, get, insert, remove, get-insert, get-remove}
use Rattle.art_model.specs.Prelude.{Inner, LeafNode, leaf_name, inner_name, Nodes, change, Leaf, LeafPtr, InnerPtr, OpaqueNodePtr, Held, held_leaf, held_inner, content_at, IsIn, Footprint, TouchesAtMost}
use Rattle.art_nodes.proofs.StoreChanges.{elsewhere, here, gone, gone_elsewhere, changed_from, changed_elsewhere}
use Rattle.art_model.proofs.lists.Lists.{Each-append, Each-weaker, each_in, each_from, in_left, in_right, in_map, each_map}
use Rattle.art_model.proofs.stores.Views.{held_in_inner, leaf_or}

-- The names that came into use between two maps, those that went out of use, and those that may have other values; all others have the values that they had.
pub record Touched {N X : Type 0} {R : N → N → Ordering} (old new : FinMap R X) (placed freed changed : List N) : Type 0 where
  pub are_placed : Each (λ n. (get old n ≡ None) × (get new n ≢ None)) placed
  pub are_freed : Each (λ n. (get old n ≢ None) × (get new n ≡ None)) freed
  pub are_changed : Each (λ n. (get old n ≢ None) × (get new n ≢ None)) changed
  pub others : (n : N) → (IsIn n placed → ⊥) → (IsIn n freed → ⊥) → (IsIn n changed → ⊥) → get new n ≡ get old n

-- no write touches nothing
pub touched_none : {N X : Type 0} {R : N → N → Ordering} (m : FinMap R X) → Touched m m [] [] []
touched_none m = record { are_placed = tt; are_freed = tt; are_changed = tt; others = λ n p f c. refl }

-- what is in the map is not absent
pub there : {X : Type 0} (o : Option X) → IsSome o → o ≢ None
there None h e = absurd cc
there (Some x) h e = absurd cc

module _ {N X : Type 0} {R : N → N → Ordering} (order : IsTotalOrder R) (same : IsAntisymmetric R) where
  some_or : (t : Bool) (x : X) (o : Option X) → o ≢ None → cond t (Some x) o ≢ None
  some_or true x o h e = absurd cc
  some_or false x o h e = h e

  none_or : (t : Bool) (o : Option X) → o ≡ None → cond t None o ≡ None
  none_or true o h = refl
  none_or false o h = h

  -- a placement or a change leaves what is in the map
  pub still_placed : (m : FinMap R X) (n k : N) (x : X) → get m k ≢ None → get (insert m n x) k ≢ None
  still_placed m n k x h = subst (λ o. o ≢ None) (sym (get-insert order m n x k)) (some_or (eq_by_cmp R k n) x (get m k) h)

  -- and so does a change
  pub still_changed : (m : FinMap R X) (n k : N) (f : X → X) → get m k ≢ None → get (change m n f) k ≢ None
  still_changed m n k f h = go (get m n) refl
    where
      go : (o : Option X) → get m n ≡ o → get (change m n f) k ≢ None
      go None e = subst (λ z. get z k ≢ None) (sym (changed_from m n f None e)) h
      go (Some x) e = subst (λ z. get z k ≢ None) (sym (changed_from m n f (Some x) e)) (still_placed m n k (f x) h)

  pub still_gone : (m : FinMap R X) (n k : N) → get m k ≡ None → get (remove m n) k ≡ None
  still_gone m n k h = get-remove order m n k ∙ none_or (eq_by_cmp R k n) (get m k) h

  module _ {old new : FinMap R X} {placed freed changed : List N} (so_far : Touched old new placed freed changed) where
    -- a name that is placed: it was free, and was not freed before
    pub then_placed : (n : N) (x : X) → get new n ≡ None → (IsIn n freed → ⊥) → Touched old (insert new n x) (n ∷ placed) freed changed
    then_placed n x free fresh =
        let was =
        so_far.others n (λ i. (each_in (λ k. (get old k ≡ None) × (get new k ≢ None)) n placed so_far.are_placed i).1 free) fresh
        (λ i. (each_in (λ k. (get old k ≢ None) × (get new k ≢ None)) n changed so_far.are_changed i).1 free) in
        record {
          are_placed = (
            (sym was ∙ free, λ e. absurd (cc (here order same new n x))),
            Each-weaker (λ k. (get old k ≡ None) × (get new k ≢ None))
                (λ k. (get old k ≡ None) × (get (insert new n x) k ≢ None)) (λ k h. (h.0, still_placed new n k x h.1)) placed so_far.are_placed,
          );
          are_freed =
              each_from (λ k. (get old k ≢ None) × (get (insert new n x) k ≡ None)) freed
              (λ k i. let h = each_in (λ k. (get old k ≢ None) × (get new k ≡ None)) k freed so_far.are_freed
              i in (h.0, elsewhere order same new n k x (λ e. fresh (subst (λ z. IsIn z freed) e i)) ∙ h.1));
          are_changed =
              Each-weaker (λ k. (get old k ≢ None) × (get new k ≢ None)) (λ k. (get old k ≢ None) × (get (insert new n x) k ≢ None))
              (λ k h. (h.0, still_placed new n k x h.1)) changed so_far.are_changed;
          others = λ k p f c. elsewhere order same new n k x (λ e. p (inl (sym e))) ∙ so_far.others k (λ i. p (inr i)) f c;
        }

    -- a name that is changed: it was in use, and is
    pub then_changed : (n : N) (g : X → X) → get old n ≢ None → get new n ≢ None → Touched old (change new n g) placed freed (n ∷ changed)
    then_changed n g was is = record {
      are_placed =
          Each-weaker (λ k. (get old k ≡ None) × (get new k ≢ None)) (λ k. (get old k ≡ None) × (get (change new n g) k ≢ None))
          (λ k h. (h.0, still_changed new n k g h.1)) placed so_far.are_placed;
      are_freed =
          Each-weaker (λ k. (get old k ≢ None) × (get new k ≡ None)) (λ k. (get old k ≢ None) × (get (change new n g) k ≡ None))
          (λ k h. (h.0, changed_elsewhere order same new n k g (λ e. is (ap (get new) (sym e) ∙ h.1)) ∙ h.1)) freed so_far.are_freed;
      are_changed = (
        (was, still_changed new n n g is),
        Each-weaker (λ k. (get old k ≢ None) × (get new k ≢ None))
            (λ k. (get old k ≢ None) × (get (change new n g) k ≢ None)) (λ k h. (h.0, still_changed new n k g h.1)) changed so_far.are_changed,
      );
      others = λ k p f c. changed_elsewhere order same new n k g (λ e. c (inl (sym e))) ∙ so_far.others k p f (λ i. c (inr i));
    }

    -- a name that is freed: it was in use at first, and was not changed before
    pub then_freed : (n : N) → get old n ≢ None → (IsIn n changed → ⊥) → Touched old (remove new n) placed (n ∷ freed) changed
    then_freed n was fresh = record {
      are_placed =
          Each-weaker (λ k. (get old k ≡ None) × (get new k ≢ None)) (λ k. (get old k ≡ None) × (get (remove new n) k ≢ None))
          (λ k h. (h.0, λ e. h.1 (sym (gone_elsewhere order same new n k (λ f. was (ap (get old) (sym f) ∙ h.0))) ∙ e))) placed so_far.are_placed;
      are_freed = (
        (was, gone order same new n),
        Each-weaker (λ k. (get old k ≢ None) × (get new k ≡ None))
            (λ k. (get old k ≢ None) × (get (remove new n) k ≡ None)) (λ k h. (h.0, still_gone new n k h.1)) freed so_far.are_freed,
      );
      are_changed =
          each_from (λ k. (get old k ≢ None) × (get (remove new n) k ≢ None)) changed
          (λ k i. let h = each_in (λ k. (get old k ≢ None) × (get new k ≢ None)) k changed so_far.are_changed
          i in (h.0, λ e. h.1 (sym (gone_elsewhere order same new n k (λ f. fresh (subst (λ z. IsIn z changed) f i))) ∙ e)));
      others = λ k p f c. gone_elsewhere order same new n k (λ e. f (inl (sym e))) ∙ so_far.others k p (λ i. f (inr i)) c;
    }

-- ---- both maps of a store

-- a name of an inner node has an inner kind
abbrev pub IsInner : InnerPtr → Type 0
IsInner p = p.kind ≢ Leaf

-- the names of leaves and of inner nodes among those of all nodes
abbrev pub both_names : List LeafPtr → List InnerPtr → List OpaqueNodePtr
both_names leaves inners = map leaf_name leaves ++ map inner_name inners

module _ {K V : Type 0} (s t : Nodes K V) where
  held_none : (X : Type 0) (f : X → Held K V) (o : Option X) → o ≡ None → option_map f o ≡ None
  held_none X f o e = ap (option_map f) e

  held_some : (X : Type 0) (f : X → Held K V) (o : Option X) → o ≢ None → option_map f o ≢ None
  held_some X f None h e = h refl
  held_some X f (Some x) h e = absurd cc

  -- what holds of the values of listed names holds of what is held under them
  module _ (P Q : (X : Type 0) → Option X → Type 0) (p_held : (X : Type 0) (f : X → Held K V) (o : Option X) → P X o → P (Held K V) (option_map f o))
      (q_held : (X : Type 0) (f : X → Held K V) (o : Option X) → Q X o → Q (Held K V) (option_map f o)) where
    abbrev Listed : OpaqueNodePtr → Type 0
    Listed n = P (Held K V) (content_at s n) × Q (Held K V) (content_at t n)

    both_held : (leaves : List LeafPtr) (inners : List InnerPtr) →
        Each (λ n. P (LeafNode K V) (get s.leaves n) × Q (LeafNode K V) (get t.leaves n)) leaves →
        Each (λ n. P Inner (get s.inners n) × Q Inner (get t.inners n)) inners → Each IsInner inners → Each Listed (both_names leaves inners)
    both_held leaves inners l i k = Each-append Listed (map leaf_name leaves) (map inner_name inners)
        (each_map leaf_name Listed leaves (Each-weaker (λ n. P (LeafNode K V) (get s.leaves n) × Q (LeafNode K V) (get t.leaves n))
        (λ n. Listed (leaf_name n)) (λ n h. (
          p_held (LeafNode K V) held_leaf (get s.leaves n) h.0,
          q_held (LeafNode K V) held_leaf (get t.leaves n) h.1,
        )) leaves l))
        (each_map inner_name Listed inners (each_from (λ n. Listed (inner_name n)) inners (λ n j.
        let h = each_in (λ n. P Inner (get s.inners n) × Q Inner (get t.inners n)) n inners i j in
        let kind = each_in IsInner n inners k j in (
          subst (P (Held K V)) (sym (held_in_inner s n.kind n.slot kind)) (p_held Inner held_inner (get s.inners n) h.0),
          subst (Q (Held K V))
              (sym (held_in_inner t n.kind n.slot kind)) (q_held Inner held_inner (get t.inners n) h.1),
        ))))

  -- the footprint of the writes to both maps
  pub footprint_of : {lp lf lc : List LeafPtr} {ip if_ ic : List InnerPtr} → Touched s.leaves t.leaves lp lf lc →
      Touched s.inners t.inners ip if_ ic → Each IsInner ip → Each IsInner if_ → Each IsInner ic →
      Footprint s t (both_names lp ip) (both_names lf if_) (both_names lc ic)
  footprint_of {lp} {lf} {lc} {ip} {if_} {ic} l i kp kf kc = record {
    are_placed = both_held (λ X o. o ≡ None) (λ X o. o ≢ None) held_none held_some lp ip l.are_placed i.are_placed kp;
    are_freed = both_held (λ X o. o ≢ None) (λ X o. o ≡ None) held_some held_none lf if_ l.are_freed i.are_freed kf;
    are_changed = both_held (λ X o. o ≢ None) (λ X o. o ≢ None) held_some held_some lc ic l.are_changed i.are_changed kc;
    others = λ k p f c. elim (leaf_or k) [
      | inl (q, e) ↦ subst (λ z. content_at t z ≡ content_at s z) (sym e) (ap (option_map held_leaf) (l.others q
          (λ j. p (subst (λ z. IsIn z (both_names lp ip)) (sym e) (in_left (leaf_name q) (map leaf_name lp) (map inner_name ip) (in_map leaf_name q lp j))))
          (λ j. f (subst (λ z. IsIn z (both_names lf if_)) (sym e) (in_left (leaf_name q) (map leaf_name lf) (map inner_name if_) (in_map leaf_name q lf j))))
          (λ j. c (subst (λ z. IsIn z (both_names lc ic)) (sym e) (in_left (leaf_name q) (map leaf_name lc) (map inner_name ic) (in_map leaf_name q lc j))))))
      | inr off ↦
          let q : InnerPtr = record { kind = k.kind; slot = k.slot } in
          held_in_inner t k.kind k.slot off ∙ ap (option_map held_inner) (i.others q
          (λ j. p (in_right k (map leaf_name lp) (map inner_name ip) (in_map inner_name q ip j)))
          (λ j. f (in_right k (map leaf_name lf) (map inner_name if_) (in_map inner_name q if_ j)))
          (λ j. c (in_right k (map leaf_name lc) (map inner_name ic) (in_map inner_name q ic j)))) ∙ sym (held_in_inner s k.kind k.slot off)
    ];
  }

  -- and how much it is at most
  pub touches_at_most : {lp lf lc : List LeafPtr} {ip if_ ic : List InnerPtr} (placed freed changed : ℕ) → Touched s.leaves t.leaves lp lf lc →
      Touched s.inners t.inners ip if_ ic → Each IsInner ip → Each IsInner if_ → Each IsInner ic →
      length lp + length ip ≤ placed → length lf + length if_ ≤ freed → length lc + length ic ≤ changed → TouchesAtMost placed freed changed s t
  touches_at_most {lp} {lf} {lc} {ip} {if_} {ic} placed freed changed l i kp kf kc p f c = (
    both_names lp ip,
    both_names lf if_,
    both_names lc ic,
    footprint_of l i kp kf kc,
    subst (λ z. z ≤ placed) (sym (long lp ip)) p,
    subst
        (λ z. z ≤ freed) (sym (long lf if_)) f,
    subst (λ z. z ≤ changed) (sym (long lc ic)) c,
  )
    where
      long : (leaves : List LeafPtr) (inners : List InnerPtr) → length (both_names leaves inners) ≡ length leaves + length inners
      long leaves inners =
          length-append (map leaf_name leaves) (map inner_name inners)
          ∙ ap₂ (λ a b. a + b) (length-map leaves leaf_name) (length-map inners inner_name)
