-- Pairs that are removed.
use Rattle.std.proofs.Common.{◌≡◌, ℕ, ◌-◌, ◌≤◌, List, [], ◌∷◌, ◌++◌, length, filter, refl, ap, sym, ◌∙◌, subst, arith, Option, Some, None, Bool, true, false, IfSome}
use Rattle.std.specs.FinMap.{get}
use Rattle.art_model.specs.Prelude.{leaf_name, Nodes, LeafNode, OpaqueNodePtr, IsCanonicalTree, IsCanonical, IsIn, ChangesInPlace, are_same, names_of, IsMap, first_of, without_first, of_key, remove_key, with_key, pairs_before, pairs_after, pairs_of, ForRoot, content_at, pair_of, Tree, leaf}
use Rattle.art_model.proofs.stores.Canonical.{tree_radix}
use Rattle.art_model.proofs.keys.Keys.{front_same}
use Rattle.art_model.proofs.pairs.MapLaws.{keys_are_once, removal_counts, first_is_removed_by_key}
use Rattle.art_model.proofs.places.Paths.{pairs_of-plug}
use Rattle.art_model.proofs.stores.StoreLaws.{has_one_map}
use Rattle.art_writing.specs.Deleted.{IsDeletePoint, LeadsTo}
use Rattle.art_writing.specs.Inserted.{unlinked_leaf}
use Rattle.art_writing.specs.declared.delete.DeletePoint.{DeletePoint}
use Rattle.art_writing.proofs.KeysFound.{deleted_pair}
use Rattle.art_changing.specs.PairChanges.{HasTaken}
use Rattle.art_changing.specs.MapPairs.{HoldsPairs}
use Rattle.art_changing.proofs.MapPuts.{at_root}
use Rattle.art_changing.proofs.ViewsOfPairs.{none_other, with_tree}

module _ {A : Type 0} (bytes : A → List ℕ) where
  -- a filter that an item passes leaves at least one
  some_pass : (test : A → Bool) (l r : List A) (x : A) → test x ≡ true → 1 ≤ length (filter test (l ++ (x ∷ []) ++ r))
  some_pass test [] r x e = rw e (omega arith)
  some_pass test (y ∷ l) r x e = go (some_pass test l r x e) (test y) refl
    where
      go : 1 ≤ length (filter test (l ++ (x ∷ []) ++ r)) → (b : Bool) → test y ≡ b → 1 ≤ length (filter test (y ∷ l ++ (x ∷ []) ++ r))
      go ih true f = rw f (omega arith)
      go ih false f = rw f ih

  -- the removal of a key of a map removes one pair
  one_less : (l m r pairs : List A) (x : A) → l ++ m ++ r ≡ pairs → m ≡ x ∷ [] → IsMap bytes pairs →
      length (remove_key bytes (bytes x) pairs) ≡ length pairs - 1
  one_less l m r pairs x e own rising =
      let counts = removal_counts bytes (bytes x) pairs in
      let once = keys_are_once bytes (bytes x) pairs rising in
      let whole = subst (λ ys. l ++ ys ++ r ≡ pairs) own e in
      let here : 1 ≤ length (with_key bytes (bytes x) pairs) = subst (λ xs. 1 ≤ length (with_key bytes (bytes x) xs)) whole
      (some_pass (λ y. are_same (bytes x) (bytes y)) l r x (front_same (bytes x))) in
      omega arith

module _ {K V : Type 0} (bytes : K → List ℕ) (P : ℕ) {s : Nodes K V} {name : OpaqueNodePtr} {pairs : List (K × V)} {layout : Tree OpaqueNodePtr (K × V)}
    (by : IsCanonicalTree (of_key bytes) P s name pairs layout) where
  -- a store that holds pairs holds those of each tree of its root
  pub for_tree : {len : ℕ} {others : List (K × V)} → HoldsPairs (of_key bytes) P s (Some name) len others →
      ((k : OpaqueNodePtr) → (IsIn k (names_of layout) → ⊥) → content_at s k ≡ None) × (len ≡ length pairs)
  for_tree {len} is =
      let has = at_root (of_key bytes) P is in
      let same = has_one_map (of_key bytes) P s name pairs _ layout has.layout by has.by in
      (subst (λ l. (k : OpaqueNodePtr) → (IsIn k (names_of l) → ⊥) → content_at s k ≡ None) same.1 has.no_other, has.len_is ∙ ap length same.0)

  -- what an applied delete point leaves
  pub taken : {t : Nodes K V} {root : Option OpaqueNodePtr} {len : ℕ} {others : List (K × V)} {x : K × V} {point : DeletePoint} (gone : LeafNode K V) →
      HoldsPairs (of_key bytes) P s (Some name) len others → LeadsTo layout x point →
      IfSome (get s.leaves point.leaf_node_ptr) (λ node. gone ≡ unlinked_leaf (pair_of node)) →
      IsCanonical (of_key bytes) P t root (remove_key (of_key bytes) (bytes gone.key) pairs) →
      ForRoot (of_key bytes) P t root (λ after new. ChangesInPlace (of_key bytes) s t (Some layout) new) →
      HoldsPairs (of_key bytes) P t root (len - 1) (remove_key (of_key bytes) (bytes x.0) pairs) × (Some (gone.key, gone.value) ≡ Some x)
  taken {t} {root} {len} {others} {x} {point} gone is leads told canonical kept =
      let pair = deleted_pair bytes P gone by leads told in
      let (tree, root_of) =
      with_tree (of_key bytes) P t root _ (subst
      (λ q. IsCanonical (of_key bytes) P t root (remove_key (of_key bytes) (bytes q.0) pairs)) pair canonical) in
      let (other, counted) = for_tree is in
      let whole : pairs_before leads.path ++ pairs_of (leaf (leaf_name point.leaf_node_ptr) x) ++ pairs_after leads.path ≡ pairs = sym
      (pairs_of-plug leads.path (leaf (leaf_name point.leaf_node_ptr) x)) ∙ ap pairs_of leads.whole ∙ (tree_radix by).1 in (
        record {
          tree = tree;
          canonical = root_of;
          no_other = none_other (kept _ tree root_of).others other;
          len_is =
              ap (λ n. n - 1) counted ∙ sym (one_less (of_key bytes) (pairs_before leads.path) (pairs_of (leaf (leaf_name point.leaf_node_ptr) x))
              (pairs_after leads.path) pairs x whole refl by.is_map);
        },
        ap Some pair,
      )

-- the first pair is removed with its key
module _ {A : Type 0} (bytes : A → List ℕ) where
  pub first_goes : (pairs : List A) (x : A) → IsMap bytes pairs → first_of pairs ≡ Some x → remove_key bytes (bytes x) pairs ≡ without_first pairs
  first_goes [] x rising e = absurd cc
  first_goes (y ∷ rest) x rising e =
      let same : y ≡ x = cc in subst (λ q. remove_key bytes (bytes q) (y ∷ rest) ≡ rest) same (first_is_removed_by_key bytes y rest rising)

module _ {K V : Type 0} (bytes : K → List ℕ) (P : ℕ) (layout : Tree OpaqueNodePtr (K × V)) where
  -- a point takes the pair that is wanted, and leaves what is left without its key
  pub point_taken : (pairs : List (K × V)) {left : List (K × V)} {t : Nodes K V} {root : Option OpaqueNodePtr} {len : ℕ} {got : K × V}
      (point : DeletePoint) (wanted : Option (K × V)) → IsDeletePoint layout wanted (Some point) →
      ((x : K × V) → wanted ≡ Some x → remove_key (of_key bytes) (bytes x.0) pairs ≡ left) →
      ((x : K × V) → LeadsTo layout x point → HasTaken bytes P (Some x) (remove_key (of_key bytes) (bytes x.0) pairs) (Some got) t root len) →
      HasTaken bytes P wanted left (Some got) t root len
  point_taken pairs point None leads same taken = absurd leads
  point_taken pairs {t = t} {root = root} {len = len} {got = got} point (Some x) leads same taken =
      subst (λ rest. HasTaken bytes P (Some x) rest (Some got) t root len) (same x refl) (taken x leads)

  -- without a point no pair is wanted, and all are left
  pub nothing_taken : {pairs left : List (K × V)} {s : Nodes K V} {root : Option OpaqueNodePtr} {len : ℕ} (wanted : Option (K × V)) →
      IsDeletePoint layout wanted None → (wanted ≡ None → left ≡ pairs) → HoldsPairs (of_key bytes) P s root len pairs →
      HasTaken bytes P wanted left None s root len
  nothing_taken {s = s} {root = root} {len = len} None none same holds =
      (subst (HoldsPairs (of_key bytes) P s root len) (sym (same refl)) holds, refl)
  nothing_taken (Some x) none same holds = absurd none
