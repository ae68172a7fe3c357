-- What holds while a closure changes values of a map, leaf by leaf.
use Rattle.std.proofs.Common.{◌≡◌, ◌≢◌, ℕ, ◌<◌, ◌≤◌, List, [], ◌∷◌, ◌++◌, length, filter, Bool, true, false, cond, not, refl, ap, ap₂, sym, option_map}
use Rattle.std.proofs.Common.{◌∙◌, subst, arith, append_assoc, append-nil, Option, Some, None, inl, inr}
use Rattle.std.specs.FinMap.{get}
use Rattle.std.specs.List.{AllByRecursion as Each}
use Rattle.art_model.specs.Prelude.{with_value, with_leaf_value, Nodes, leaf_name, LeafNode, LeafPtr, OpaqueNodePtr, Precedes, are_same, AreDistinct, AreLinked, IsMap, first_of, of_key, without_first, links_at, pair_of}
use Rattle.art_nodes.proofs.StoreChanges.{leaf_changed_at, leaf_changed_elsewhere}
use Rattle.art_model.specs.Gains.{as_leaf}
use Rattle.art_model.proofs.leaves.Chains.{links_inner, links_leaf}
use Rattle.art_model.proofs.keys.Keys.{front_same, same_equal}
use Rattle.art_model.proofs.leaves.Leaves.{same_leaf}
use Rattle.art_model.proofs.lists.Filters.{Pairwise-filter, filter_passes}
use Rattle.art_model.proofs.lists.Pairwises.{Pairwise-after, Pairwise-before}
use Rattle.art_model.proofs.stores.Views.{leaf_or}
use Rattle.art_reading.specs.Iterators.{IsIteratorOf}
use Rattle.art_reading.proofs.Iterators as iterators
use Rattle.art_reading.proofs.PairsLeft.{first_left, less_first, named_pairs, none_first, one_pair}
use Rattle.art_changing.specs.MapAnswers.{with_value_at}
use Rattle.art_map.specs.MapCalls.{ChangesBy}
use Rattle.art_map.specs.MapChanges.{ChangesLeaf, HasChanged}
use Rattle.art_iterating.specs.MapItems.{IsRange, keys_of, pairs_between, walk_len}
use Rattle.art_changing.specs.MapPairs.{HoldsPairs, pairs_at}
use Rattle.art_map.proofs.LeafOf.{leaf_of_map}
use Rattle.art_iterating.proofs.Ranges.{between_are, walk_counted}
use Rattle.art_map.proofs.ValueLaws.{written_between}
use Rattle.art_changing.proofs.ViewsOfPairs.{holds, map_held, view_of}
use Rattle.art_map.proofs.WrittenValues.{value_written}

module _ {K V F : Type 0} (calls : F → K × V → F → V → Type 0) where
  -- f was called on some pairs and then on one more
  changes_one : (xs ys : List (K × V)) (x : K × V) (f next left : F) (w : V) → ChangesBy calls f xs ys next → calls next x left w →
      ChangesBy calls f (xs ++ x ∷ []) (ys ++ (x.0, w) ∷ []) left
  changes_one [] ys x f next left w h called = rw h.0 (w, left, [], subst (λ z. calls z x left w) (sym h.1) called, (refl, refl), refl)
  changes_one (z ∷ xs) ys x f next left w (value, then, rest, first, h, is) called =
      (value, then, rest ++ (x.0, w) ∷ [], first, changes_one xs rest x then next left w h called, ap (λ zs. zs ++ (x.0, w) ∷ []) is)

module _ {K V : Type 0} (s : Nodes K V) (p : LeafPtr) (node : LeafNode K V) (w : V) (there : get s.leaves p ≡ Some node) where
  abbrev t : Nodes K V
  t = with_leaf_value s p w

  -- all links are unchanged where a leaf gets another value
  links_stay : (k : OpaqueNodePtr) → links_at t k ≡ links_at s k
  links_stay k = elim (leaf_or k) [
    | inl (q, e) ↦ subst (λ (z : OpaqueNodePtr). links_at t z ≡ links_at s z) (sym e) (elim (same_leaf q p) [
      | inl here ↦ subst (λ z. links_at t (leaf_name z) ≡ links_at s (leaf_name z)) (sym here)
          (links_leaf t p (Some (with_value w node)) (leaf_changed_at s.leaves p (with_value w) ∙ ap (option_map (with_value w)) there)
          ∙ sym (links_leaf s p (Some node) there))
      | inr off ↦ links_leaf t q (get s.leaves q) (leaf_changed_elsewhere s.leaves p q (with_value w) off)
    ])
    | inr off ↦ links_inner t k off ∙ sym (links_inner s k off)
  ]

  -- and so are the pairs of leaves with other names
  pairs_stay : (names : List OpaqueNodePtr) (before after : Option OpaqueNodePtr) → AreLinked (links_at s) before names after →
      Each (λ k. leaf_name p ≢ k) names →
      named_pairs t names ≡ named_pairs s names
  pairs_stay [] before after linked off = refl
  pairs_stay (n ∷ ns) before after linked off = elim (leaf_or n) [
    | inl (q, e) ↦
        let other : as_leaf n ≢ p = λ same. off.0 (ap leaf_name (sym same ∙ ap as_leaf e) ∙ sym e) in
        ap₂ (λ o xs. one_pair s o ++ xs) (leaf_changed_elsewhere s.leaves p (as_leaf n) (with_value w) other) (pairs_stay ns (Some n) after linked.1 off.1)
    | inr inner ↦ let none = links_inner s n inner in let some = linked.0 in absurd cc
  ]

module _ {K V : Type 0} (bytes : K → List ℕ) (P : ℕ) where
  -- one value of a map is replaced
  written_inside : (l r : List (K × V)) (x : K × V) (w : V) → IsMap (of_key bytes) (l ++ x ∷ r) →
      with_value_at bytes (bytes x.0) w (l ++ x ∷ r) ≡ l ++ (x.0, w) ∷ r
  written_inside l r x w rising =
      let here : with_value_at bytes (bytes x.0) w (x ∷ []) ≡ (x.0, w) ∷ [] = rw (front_same (bytes x.0)) refl in
      ap (with_value_at bytes (bytes x.0) w) (sym (append_assoc l (x ∷ []) r))
      ∙ written_between bytes (bytes x.0) w l (x ∷ []) r (Pairwise-before _ l r x rising) (Pairwise-after _ l r x rising) ∙ ap (λ ys. l ++ ys ++ r) here
      ∙ append_assoc l ((x.0, w) ∷ []) r

-- what holds of each holds of one in the middle
Each-here : {A : Type 0} (P : A → Type 0) (l r : List A) (x : A) → Each P (l ++ x ∷ r) → P x
Each-here P [] r x h = h.0
Each-here P (y ∷ l) r x h = Each-here P l r x h.1

module _ {K V : Type 0} (bytes : K → List ℕ) (key : List ℕ) (w : V) where
  -- another value under a key keeps the keys
  keys_written : (xs : List (K × V)) → keys_of (with_value_at bytes key w xs) ≡ keys_of xs
  keys_written [] = refl
  keys_written (x ∷ xs) = go (keys_written xs) (are_same key (bytes x.0))
    where
      go : keys_of (with_value_at bytes key w xs) ≡ keys_of xs → (b : Bool) → keys_of (cond b (x.0, w) x ∷ with_value_at bytes key w xs) ≡ keys_of (x ∷ xs)
      go ih true = ap (λ ks. x.0 ∷ ks) ih
      go ih false = ap (λ ks. x.0 ∷ ks) ih

  module _ (test : List ℕ → Bool) where
    abbrev those : List (K × V) → List (K × V)
    those xs = filter (λ x. test (bytes x.0)) xs

    abbrev pub others : List (K × V) → List (K × V)
    others xs = filter (λ x. not (test (bytes x.0))) xs

    -- so the same pairs pass a test of their keys
    those_written : (xs : List (K × V)) → those (with_value_at bytes key w xs) ≡ with_value_at bytes key w (those xs)
    those_written [] = refl
    those_written (x ∷ xs) = go (those_written xs) (are_same key (bytes x.0)) (test (bytes x.0)) refl refl
      where
        go : those (with_value_at bytes key w xs) ≡ with_value_at bytes key w (those xs) → (b d : Bool) → are_same key (bytes x.0) ≡ b → test (bytes x.0) ≡ d →
            those (with_value_at bytes key w (x ∷ xs)) ≡ with_value_at bytes key w (those (x ∷ xs))
        go ih true true e f = rw (e, f) (rw e (ap (λ ys. (x.0, w) ∷ ys) ih))
        go ih true false e f = rw (e, f) ih
        go ih false true e f = rw (e, f) (rw e (ap (λ ys. x ∷ ys) ih))
        go ih false false e f = rw (e, f) ih

    -- and those that fail it are unchanged, if the key passes
    others_written : test key ≡ true → (xs : List (K × V)) → others (with_value_at bytes key w xs) ≡ others xs
    others_written passes [] = refl
    others_written passes (x ∷ xs) = go (others_written passes xs) (are_same key (bytes x.0)) (test (bytes x.0)) refl refl
      where
        go : others (with_value_at bytes key w xs) ≡ others xs → (b d : Bool) → are_same key (bytes x.0) ≡ b → test (bytes x.0) ≡ d →
            others (with_value_at bytes key w (x ∷ xs)) ≡ others (x ∷ xs)
        go ih true d e f = let is : test (bytes x.0) ≡ true = ap test (same_equal key (bytes x.0) e) ∙ passes in rw (e, is) ih
        go ih false true e f = rw (e, f) ih
        go ih false false e f = rw (e, f) (ap (λ ys. x ∷ ys) ih)

module _ {K V F : Type 0} (bytes : K → List ℕ) (P : ℕ) (calls : F → K × V → F → V → Type 0) (root : Option OpaqueNodePtr) (len : ℕ)
    (began : F) (first before : List (K × V)) where
  -- f was called on some of the pairs that pass a test, and the others of them are left
  pub record ChangedThose (test : List ℕ → Bool) (f : F) (left now : List (K × V)) : Type 0 where
    pub seen : List (K × V)
    pub done : List (K × V)
    pub first_is : first ≡ seen ++ left
    pub now_is : filter (λ x. test (bytes x.0)) now ≡ done ++ left
    pub others : filter (λ x. not (test (bytes x.0))) now ≡ filter (λ x. not (test (bytes x.0))) before
    pub changed : ChangesBy calls began seen done f

  -- What holds before each step: an iterator has those pairs left.
  pub record Changing (f : F) (s : Nodes K V) (walk : Option (LeafPtr × LeafPtr)) : Type 0 where
    pub names : List OpaqueNodePtr
    pub is : IsIteratorOf s walk names
    pub few : length names ≤ len
    pub held : HoldsPairs (of_key bytes) P s root len (pairs_at s root)
    pub keys : keys_of (pairs_at s root) ≡ keys_of before
    pub so_far : (test : List ℕ → Bool) → first ≡ filter (λ x. test (bytes x.0)) before → ChangedThose test f (named_pairs s names) (pairs_at s root)

  pub begins : {s : Nodes K V} {walk : Option (LeafPtr × LeafPtr)} → IsRange s walk len → first ≡ pairs_between s walk len → before ≡ pairs_at s root →
      HoldsPairs (of_key bytes) P s root len (pairs_at s root) → Changing began s walk
  begins {s} {walk} range first_is before_is held =
      let named = first_is ∙ between_are s walk range.names len range.is range.few in
      record {
        names = range.names;
        is = range.is;
        few = range.few;
        held = held;
        keys = ap keys_of (sym before_is);
        so_far = λ test those.
            record {
              seen = [];
              done = [];
              first_is = named;
              now_is = ap (filter (λ x. test (bytes x.0))) (sym before_is) ∙ sym those ∙ named;
              others = ap (filter (λ x. not (test (bytes x.0)))) (sym before_is);
              changed = (refl, refl);
            };
      }

  module _ {f : F} {s : Nodes K V} {walk : Option (LeafPtr × LeafPtr)} (now : Changing f s walk) where
    -- no leaf is left
    pub ends : None ≡ first_of now.names → HasChanged bytes P calls began first before f s root len
    ends none = record { holds = now.held; keys = now.keys; those = λ test is. those test is (now.so_far test is) }
      where
        gone : now.names ≡ []
        gone = none_first now.names none

        those : (test : List ℕ → Bool) → first ≡ filter (λ x. test (bytes x.0)) before → ChangedThose test f (named_pairs s now.names) (pairs_at s root) →
            ChangesBy calls began (filter (λ x. test (bytes x.0)) before) (filter (λ x. test (bytes x.0)) (pairs_at s root)) f ×
            (filter (λ x. not (test (bytes x.0))) (pairs_at s root) ≡ filter (λ x. not (test (bytes x.0))) before)
        those test is far =
            let seen_is = sym is ∙ far.first_is ∙ ap (λ ns. far.seen ++ named_pairs s ns) gone ∙ append-nil far.seen in
            let done_is = far.now_is ∙ ap (λ ns. far.done ++ named_pairs s ns) gone ∙ append-nil far.done in
            (rw (seen_is, done_is) far.changed, far.others)

    module _ {rest : Option (LeafPtr × LeafPtr)} {p : LeafPtr} (top : Some (leaf_name p) ≡ first_of now.names)
        (after : IsIteratorOf s rest (without_first now.names))
        (node : LeafNode K V) (w : V) (there : get s.leaves p ≡ Some node) where
      abbrev u : Nodes K V
      u = with_leaf_value s p w

      abbrev rest_names : List OpaqueNodePtr
      rest_names = without_first now.names

      parts : named_pairs s now.names ≡ pair_of node ∷ named_pairs s rest_names
      parts = first_left s now.names p (pair_of node) top (ap (option_map pair_of) there)

      kept : named_pairs u rest_names ≡ named_pairs s rest_names
      kept = pairs_stay s p node w there rest_names after.segment.before after.segment.after after.segment.linked
          (apart_first now.names top now.is.segment.distinct)
        where
          apart_first : (names : List OpaqueNodePtr) → Some (leaf_name p) ≡ first_of names → AreDistinct names →
              Each (λ k. leaf_name p ≢ k) (without_first names)
          apart_first [] e distinct = absurd cc
          apart_first (n ∷ ns) e distinct = let same : n ≡ leaf_name p = cc in subst (λ z. Each (λ k. z ≢ k) ns) same distinct.0

      written : HoldsPairs (of_key bytes) P u root len (with_value_at bytes (bytes node.key) w (pairs_at s root))
      written = value_written bytes P (bytes node.key) (leaf_of_map bytes P there now.held) now.held w

      view : pairs_at u root ≡ with_value_at bytes (bytes node.key) w (pairs_at s root)
      view = view_of (of_key bytes) P u written

      -- the store still stands for pairs with these keys
      pub held_after : HoldsPairs (of_key bytes) P u root len (pairs_at u root)
      held_after = holds (of_key bytes) P u written

      pub keys_after : keys_of (pairs_at u root) ≡ keys_of before
      keys_after = ap keys_of view ∙ keys_written bytes (bytes node.key) w (pairs_at s root) ∙ now.keys

      module _ (test : List ℕ → Bool) (far : ChangedThose test f (named_pairs s now.names) (pairs_at s root)) where
        those_parts : filter (λ x. test (bytes x.0)) (pairs_at s root) ≡ far.done ++ pair_of node ∷ named_pairs s rest_names
        those_parts = far.now_is ∙ ap (λ xs. far.done ++ xs) parts

        rising : IsMap (of_key bytes) (far.done ++ pair_of node ∷ named_pairs s rest_names)
        rising = subst (IsMap (of_key bytes)) those_parts
            (Pairwise-filter (λ x y. Precedes (bytes x.0) (bytes y.0)) (λ x. test (bytes x.0)) (pairs_at s root) (map_held (of_key bytes) P s now.held))

        -- of the pairs that pass a test, one has another value
        pub those_after : filter (λ x. test (bytes x.0)) (pairs_at u root) ≡ far.done ++ (node.key, w) ∷ named_pairs u rest_names
        those_after =
            ap (filter (λ x. test (bytes x.0))) view ∙ those_written bytes (bytes node.key) w test (pairs_at s root)
            ∙ ap (with_value_at bytes (bytes node.key) w) those_parts
            ∙ written_inside bytes P far.done (named_pairs s rest_names) (pair_of node) w rising ∙ ap (λ xs. far.done ++ (node.key, w) ∷ xs) (sym kept)

        -- and the others are unchanged
        pub others_after : filter (λ x. not (test (bytes x.0))) (pairs_at u root) ≡ filter (λ x. not (test (bytes x.0))) before
        others_after =
            let passes = Each-here (λ x. test (bytes x.0) ≡ true) far.done (named_pairs s rest_names) (pair_of node)
            (subst (Each (λ x. test (bytes x.0) ≡ true)) those_parts (filter_passes (λ x. test (bytes x.0)) (pairs_at s root))) in
            ap (filter (λ x. not (test (bytes x.0)))) view ∙ others_written bytes (bytes node.key) w test passes (pairs_at s root) ∙ far.others

        pub first_after : first ≡ far.seen ++ pair_of node ∷ named_pairs u rest_names
        first_after = far.first_is ∙ ap (λ xs. far.seen ++ xs) parts ∙ ap (λ xs. far.seen ++ pair_of node ∷ xs) (sym kept)

      -- f was called on the pair of the next leaf
      step : {left : F} → calls f (pair_of node) left w → (next : Changing left u rest) × (length next.names < length now.names)
      step {left} called =
          let few = now.few in
          let less = less_first now.names (leaf_name p) top in (
            record {
              names = rest_names;
              is = iterators.goes_on s u rest rest_names after (λ k i. links_stay s p node w there k);
              few = omega arith;
              held = held_after;
              keys = keys_after;
              so_far = λ test is.
                  let far = now.so_far test is in
                  record {
                    seen = far.seen ++ pair_of node ∷ [];
                    done = far.done ++ (node.key, w) ∷ [];
                    first_is = first_after test far ∙ sym (append_assoc far.seen (pair_of node ∷ []) (named_pairs u rest_names));
                    now_is = those_after test far ∙ sym (append_assoc far.done ((node.key, w) ∷ []) (named_pairs u rest_names));
                    others = others_after test far;
                    changed = changes_one calls far.seen far.done (pair_of node) began f left w far.changed called;
                  };
            },
            omega arith,
          )

    module _ {rest : Option (LeafPtr × LeafPtr)} {p : LeafPtr} {left : F} {t : Nodes K V} (top : Some (leaf_name p) ≡ first_of now.names)
        (after : IsIteratorOf s rest (without_first now.names)) (changes : ChangesLeaf calls p f s left t) where
      -- and one less is left
      stepped : (next : Changing left t rest) × (length next.names < length now.names)
      stepped =
          let (node, w, there, called, is) = changes in
          subst (λ u. (next : Changing left u rest) × (length next.names < length now.names)) (sym is) (step top after node w there called)

      pub goes_on : Changing left t rest
      goes_on = stepped.0

      pub fewer : walk_len t rest len < walk_len s walk len
      fewer =
          let (next, less) = stepped in
          let was = walk_counted s walk now.names len now.is now.few in
          let is = walk_counted t rest next.names len next.is next.few in
          omega arith

-- ---- after the last step

filter_every : {A : Type 0} (xs : List A) → filter (λ _. true) xs ≡ xs
filter_every [] = refl
filter_every (x ∷ xs) = ap (λ ys. x ∷ ys) (filter_every xs)

module _ {K V F : Type 0} {bytes : K → List ℕ} {P : ℕ} {calls : F → K × V → F → V → Type 0} {began left : F} {first before : List (K × V)} {t : Nodes K V}
    {root : Option OpaqueNodePtr} {len : ℕ} (changed : HasChanged bytes P calls began first before left t root len) where
  -- an iterator over all pairs had each
  pub all_changed : first ≡ before → ChangesBy calls began before (pairs_at t root) left
  all_changed is =
      let (those, others) = changed.those (λ _. true) (is ∙ sym (filter_every before)) in
      subst (λ xs. ChangesBy calls began xs (pairs_at t root) left) (filter_every before)
      (subst (λ ys. ChangesBy calls began (filter (λ _. true) before) ys left) (filter_every (pairs_at t root)) those)

-- ---- a closure that calls another one, whose state it holds

module _ {C K V : Type 0} (calls : C → K × V → C → V → Type 0) where
  -- the calls of the other one
  pub changes_inside : {F : Type 0} (other : F → K × V → F → V → Type 0) (inside : C → F) →
      ((f : C) (x : K × V) (next : C) (w : V) → calls f x next w → other (inside f) x (inside next) w) → (f : C) (before after : List (K × V)) (left : C) →
      ChangesBy calls f before after left → ChangesBy other (inside f) before after (inside left)
  changes_inside other inside one f [] after left h = (h.0, ap inside h.1)
  changes_inside other inside one f (x ∷ xs) after left (value, next, rest, called, h, is) =
      (value, inside next, rest, one f x next value called, changes_inside other inside one next xs rest left h, is)

  -- what each call keeps true of a closure's state, all calls keep true
  pub changes_hold : (Good : C → Type 0) → ((f : C) (x : K × V) (next : C) (w : V) → calls f x next w → Good f → Good next) →
      (f : C) (before after : List (K × V)) (left : C) →
      ChangesBy calls f before after left → Good f → Good left
  changes_hold Good one f [] after left h good = subst Good h.1 good
  changes_hold Good one f (x ∷ xs) after left (value, next, rest, called, h, is) good =
      changes_hold Good one next xs rest left h (one f x next value called good)
