-- The pairs that are left after the first pair with a prefix is removed, or all of them.
use Rattle.std.proofs.Common.{◌≡◌, ℕ, suc, ◌+◌, ◌-◌, ◌≤◌, Option, List, [], ◌∷◌, length, refl, ap, sym, ◌∙◌, subst, arith, Some, None, Bool, true, false, not, cond}
use Rattle.std.specs.List.{AllByRecursion as Each}
use Rattle.std.proofs.lemmas.Bool.{true≢false}
use Rattle.art_model.specs.Prelude.{Nodes, OpaqueNodePtr, IsCanonical, ChangesInPlace, are_same, is_front, IsMap, first_of, remove_key, remove_reply, below, not_below, without_below, pairs_of, ForRoot, IsRootOf, Tree}
use Rattle.art_model.proofs.stores.Canonical.{tree_radix}
use Rattle.art_model.proofs.lists.Filters.{filter_all, filter_passes, none_passes}
use Rattle.art_model.proofs.keys.Keys.{front_same, same_equal}
use Rattle.art_model.proofs.lists.Lists.{Each-weaker}
use Rattle.art_model.proofs.pairs.MapLaws.{first_is_removed_by_key}
use Rattle.art_writing.specs.SubtreePoints.{HasPrefixBelow, LeadsToNode, pairs_beside}
use Rattle.art_writing.specs.declared.delete.subtree.SubtreeDeletePoint.{SubtreeDeletePoint}
use Rattle.art_changing.specs.MapPairs.{HoldsPairs}
use Rattle.art_changing.proofs.MapPuts.{HasTreeAt}
use Rattle.art_changing.proofs.ViewsOfPairs.{none_other, with_tree}

module _ {A : Type 0} (bytes : A → List ℕ) (prefix : List ℕ) where
  first_begins : (pairs : List A) (x : A) → first_of (below bytes prefix pairs) ≡ Some x → is_front prefix (bytes x) ≡ true
  first_begins pairs x e = go (below bytes prefix pairs) e (filter_passes (λ y. is_front prefix (bytes y)) pairs)
    where
      go : (ys : List A) → first_of ys ≡ Some x → Each (λ y. is_front prefix (bytes y) ≡ true) ys → is_front prefix (bytes x) ≡ true
      go [] is h = absurd cc
      go (y ∷ ys) is h = let same : y ≡ x = cc in subst (λ q. is_front prefix (bytes q) ≡ true) same h.0

  -- two keys of which only one starts with the prefix are unequal
  other_key : (x y : A) → is_front prefix (bytes x) ≡ true → is_front prefix (bytes y) ≡ false → are_same (bytes x) (bytes y) ≡ false
  other_key x y begins off = go (are_same (bytes x) (bytes y)) refl
    where
      go : (b : Bool) → are_same (bytes x) (bytes y) ≡ b → b ≡ false
      go false e = refl
      go true e = absurd (true≢false (sym begins ∙ ap (is_front prefix) (sym (same_equal (bytes x) (bytes y) e)) ∙ off))

  -- the first of these pairs is found by its key, and the removal of its key removes it
  pub first_below : (pairs : List A) (x : A) → IsMap bytes pairs → first_of (below bytes prefix pairs) ≡ Some x →
      (remove_reply bytes (bytes x) pairs ≡ Some x) × (remove_key bytes (bytes x) pairs ≡ without_below bytes prefix 1 pairs)
  first_below [] x rising e = absurd cc
  first_below (y ∷ ys) x rising e = go (λ later. first_below ys x rising.1 later) (is_front prefix (bytes y)) refl e
    where
      go : (first_of (below bytes prefix ys) ≡ Some x →
          (remove_reply bytes (bytes x) ys ≡ Some x) × (remove_key bytes (bytes x) ys ≡ without_below bytes prefix 1 ys)) →
          (b : Bool) → is_front prefix (bytes y) ≡ b → first_of (cond b (y ∷ below bytes prefix ys) (below bytes prefix ys)) ≡ Some x →
          (remove_reply bytes (bytes x) (y ∷ ys) ≡ Some x) × (remove_key bytes (bytes x) (y ∷ ys) ≡ cond b ys (y ∷ without_below bytes prefix 1 ys))
      go ih true is f =
          let same : y ≡ x = cc in
          subst (λ q. (remove_reply bytes (bytes q) (y ∷ ys) ≡ Some q) × (remove_key bytes (bytes q) (y ∷ ys) ≡ ys)) same
          (rw (front_same (bytes y)) refl, first_is_removed_by_key bytes y ys rising)
      go ih false is f =
          let (reply, left) = ih f in
          let off = other_key x y (first_begins ys x f) is in
          (rw off reply, rw off (ap (λ zs. y ∷ zs) left))

  -- if there are no such pairs, all stay
  pub nothing_out : (pairs : List A) → None ≡ first_of (below bytes prefix pairs) → without_below bytes prefix 1 pairs ≡ pairs
  nothing_out [] none = refl
  nothing_out (y ∷ ys) none = go (nothing_out ys) (is_front prefix (bytes y)) refl none
    where
      go : (None ≡ first_of (below bytes prefix ys) → without_below bytes prefix 1 ys ≡ ys) → (b : Bool) → is_front prefix (bytes y) ≡ b →
          None ≡ first_of (cond b (y ∷ below bytes prefix ys) (below bytes prefix ys)) → cond b ys (y ∷ without_below bytes prefix 1 ys) ≡ y ∷ ys
      go ih true is f = absurd cc
      go ih false is f = ap (λ zs. y ∷ zs) (ih f)

  -- if no key starts with the prefix, all stay
  none_below : (pairs : List A) → below bytes prefix pairs ≡ [] → not_below bytes prefix pairs ≡ pairs
  none_below pairs none =
      filter_all (λ x. not (is_front prefix (bytes x))) pairs
      (Each-weaker (λ x. is_front prefix (bytes x) ≡ false) (λ x. not (is_front prefix (bytes x)) ≡ true) (λ x e. ap not e) pairs
      (none_passes (λ x. is_front prefix (bytes x)) pairs none))

  -- each key starts with the prefix or does not
  both_counted : (pairs : List A) → length (not_below bytes prefix pairs) + length (below bytes prefix pairs) ≡ length pairs
  both_counted [] = refl
  both_counted (y ∷ ys) = go (both_counted ys) (is_front prefix (bytes y))
    where
      go : length (not_below bytes prefix ys) + length (below bytes prefix ys) ≡ length ys → (b : Bool) →
          length (cond (not b) (y ∷ not_below bytes prefix ys) (not_below bytes prefix ys)) + length
          (cond b (y ∷ below bytes prefix ys) (below bytes prefix ys)) ≡ suc (length ys)
      go ih true = omega arith
      go ih false = omega arith

-- ---- all of them are removed at once

-- without a root there are no pairs
pub none_held : {K V : Type 0} (bytes : K × V → List ℕ) (P : ℕ) {s : Nodes K V} {root : Option OpaqueNodePtr} {len : ℕ}
    {pairs : List (K × V)} → root ≡ None → HoldsPairs bytes P s root len pairs → pairs ≡ []
none_held {K} {V} bytes P {s} {root} {len} {pairs} none is = go is.tree (subst (λ r. IsRootOf bytes P s r pairs is.tree) none is.canonical)
  where
    go : (tree : Option (Tree OpaqueNodePtr (K × V))) → IsRootOf bytes P s None pairs tree → pairs ≡ []
    go None h = h
    go (Some layout) h = absurd h

module _ {K V : Type 0} (bytes : K × V → List ℕ) (P : ℕ) {s : Nodes K V} {name : OpaqueNodePtr} {len : ℕ} {pairs : List (K × V)}
    (has : HasTreeAt bytes P s name len pairs)
    (prefix : List ℕ) where
  -- if no key starts with the prefix
  pub none_begins : below bytes prefix (pairs_of has.layout) ≡ [] → (not_below bytes prefix pairs ≡ pairs) × (0 ≡ length (below bytes prefix pairs))
  none_begins none =
      let nothing : below bytes prefix pairs ≡ [] = ap (below bytes prefix) (sym (tree_radix has.by).1) ∙ none in
      (none_below bytes prefix pairs nothing, ap length (sym nothing))

  module _ {point : SubtreeDeletePoint} (at : HasPrefixBelow bytes prefix has.layout point) {removed : ℕ}
      (counted : (node : LeadsToNode has.layout point) → removed ≡ length (pairs_of node.node)) where
    pub removed_is : removed ≡ length (below bytes prefix pairs)
    removed_is = counted at.at ∙ ap length (at.gone ∙ ap (below bytes prefix) (tree_radix has.by).1)

    pub removed_few : removed ≤ len
    removed_few = let all = both_counted bytes prefix pairs in let own = removed_is in let long = has.len_is in omega arith

    pub others_hold : {t : Nodes K V} {root : Option OpaqueNodePtr} → ((node : LeadsToNode has.layout point) → IsCanonical bytes P t root (pairs_beside node)) →
        ForRoot bytes P t root (λ after new. ChangesInPlace bytes s t (Some has.layout) new) →
        HoldsPairs bytes P t root (len - removed) (not_below bytes prefix pairs)
    others_hold {t} {root} canonical kept =
        let (tree, root_of) = with_tree bytes P t root (not_below bytes prefix pairs)
        (subst (IsCanonical bytes P t root) (at.left ∙ ap (not_below bytes prefix) (tree_radix has.by).1) (canonical at.at)) in
        record {
          tree = tree;
          canonical = root_of;
          no_other = none_other (kept _ tree root_of).others has.no_other;
          len_is = let all = both_counted bytes prefix pairs in let own = removed_is in let long = has.len_is in omega arith;
        }
