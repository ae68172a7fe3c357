-- Lemmas for callers' proofs that no clause states: about canonical roots, disjoint trees, iterations and folds, what stays while nodes are removed, and maps.
use Rattle.std.proofs.Common.{◌≡◌, ◌≢◌, ◌<◌, ◌≤◌, ◌⊎◌, inl, inr, ℕ, List, [], ◌∷◌, length, Bool, true, false, Option, Some, IfSome, refl, ap, sym, subst, arith}
use Rattle.std.proofs.lemmas.Bool.{cases_order, le-ltb, ne_eqb}
use Rattle.std.proofs.lemmas.Cmp.{nat_list_cmp_total}
use Rattle.std.proofs.lemmas.Iterator.Consumers.{YieldsList-from_first, count_from_yields_List}
use Rattle.std.specs.Borrow.{Bor}
use Rattle.std.specs.FinMap.{nat_cmp-IsAntisymmetric, slice_cmp-IsAntisymmetric}
use Rattle.std.specs.Iterator.{Drains}
use Rattle.std.specs.List.{AllByRecursion as Each}
use Rattle.std.specs.Ordering.{nat_cmp}
use Rattle.std.specs.declared.cmp.Ordering.{Ordering}
use Rattle.std.specs.declared.cmp.Ordering.TheVariants.{Less, Greater}
use Rattle.art_parts.proofs.NameLemmas.{same_or_not}
use Rattle.art_iterating.specs.MapItems.{TakesFirst, deref_pair}
use Rattle.art_keys.specs.FixedLaws.{fixed_no_prefixes}
use Rattle.art_keys.specs.Joins.{pair_cmp}
use Rattle.art_keys.specs.Prefixes.{AreInjective}
use Rattle.art_keyed.specs.KeyedPairs.{HaveKeys, RiseBy}
use Rattle.art_keyed.specs.KeyedValues.{KeepsOtherKeys, value_of}
use Rattle.art_keyed.proofs.Keyed.{never_in_conflict}
use Rattle.art_model.proofs.keys.Keys.{front_same, same_equal}
use Rattle.art_parts.specs.Keys.{are_same}
use Rattle.art_model.specs.Pairs.{first_of, is_conflict, of_key}
pub use Rattle.art_model.proofs.stores.Canonical.{tree_radix}
pub use Rattle.art_model.proofs.stores.StoreLaws.{has_children}
pub use Rattle.art_model.proofs.stores.Apart.{apart_of_none, apart_turned, both_beside, both_changed, both_same, both_turned, others_apart, root_of_first, same_apart, same_tree, tree_kept}
pub use Rattle.art_reading.proofs.Iterators.{walks_whole}
pub use Rattle.art_checking.proofs.Folding.{folds_to}
pub use Rattle.art_copying.proofs.FreedTrees.{all_can}
pub use Rattle.art_writing.proofs.FreedLeaves.{first_freed}
pub use Rattle.art_writing.proofs.Elsewhere.{placement_elsewhere, tree_stays}
pub use Rattle.art_map.proofs.CallerLaws.{map_laws, value_here, value_elsewhere, value_gone, value_left, value_written, value_unwritten}
pub use Rattle.art_map.proofs.RetainLaws.{changes_known, retained_known, retained_pairs_known}
-- keys with the same bytes are equal, of each type, and keys come back from their bytes
pub use Rattle.art_keys.specs.InjectiveLaws.{back_injective, ended_injective, escape_injective, fixed_injective, joins_injective, numbers_injective, signed_injective}
pub use Rattle.art_keys.specs.EndedLaws.{ended_comes_back, without_end-ended}
pub use Rattle.art_keys.specs.EscapeLaws.{escape_comes_back, unescape-escape}
pub use Rattle.art_keys.specs.JoinLaws.{joins_come_back}
pub use Rattle.art_keys.specs.NumberLaws.{number_back, numbers_come_back, signed_back, signed_come_back}
-- what a put, a write and a removal leave under other keys, and how many pairs
pub use Rattle.art_keyed.proofs.KeyedLaws.{other_keys_kept, others_by_put, others_by_removal, others_by_write, put_counted, removal_counted}

-- keys whose bytes have one length never conflict
pub same_length_free : {K V : Type 0} (bytes : K → List ℕ) (n : ℕ) (key : K) (pairs : List (K × V)) → length (bytes key) ≡ n →
    Each (λ x. length (bytes x.0) ≡ n) pairs →
    is_conflict (of_key bytes) (bytes key) pairs ≡ false
same_length_free {K} {V} bytes n =
    never_in_conflict V (λ key. length (bytes key) ≡ n) bytes (λ a b of_a of_b front. fixed_no_prefixes n (bytes a) (bytes b) of_a of_b front)

-- `count` of an iterator over pairs is how many are left
pub pairs_counted : {K V : Type 0} (pairs : List (K × V)) (count : ℕ) →
    (items : List (Bor K × Bor V)) × Drains TakesFirst pairs items × (count ≡ length items) → count ≡ length pairs
pairs_counted pairs count ran = count_from_yields_List pairs count ran (YieldsList-from_first deref_pair (λ pairs. pairs) pairs refl)

-- strings are the same or not
same_or_other : (a b : List ℕ) → (a ≡ b) ⊎ (a ≢ b)
same_or_other = same_or_not (slice_cmp-IsAntisymmetric nat_cmp-IsAntisymmetric) nat_list_cmp_total

-- of two joined keys, the lesser one has no greater first number
pub firsts_rise : {B : Type 0} (by_second : B → B → Ordering) (x y : ℕ × B) → pair_cmp nat_cmp by_second x y ≡ Less → x.0 ≤ y.0
firsts_rise by_second x y less = go (cases_order x.0 y.0)
  where
    go : (x.0 ≡ y.0) ⊎ ((x.0 < y.0) ⊎ (y.0 < x.0)) → x.0 ≤ y.0
    go (inl same) = omega arith
    go (inr (inl h)) = omega arith
    go (inr (inr h)) = let wrong : Greater ≡ Less = rw (le-ltb x.0 y.0 (omega arith), ne_eqb x.0 y.0 (λ e. omega arith)) at less in absurd cc

module _ {K V : Type 0} (bytes : K → List ℕ) (is_key : K → Type 0) (law : AreInjective is_key bytes) where
  -- what is known of each key is known of one that is found
  known_of_found : (key : K) (value : V) → is_key key → (Known : K → Type 0) (pairs : List (K × V)) →
      HaveKeys is_key pairs → HaveKeys Known pairs → value_of bytes key pairs ≡ Some value → Known key
  known_of_found key value of_key' Known [] keys all is = absurd cc
  known_of_found key value of_key' Known (x ∷ xs) keys all is =
      go (known_of_found key value of_key' Known xs keys.1 all.1) (are_same (bytes key) (bytes x.0)) refl
    where
      go : (value_of bytes key xs ≡ Some value → Known key) → (b : Bool) → are_same (bytes key) (bytes x.0) ≡ b → Known key
      go rest true e = subst Known (law x.0 key keys.0 of_key' (same_equal (bytes key) (bytes x.0) e)) all.0
      go rest false e = rest (rw e at is)

  -- what is known of the first key and of each key after one of which it is known, is known of a key that is found
  pub known_from_first : (key : K) (value : V) → is_key key → (order : K → K → Ordering) (Known : K → Type 0) →
      ((x y : K) → Known x → order x y ≡ Less → Known y) → (pairs : List (K × V)) → HaveKeys is_key pairs → RiseBy order pairs →
      IfSome (first_of pairs) (λ first. Known first.0) → value_of bytes key pairs ≡ Some value → Known key
  known_from_first key value of_key' order Known after [] keys rise first is = absurd cc
  known_from_first key value of_key' order Known after (x ∷ xs) keys rise first is =
      known_of_found key value of_key' Known (x ∷ xs) keys (first, all xs rise.0) is
    where
      all : (ys : List (K × V)) → Each (λ y. order x.0 y.0 ≡ Less) ys → HaveKeys Known ys
      all [] less = tt
      all (y ∷ ys) less = (after x.0 y.0 first less.0, all ys less.1)

  -- the first pair is found under its key
  pub first_found : (pairs : List (K × V)) (first : K × V) → HaveKeys is_key pairs → first_of pairs ≡ Some first →
      is_key first.0 × (value_of bytes first.0 pairs ≡ Some first.1)
  first_found [] first keys is = absurd cc
  first_found (x ∷ xs) first keys is = let same : x ≡ first = cc in (subst (λ y. is_key y.0) same keys.0, rw (← same) (rw (front_same (bytes x.0)) refl))

  -- after a change at one key, what is known of its value and of the old values of the other keys is known of all values
  pub known_after_change : (Known : K → Option V → Type 0) (key : K) (old new : List (K × V)) → is_key key →
      KeepsOtherKeys is_key bytes key old new → Known key (value_of bytes key new) →
      ((other : K) → is_key other → other ≢ key → Known other (value_of bytes other old)) → (other : K) → is_key other → Known other (value_of bytes other new)
  known_after_change Known key old new of_key' keeps here others other of_other = go (same_or_other (bytes other) (bytes key))
    where
      go : (bytes other ≡ bytes key) ⊎ (bytes other ≢ bytes key) → Known other (value_of bytes other new)
      go (inl same) = let is : other ≡ key = law other key of_other of_key' same in subst (λ k. Known k (value_of bytes k new)) (sym is) here
      go (inr off) =
          let differ : other ≢ key = λ same. off (ap bytes same) in
          subst (Known other) (sym (keeps other of_other differ)) (others other of_other differ)
