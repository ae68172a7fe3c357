-- Pairs that an iterator removes from a map whose keys never conflict, one after another.
use Rattle.std.proofs.Common.{◌≡◌, ℕ, ◌&&◌, Bool, not, List, [], ◌∷◌, filter, Option, MatchOption, ap, ap₂, sym, subst, ◌∙◌}
use Rattle.std.specs.List.{AllByRecursion as Each}
use Rattle.std.specs.Range.Bound.{bound_map}
use Rattle.std.specs.declared.cmp.Ordering.{Ordering}
use Rattle.std.specs.declared.ops.Bound.{Bound}
use Rattle.art_keys.specs.Prefixes.{BeginsAs, KeepsOrder}
use Rattle.art_parts.specs.Keys.{is_front}
use Rattle.art_model.specs.Pairs.{IsMap, first_of, of_key}
use Rattle.art_model.specs.Parts.{below, between, is_between, without_below}
use Rattle.art_map.specs.MapExtract.{ExtractsAll, ExtractsFirst}
use Rattle.art_map.specs.MapParts.{without}
use Rattle.art_map.proofs.Extracted.{extracts, extracts_all, extracts_below}
use Rattle.art_keyed.specs.KeyedExtract.{ExtractsKeys, ExtractsStrings}
use Rattle.art_keyed.specs.KeyedPairs.{HaveKeys, OnBound, is_key_from, is_key_up_to}
use Rattle.art_keyed.specs.declared.map.extract.TreeExtractPrefixOf.{TreeExtractPrefixOf}
use Rattle.art_keyed.specs.declared.map.extract.TreeExtractRangeOf.{TreeExtractRangeOf}
use Rattle.art_keyed.proofs.KeyRanges.{filter_same, first_out_keeps, map_twice, same_from, same_up_to}
use Rattle.art_keyed.proofs.Parted.{without_keeps}
use denote.Ref.{Bor}

-- two tests that agree on each pair remove the same pairs
extracts_same : {A : Type 0} (bytes : A → List ℕ) (Known : A → Type 0) (test other : A → Bool) →
    ((x : A) → Known x → test x ≡ other x) → {before after : List A} {taken : Option A} →
    Each Known before → Each Known after → ExtractsFirst bytes test before taken after → ExtractsFirst bytes other before taken after
extracts_same {A} bytes Known test other same {before} {after} {taken} all left is =
    let of : (xs : List A) → Each Known xs → filter test xs ≡ filter other xs = filter_same Known test other same in
    let off : (xs : List A) → Each Known xs → filter (λ x. not (test x)) xs ≡ filter (λ x. not (other x)) xs = filter_same
    Known (λ x. not (test x)) (λ x. not (other x)) (λ x known. ap not (same x known)) in
    record {
      pairs = is.pairs;
      first = subst (λ (parts : List A × List A). MatchOption taken ((parts.0 ≡ []) × (parts.1 ≡ [])) (λ x. parts.0 ≡ x ∷ parts.1))
          (ap₂ (λ xs ys. (xs, ys)) (of before all) (of after left)) is.first;
      others = subst (λ (parts : List A × List A). parts.0 ≡ parts.1) (ap₂ (λ xs ys. (xs, ys)) (off after left) (off before all)) is.others;
    }

module _ {R K V : Type 0} (bytes : K → List ℕ) (order : K → K → Ordering) (has_bounds : R → Type 0) (start end : R → Bound K) (range : R)
    (has : has_bounds range) where
  abbrev HasRange : TreeExtractRangeOf R (List (K × V)) → Type 0
  HasRange s = s.range ≡ range

  -- an iterator over a range removes all pairs of it
  pub range_all : (s : TreeExtractRangeOf R (List (K × V))) → HasRange s →
      ExtractsAll (of_key bytes) (λ x. is_key_from order (start range) x.0 && is_key_up_to order (end range) x.0)
      (ExtractsKeys bytes order has_bounds start end) (λ q. q.map.now) s.map.now s
  range_all = extracts_all (of_key bytes) (λ x. is_key_from order (start range) x.0 && is_key_up_to order (end range) x.0) HasRange
      (ExtractsKeys bytes order has_bounds start end) (λ q. q.map.now)
      (λ s taken t own step. (
        step.1 ∙ own,
        subst (λ r. has_bounds r → ExtractsFirst (of_key bytes)
            (λ x. is_key_from order (start r) x.0 && is_key_up_to order (end r) x.0) s.map.now taken t.map.now) own step.2 has,
      ))

module _ {K V : Type 0} (bytes text : K → List ℕ) (prefix : K) where
  abbrev HasPrefix : TreeExtractPrefixOf K (List (K × V)) → Type 0
  HasPrefix s = s.prefix.now ≡ prefix

  -- an iterator over a prefix removes all pairs with it
  pub prefix_all : (s : TreeExtractPrefixOf K (List (K × V))) → HasPrefix s →
      ExtractsAll (of_key bytes) (λ x. is_front (text prefix) (text x.0)) (ExtractsStrings bytes text) (λ q. q.map.now) s.map.now s
  prefix_all = extracts_all (of_key bytes) (λ x. is_front (text prefix) (text x.0)) HasPrefix (ExtractsStrings bytes text) (λ q. q.map.now)
      (λ s taken t own step.
      (ap (λ p. p.now) step.1 ∙ own, subst (λ p. ExtractsFirst (of_key bytes) (λ x. is_front (text p) (text x.0)) s.map.now taken t.map.now) own step.2))

module _ {K V : Type 0} (is_key : K → Type 0) (bytes : K → List ℕ) where
  -- a removal of the first pair between two bounds by their bytes
  module _ {order : K → K → Ordering} (keeps : KeepsOrder is_key bytes order) (from to : Bound (Bor K)) (low high : Bound (List ℕ))
      (is_low : low ≡ bound_map (λ b. bytes b.now) from) (is_high : high ≡ bound_map (λ b. bytes b.now) to)
      (of_from : OnBound is_key (bound_map (λ b. b.now) from)) (of_to : OnBound is_key (bound_map (λ b. b.now) to)) where
    abbrev in_range : K × V → Bool
    in_range x = is_key_from order (bound_map (λ b. b.now) from) x.0 && is_key_up_to order (bound_map (λ b. b.now) to) x.0

    agree : (x : K × V) → is_key x.0 → is_between low high (bytes x.0) ≡ in_range x
    agree x of_x =
        rw (is_low ∙ map_twice bytes from, is_high ∙ map_twice bytes to)
        (ap₂ (λ a b. a && b) (same_from is_key bytes keeps (bound_map (λ b. b.now) from) x.0 of_from of_x)
        (same_up_to is_key bytes keeps (bound_map (λ b. b.now) to) x.0 of_to of_x))

    pub extracts_keys : (before after : List (K × V)) (taken : Option (K × V)) → HaveKeys is_key before → IsMap (of_key bytes) before →
        taken ≡ first_of (between (of_key bytes) low high before) → after ≡ without (of_key bytes) taken before →
        ExtractsFirst (of_key bytes) in_range before taken after
    extracts_keys before after taken all rising first left =
        extracts_same (of_key bytes) (λ x. is_key x.0) (λ x. is_between low high (bytes x.0)) in_range agree all
        (subst (HaveKeys is_key) (sym left) (without_keeps (λ x. is_key x.0) (of_key bytes) taken before all))
        (extracts (of_key bytes) (is_between low high) before after taken rising first left)

  -- a removal of the first pair with a prefix of the bytes
  pub extracts_strings : (text : K → List ℕ) (key : K) (beginning : List ℕ) → BeginsAs is_key bytes text key beginning →
      (before after : List (K × V)) (taken : Option (K × V)) →
      HaveKeys is_key before → IsMap (of_key bytes) before → taken ≡ first_of (below (of_key bytes) beginning before) →
      after ≡ without_below (of_key bytes) beginning 1 before →
      ExtractsFirst (of_key bytes) (λ x. is_front (text key) (text x.0)) before taken after
  extracts_strings text key beginning begins before after taken all rising first left =
      extracts_same (of_key bytes) (λ x. is_key x.0) (λ x. is_front beginning (bytes x.0)) (λ x. is_front (text key) (text x.0)) (λ x of_x. begins x.0 of_x) all
      (subst (HaveKeys is_key) (sym left) (first_out_keeps is_key bytes beginning before all))
      (extracts_below (of_key bytes) beginning before after taken rising first left)
