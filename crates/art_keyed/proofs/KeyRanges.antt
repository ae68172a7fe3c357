-- Parts of a map by the order of its keys, and by their strings.
use Rattle.std.proofs.Common.{◌≡◌, ℕ, List, [], ◌∷◌, Bool, true, false, ◌&&◌, ◌++◌, not, eqb, eqb-true, eq-eqb, if◌then◌else◌, refl, ap, ap₂, sym, ◌∙◌}
use Rattle.std.specs.Prelude.{filter}
use Rattle.std.specs.List.{AllByRecursion as Each}
use Rattle.std.specs.Ordering.{is_lt}
use Rattle.std.specs.Range.Bound.{bound_map}
use Rattle.std.specs.declared.cmp.Ordering.{Ordering}
use Rattle.std.specs.declared.ops.Bound.{Bound}
use Rattle.std.specs.declared.ops.Bound.TheVariants.{Included, Excluded, Unbounded}
use Rattle.art_keys.specs.Joins.{AreKeys, AreKeysOf, joined_bytes}
use Rattle.art_keys.specs.Prefixes.{BeginsAs, HasNoPrefixes, KeepsOrder}
use Rattle.art_parts.specs.Keys.{IsFront, are_same, is_front}
use Rattle.art_model.specs.Pairs.{of_key}
use Rattle.art_model.specs.Parts.{below, between, is_from, is_up_to, not_below, without_below}
use Rattle.art_model.proofs.lists.Filters.{Each-filter}
use Rattle.art_keyed.specs.KeyedPairs.{HaveKeys, OnBound, is_key_from, is_key_up_to, keys_between, pairs_with_first, pairs_without_first, set_below, set_between, set_with_first, strings_below, strings_not_below, without_first_with}
use denote.Ref.{Bor}

-- two tests that agree on each element select the same elements
pub filter_same : {A : Type 0} (P : A → Type 0) (test other : A → Bool) → ((x : A) → P x → test x ≡ other x) → (xs : List A) → Each P xs →
    filter test xs ≡ filter other xs
filter_same P test other same [] all = refl
filter_same P test other same (x ∷ xs) all = go (filter_same P test other same xs all.1) (other x) refl
  where
    go : filter test xs ≡ filter other xs → (t : Bool) → other x ≡ t → filter test (x ∷ xs) ≡ filter other (x ∷ xs)
    go ih true e = rw (same x all.0 ∙ e, e) (ap (λ ys. x ∷ ys) ih)
    go ih false e = rw (same x all.0 ∙ e, e) ih

-- what holds for all elements holds for those without the first one with a prefix
without_keeps : {A : Type 0} (P : A → Type 0) (bytes : A → List ℕ) (prefix : List ℕ) (xs : List A) → Each P xs → Each P (without_below bytes prefix 1 xs)
without_keeps P bytes prefix [] all = tt
without_keeps P bytes prefix (x ∷ xs) all = go (without_keeps P bytes prefix xs all.1) (is_front prefix (bytes x)) refl
  where
    go : Each P (without_below bytes prefix 1 xs) → (t : Bool) → is_front prefix (bytes x) ≡ t → Each P (without_below bytes prefix 1 (x ∷ xs))
    go ih true e = rw e all.1
    go ih false e = rw e (all.0, ih)

module _ {K : Type 0} (is_key : K → Type 0) (bytes : K → List ℕ) {order : K → K → Ordering} (keeps : KeepsOrder is_key bytes order) where
  pub same_from : (from : Bound K) (key : K) → OnBound is_key from → is_key key → is_from (bound_map bytes from) (bytes key) ≡ is_key_from order from key
  same_from (Included bound) key of_bound of_key' = ap (λ o. not (is_lt o)) (keeps key bound of_key' of_bound)
  same_from (Excluded bound) key of_bound of_key' = ap is_lt (keeps bound key of_bound of_key')
  same_from Unbounded key of_bound of_key' = refl

  pub same_up_to : (to : Bound K) (key : K) → OnBound is_key to → is_key key → is_up_to (bound_map bytes to) (bytes key) ≡ is_key_up_to order to key
  same_up_to (Included bound) key of_bound of_key' = ap (λ o. not (is_lt o)) (keeps bound key of_bound of_key')
  same_up_to (Excluded bound) key of_bound of_key' = ap is_lt (keeps key bound of_key' of_bound)
  same_up_to Unbounded key of_bound of_key' = refl

pub map_twice : {K : Type 0} (bytes : K → List ℕ) (bound : Bound (Bor K)) → bound_map (λ b. bytes b.now) bound ≡ bound_map bytes (bound_map (λ b. b.now) bound)
map_twice bytes (Included b) = refl
map_twice bytes (Excluded b) = refl
map_twice bytes Unbounded = refl

module _ {K : Type 0} (is_key : K → Type 0) (bytes : K → List ℕ) where
  -- an element is between two bounds exactly if the bytes of its key are between those of the bounds
  between_by : {A : Type 0} (key_of : A → K) {order : K → K → Ordering} → KeepsOrder is_key bytes order →
      (from to : Bound (Bor K)) (low high : Bound (List ℕ)) →
      low ≡ bound_map (λ b. bytes b.now) from → high ≡ bound_map (λ b. bytes b.now) to →
      OnBound is_key (bound_map (λ b. b.now) from) → OnBound is_key (bound_map (λ b. b.now) to) → (xs : List A) → Each (λ x. is_key (key_of x)) xs →
      between (λ x. bytes (key_of x)) low high xs ≡
      filter (λ x. is_key_from order (bound_map (λ b. b.now) from) (key_of x) && is_key_up_to order (bound_map (λ b. b.now) to) (key_of x)) xs
  between_by key_of keeps from to low high is_low is_high of_from of_to xs all =
      rw (is_low ∙ map_twice bytes from, is_high ∙ map_twice bytes to)
      (filter_same (λ x. is_key (key_of x)) _ _
      (λ x of_x. ap₂ (λ a b. a && b) (same_from is_key bytes keeps (bound_map (λ b. b.now) from) (key_of x) of_from of_x)
      (same_up_to is_key bytes keeps (bound_map (λ b. b.now) to) (key_of x) of_to of_x)) xs all)

  -- strings start with another one exactly if the bytes of their keys do
  below_by : {A : Type 0} (key_of : A → K) (text : K → List ℕ) (key : K) (beginning : List ℕ) → BeginsAs is_key bytes text key beginning →
      (xs : List A) → Each (λ x. is_key (key_of x)) xs →
      below (λ x. bytes (key_of x)) beginning xs ≡ filter (λ x. is_front (text key) (text (key_of x))) xs
  below_by key_of text key beginning begins xs all = filter_same (λ x. is_key (key_of x)) _ _ (λ x of_x. begins (key_of x) of_x) xs all

  -- ---- maps

  module _ {V : Type 0} where
    pub between_keys : {order : K → K → Ordering} → KeepsOrder is_key bytes order → (from to : Bound (Bor K)) (low high : Bound (List ℕ)) →
        low ≡ bound_map (λ b. bytes b.now) from → high ≡ bound_map (λ b. bytes b.now) to →
        OnBound is_key (bound_map (λ b. b.now) from) → OnBound is_key (bound_map (λ b. b.now) to) → (pairs : List (K × V)) → HaveKeys is_key pairs →
        between (of_key bytes) low high pairs ≡ keys_between order (bound_map (λ b. b.now) from) (bound_map (λ b. b.now) to) pairs
    between_keys = between_by (λ x. x.0)

    pub below_strings : (text : K → List ℕ) (key : K) (beginning : List ℕ) → BeginsAs is_key bytes text key beginning →
        (pairs : List (K × V)) → HaveKeys is_key pairs →
        below (of_key bytes) beginning pairs ≡ strings_below text (text key) pairs
    below_strings = below_by (λ x. x.0)

    -- the other pairs are those whose strings don't start so
    pub not_below_strings : (text : K → List ℕ) (key : K) (beginning : List ℕ) → BeginsAs is_key bytes text key beginning →
        (pairs : List (K × V)) → HaveKeys is_key pairs →
        not_below (of_key bytes) beginning pairs ≡ strings_not_below text (text key) pairs
    not_below_strings text key beginning begins pairs all = filter_same (λ x. is_key x.0) _ _ (λ x of_x. ap not (begins x.0 of_x)) pairs all

    -- the first pair whose string starts so is the first one whose key does
    pub without_string : (text : K → List ℕ) (key : K) (beginning : List ℕ) → BeginsAs is_key bytes text key beginning →
        (pairs : List (K × V)) → HaveKeys is_key pairs →
        without_below (of_key bytes) beginning 1 pairs ≡ without_below (of_key text) (text key) 1 pairs
    without_string text key beginning begins [] all = refl
    without_string text key beginning begins (x ∷ pairs) all =
        λ i. if begins x.0 all.0 i then pairs else x ∷ without_string text key beginning begins pairs all.1 i

    pub first_out_keeps : (beginning : List ℕ) (pairs : List (K × V)) → HaveKeys is_key pairs → HaveKeys is_key (without_below (of_key bytes) beginning 1 pairs)
    first_out_keeps beginning pairs all = without_keeps (λ x. is_key x.0) (of_key bytes) beginning pairs all

    -- a part of keys is keys
    pub others_keep : (beginning : List ℕ) (pairs : List (K × V)) → HaveKeys is_key pairs → HaveKeys is_key (not_below (of_key bytes) beginning pairs)
    others_keep beginning pairs all = Each-filter (λ x. is_key x.0) _ pairs all

  -- ---- sets

  pub between_in_set : {order : K → K → Ordering} → KeepsOrder is_key bytes order → (from to : Bound (Bor K)) (low high : Bound (List ℕ)) →
      low ≡ bound_map (λ b. bytes b.now) from → high ≡ bound_map (λ b. bytes b.now) to →
      OnBound is_key (bound_map (λ b. b.now) from) → OnBound is_key (bound_map (λ b. b.now) to) → (keys : List K) → Each is_key keys →
      between bytes low high keys ≡ set_between order (bound_map (λ b. b.now) from) (bound_map (λ b. b.now) to) keys
  between_in_set = between_by (λ key. key)

  pub below_in_set : (text : K → List ℕ) (key : K) (beginning : List ℕ) → BeginsAs is_key bytes text key beginning → (keys : List K) → Each is_key keys →
      below bytes beginning keys ≡ set_below text (text key) keys
  below_in_set = below_by (λ key. key)

-- ---- two keys as one

-- a prefix of two strings, one after the other, is the first of them, if neither is a proper prefix of the other
front_of_joined : (a x y : List ℕ) → (IsFront a x → a ≡ x) → (IsFront x a → x ≡ a) → is_front a (x ++ y) ≡ are_same a x
front_of_joined [] [] y f g = refl
front_of_joined [] (z ∷ x) y f g = let e : [] ≡ z ∷ x = f (z ∷ x, refl) in absurd cc
front_of_joined (c ∷ a) [] y f g = let e : [] ≡ c ∷ a = g (c ∷ a, refl) in absurd cc
front_of_joined (c ∷ a) (z ∷ x) y f g = go (front_of_joined a x y) (eqb c z) refl
  where
    tail : (n m : ℕ) (s t : List ℕ) → n ≡ m → (IsFront (n ∷ s) (m ∷ t) → n ∷ s ≡ m ∷ t) → IsFront s t → s ≡ t
    tail n m s t same h (rest, e) = let l : n ∷ s ≡ m ∷ t = h (rest, ap₂ (λ b bs. b ∷ bs) (sym same) e) in cc

    go : ((IsFront a x → a ≡ x) → (IsFront x a → x ≡ a) → is_front a (x ++ y) ≡ are_same a x) → (t : Bool) → eqb c z ≡ t →
        is_front (c ∷ a) ((z ∷ x) ++ y) ≡ are_same (c ∷ a) (z ∷ x)
    go ih true e =
        let same : c ≡ z = eqb-true c z e in
        rw (e, eq-eqb z c (sym same)) (ih (tail c z a x same f) (tail z c x a (sym same) g))
    go ih false e = rw e refl

module _ {A B : Type 0} (is_first : A → Type 0) (first : A → List ℕ) (is_second : B → Type 0) (second : B → List ℕ)
    (apart : HasNoPrefixes is_first first) (key : A) (of_key' : is_first key) where
  -- the bytes of a first key are a prefix of those of the keys that have it, and of no others
  begins_first : (both : A × B) → AreKeys is_first is_second both → is_front (first key) (first both.0 ++ second both.1) ≡ are_same (first key) (first both.0)
  begins_first both of_both =
      front_of_joined (first key) (first both.0) (second both.1) (apart key both.0 of_key' of_both.0) (apart both.0 key of_both.0 of_key')

  pub below_first_in_set : (keys : List (A × B)) → Each (AreKeys is_first is_second) keys →
      below (joined_bytes first second) (first key) keys ≡ set_with_first first (first key) keys
  below_first_in_set keys all = filter_same (AreKeys is_first is_second) _ _ begins_first keys all

  module _ {V : Type 0} where
    pub below_first : (pairs : List ((A × B) × V)) → HaveKeys (AreKeys is_first is_second) pairs →
        below (of_key (joined_bytes first second)) (first key) pairs ≡ pairs_with_first first (first key) pairs
    below_first pairs all = filter_same (λ x. AreKeys is_first is_second x.0) _ _ (λ x of_x. begins_first x.0 of_x) pairs all

    pub not_below_first : (pairs : List ((A × B) × V)) → HaveKeys (AreKeys is_first is_second) pairs →
        not_below (of_key (joined_bytes first second)) (first key) pairs ≡ pairs_without_first first (first key) pairs
    not_below_first pairs all = filter_same (λ x. AreKeys is_first is_second x.0) _ _ (λ x of_x. ap not (begins_first x.0 of_x)) pairs all

    pub first_out : (pairs : List ((A × B) × V)) → HaveKeys (AreKeys is_first is_second) pairs →
        without_below (of_key (joined_bytes first second)) (first key) 1 pairs ≡ without_first_with first (first key) pairs
    first_out [] all = refl
    first_out (x ∷ pairs) all = λ i. if begins_first x.0 all.0 i then pairs else x ∷ first_out pairs all.1 i

-- ---- two keys of fixed lengths: what holds for two keys holds for each of these

pub two_keys : {A B : Type 0} (count : ℕ) (is_first : A → Type 0) (first : A → List ℕ) (is_second : B → Type 0) (second : B → List ℕ) (keys : List (A × B)) →
    Each (AreKeysOf count is_first first is_second second) keys → Each (AreKeys is_first is_second) keys
two_keys count is_first first is_second second [] all = tt
two_keys count is_first first is_second second (key ∷ keys) all = (all.0.0, two_keys count is_first first is_second second keys all.1)

pub of_two_keys : {A B V : Type 0} (count : ℕ) (is_first : A → Type 0) (first : A → List ℕ) (is_second : B → Type 0) (second : B → List ℕ)
    (pairs : List ((A × B) × V)) →
    HaveKeys (AreKeysOf count is_first first is_second second) pairs → HaveKeys (AreKeys is_first is_second) pairs
of_two_keys count is_first first is_second second [] all = tt
of_two_keys count is_first first is_second second (pair ∷ pairs) all = (all.0.0, of_two_keys count is_first first is_second second pairs all.1)
