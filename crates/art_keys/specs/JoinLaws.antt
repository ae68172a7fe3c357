-- Two keys as one: none is a prefix of another one, and they are in the order of the first keys and then of the second
-- ones.
use Rattle.std.proofs.Common.{◌≡◌, ℕ, ◌<◌, List, [], ◌∷◌, ◌++◌, refl, length, length-append, append_assoc, ap, ap₂, sym, ◌∙◌, arith, ◌⊎◌, inl, inr}
use Rattle.std.proofs.lemmas.Bool.{le-ltb, lt-ltb, ne_eqb, eq-eqb, cases_order}
use Rattle.std.specs.Cmp.Lexicographic.{slice_cmp}
use Rattle.std.specs.Ordering.{nat_cmp, ordering_then}
use Rattle.std.specs.declared.cmp.Ordering.{Ordering}
use Rattle.std.proofs.Math.Seq.{take-append_seam, drop-append_seam}
use Rattle.art_keys.specs.Decoded.{ComesBack}
use Rattle.art_keys.specs.Joins.{AreKeys, AreKeysOf, joined_bytes, joined_length, pair_cmp, parted}
use Rattle.art_keys.specs.Prefixes.{HasNoPrefixes, KeepsOrder}
use Rattle.art_parts.specs.Keys.{IsFront}

-- the same byte before a prefix and before the whole
longer : (z : ℕ) (x y : List ℕ) → IsFront x y → IsFront (z ∷ x) (z ∷ y)
longer z x y (rest, e) = (rest, ap (λ t. z ∷ t) e)

tail_same : (z : ℕ) (x y : List ℕ) → z ∷ x ≡ z ∷ y → x ≡ y
tail_same z x y e = cc

-- If neither of two first parts is a proper prefix of the other: a string of two parts is a prefix of another one only
-- if the first parts are equal and the second part is a prefix of the other's.
parts_front : (x y b d : List ℕ) → (IsFront x y → x ≡ y) → (IsFront y x → y ≡ x) → IsFront (x ++ b) (y ++ d) → (x ≡ y) × IsFront b d
parts_front [] [] b d f g front = (refl, front)
parts_front [] (w ∷ y) b d f g front = let e : [] ≡ w ∷ y = f (w ∷ y, refl) in absurd cc
parts_front (z ∷ x) [] b d f g front = let e : [] ≡ z ∷ x = g (z ∷ x, refl) in absurd cc
parts_front (z ∷ x) (w ∷ y) b d f g (rest, is) =
    let same : w ≡ z = cc in
    let t : y ++ d ≡ (x ++ b) ++ rest = cc in
    let (e, front) = parts_front x y b d
    (λ h. tail_same z x y (rw same at (f (rw same (longer z x y h)))))
    (λ h. tail_same z y x (rw same at (g (rw same (longer z y x h))))) (rest, t) in
    (ap₂ (λ n s. n ∷ s) (sym same) e, front)

-- then strings of two parts compare by the first parts, and then by the second ones
parts_cmp : (x y b d : List ℕ) → (IsFront x y → x ≡ y) → (IsFront y x → y ≡ x) →
    slice_cmp nat_cmp (x ++ b) (y ++ d) ≡ ordering_then (slice_cmp nat_cmp x y) (slice_cmp nat_cmp b d)
parts_cmp [] [] b d f g = refl
parts_cmp [] (w ∷ y) b d f g = let e : [] ≡ w ∷ y = f (w ∷ y, refl) in absurd cc
parts_cmp (z ∷ x) [] b d f g = let e : [] ≡ z ∷ x = g (z ∷ x, refl) in absurd cc
parts_cmp (z ∷ x) (w ∷ y) b d f g = go (parts_cmp x y b d) (cases_order z w)
  where
    go : ((IsFront x y → x ≡ y) → (IsFront y x → y ≡ x) → slice_cmp nat_cmp (x ++ b) (y ++ d) ≡ ordering_then (slice_cmp nat_cmp x y) (slice_cmp nat_cmp b d)) →
        (z ≡ w) ⊎ ((z < w) ⊎ (w < z)) → slice_cmp nat_cmp ((z ∷ x) ++ b) ((w ∷ y) ++ d)
        ≡ ordering_then (slice_cmp nat_cmp (z ∷ x) (w ∷ y)) (slice_cmp nat_cmp b d)
    go ih (inl same) =
        rw (le-ltb z w (omega arith), eq-eqb z w same)
        (ih (λ h. tail_same z x y (rw (sym same) at (f (rw (sym same) (longer z x y h)))))
        (λ h. tail_same z y x (rw (sym same) at (g (rw (sym same) (longer z y x h))))))
    go ih (inr (inl h)) = rw (lt-ltb z w h) refl
    go ih (inr (inr h)) = rw (le-ltb z w (omega arith), ne_eqb z w (λ e. omega arith)) refl

module _ {A B : Type 0} (is_first : A → Type 0) (first : A → List ℕ) (is_second : B → Type 0) (second : B → List ℕ) where
  pub joins_no_prefixes : HasNoPrefixes is_first first → HasNoPrefixes is_second second → HasNoPrefixes (AreKeys is_first is_second) (joined_bytes first second)
  joins_no_prefixes apart_first apart_second x y of_x of_y front =
      let (same, rest) =
      parts_front (first x.0) (first y.0) (second x.1) (second y.1) (apart_first x.0 y.0 of_x.0 of_y.0)
      (apart_first y.0 x.0 of_y.0 of_x.0) front in
      ap₂ (λ s t. s ++ t) same (apart_second x.1 y.1 of_x.1 of_y.1 rest)

  pub joins_keep_order : {by_first : A → A → Ordering} {by_second : B → B → Ordering} → HasNoPrefixes is_first first →
      KeepsOrder is_first first by_first → KeepsOrder is_second second by_second →
      KeepsOrder (AreKeys is_first is_second) (joined_bytes first second) (pair_cmp by_first by_second)
  joins_keep_order apart_first keeps_first keeps_second x y of_x of_y =
      parts_cmp (first x.0) (first y.0) (second x.1) (second y.1) (apart_first x.0 y.0 of_x.0 of_y.0) (apart_first y.0 x.0 of_y.0 of_x.0)
      ∙ ap₂ (λ s t. ordering_then s t) (keeps_first x.0 y.0 of_x.0 of_y.0) (keeps_second x.1 y.1 of_x.1 of_y.1)

  module _ (first_of : List ℕ → A) (first_length : List ℕ → ℕ) (second_of : List ℕ → B) (second_length : List ℕ → ℕ)
      (back_first : ComesBack is_first first first_of first_length) (back_second : ComesBack is_second second second_of second_length) where
    -- two keys are recovered, each from its own bytes
    pub joins_come_back : ComesBack (AreKeys is_first is_second) (joined_bytes first second) (parted first_of first_length second_of)
        (joined_length first_length second_length)
    joins_come_back pair of_pair = (keys, λ rest. lengths rest)
      where
        long : first_length (joined_bytes first second pair) ≡ length (first pair.0)
        long = (back_first pair.0 of_pair.0).1 (second pair.1)

        keys : parted first_of first_length second_of (joined_bytes first second pair) ≡ pair
        keys =
            rw (
              long,
              take-append_seam (first pair.0) (second pair.1),
              drop-append_seam (first pair.0) (second pair.1),
              (back_first pair.0 of_pair.0).0,
              (back_second pair.1 of_pair.1).0,
            ) refl

        lengths : (rest : List ℕ) → joined_length first_length second_length (joined_bytes first second pair ++ rest) ≡ length (joined_bytes first second pair)
        lengths rest =
            rw (
              append_assoc (first pair.0) (second pair.1) rest,
              (back_first pair.0 of_pair.0).1 (second pair.1 ++ rest),
              drop-append_seam (first pair.0) (second pair.1 ++ rest),
              (back_second pair.1 of_pair.1).1 rest,
            )
            (sym (length-append (first pair.0) (second pair.1)))

    -- the same for two keys that have so many bytes together
    pub arrays_come_back : (count : ℕ) → ComesBack (AreKeysOf count is_first first is_second second) (joined_bytes first second)
        (parted first_of first_length second_of) (joined_length first_length second_length)
    arrays_come_back count pair of_pair = joins_come_back pair of_pair.0
