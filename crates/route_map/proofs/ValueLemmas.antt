-- Values of networks, and those of their keys in trees.
use Rattle.std.proofs.Common.{◌≡◌, ◌≢◌, ℕ, inl, inr, Bool, ◌&&◌, eqb, true, false, List, [], ◌∷◌, ◌++◌, length, length-append, append-nil, map, if◌then◌else◌, ◌+◌, Some, None, refl, ap, ap₂, sym, ◌∙◌, subst, arith}
use Rattle.std.specs.Int.{bytes_high_first}
use Rattle.std.proofs.lemmas.Bool.{and_from, and_parts, eq-eqb, eqb-true, false≢true, ne_eqb}
use Rattle.art_parts.specs.Keys.{are_same}
use Rattle.art_model.proofs.keys.Keys.{front_same, same_equal}
use Rattle.art_changing.specs.MapAnswers.{value_at}
use Rattle.art_keys.specs.InjectiveLaws.{joins_injective}
use Rattle.art_keys.specs.Joins.{AreKeys, AreKeysOf, joined_bytes}
use Rattle.art_keys.specs.NumberLaws.{length-bytes, numbers_come_back}
use Rattle.art_keys.specs.Numbers.{HasBytes, number_of}
use Rattle.art_keys.specs.Prefixes.{AreInjective}
use Rattle.art_keyed.specs.KeyedPairs.{HaveKeys}
use Rattle.art_keyed.specs.KeyedValues.{KeepsOtherKeys}
use Rattle.prefix_table.specs.declared.network.Network.{Network}
use Rattle.prefix_table.specs.Networks.{IsNetwork}
use Rattle.prefix_table.proofs.CoverLemmas.{is_false}
use Rattle.route_map.specs.Routes.{KeepsOthers, entries_of, entry_of, is_same, key_of, network_of, value_of}

same_parts : (a b : Network) → is_same a b ≡ true → (a.version ≡ b.version) × (a.number ≡ b.number) × (a.length ≡ b.length)
same_parts a b h =
    let parts = and_parts (eqb a.version b.version) (eqb a.number b.number && eqb a.length b.length) h in
    let rest = and_parts (eqb a.number b.number) (eqb a.length b.length) parts.1 in
    (eqb-true a.version b.version parts.0, eqb-true a.number b.number rest.0, eqb-true a.length b.length rest.1)

-- a network of a version is that of its key
pub its_own : (version : ℕ) (network : Network) → network.version ≡ version → network ≡ network_of version (key_of network)
its_own version network v = ap (λ w. record { number = network.number; version = w; length = network.length }) v

pub other_key : (version : ℕ) (other network : Network) → other.version ≡ version → network.version ≡ version → other ≢ network →
    key_of other ≢ key_of network
other_key version other network v w off same = off (its_own version other v ∙ ap (network_of version) same ∙ sym (its_own version network w))

-- the keys of networks of a version
abbrev pub IsKeyOf : ℕ → ℕ × ℕ → Type 0
IsKeyOf version key = IsNetwork (network_of version key)

pub is_key_of : (version : ℕ) (network : Network) → network.version ≡ version → IsNetwork network → IsKeyOf version (key_of network)
is_key_of version network v is = subst IsNetwork (its_own version network v) is

-- what is of another version is passed over
pub skips_others : {V : Type 0} (network : Network) (other : ℕ) (pairs : List ((ℕ × ℕ) × V)) (rest : List (Network × V)) →
    network.version ≢ other → value_of network (map (entry_of other) pairs ++ rest) ≡ value_of network rest
skips_others network other [] rest off = refl
skips_others network other (pair ∷ pairs) rest off = rw (ne_eqb network.version other off) (skips_others network other pairs rest off)

module _ (version : ℕ) (bytes : ℕ × ℕ → List ℕ) (law : AreInjective (IsKeyOf version) bytes) (network : Network)
    (v : network.version ≡ version) (is : IsNetwork network) where
  -- whether the network is that of a key shows in the bytes
  same_bytes : (key : ℕ × ℕ) → IsKeyOf version key → is_same network (network_of version key) ≡ are_same (bytes (key_of network)) (bytes key)
  same_bytes key known = go (are_same (bytes (key_of network)) (bytes key)) refl
    where
      go : (b : Bool) → are_same (bytes (key_of network)) (bytes key) ≡ b →
          is_same network (network_of version key) ≡ are_same (bytes (key_of network)) (bytes key)
      go true h =
          let same : key_of network ≡ key = law (key_of network) key (is_key_of version network v is) known (sym (same_equal (bytes (key_of network)) (bytes key) h)) in
          and_from _ _ (eq-eqb network.version version v)
          (and_from _ _ (eq-eqb network.number key.0 (ap (λ k. k.0) same)) (eq-eqb network.length key.1 (ap (λ k. k.1) same)))
          ∙ sym h
      go false h =
          is_false _ (λ t.
          let parts = same_parts network (network_of version key) t in
          let same : key_of network ≡ key = ap₂ (λ n l. (n, l)) parts.1 parts.2 in
          false≢true (sym h ∙ subst (λ k. are_same (bytes (key_of network)) (bytes k) ≡ true) same (front_same (bytes (key_of network)))))
          ∙ sym h

module _ {V : Type 0} (version : ℕ) (bytes : ℕ × ℕ → List ℕ) (law : AreInjective (IsKeyOf version) bytes) (network : Network)
    (v : network.version ≡ version) (is : IsNetwork network) where
  value_step : (pair : (ℕ × ℕ) × V) (pairs : List ((ℕ × ℕ) × V)) (rest : List (Network × V)) → IsKeyOf version pair.0 →
      value_of network (map (entry_of version) pairs ++ rest) ≡ value_at bytes (bytes (key_of network)) pairs →
      value_of network (map (entry_of version) (pair ∷ pairs) ++ rest) ≡ value_at bytes (bytes (key_of network)) (pair ∷ pairs)
  value_step pair pairs rest known same = go (are_same (bytes (key_of network)) (bytes pair.0)) refl
    where
      go : (b : Bool) → are_same (bytes (key_of network)) (bytes pair.0) ≡ b →
          value_of network (map (entry_of version) (pair ∷ pairs) ++ rest) ≡ value_at bytes (bytes (key_of network)) (pair ∷ pairs)
      go true h = rw (same_bytes version bytes law network v is pair.0 known ∙ h, h) refl
      go false h = rw (same_bytes version bytes law network v is pair.0 known ∙ h, h) same

  -- the value of the network is that of its key
  pub value_of_key : (pairs : List ((ℕ × ℕ) × V)) (rest : List (Network × V)) → HaveKeys (IsKeyOf version) pairs → value_of network rest ≡ None →
      value_of network (map (entry_of version) pairs ++ rest) ≡ value_at bytes (bytes (key_of network)) pairs
  value_of_key [] rest keys none = none
  value_of_key (pair ∷ pairs) rest keys none = value_step pair pairs rest keys.0 (value_of_key pairs rest keys.1 none)

-- ---- of both versions

abbrev pub bytes_of : ℕ → ℕ × ℕ → List ℕ
bytes_of count key = joined_bytes (bytes_high_first count) (bytes_high_first 1) key

abbrev pub IsStored : ℕ → ℕ → ℕ × ℕ → Type 0
IsStored count bytes key = AreKeysOf bytes (HasBytes count) (bytes_high_first count) (HasBytes 1) (bytes_high_first 1) key

joined_law : (count : ℕ) → AreInjective (AreKeys (HasBytes count) (HasBytes 1)) (bytes_of count)
joined_law count =
    joins_injective (HasBytes count) (bytes_high_first count) (HasBytes 1) (bytes_high_first 1) number_of (λ bytes. count) number_of (λ bytes. 1)
    (numbers_come_back count) (numbers_come_back 1)

four_fits : (key : ℕ × ℕ) → IsKeyOf 4 key → AreKeys (HasBytes 4) (HasBytes 1) key
four_fits key is = let number = is.number_fits in let long = is.length_fits in (omega arith, omega arith)

six_fits : (key : ℕ × ℕ) → IsKeyOf 6 key → AreKeys (HasBytes 16) (HasBytes 1) key
six_fits key is = let number = is.number_fits in let long = is.length_fits in (omega arith, omega arith)

pub four_law : AreInjective (IsKeyOf 4) (bytes_of 4)
four_law a b of_a of_b same = joined_law 4 a b (four_fits a of_a) (four_fits b of_b) same

pub six_law : AreInjective (IsKeyOf 6) (bytes_of 16)
six_law a b of_a of_b same = joined_law 16 a b (six_fits a of_a) (six_fits b of_b) same

many_bytes : (count : ℕ) (key : ℕ × ℕ) → length (bytes_of count key) ≡ count + 1
many_bytes count key =
    length-append (bytes_high_first count key.0) (bytes_high_first 1 key.1) ∙ ap₂ (λ m n. m + n) (length-bytes count key.0) (length-bytes 1 key.1)

pub four_stored : (key : ℕ × ℕ) → IsKeyOf 4 key → IsStored 4 5 key
four_stored key is = (four_fits key is, many_bytes 4 key)

pub six_stored : (key : ℕ × ℕ) → IsKeyOf 6 key → IsStored 16 17 key
six_stored key is = (six_fits key is, many_bytes 16 key)

module _ {V : Type 0} (network : Network) (is : IsNetwork network) where
  pub value_in_four : (four six : List ((ℕ × ℕ) × V)) → network.version ≡ 4 → HaveKeys (IsKeyOf 4) four →
      value_of network (entries_of four six) ≡ value_at (bytes_of 4) (bytes_of 4 (key_of network)) four
  value_in_four four six v keys =
      value_of_key 4 (bytes_of 4) four_law network v is four (map (entry_of 6) six) keys
      (ap (value_of network) (sym (append-nil (map (entry_of 6) six))) ∙ skips_others network 6 six [] (λ e. omega (arith, e, v)))

  pub value_in_six : (four six : List ((ℕ × ℕ) × V)) → network.version ≡ 6 → HaveKeys (IsKeyOf 6) six →
      value_of network (entries_of four six) ≡ value_at (bytes_of 16) (bytes_of 16 (key_of network)) six
  value_in_six four six v keys =
      skips_others network 4 four (map (entry_of 6) six) (λ e. omega (arith, e, v))
      ∙ ap (value_of network) (sym (append-nil (map (entry_of 6) six)))
      ∙ value_of_key 6 (bytes_of 16) six_law network v is six [] keys refl

  -- a change of one tree keeps the values of other networks
  pub four_keeps_others : (old new six : List ((ℕ × ℕ) × V)) → network.version ≡ 4 → HaveKeys (IsKeyOf 4) old → HaveKeys (IsKeyOf 4) new →
      KeepsOtherKeys (IsStored 4 5) (bytes_of 4) (key_of network) old new → KeepsOthers network (entries_of old six) (entries_of new six)
  four_keeps_others old new six v of_old of_new kept other other_is off =
      elim other_is.version_is [
        | inl w ↦
            value_of_key 4 (bytes_of 4) four_law other w other_is new (map (entry_of 6) six) of_new (none_later w)
            ∙ kept (key_of other) (four_stored (key_of other) (is_key_of 4 other w other_is)) (other_key 4 other network w v off)
            ∙ sym (value_of_key 4 (bytes_of 4) four_law other w other_is old (map (entry_of 6) six) of_old (none_later w))
        | inr w ↦
            skips_others other 4 new (map (entry_of 6) six) (λ e. omega (arith, e, w))
            ∙ sym (skips_others other 4 old (map (entry_of 6) six) (λ e. omega (arith, e, w)))
      ]
    where
      none_later : other.version ≡ 4 → value_of other (map (entry_of 6) six) ≡ None
      none_later w = ap (value_of other) (sym (append-nil (map (entry_of 6) six))) ∙ skips_others other 6 six [] (λ e. omega (arith, e, w))

  pub six_keeps_others : (four old new : List ((ℕ × ℕ) × V)) → network.version ≡ 6 → HaveKeys (IsKeyOf 6) old → HaveKeys (IsKeyOf 6) new →
      KeepsOtherKeys (IsStored 16 17) (bytes_of 16) (key_of network) old new → KeepsOthers network (entries_of four old) (entries_of four new)
  six_keeps_others four old new v of_old of_new kept other other_is off =
      elim other_is.version_is [
        | inl w ↦ first_four w new ∙ sym (first_four w old)
        | inr w ↦
            of_other w new of_new
            ∙ kept (key_of other) (six_stored (key_of other) (is_key_of 6 other w other_is)) (other_key 6 other network w v off)
            ∙ sym (of_other w old of_old)
      ]
    where
      first_four : other.version ≡ 4 → (six : List ((ℕ × ℕ) × V)) → value_of other (entries_of four six) ≡ value_of other (map (entry_of 4) four)
      first_four w six = in_front (map (entry_of 4) four) (map (entry_of 6) six) (none_later w six)
        where
          none_later : other.version ≡ 4 → (six : List ((ℕ × ℕ) × V)) → value_of other (map (entry_of 6) six) ≡ None
          none_later w six = ap (value_of other) (sym (append-nil (map (entry_of 6) six))) ∙ skips_others other 6 six [] (λ e. omega (arith, e, w))

          in_front : (xs ys : List (Network × V)) → value_of other ys ≡ None → value_of other (xs ++ ys) ≡ value_of other xs
          in_front [] ys none = none
          in_front (x ∷ xs) ys none = ap (λ o. if is_same other x.0 then Some x.1 else o) (in_front xs ys none)

      of_other : other.version ≡ 6 → (six : List ((ℕ × ℕ) × V)) → HaveKeys (IsKeyOf 6) six →
          value_of other (entries_of four six) ≡ value_at (bytes_of 16) (bytes_of 16 (key_of other)) six
      of_other w six keys =
          skips_others other 4 four (map (entry_of 6) six) (λ e. omega (arith, e, w))
          ∙ ap (value_of other) (sym (append-nil (map (entry_of 6) six)))
          ∙ value_of_key 6 (bytes_of 16) six_law other w other_is six [] keys refl
