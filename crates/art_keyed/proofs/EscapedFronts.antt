-- The key of an escaped text without the zero at its end.
use Rattle.std.proofs.Common.{Bool, true, false, eqb, eqb-true, refl, ◌≡◌, ◌≢◌, ◌⊎◌, inl, inr, ℕ, zero, suc, ◌+◌, ◌-◌, ◌<◌, ◌≤◌, List, [], ◌∷◌, ◌++◌, cond, length, drop, slice_get, Some, None, ap, arith, sym, ◌∙◌, length-append, get_or}
use Rattle.std.proofs.lemmas.List.{drop-append-le}
use Rattle.art_keys.specs.Ended.{HasNoZero}
use Rattle.art_keys.specs.Escapes.{escape, escape_inside}
use Rattle.art_keys.specs.EscapeLaws.{before_end, escape_is, inside_no_zero}
use Rattle.art_parts.specs.Keys.{common_front}
use Rattle.art_reading.specs.Matching.{shared_len}

pub same_inside : (text other : List ℕ) → escape text ≡ escape other → escape_inside text ≡ escape_inside other
same_inside text other same = sym (before_end text (escape other) (escape_inside other) 0 same (escape_is other))

-- the key has one byte more
pub inside_shorter : (text : List ℕ) → length (escape text) ≡ length (escape_inside text) + 1
inside_shorter text = ap length (escape_is text) ∙ length-append (escape_inside text) (0 ∷ [])

-- ---- a byte of a list that is ended by a zero

other_byte : (bytes : List ℕ) (n byte : ℕ) → byte ≢ 0 → Some byte ≡ slice_get (bytes ++ 0 ∷ []) n → Some byte ≡ slice_get bytes n
other_byte [] zero byte off is = absurd (off cc)
other_byte [] (suc n) byte off is = absurd cc
other_byte (x ∷ bytes) zero byte off is = is
other_byte (x ∷ bytes) (suc n) byte off is = other_byte bytes n byte off is

zero_past : (bytes : List ℕ) → HasNoZero bytes → (n : ℕ) → Some 0 ≡ slice_get (bytes ++ 0 ∷ []) n → None ≡ slice_get bytes n
zero_past [] none n is = refl
zero_past (x ∷ bytes) none zero is = absurd (none.0 cc)
zero_past (x ∷ bytes) none (suc n) is = zero_past bytes none.1 n is

none_past : (bytes : List ℕ) (n : ℕ) → None ≡ slice_get (bytes ++ 0 ∷ []) n → None ≡ slice_get bytes n
none_past [] n is = refl
none_past (x ∷ bytes) zero is = is
none_past (x ∷ bytes) (suc n) is = none_past bytes n is

-- a byte of the key is one in front of the zero, or there is none
module _ (text : List ℕ) (n : ℕ) where
  ended_get : slice_get (escape text) n ≡ slice_get (escape_inside text ++ 0 ∷ []) n
  ended_get = ap (λ key. slice_get key n) (escape_is text)

  pub inside_byte : (byte : ℕ) → byte ≢ 0 → Some byte ≡ slice_get (escape text) n → Some byte ≡ slice_get (escape_inside text) n
  inside_byte byte off is = other_byte (escape_inside text) n byte off (is ∙ ended_get)

  pub zero_outside : Some 0 ≡ slice_get (escape text) n → None ≡ slice_get (escape_inside text) n
  zero_outside is = zero_past (escape_inside text) (inside_no_zero text) n (is ∙ ended_get)

  pub none_outside : None ≡ slice_get (escape text) n → None ≡ slice_get (escape_inside text) n
  none_outside is = none_past (escape_inside text) n (is ∙ ended_get)

-- ---- how many bytes are shared with a list that is ended by a zero

-- as many as with the list, or the zero too
abbrev IsSharedOn : List ℕ → List ℕ → Type 0
IsSharedOn a bytes =
    (shared_len a (bytes ++ 0 ∷ []) ≡ shared_len a bytes) ⊎
    ((shared_len a (bytes ++ 0 ∷ []) ≡ suc (shared_len a bytes)) × (get_or a (shared_len a bytes) 0 ≡ 0))

shared_on : (a bytes : List ℕ) → IsSharedOn a bytes
shared_on [] bytes = inl refl
shared_on (x ∷ a) [] = go (eqb x 0) refl
  where
    none : (xs : List ℕ) → shared_len xs [] ≡ 0
    none [] = refl
    none (x ∷ xs) = refl

    go : (same : Bool) → eqb x 0 ≡ same → IsSharedOn (x ∷ a) []
    go true e = inr (rw e (ap suc (none a)), eqb-true x 0 e)
    go false e = inl (rw e refl)
shared_on (x ∷ a) (y ∷ bytes) = go (shared_on a bytes) (eqb x y) refl
  where
    go : IsSharedOn a bytes → (same : Bool) → eqb x y ≡ same → IsSharedOn (x ∷ a) (y ∷ bytes)
    go (inl as_many) true e = inl (rw e (ap suc as_many))
    go (inr (more, last)) true e = inr (rw e (ap suc more), rw e last)
    go on false e = inl (rw e refl)

-- no byte is zero that is shared with a list without a zero
shared_other : (a bytes : List ℕ) → HasNoZero bytes → (n : ℕ) → n < shared_len a bytes → get_or a n 0 ≢ 0
shared_other [] bytes none n less = absurd (omega arith)
shared_other (x ∷ a) [] none n less = absurd (omega arith)
shared_other (x ∷ a) (y ∷ bytes) none n less = go (shared_other a bytes none.1) (eqb x y) refl n less
  where
    go : ((n : ℕ) → n < shared_len a bytes → get_or a n 0 ≢ 0) →
        (same : Bool) → eqb x y ≡ same → (n : ℕ) → n < length (cond same (x ∷ common_front a bytes) []) → get_or (x ∷ a) n 0 ≢ 0
    go ih true e zero less = λ is_zero. none.0 (sym (eqb-true x y e) ∙ is_zero)
    go ih true e (suc n) less = ih n (omega arith)
    go ih false e n less = absurd (omega arith)

none_after : (place : ℕ) (bytes : List ℕ) → HasNoZero bytes → HasNoZero (drop place bytes)
none_after zero bytes none = none
none_after (suc place) [] none = tt
none_after (suc place) (x ∷ bytes) none = none_after place bytes none.1

-- what a slice shares with the key from a place on is shared in front of the zero, but for the zero
module _ (text a : List ℕ) (place shared : ℕ) (within : place ≤ length (escape_inside text)) (is : shared ≡ shared_len a (drop place (escape text))) where
  with_end : shared ≡ shared_len a (drop place (escape_inside text) ++ 0 ∷ [])
  with_end = is ∙ ap (shared_len a) (ap (drop place) (escape_is text) ∙ drop-append-le place (escape_inside text) (0 ∷ []) within)

  pub zero_shared : 0 < shared → get_or a (shared - 1) 0 ≡ 0 → shared - 1 ≡ shared_len a (drop place (escape_inside text))
  zero_shared some is_zero = elim (shared_on a (drop place (escape_inside text))) [
    | inl as_many ↦
        absurd (shared_other a (drop place (escape_inside text)) (none_after place (escape_inside text) (inside_no_zero text)) (shared - 1)
        (let e = with_end in omega arith) is_zero)
    | inr (more, last) ↦ let e = with_end in omega arith
  ]

  pub others_shared : (0 < shared → get_or a (shared - 1) 0 ≢ 0) → shared ≡ shared_len a (drop place (escape_inside text))
  others_shared other = elim (shared_on a (drop place (escape_inside text))) [
    | inl as_many ↦ with_end ∙ as_many
    | inr (more, last) ↦
        let e = with_end in
        absurd (other (omega arith) (ap (λ n. get_or a n 0) (omega arith) ∙ last))
  ]
