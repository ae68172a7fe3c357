-- the bytes of an escaped text from a place on
use Rattle.std.proofs.Common.{Bool, true, false, if◌then◌else◌, eqb, eq-eqb, eqb-true, Option, refl, add-one, ◌≡◌, ℕ, zero, suc, ◌+◌, ◌*◌, ◌<◌, ◌≤◌, List, [], ◌∷◌, length, drop, slice_get, Some, None, ap, arith, sym, ◌∙◌, length-append, length-drop, drop-drop, get_or, get_or-drop}
use Rattle.std.proofs.lemmas.Option.{get_or_from_slice_get, slice_get-get_or, slice_get_past, slice_get_within}
use Rattle.std.specs.Option.{option_eq}
use Rattle.std.proofs.lemmas.Bool.{false≢true}
use Rattle.art_keys.specs.Escapes.{escape, escape_byte}
use Rattle.art_reading.specs.Matching.{shared_len}

-- a byte is escaped as two at most
byte_long : (byte : ℕ) → length (escape_byte byte) ≤ 2
byte_long zero = omega arith
byte_long (suc zero) = omega arith
byte_long (suc (suc n)) = omega arith

pub escape_long : (text : List ℕ) → length (escape text) ≤ 2 * length text + 1
escape_long [] = omega arith
escape_long (byte ∷ text) =
    let rest = escape_long text in
    let first = byte_long byte in
    let both = length-append (escape_byte byte) (escape text) in
    omega arith

-- the last byte is passed
pub past_last : (key : List ℕ) (at place : ℕ) → length (drop at key) ≡ 1 → at < place → slice_get key place ≡ None
past_last key at place one less = slice_get_past key place (let count = length-drop at key in omega arith)

-- a further byte is passed
pub passed_on : (key : List ℕ) (at : ℕ) → drop 1 (drop at key) ≡ drop (at + 1) key
passed_on key at = drop-drop 1 at key ∙ ap (λ n. drop n key) (omega arith)

-- the first byte that is left
pub first_left : (key : List ℕ) (at place byte : ℕ) → at ≡ place → slice_get (drop at key) 0 ≡ Some byte → slice_get key place ≡ Some byte
first_left key at place byte same is =
    let inside = slice_get_within (drop at key) 0 byte is in
    let count = length-drop at key in
    let get : get_or key at 0 ≡ byte =
    ap (λ n. get_or key n 0) (omega arith) ∙ sym (get_or-drop at key 0 0) ∙ get_or_from_slice_get (drop at key) 0 byte 0 is in
    ap (slice_get key) (sym same) ∙ slice_get-get_or key at 0 (omega arith) ∙ ap Some get

-- whether two slices share the bytes at two places, and how many they then share from there on
compared_at : (a b : List ℕ) (i j : ℕ) → i < length a → (same : Bool) →
    same ≡ option_eq eqb (slice_get b j) (Some (get_or a i 0)) →
    shared_len (drop i a) (drop j b) ≡ (if same then suc (shared_len (drop (suc i) a) (drop (suc j) b)) else 0)
compared_at [] b i j less same is = absurd (omega arith)
compared_at (x ∷ a) b (suc i) j less same is = compared_at a b i j (omega arith) same is
compared_at (x ∷ a) [] zero zero less same is = rw is refl
compared_at (x ∷ a) [] zero (suc j) less same is = rw is refl
compared_at (x ∷ a) (y ∷ b) zero (suc j) less same is = compared_at (x ∷ a) b zero j (omega arith) same is
compared_at (x ∷ a) (y ∷ b) zero zero less true is = rw (eq-eqb x y (sym (eqb-true y x (sym is)))) refl
compared_at (x ∷ a) (y ∷ b) zero zero less false is = go (eqb x y) refl
  where
    go : (same : Bool) → eqb x y ≡ same → shared_len (x ∷ a) (y ∷ b) ≡ 0
    go true e = absurd (false≢true (is ∙ eq-eqb y x (sym (eqb-true x y e))))
    go false e = rw e refl

-- as many bytes are shared from a place on, once those before it are
pub next_shared : (bytes key : List ℕ) (place shared : ℕ) → shared < length bytes →
    (byte : Option ℕ) → byte ≡ slice_get key (place + shared) →
    (same : Bool) → same ≡ option_eq eqb byte (Some (get_or bytes shared 0)) →
    shared_len (drop shared bytes) (drop (place + shared) key)
    ≡ (if same then suc (shared_len (drop (shared + 1) bytes) (drop (place + (shared + 1)) key)) else 0)
next_shared bytes key place shared less byte read same is =
    let next : place + (shared + 1) ≡ suc (place + shared) = omega arith in
    rw (next, add-one shared) (compared_at bytes key shared (place + shared) less same (rw (← read) is))
