-- Strings of bytes that are ended by a zero: none is a prefix of another one, they are in the order of the bytes before
-- the end, and prefixes of these are kept.
use Rattle.std.proofs.Common.{◌≡◌, ◌≢◌, ℕ, zero, suc, length, length-append, List, [], ◌∷◌, ◌++◌, ◌&&◌, eqb, refl, ap, arith}
use Rattle.std.proofs.lemmas.Bool.{le-ltb, lt-ltb, ne_eqb}
use Rattle.std.specs.Cmp.Lexicographic.{slice_cmp}
use Rattle.std.specs.Ordering.{nat_cmp}
use Rattle.art_keys.specs.Decoded.{ComesBack}
use Rattle.art_keys.specs.Ended.{HasNoZero, IsEnded, ended, ended_length, without_end, zero_at}
use Rattle.art_keys.specs.Prefixes.{HasNoPrefixes, KeepsOrder}
use Rattle.art_parts.specs.Keys.{is_front}

pub ended_no_prefixes : HasNoPrefixes HasNoZero ended
ended_no_prefixes [] [] of_a of_b is = refl
ended_no_prefixes [] (y ∷ b) of_a of_b (rest, is) = absurd (of_b.0 cc)
ended_no_prefixes (x ∷ a) [] of_a of_b (rest, is) = absurd (of_a.0 cc)
ended_no_prefixes (x ∷ a) (y ∷ b) of_a of_b (rest, is) =
    let first : x ≡ y = cc in
    let tail : ended b ≡ ended a ++ rest = cc in
    let same : ended a ≡ ended b = ended_no_prefixes a b of_a.1 of_b.1 (rest, tail) in
    cc

pub ended_keeps_order : KeepsOrder HasNoZero ended (slice_cmp nat_cmp)
ended_keeps_order [] [] of_a of_b = refl
ended_keeps_order [] (y ∷ b) of_a of_b = let off : y ≢ 0 = of_b.0 in rw (lt-ltb 0 y (omega arith)) refl
ended_keeps_order (x ∷ a) [] of_a of_b = let off : x ≢ 0 = of_a.0 in rw (le-ltb x 0 (omega arith), ne_eqb x 0 off) refl
ended_keeps_order (x ∷ a) (y ∷ b) of_a of_b = rw (ended_keeps_order a b of_a.1 of_b.1) refl

-- the bytes before the end are those that were ended
pub without_end-ended : (text : List ℕ) → without_end (ended text) ≡ text
without_end-ended [] = refl
without_end-ended (x ∷ []) = refl
without_end-ended (x ∷ y ∷ text) = ap (λ t. x ∷ t) (without_end-ended (y ∷ text))

pub ended_is : (text : List ℕ) → HasNoZero text → IsEnded (ended text)
ended_is text h = record { text = rw (without_end-ended text) h; is_end = rw (without_end-ended text) refl }

-- a string without a zero is a prefix of an ended one exactly if it is a prefix of the bytes before the end
pub ended_begins : (text other : List ℕ) → HasNoZero text → is_front text (ended other) ≡ is_front text other
ended_begins [] other of_text = refl
ended_begins (x ∷ text) [] of_text = rw (ne_eqb x 0 of_text.0) refl
ended_begins (x ∷ text) (y ∷ other) of_text = ap (λ b. eqb x y && b) (ended_begins text other of_text.1)

-- the first zero is the end
pub zero_at-ended : (text rest : List ℕ) → HasNoZero text → zero_at ((text ++ 0 ∷ []) ++ rest) ≡ length text
zero_at-ended [] rest of_text = refl
zero_at-ended (zero ∷ text) rest of_text = absurd (of_text.0 refl)
zero_at-ended (suc byte ∷ text) rest of_text = ap suc (zero_at-ended text rest of_text.1)

pub ended_length-is : (text rest : List ℕ) → HasNoZero text → ended_length ((text ++ 0 ∷ []) ++ rest) ≡ length (text ++ 0 ∷ [])
ended_length-is text rest of_text = rw (zero_at-ended text rest of_text, length-append text (0 ∷ [])) (omega arith)

pub ended_comes_back : ComesBack HasNoZero ended without_end ended_length
ended_comes_back text of_text = (without_end-ended text, λ rest. ended_length-is text rest of_text)
