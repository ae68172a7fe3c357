-- Escaped strings: the string is recovered, no escape is a prefix of another one, escapes are in the order of the
-- strings, and prefixes are kept.
use Rattle.std.proofs.Common.{◌≡◌, ℕ, zero, suc, List, [], ◌∷◌, ◌++◌, ◌&&◌, eqb, length, length-append, refl, ap, ap₂, sym, ◌∙◌, arith}
use Rattle.std.specs.Prelude.{⊤}
use Rattle.std.proofs.lemmas.Bool.{le-ltb, lt-ltb, ne_eqb}
use Rattle.std.specs.Cmp.Lexicographic.{slice_cmp}
use Rattle.std.specs.Ordering.{nat_cmp}
use Rattle.art_keys.specs.Decoded.{ComesBack}
use Rattle.art_keys.specs.Ended.{HasNoZero, ended_length}
use Rattle.art_keys.specs.EndedLaws.{ended_length-is}
use Rattle.art_keys.specs.Escapes.{IsPlain, escape, escape_inside, unescape}
use Rattle.art_keys.specs.Prefixes.{HasNoPrefixes, KeepsFronts, KeepsOrder}
use Rattle.art_parts.specs.Keys.{IsFront, is_front}

pub unescape-escape : (text : List ℕ) → unescape (escape text) ≡ text
unescape-escape [] = refl
unescape-escape (zero ∷ text) = ap (λ t. 0 ∷ t) (unescape-escape text)
unescape-escape (suc zero ∷ text) = ap (λ t. 1 ∷ t) (unescape-escape text)
unescape-escape (suc (suc n) ∷ text) = ap (λ t. suc (suc n) ∷ t) (unescape-escape text)

pub escape_order : (a b : List ℕ) → slice_cmp nat_cmp (escape a) (escape b) ≡ slice_cmp nat_cmp a b
escape_order [] [] = refl
escape_order [] (zero ∷ b) = refl
escape_order [] (suc zero ∷ b) = refl
escape_order [] (suc (suc n) ∷ b) = rw (lt-ltb 0 (suc (suc n)) (omega arith)) refl
escape_order (zero ∷ a) [] = refl
escape_order (suc zero ∷ a) [] = refl
escape_order (suc (suc n) ∷ a) [] = rw (le-ltb (suc (suc n)) 0 (omega arith), ne_eqb (suc (suc n)) 0 (λ e. omega arith)) refl
escape_order (zero ∷ a) (zero ∷ b) = escape_order a b
escape_order (zero ∷ a) (suc zero ∷ b) = refl
escape_order (zero ∷ a) (suc (suc n) ∷ b) = rw (lt-ltb 0 (suc (suc n)) (omega arith), lt-ltb 1 (suc (suc n)) (omega arith)) refl
escape_order (suc zero ∷ a) (zero ∷ b) = refl
escape_order (suc zero ∷ a) (suc zero ∷ b) = escape_order a b
escape_order (suc zero ∷ a) (suc (suc n) ∷ b) = rw (lt-ltb 1 (suc (suc n)) (omega arith)) refl
escape_order (suc (suc m) ∷ a) (zero ∷ b) =
    rw (
      le-ltb (suc (suc m)) 0 (omega arith),
      ne_eqb (suc (suc m)) 0 (λ e. omega arith),
      le-ltb (suc (suc m)) 1 (omega arith),
      ne_eqb (suc (suc m)) 1 (λ e. omega arith),
    ) refl
escape_order (suc (suc m) ∷ a) (suc zero ∷ b) = rw (le-ltb (suc (suc m)) 1 (omega arith), ne_eqb (suc (suc m)) 1 (λ e. omega arith)) refl
escape_order (suc (suc m) ∷ a) (suc (suc n) ∷ b) = rw (escape_order a b) refl

-- an escape that is a prefix of another one is equal to it
front_same : (a b rest : List ℕ) → escape b ≡ escape a ++ rest → escape a ≡ escape b
front_same [] [] rest is = refl
front_same [] (zero ∷ b) rest is = absurd cc
front_same [] (suc zero ∷ b) rest is = absurd cc
front_same [] (suc (suc n) ∷ b) rest is = absurd cc
front_same (zero ∷ a) [] rest is = absurd cc
front_same (suc zero ∷ a) [] rest is = absurd cc
front_same (suc (suc n) ∷ a) [] rest is = absurd cc
front_same (zero ∷ a) (zero ∷ b) rest is = let t : escape b ≡ escape a ++ rest = cc in ap (λ t. 1 ∷ 1 ∷ t) (front_same a b rest t)
front_same (zero ∷ a) (suc zero ∷ b) rest is = absurd cc
front_same (zero ∷ a) (suc (suc n) ∷ b) rest is = absurd cc
front_same (suc zero ∷ a) (zero ∷ b) rest is = absurd cc
front_same (suc zero ∷ a) (suc zero ∷ b) rest is = let t : escape b ≡ escape a ++ rest = cc in ap (λ t. 1 ∷ 2 ∷ t) (front_same a b rest t)
front_same (suc zero ∷ a) (suc (suc n) ∷ b) rest is = absurd cc
front_same (suc (suc m) ∷ a) (zero ∷ b) rest is = absurd cc
front_same (suc (suc m) ∷ a) (suc zero ∷ b) rest is = absurd cc
front_same (suc (suc m) ∷ a) (suc (suc n) ∷ b) rest is =
    let first : suc (suc n) ≡ suc (suc m) = cc in
    let t : escape b ≡ escape a ++ rest = cc in
    let s : escape a ≡ escape b = front_same a b rest t in
    cc

pub escape_no_prefixes : HasNoPrefixes {K = List ℕ} (λ text. ⊤) escape
escape_no_prefixes a b of_a of_b (rest, is) = front_same a b rest is

pub escape_keeps_order : KeepsOrder {K = List ℕ} (λ text. ⊤) escape (slice_cmp nat_cmp)
escape_keeps_order a b of_a of_b = escape_order a b

-- strings are equal if the escape of one is a prefix of that of the other
pub escape_apart : (a b : List ℕ) → IsFront (escape a) (escape b) → a ≡ b
escape_apart a b (rest, is) = sym (unescape-escape a) ∙ ap unescape (front_same a b rest is) ∙ unescape-escape b

-- the escape of a string is its escaped bytes and a zero
pub escape_is : (text : List ℕ) → escape text ≡ escape_inside text ++ 0 ∷ []
escape_is [] = refl
escape_is (zero ∷ text) = ap (λ t. 1 ∷ 1 ∷ t) (escape_is text)
escape_is (suc zero ∷ text) = ap (λ t. 1 ∷ 2 ∷ t) (escape_is text)
escape_is (suc (suc n) ∷ text) = ap (λ t. suc (suc n) ∷ t) (escape_is text)

-- its escaped bytes are a prefix of another escape exactly if the string is a prefix of the other string
pub escape_begins : (text other : List ℕ) → is_front (escape_inside text) (escape other) ≡ is_front text other
escape_begins [] other = refl
escape_begins (zero ∷ text) [] = refl
escape_begins (zero ∷ text) (zero ∷ other) = escape_begins text other
escape_begins (zero ∷ text) (suc zero ∷ other) = refl
escape_begins (zero ∷ text) (suc (suc n) ∷ other) = rw (ne_eqb 1 (suc (suc n)) (λ e. omega arith), ne_eqb 0 (suc (suc n)) (λ e. omega arith)) refl
escape_begins (suc zero ∷ text) [] = refl
escape_begins (suc zero ∷ text) (zero ∷ other) = refl
escape_begins (suc zero ∷ text) (suc zero ∷ other) = escape_begins text other
escape_begins (suc zero ∷ text) (suc (suc n) ∷ other) = rw (ne_eqb 1 (suc (suc n)) (λ e. omega arith)) refl
escape_begins (suc (suc m) ∷ text) [] = rw (ne_eqb (suc (suc m)) 0 (λ e. omega arith)) refl
escape_begins (suc (suc m) ∷ text) (zero ∷ other) = rw (ne_eqb (suc (suc m)) 1 (λ e. omega arith), ne_eqb (suc (suc m)) 0 (λ e. omega arith)) refl
escape_begins (suc (suc m) ∷ text) (suc zero ∷ other) = rw (ne_eqb (suc (suc m)) 1 (λ e. omega arith)) refl
escape_begins (suc (suc m) ∷ text) (suc (suc n) ∷ other) = ap (λ b. eqb (suc (suc m)) (suc (suc n)) && b) (escape_begins text other)

-- escaped bytes are a prefix of others exactly if the string is a prefix of the other string
pub escape_keeps_fronts : KeepsFronts escape_inside
escape_keeps_fronts [] other = refl
escape_keeps_fronts (zero ∷ text) [] = refl
escape_keeps_fronts (zero ∷ text) (zero ∷ other) = escape_keeps_fronts text other
escape_keeps_fronts (zero ∷ text) (suc zero ∷ other) = refl
escape_keeps_fronts (zero ∷ text) (suc (suc n) ∷ other) = rw (ne_eqb 1 (suc (suc n)) (λ e. omega arith), ne_eqb 0 (suc (suc n)) (λ e. omega arith)) refl
escape_keeps_fronts (suc zero ∷ text) [] = refl
escape_keeps_fronts (suc zero ∷ text) (zero ∷ other) = refl
escape_keeps_fronts (suc zero ∷ text) (suc zero ∷ other) = escape_keeps_fronts text other
escape_keeps_fronts (suc zero ∷ text) (suc (suc n) ∷ other) = rw (ne_eqb 1 (suc (suc n)) (λ e. omega arith)) refl
escape_keeps_fronts (suc (suc m) ∷ text) [] = refl
escape_keeps_fronts (suc (suc m) ∷ text) (zero ∷ other) = rw (ne_eqb (suc (suc m)) 1 (λ e. omega arith), ne_eqb (suc (suc m)) 0 (λ e. omega arith)) refl
escape_keeps_fronts (suc (suc m) ∷ text) (suc zero ∷ other) = rw (ne_eqb (suc (suc m)) 1 (λ e. omega arith)) refl
escape_keeps_fronts (suc (suc m) ∷ text) (suc (suc n) ∷ other) = ap (λ b. eqb (suc (suc m)) (suc (suc n)) && b) (escape_keeps_fronts text other)

-- if two strings with one more byte each are equal, so are the strings and the bytes
pub snoc_same : (a b : List ℕ) (x y : ℕ) → a ++ x ∷ [] ≡ b ++ y ∷ [] → (a ≡ b) × (x ≡ y)
snoc_same [] [] x y e = (refl, cc)
snoc_same [] (z ∷ []) x y e = absurd cc
snoc_same [] (z ∷ w ∷ b) x y e = absurd cc
snoc_same (z ∷ []) [] x y e = absurd cc
snoc_same (z ∷ w ∷ a) [] x y e = absurd cc
snoc_same (z ∷ a) (w ∷ b) x y e =
    let first : z ≡ w = cc in
    let t : a ++ x ∷ [] ≡ b ++ y ∷ [] = cc in
    let s = snoc_same a b x y t in
    (ap₂ (λ n r. n ∷ r) first s.0, s.1)

-- the bytes before the end of an escape are the escaped bytes
pub before_end : (text bytes inside : List ℕ) (end : ℕ) → escape text ≡ bytes → bytes ≡ inside ++ end ∷ [] → inside ≡ escape_inside text
before_end text bytes inside end e f = (snoc_same inside (escape_inside text) end 0 (sym f ∙ sym e ∙ escape_is text)).0

-- an escape is not empty
pub has_end : (text bytes : List ℕ) → escape text ≡ bytes → length bytes ≡ 0 → ⊥
has_end text bytes e none = let l = ap length (sym (escape_is text) ∙ e) in omega (arith, simp length-append at l)

-- no escaped byte is zero
pub inside_no_zero : (text : List ℕ) → HasNoZero (escape_inside text)
inside_no_zero [] = tt
inside_no_zero (zero ∷ text) = ((λ e. absurd cc), ((λ e. absurd cc), inside_no_zero text))
inside_no_zero (suc zero ∷ text) = ((λ e. absurd cc), ((λ e. absurd cc), inside_no_zero text))
inside_no_zero (suc (suc n) ∷ text) = ((λ e. absurd cc), inside_no_zero text)

pub escape_comes_back : ComesBack {K = List ℕ} (λ text. ⊤) escape unescape ended_length
escape_comes_back text of_text = (unescape-escape text, λ rest. rw (escape_is text) (ended_length-is (escape_inside text) rest (inside_no_zero text)))

-- a plain string stays as it is
pub escape-plain : (text : List ℕ) → IsPlain text → escape text ≡ text ++ 0 ∷ []
escape-plain [] plain = refl
escape-plain (zero ∷ text) plain = absurd (omega (arith, plain.0))
escape-plain (suc zero ∷ text) plain = absurd (omega (arith, plain.0))
escape-plain (suc (suc n) ∷ text) plain = ap (λ t. suc (suc n) ∷ t) (escape-plain text plain.1)
